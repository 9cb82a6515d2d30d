use Rattle.shared_heap.proofs.DrawnStamps.{stamps_in_order}
use Rattle.shared_heap.proofs.laws.stamps_are_in_order.Goals as goal

pub returns : goal.returns
returns _ timeline u v x y n m first second low lined then_lined =
    stamps_in_order timeline u v x y n m first second low lined then_lined
