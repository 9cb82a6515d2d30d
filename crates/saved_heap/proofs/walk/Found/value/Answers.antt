use Rattle.saved_heap.specs.Walks.{state_of}
use Rattle.saved_heap.proofs.Walking.{one_read}
use Rattle.saved_heap.proofs.walk.Found.value.Goals as goal

pub returns-in_ok-serial-in-Ref : goal.returns-in_ok-serial-in-Ref
returns-in_ok-serial-in-Ref c =
    one_read (state_of c.args.self.now) (state_of c.number.new.self) c.args.seen c.in-Ref.field-0 c.in_ok-serial-in-Ref.serial c.in-Ref.is c.in_ok-serial-in-Ref.ensures
