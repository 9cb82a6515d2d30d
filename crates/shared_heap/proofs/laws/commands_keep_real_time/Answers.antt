use Rattle.shared_heap.proofs.RealTime.{after, either_way}
use Rattle.shared_heap.proofs.laws.commands_keep_real_time.Goals as goal

pub returns-clause-after : goal.returns-clause-after
returns-clause-after _ timeline order ordered v x y m b did sound seen line =
    after timeline x y m b did seen order ordered v sound line

pub returns-clause-either : goal.returns-clause-either
returns-clause-either _ timeline u v x y k m a b first second seen then_seen =
    either_way timeline x y m b second then_seen v seen
