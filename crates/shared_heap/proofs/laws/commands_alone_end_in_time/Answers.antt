use Rattle.shared_heap.proofs.Prefixes.{in_time}
use Rattle.shared_heap.proofs.laws.commands_alone_end_in_time.Goals as goal

pub returns : goal.returns
returns _ k s kept over id h ns m at bounds room = in_time k s kept over id h ns m at bounds room
