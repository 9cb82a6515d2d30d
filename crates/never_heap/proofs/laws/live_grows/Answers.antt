use Rattle.never_heap.proofs.LiveGrows.{grows}
use Rattle.never_heap.proofs.laws.live_grows.Goals as goal

pub returns : goal.returns
returns c = grows
