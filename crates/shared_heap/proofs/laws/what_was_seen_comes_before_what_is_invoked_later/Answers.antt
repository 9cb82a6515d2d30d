use Rattle.shared_heap.proofs.RealTime.{comes_before}
use Rattle.shared_heap.proofs.laws.what_was_seen_comes_before_what_is_invoked_later.Goals as goal

pub returns : goal.returns
returns _ k s later now then p was still h seat = comes_before k s later now then p was still h seat
