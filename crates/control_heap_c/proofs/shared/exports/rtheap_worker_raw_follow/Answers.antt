use Rattle.control_heap_c.proofs.Stamping.{caught_up}
use Rattle.control_heap_c.proofs.shared.exports.rtheap_worker_raw_follow.Goals as goal

pub returns-clause-order : goal.returns-clause-order
returns-clause-order c before g h first zero = caught_up before _ _ g h _ _ _ c.follow.ensures c.follow_told.ensures first zero
