use Rattle.std.proofs.Common.{◌≡◌, ◌<◌, ℕ, true}
use Rattle.heap_system.specs.Locals.{is_done}
use Rattle.heap_system.specs.Machines.{local_at}
use Rattle.rtheap_core.proofs.schedules.replaying.first_undone.Given as goal

abbrev pub invariant-loop-thread : goal.invariant-loop-thread
invariant-loop-thread l = (t : ℕ) → t < l.thread → is_done (local_at l.system.config l.system.state t) ≡ true
