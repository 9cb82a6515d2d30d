use Rattle.std.proofs.Common.{◌≡◌, ◌<◌, ◌-◌, ℕ, true}
use Rattle.heap_system.specs.Locals.{is_done}
use Rattle.heap_system.specs.Machines.{local_at}
use Rattle.rtheap_core.specs.schedules.Nexts.{next_at}
use Rattle.rtheap_core.proofs.schedules.LeftTurns.{left_turns, HasRoom}
use Rattle.rtheap_core.proofs.schedules.replaying.replay.Given as goal

abbrev pub invariant-loop-turn : goal.invariant-loop-turn
invariant-loop-turn l = (0 < l.threads) × (l.threads ≡ l.system.config.threads) × (l.next ≡ next_at l.fn.schedule l.threads l._turn)
    × ((t : ℕ) → t < l.least → is_done (local_at l.system.config l.system.state t) ≡ true)
    × HasRoom (l.fn.turns - l._turn) l.system.ordered
    × (left_turns l.fn.schedule l.system l._turn (l.fn.turns - l._turn) ≡ left_turns l.fn.schedule l.fn.system 0 l.fn.turns)
