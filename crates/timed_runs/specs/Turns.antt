-- How many turns a command takes at most, when its thread alone has turns.
use Rattle.std.specs.Prelude.{ℕ, ◌<◌, ◌≡◌}
use Rattle.block_store.specs.declared.Config.{Config}
use Rattle.block_store.specs.Widths.{payloads}
use Rattle.rate_plan.specs.solo_bound.Near.{near_other_bound}
use Rattle.never_heap.specs.declared.Command.{Command}
use Rattle.never_heap.specs.RightWork.{requested_units}
use Rattle.rate_plan.specs.Rates.{IsRate}
use Rattle.heap_system.specs.Alone.{IsQuiet, HasCommand, EndsWithin, most_events}
use Rattle.heap_system.specs.Locals.{command_of}
use Rattle.heap_system.specs.Machines.{Run, IsAfterTurns, local_in}

-- wherever nobody is inside, the gate is open and a thread has this command in hand, so many turns
-- of it alone do the command
abbrev pub IsBoundAlone : Config → ℕ → Command → ℕ → Type 0
IsBoundAlone c rate command turns = (r : Run) (t : ℕ) → IsAfterTurns c r → IsRate c rate
    → IsQuiet c r → t < c.threads → HasCommand (local_in c r t)
    → command_of (local_in c r t) ≡ command → EndsWithin c t r turns

-- the near bound of a command that makes no object
abbrev pub other_near : Config → Command → ℕ
other_near c k =
    near_other_bound c.threads (payloads c.width) c.blocks (requested_units k) (most_events c k)
