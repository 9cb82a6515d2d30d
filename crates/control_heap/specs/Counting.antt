-- What a count of operations tells of a command.
use Rattle.std.specs.Prelude.{ℕ, ◌+◌, ◌-◌, ◌^◌, ◌≡◌, Option, Some, None, length, min}
use Rattle.never_heap.specs.declared.Command.{Command}
use Rattle.never_heap.specs.declared.Reply.{Reply}
use Rattle.heap_machine.specs.Memories.{Acts}
use Rattle.heap_machine.specs.Operations.{HasActed}
use Rattle.control_heap.specs.declared.control.Refused.{Refused}
use Rattle.control_heap.specs.declared.counted.Counted.{Counted}
use Rattle.control_heap.specs.Calls.{HasAsked, MayAnswer}
use Rattle.control_heap.specs.Controls.{ControlOf}
use Rattle.control_heap.specs.Refusals.{IsRefused}

-- an operation on the words, and one more in the count unless it has reached its end
abbrev pub counted_acts : Acts Counted (Unit {0})
counted_acts m none op word after =
    HasActed m.words op word after.words × (after.made ≡ min (m.made + 1) (2 ^ 64 - 1))

-- The command was done as `ask` does it, and the count rose by this number: by the operations that
-- were made, or by fewer where the count reached its end.
pub record HasCounted (old : ControlOf Counted) (k : Command) (n : ℕ) (new : ControlOf Counted)
    : Type 0 where
  pub reply : Reply
  pub fits : MayAnswer k reply
  pub done : HasAsked counted_acts old k reply new
  pub risen : n ≡ new.memory.made - old.memory.made
  pub exact : n ≡ min (length done.made.words) (2 ^ 64 - 1 - old.memory.made)

-- a command was done in so many operations; or it was refused for its cause, and the heap is
-- unchanged
abbrev pub IsCountOf : ControlOf Counted → Command → ControlOf Counted → Option ℕ → Type 0
IsCountOf old k new (Some n) = HasCounted old k n new
IsCountOf old k new None = (cause : Refused) × IsRefused old k cause × (new ≡ old)
