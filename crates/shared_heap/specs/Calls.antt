-- Calls of one command each: what they return. The faults and values are those of `control_heap`.
use Rattle.std.specs.Prelude.{◌≡◌, Result}
use Rattle.never_heap.specs.declared.Command.{Command}
use Rattle.never_heap.specs.declared.Reply.{Reply}
use Rattle.never_heap.specs.Bounds.{IsCommandInBounds}
use Rattle.control_heap.specs.declared.control.Refused.{Refused}
use Rattle.control_heap.specs.declared.faults.Fault.{Fault}
use Rattle.control_heap.specs.Calls.{IsOutcome}
use Rattle.shared_heap.specs.Refusals.{IsRefused}
use Rattle.shared_heap.specs.Spans.{IsInTime}
use Rattle.shared_heap.specs.Workers.{HasAnswered, HasLeft, HasMade, WorkerState}

-- the worker executed the command, as by `ask`, and it had this reply
pub record HasAsked (old : WorkerState) (k : Command) (a : Reply) (new : WorkerState) : Type 0 where
  pub bounds : IsCommandInBounds old.thread.config k
  pub left : HasLeft old k
  pub answered : HasAnswered old k a new
  pub made : HasMade old k new
  pub in_time : IsInTime old.thread.config k new.span

-- the command was refused for this cause, and the worker is unchanged
abbrev pub WasRefused : WorkerState → Command → WorkerState → Refused → Type 0
WasRefused old k new r = IsRefused old k r × (new ≡ old)

-- The result of a call: the command was executed, and its reply carries this value; or a fault.
abbrev pub HasReturned : {T : Type 0} → (T → Reply) → WorkerState → Command → WorkerState
    → Result T Fault → Type 0
HasReturned says old k new = IsOutcome says (λ a. HasAsked old k a new) (WasRefused old k new) k
