-- What a call from C returns that reads without a command, and the numbers of it.
use Rattle.std.specs.Prelude.{ℕ, ◌≡◌, Option, Some, None, Result, Ok, Err, List}
use Rattle.block_store.specs.declared.Value.{Value}
use Rattle.never_heap.specs.declared.Reply.TheVariants as replies
use Rattle.never_heap.specs.Histories.{replay}
use Rattle.heap_system.specs.Machines.{Run}
use Rattle.control_heap.specs.declared.faults.Fault.{Fault}
use Rattle.control_heap.specs.declared.faults.Fault.TheVariants as faults
use Rattle.control_heap.specs.Controls.{Control, Stands}
use Rattle.control_heap.specs.Peeks.{peeked}
use Rattle.control_heap_c.specs.Outcomes.{heap_in, written}
use Rattle.control_heap_c.specs.declared.answer.Answer.{Answer}
use Rattle.control_heap_c.specs.declared.owned.Owned.{Owned}
use Rattle.control_heap_c.specs.declared.peeks.PeekRefusal.{PeekRefusal}
use Rattle.control_heap_c.specs.declared.peeks.PeekRefusal.TheVariants as peeking

-- a value, or a fault of the heap as a refusal
abbrev pub for_c : Result Value Fault → Result Value PeekRefusal
for_c (Ok v) = Ok v
for_c (Err f) = Err (peeking.Heap f)

-- The handle has no heap; or, whichever run its heap represents, what that run's graph has at the
-- end of a path of indices from a register: the value, or the first fault on the path.
abbrev pub HasPeeked : Option Control → ℕ → List ℕ → Result Value PeekRefusal → Type 0
HasPeeked None s path outcome = outcome ≡ Err peeking.Closed
HasPeeked (Some h) s path outcome =
    (r : Run) → Stands h r → outcome ≡ for_c (peeked (replay h.config r.order) s path)

-- the status: a different number for each cause
abbrev pub fault_status : Fault → ℕ
fault_status faults.OutOfBounds = 2
fault_status faults.NoLifeLeft = 3
fault_status (faults.Full c) = 11
fault_status faults.Null = 12
fault_status faults.Kind = 13
fault_status faults.Range = 14

abbrev pub peek_status : Result Value PeekRefusal → ℕ
peek_status (Ok v) = 0
peek_status (Err peeking.Closed) = 1
peek_status (Err (peeking.Heap f)) = fault_status f

-- what the caller's struct holds after the call: a value as in the reply that carries it
abbrev pub peek_told : Result Value PeekRefusal → Answer → Answer
peek_told (Ok v) before = written (replies.Val v)
peek_told (Err e) before = before

-- A call that reads along a path of indices from a register: what the handle has before and after,
-- the caller's struct before and after, and the status. The handle has the same after it.
pub record Peeked (s : ℕ) (path : List ℕ) (old new : Option Owned) (before after : Answer)
    (status : ℕ) : Type 0 where
  pub outcome : Result Value PeekRefusal
  pub peeked : HasPeeked (heap_in old) s path outcome
  pub unchanged : new ≡ old
  pub status_is : status ≡ peek_status outcome
  pub answer_is : after ≡ peek_told outcome before
