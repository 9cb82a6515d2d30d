-- What a call from C does to a worker of a shared heap, and the numbers that it returns.
use Rattle.std.specs.Prelude.{ℕ, zero, suc, ◌-◌, ◌≡◌, ◌==◌, if◌then◌else◌, Option, Some, None, Result, Ok, Err, length}
use Rattle.never_heap.specs.declared.Command.{Command}
use Rattle.never_heap.specs.declared.Command.TheVariants as commands
use Rattle.never_heap.specs.declared.Reply.{Reply}
use Rattle.never_heap.specs.Bounds.{IsCommandInBounds}
use Rattle.heap_system.specs.Lives.{sum_after, objects_of, most_units, most_objects}
use Rattle.heap_system.specs.Locals.{works}
use Rattle.control_heap.specs.declared.control.Refused.TheVariants as refused
use Rattle.shared_heap.specs.Pending.{IsStillPending, MadeMore, PendingState, start_pending}
use Rattle.shared_heap.specs.Refusals.{IsRefused}
use Rattle.shared_heap.specs.Spans.{IsInTime}
use Rattle.shared_heap.specs.Workers.{HasAnswered, HasLeft, IsSame, WorkerState, asked, told}
use Rattle.control_heap_c.specs.Outcomes.{register, written}
use Rattle.control_heap_c.specs.declared.answer.Answer.{Answer}
use Rattle.control_heap_c.specs.declared.owned.Owned.{Owned}
use Rattle.control_heap_c.specs.declared.owned.Owned.TheVariants.{Heap, Group, Resting, Executing, Moved}
use Rattle.control_heap_c.specs.declared.shared.worker.PollRefusal.{PollRefusal}
use Rattle.control_heap_c.specs.declared.shared.worker.PollRefusal.TheVariants as polling
use Rattle.control_heap_c.specs.declared.shared.worker.StartRefusal.{StartRefusal}
use Rattle.control_heap_c.specs.declared.shared.worker.StartRefusal.TheVariants as starting
use Rattle.control_heap_c.specs.declared.shared.worker.WorkerCounts.{WorkerCounts}

-- the worker of a handle, if it has one between two commands
abbrev pub worker_at : Option Owned → Option WorkerState
worker_at None = None
worker_at (Some (Heap h)) = None
worker_at (Some (Group g)) = None
worker_at (Some (Resting r)) = Some r.worker
worker_at (Some (Executing e)) = None
worker_at (Some Moved) = None

-- the command of a handle's worker, if it has one that is not done
abbrev pub command_at : Option Owned → Option PendingState
command_at None = None
command_at (Some (Heap h)) = None
command_at (Some (Group g)) = None
command_at (Some (Resting r)) = None
command_at (Some (Executing e)) = Some e.pending
command_at (Some Moved) = None

-- the handle has no worker
abbrev pub HasNone : Option Owned → Type 0
HasNone h = (worker_at h ≡ None) × (command_at h ≡ None)

-- ---- a command is started

-- why it was not
abbrev pub IsNotStarted : Option Owned → Option Command → StartRefusal → Type 0
IsNotStarted h k starting.Closed = HasNone h
IsNotStarted h k starting.Busy = (p : PendingState) × (command_at h ≡ Some p)
IsNotStarted h k starting.NoSuchCommand = (w : WorkerState) × (worker_at h ≡ Some w) × (k ≡ None)
IsNotStarted h k (starting.Heap r) = (w : WorkerState) × (j : Command) × (worker_at h ≡ Some w)
    × (k ≡ Some j) × IsRefused w j r

-- A worker started the command, as `SharedHeap::start` ensures; or it was not started, and the
-- handle is as before.
abbrev pub BecameStarted : Option Owned → Option Command → Result (Unit {0}) StartRefusal
    → Option Owned → Type 0
BecameStarted old k (Ok u) new = (w : WorkerState) × (j : Command) × (worker_at old ≡ Some w)
    × (k ≡ Some j) × IsCommandInBounds w.thread.config j × HasLeft w j
    × (command_at new ≡ Some (start_pending w j))
BecameStarted old k (Err e) new = IsNotStarted old k e × (new ≡ old)

-- its status: a different number for each cause
abbrev pub start_status : Result (Unit {0}) StartRefusal → ℕ
start_status (Ok u) = 0
start_status (Err starting.Closed) = 1
start_status (Err (starting.Heap refused.OutOfBounds)) = 2
start_status (Err (starting.Heap refused.NoLifeLeft)) = 3
start_status (Err starting.Busy) = 16
start_status (Err starting.NoSuchCommand) = 19

-- ---- events of the command

-- The command is done, and the worker has this reply: what `SharedHeap::poll` ensures.
pub record IsDone (p : PendingState) (most : ℕ) (a : Reply) (w : WorkerState) : Type 0 where
  pub same : IsSame p.worker w
  pub answered : HasAnswered p.worker p.command a w
  pub made : MadeMore p most w.thread w.span.own
  pub in_time : IsInTime p.worker.thread.config p.command w.span

-- The command is done, or goes on; or there is none, and the handle is as before.
abbrev pub BecamePolled : Option Owned → ℕ → Result Reply PollRefusal → Option Owned → Type 0
BecamePolled old most (Ok a) new = (p : PendingState) × (w : WorkerState)
    × (command_at old ≡ Some p) × (worker_at new ≡ Some w) × IsDone p most a w
BecamePolled old most (Err polling.NotDone) new = (p q : PendingState) × (command_at old ≡ Some p)
    × (command_at new ≡ Some q) × IsStillPending p most q
BecamePolled old most (Err polling.Closed) new = HasNone old × (new ≡ old)
BecamePolled old most (Err polling.NoCommand) new =
    ((w : WorkerState) × (worker_at old ≡ Some w)) × (new ≡ old)

abbrev pub poll_status : Result Reply PollRefusal → ℕ
poll_status (Ok a) = 0
poll_status (Err polling.Closed) = 1
poll_status (Err polling.NotDone) = 17
poll_status (Err polling.NoCommand) = 18

-- what the caller's struct holds after the call
abbrev pub told_polled : Result Reply PollRefusal → Answer → Answer
told_polled (Ok a) old = written a
told_polled (Err e) old = old

-- a call: what the handle has before and after, the caller's struct before and after, the status
pub record Started (k : Option Command) (old new : Option Owned) (status : ℕ) : Type 0 where
  pub outcome : Result (Unit {0}) StartRefusal
  pub became : BecameStarted old k outcome new
  pub status_is : status ≡ start_status outcome

pub record Polled (most : ℕ) (old new : Option Owned) (before after : Answer) (status : ℕ)
    : Type 0 where
  pub outcome : Result Reply PollRefusal
  pub became : BecamePolled old most outcome new
  pub status_is : status ≡ poll_status outcome
  pub answer_is : after ≡ told_polled outcome before

-- ---- a handle is closed, unless its worker's command is not done

abbrev pub shut_status : Option Owned → ℕ
shut_status None = 1
shut_status (Some (Heap h)) = 1
shut_status (Some (Group g)) = 1
shut_status (Some (Resting r)) = 0
shut_status (Some (Executing e)) = 16
shut_status (Some Moved) = 1

-- what the handle has after a call of this status: with 0 nothing, and else the same
abbrev pub IsLeft : ℕ → Option Owned → Option Owned → Type 0
IsLeft zero old new = new ≡ None
IsLeft (suc n) old new = new ≡ old

abbrev pub IsShut : Option Owned → ℕ → Option Owned → Type 0
IsShut old status new = (status ≡ shut_status old) × IsLeft (shut_status old) old new

-- ---- a command as numbers

abbrev pub command_in : ℕ → ℕ → ℕ → ℕ → ℕ → Option Command
command_in kind a b v n =
    if kind == 0 then Some (commands.New (register a) b)
    else if kind == 1 then Some (commands.Arr (register a) b)
    else if kind == 2 then Some (commands.Set (register a) n)
    else if kind == 3 then Some (commands.Nil (register a))
    else if kind == 4 then Some (commands.Mov (register a) (register b))
    else if kind == 5 then Some (commands.Get (register a) (register b) n)
    else if kind == 6 then Some (commands.Put (register a) n (register v))
    else if kind == 7 then Some (commands.Len (register a))
    else if kind == 8 then Some (commands.Same (register a) (register b))
    else if kind == 9 then Some (commands.Say (register a))
    else if kind == 10 then Some (commands.Swap (register a) n (register v))
    else if kind == 11 then Some (commands.Cas (register a) n (register b) (register v))
    else if kind == 12 then Some (commands.Idle n)
    else None

-- ---- counts of a worker between two commands; zeros if there is none

abbrev pub worker_counts : Option WorkerState → WorkerCounts
worker_counts None = record { thread = 0; units = 0; objects = 0; asked = 0 }
worker_counts (Some w) = record {
  thread = w.thread.thread;
  units = most_units - works (told w);
  objects = most_objects - sum_after objects_of 0 (asked w);
  asked = length (asked w);
}
