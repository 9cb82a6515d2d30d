-- What a call from C does that gives a worker back to its group, or that closes a heap with the
-- workers of its group.
use Rattle.std.specs.Prelude.{ℕ, ◌≡◌, true, is_some, Option, Some, None, Result, Ok, Err, List, [], ◌∷◌, ◌++◌}
use Rattle.std.specs.Arc.{arc_value}
use Rattle.shared_heap.specs.Pending.{PendingState}
use Rattle.shared_heap.specs.Workers.{HaveHistoryOfSome, HeapState, WorkerState}
use Rattle.control_heap_c.specs.Groups.{group_in, home_in, workers_in}
use Rattle.control_heap_c.specs.Shared.{HasNone, command_at, worker_at}
use Rattle.control_heap_c.specs.declared.owned.Group as groups
use Rattle.control_heap_c.specs.declared.owned.Owned.{Owned}
use Rattle.control_heap_c.specs.declared.shared.closing.FinishRefusal.{FinishRefusal}
use Rattle.control_heap_c.specs.declared.shared.closing.FinishRefusal.TheVariants as finishing
use Rattle.control_heap_c.specs.declared.shared.closing.ReturnRefusal.{ReturnRefusal}
use Rattle.control_heap_c.specs.declared.shared.closing.ReturnRefusal.TheVariants as returning

-- the handle has the same heap and the same workers
abbrev pub IsSameGroup : Option Owned → Option Owned → Type 0
IsSameGroup old new = (home_in new ≡ home_in old) × (workers_in new ≡ workers_in old)

-- ---- a worker is given back

-- the worker of a handle is of the heap of the other handle's group
abbrev pub IsOfGroup : Option Owned → Option Owned → Type 0
IsOfGroup g h = (s : HeapState) (w : WorkerState) → home_in g ≡ Some s → worker_at h ≡ Some w
    → w.heap ≡ s.id

-- the group has this worker after those that it had
pub record HasTaken (old : Option Owned) (w : WorkerState) (new : Option Owned) : Type 0 where
  pub workers : List WorkerState
  pub before : workers_in old ≡ Some workers
  pub after : workers_in new ≡ Some (workers ++ w ∷ [])
  pub home : home_in new ≡ home_in old

abbrev pub HasTakenFrom : Option Owned → Option Owned → Option Owned → Type 0
HasTakenFrom old h new = (w : WorkerState) × (worker_at h ≡ Some w) × HasTaken old w new

-- why it was not given back
abbrev pub IsNotReturned : Option Owned → Option Owned → ReturnRefusal → Type 0
IsNotReturned g h returning.Closed = HasNone h
IsNotReturned g h returning.Busy = (p : PendingState) × (command_at h ≡ Some p)
IsNotReturned g h returning.NoGroup =
    ((w : WorkerState) × (worker_at h ≡ Some w)) × (workers_in g ≡ None)
IsNotReturned g h returning.NoMemory =
    ((w : WorkerState) × (worker_at h ≡ Some w)) × (is_some (workers_in g) ≡ true)

-- What the group's handle is then: as before; where an allocation failed, it has the same heap and
-- the same workers.
abbrev pub IsGroupLeft : ReturnRefusal → Option Owned → Option Owned → Type 0
IsGroupLeft returning.Closed old new = new ≡ old
IsGroupLeft returning.Busy old new = new ≡ old
IsGroupLeft returning.NoGroup old new = new ≡ old
IsGroupLeft returning.NoMemory old new = IsSameGroup old new

-- the handle of the group and that of the worker, before and after
abbrev pub BecameReturned : Option Owned → Option Owned → Result (Unit {0}) ReturnRefusal
    → Option Owned → Option Owned → Type 0
BecameReturned g h (Ok u) g' h' = (h' ≡ None) × HasTakenFrom g h g'
BecameReturned g h (Err e) g' h' = IsNotReturned g h e × IsGroupLeft e g g' × (h' ≡ h)

abbrev pub return_status : Result (Unit {0}) ReturnRefusal → ℕ
return_status (Ok u) = 0
return_status (Err returning.Closed) = 1
return_status (Err returning.NoGroup) = 1
return_status (Err returning.NoMemory) = 8
return_status (Err returning.Busy) = 16

pub record Returned (g h : Option Owned) (status : ℕ) (g' h' : Option Owned) : Type 0 where
  pub outcome : Result (Unit {0}) ReturnRefusal
  pub became : BecameReturned g h outcome g' h'
  pub status_is : status ≡ return_status outcome

-- ---- a heap is closed

-- A heap that was closed with the workers of its group has one history, as `close_some` ensures.
abbrev pub WasFinished : Option groups.Group → ℕ → Type 0
WasFinished None cycles = ⊥
WasFinished (Some g) cycles = HaveHistoryOfSome (arc_value g.heap).config g.workers.items cycles

-- why it was not closed
abbrev pub IsNotFinished : Option Owned → FinishRefusal → Type 0
IsNotFinished h finishing.NoGroup = workers_in h ≡ None
IsNotFinished h finishing.NoWorker = workers_in h ≡ Some []
IsNotFinished h finishing.InUse = is_some (workers_in h) ≡ true

abbrev pub BecameFinished : Option Owned → Result ℕ FinishRefusal → Option Owned → Type 0
BecameFinished old (Ok cycles) new = (new ≡ None) × WasFinished (group_in old) cycles
BecameFinished old (Err e) new = IsNotFinished old e × (new ≡ old)

abbrev pub finish_status : Result ℕ FinishRefusal → ℕ
finish_status (Ok cycles) = 0
finish_status (Err finishing.NoGroup) = 1
finish_status (Err finishing.NoWorker) = 20
finish_status (Err finishing.InUse) = 22

-- what the caller's number is after the call
abbrev pub finish_told : Result ℕ FinishRefusal → ℕ → ℕ
finish_told (Ok cycles) before = cycles
finish_told (Err e) before = before

-- a call: what the handle has before and after, the caller's number before and after, the status
pub record Finished (old new : Option Owned) (before after status : ℕ) : Type 0 where
  pub outcome : Result ℕ FinishRefusal
  pub became : BecameFinished old outcome new
  pub status_is : status ≡ finish_status outcome
  pub cycles_are : after ≡ finish_told outcome before
