-- What drawing and following a stamp from C does to a worker of a shared heap.
use Rattle.std.specs.Prelude.{ℕ, ◌^◌, ◌≤◌, ◌≡◌, ◌⊎◌, Bool, true, false, Option, Some, Result, Ok, Err, List}
use Rattle.shared_heap.specs.declared.rules.Moment.{Moment}
use Rattle.shared_heap.specs.Pending.{PendingState}
use Rattle.shared_heap.specs.Shared.{IsStartOf, stamps_in}
use Rattle.shared_heap.specs.Stamps.{HasDrawn, HasFollowed}
use Rattle.shared_heap.specs.Workers.{WorkerState}
use Rattle.control_heap_c.specs.Shared.{HasNone, command_at, worker_at}
use Rattle.control_heap_c.specs.declared.owned.Owned.{Owned}
use Rattle.control_heap_c.specs.declared.shared.stamps.StampRefusal.{StampRefusal}
use Rattle.control_heap_c.specs.declared.shared.stamps.StampRefusal.TheVariants as stamping

-- why no stamp was drawn
abbrev pub IsNotStamped : Option Owned → StampRefusal → Type 0
IsNotStamped h stamping.Closed = HasNone h
IsNotStamped h stamping.Busy = (p : PendingState) × (command_at h ≡ Some p)

-- The handle's worker drew a stamp, as `SharedHeap::stamp` ensures; or none was drawn, and the
-- handle is as before.
abbrev pub BecameStamped : Option Owned → Result ℕ StampRefusal → Option Owned → Type 0
BecameStamped old (Ok n) new = (w v : WorkerState) × (worker_at old ≡ Some w)
    × (worker_at new ≡ Some v) × HasDrawn w n v
BecameStamped old (Err e) new = IsNotStamped old e × (new ≡ old)

-- the same of a stamp that is compared with this one, as `SharedHeap::follow` ensures
abbrev pub BecameFollowed : Option Owned → ℕ → Result Bool StampRefusal → Option Owned → Type 0
BecameFollowed old n (Ok b) new = (w v : WorkerState) × (worker_at old ≡ Some w)
    × (worker_at new ≡ Some v) × HasFollowed w n b v
BecameFollowed old n (Err e) new = IsNotStamped old e × (new ≡ old)

abbrev pub stamp_status : Result ℕ StampRefusal → ℕ
stamp_status (Ok n) = 0
stamp_status (Err stamping.Closed) = 1
stamp_status (Err stamping.Busy) = 16

-- what the caller's number is after the call
abbrev pub stamp_told : Result ℕ StampRefusal → ℕ → ℕ
stamp_told (Ok n) before = n
stamp_told (Err e) before = before

abbrev pub follow_status : Result Bool StampRefusal → ℕ
follow_status (Ok true) = 0
follow_status (Ok false) = 21
follow_status (Err stamping.Closed) = 1
follow_status (Err stamping.Busy) = 16

-- a call: what the handle has before and after, the caller's number before and after, the status
pub record Stamped (old new : Option Owned) (before after status : ℕ) : Type 0 where
  pub outcome : Result ℕ StampRefusal
  pub became : BecameStamped old outcome new
  pub status_is : status ≡ stamp_status outcome
  pub stamp_is : after ≡ stamp_told outcome before

pub record Followed (stamp : ℕ) (old new : Option Owned) (status : ℕ) : Type 0 where
  pub outcome : Result Bool StampRefusal
  pub became : BecameFollowed old stamp outcome new
  pub status_is : status ≡ follow_status outcome

-- The worker of the first handle has seen no more than that of the second, in any timeline that has
-- what both have seen; or 2^64 stamps were drawn.
abbrev pub HasCaughtUp : Option Owned → Option Owned → Type 0
HasCaughtUp h j = (v y : WorkerState) (timeline : List Moment) → worker_at h ≡ Some v
    → worker_at j ≡ Some y → IsStartOf v.timeline timeline → IsStartOf y.timeline timeline
    → IsStartOf v.timeline y.timeline ⊎ (2 ^ 64 ≤ stamps_in timeline)
