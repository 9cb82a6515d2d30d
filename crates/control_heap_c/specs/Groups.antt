-- What a call from C does to the workers of a shared heap that have no handle, and the numbers that
-- it returns.
use Rattle.std.specs.Prelude.{ℕ, ◌≡◌, Bool, true, false, is_some, Option, Some, None, Result, Ok, Err, List, [], ◌∷◌}
use Rattle.std.specs.Arc.{arc_value}
use Rattle.block_store.specs.declared.Config.{Config}
use Rattle.block_store.specs.declared.Width.{Width}
use Rattle.shared_heap.specs.declared.heap.OpenFault.TheVariants as faults
use Rattle.shared_heap.specs.Refusals.{IsOpenFault}
use Rattle.shared_heap.specs.Workers.{AreFresh, AreInOrder, CanOpen, HeapState, WorkerState}
use Rattle.control_heap_c.specs.declared.owned.Group as groups
use Rattle.control_heap_c.specs.declared.owned.Owned.{Owned}
use Rattle.control_heap_c.specs.declared.owned.Owned.TheVariants.{Heap, Group, Resting, Executing, Moved}
use Rattle.control_heap_c.specs.declared.shared.group.AttachRefusal.{AttachRefusal}
use Rattle.control_heap_c.specs.declared.shared.group.AttachRefusal.TheVariants as attaching
use Rattle.control_heap_c.specs.declared.shared.group.GroupRefusal.{GroupRefusal}
use Rattle.control_heap_c.specs.declared.shared.group.GroupRefusal.TheVariants as grouping
use Rattle.control_heap_c.specs.Shared.{worker_at}

abbrev pub shared_config : Width → ℕ → ℕ → ℕ → ℕ → ℕ → Config
shared_config w threads blocks live object shared = record {
  width = w;
  threads = threads;
  blocks = blocks;
  live = live;
  object = object;
  shared = shared;
}

-- the group of a handle, if it has one
abbrev pub group_in : Option Owned → Option groups.Group
group_in None = None
group_in (Some (Heap h)) = None
group_in (Some (Group g)) = Some g
group_in (Some (Resting r)) = None
group_in (Some (Executing e)) = None
group_in (Some Moved) = None

-- the workers of a handle's group
abbrev pub workers_of : Option groups.Group → Option (List WorkerState)
workers_of None = None
workers_of (Some g) = Some g.workers.items

abbrev pub workers_in : Option Owned → Option (List WorkerState)
workers_in h = workers_of (group_in h)

-- the heap of a handle's group
abbrev pub home_of : Option groups.Group → Option HeapState
home_of None = None
home_of (Some g) = Some (arc_value g.heap)

abbrev pub home_in : Option Owned → Option HeapState
home_in h = home_of (group_in h)

-- all workers of a heap before its first command
pub record IsFreshGroup (c : Config) (g : groups.Group) : Type 0 where
  pub can : CanOpen c
  pub config : (arc_value g.heap).config ≡ c
  pub order : AreInOrder (arc_value g.heap) g.workers.items
  pub fresh : AreFresh c g.workers.items

abbrev pub IsGroup : Config → Option groups.Group → Type 0
IsGroup c None = ⊥
IsGroup c (Some g) = IsFreshGroup c g

-- the workers of this heap
abbrev pub HasGroup : HeapState → List WorkerState → Option groups.Group → Type 0
HasGroup h ws None = ⊥
HasGroup h ws (Some g) = (arc_value g.heap ≡ h) × (g.workers.items ≡ ws)

abbrev pub IsOpenedGroup : Option Width → (Width → Config) → Option groups.Group → Type 0
IsOpenedGroup None c g = ⊥
IsOpenedGroup (Some w) c g = IsGroup (c w) g

-- why no heap is opened: the handle is open, there is no such version, or the heap's own cause
abbrev pub IsNotOpenedGroup : Option Owned → Option Width → (Width → Config) → GroupRefusal
    → Type 0
IsNotOpenedGroup (Some x) w c grouping.Open = Unit {0}
IsNotOpenedGroup None None c grouping.Version = Unit {0}
IsNotOpenedGroup None (Some w) c (grouping.Heap f) = IsOpenFault (c w) f
IsNotOpenedGroup _ _ c _ = ⊥

abbrev pub BecameGroup : Option Owned → Option Width → (Width → Config)
    → Result (Unit {0}) GroupRefusal → Option Owned → Type 0
BecameGroup None w c (Ok u) new = IsOpenedGroup w c (group_in new)
BecameGroup (Some x) w c (Ok u) new = ⊥
BecameGroup old w c (Err e) new = IsNotOpenedGroup old w c e × (new ≡ old)

abbrev pub group_status : Result (Unit {0}) GroupRefusal → ℕ
group_status (Ok u) = 0
group_status (Err (grouping.Heap faults.OutOfBounds)) = 2
group_status (Err grouping.Open) = 4
group_status (Err grouping.Version) = 5
group_status (Err (grouping.Heap faults.LiveTooSmall)) = 6
group_status (Err (grouping.Heap faults.NoRate)) = 7
group_status (Err (grouping.Heap faults.NoMemory)) = 8

pub record OpenedGroup (w : Option Width) (c : Width → Config) (old new : Option Owned)
    (status : ℕ) : Type 0 where
  pub outcome : Result (Unit {0}) GroupRefusal
  pub became : BecameGroup old w c outcome new
  pub status_is : status ≡ group_status outcome

-- a group is closed; a handle that has none is left as it is
abbrev pub IsClosedGroup : Option groups.Group → ℕ → Option Owned → Option Owned → Type 0
IsClosedGroup None status old new = (status ≡ 1) × (new ≡ old)
IsClosedGroup (Some g) status old new = (status ≡ 0) × (new ≡ None)

abbrev pub IsGroupShut : Option Owned → ℕ → Option Owned → Type 0
IsGroupShut old status new = IsClosedGroup (group_in old) status old new

-- ---- a worker gets a handle

-- The first worker of the group is this value, and no longer the group's. It is of the group's heap.
-- The handle for it is not open.
pub record HasHanded (old : Option Owned) (is_open : Bool) (x : Owned) (new : Option Owned) : Type 0
  where
    pub closed : is_open ≡ false
    pub first : WorkerState
    pub rest : List WorkerState
    pub is_first : worker_at (Some x) ≡ Some first
    pub before : workers_in old ≡ Some (first ∷ rest)
    pub after : workers_in new ≡ Some rest
    pub home : home_in new ≡ home_in old
    pub own : (s : HeapState) → home_in old ≡ Some s → first.heap ≡ s.id

-- why none does
abbrev pub IsNotAttached : Option Owned → Bool → AttachRefusal → Type 0
IsNotAttached h is_open attaching.NoGroup = workers_in h ≡ None
IsNotAttached h is_open attaching.Open = (is_open ≡ true) × (is_some (workers_in h) ≡ true)
IsNotAttached h is_open attaching.NoWorker = (is_open ≡ false) × (workers_in h ≡ Some [])
IsNotAttached h is_open attaching.NoMemory = (is_open ≡ false) × (is_some (workers_in h) ≡ true)

-- the handle of the group and that of the worker, before and after: both the same where none does
abbrev pub BecameAttached : Option Owned → Option Owned → Result (Unit {0}) AttachRefusal
    → Option Owned → Option Owned → Type 0
BecameAttached g h (Ok u) g' (Some x) = (h ≡ None) × HasHanded g false x g'
BecameAttached g h (Ok u) g' None = ⊥
BecameAttached g h (Err e) g' h' = IsNotAttached g (is_some h) e × (g' ≡ g) × (h' ≡ h)

abbrev pub attach_status : Result (Unit {0}) AttachRefusal → ℕ
attach_status (Ok u) = 0
attach_status (Err attaching.NoGroup) = 1
attach_status (Err attaching.Open) = 4
attach_status (Err attaching.NoMemory) = 8
attach_status (Err attaching.NoWorker) = 20

pub record Attached (g h : Option Owned) (status : ℕ) (g' h' : Option Owned) : Type 0 where
  pub outcome : Result (Unit {0}) AttachRefusal
  pub became : BecameAttached g h outcome g' h'
  pub status_is : status ≡ attach_status outcome
