-- What each thread does at a time, by its log.
use Rattle.std.specs.Prelude.{ℕ, zero, suc, ◌+◌, ◌*◌, ◌/◌, ◌%◌, ◌≡◌, ◌==◌, ◌≤◌, ◌++◌, min, ◌^◌, ◌-◌, List, [], ◌∷◌, Option, Some, None, Bool, true, false, if◌then◌else◌}
use Rattle.array_tables.specs.declared.tag_table.operation.Operation.{Operation}
use Rattle.array_tables.specs.declared.tag_table.operation.Operation.TheVariants.{Write, Read}
use Rattle.array_tables.specs.tag_table.Tables.{Tag}
use Rattle.plantrun_core.specs.declared.calls.Done.{Done}
use Rattle.plantrun_core.specs.declared.alarms.Limits.{Limits}
use Rattle.plantrun_core.specs.declared.law.Loop.{Loop}
use Rattle.plantrun_core.specs.declared.roles.Role.{Role}
use Rattle.plantrun_core.specs.declared.roles.Role.TheVariants.{Control, Alarms, History}
use Rattle.plantrun_core.specs.Laws.{value_of, loop_after}
use Rattle.plantrun_core.specs.Alarms.{move_of, act_of}

abbrev pub did : Operation → Tag → ℕ → Done
did op tag stamp = record { operation = op; answer = tag; stamp = stamp }

-- a word: a number above one bit, which is 1 where the value is good
abbrev pub word : ℕ → Bool → ℕ
word n good = min (min (n * 2) (2 ^ 64 - 1) + (if good then 1 else 0)) (2 ^ 64 - 1)

abbrev pub are_there : Option ℕ → Option ℕ → Bool
are_there (Some a) (Some b) = true
are_there _ _ = false

-- a tick of the controller: both tags were read, and the output of the law was written
pub record HasControlled (before : Loop) (tick : ℕ) (old new : List Done) (after : Loop)
    : Type 0 where
  pub measured : Tag
  pub set : Tag
  pub replaced : Tag
  pub first : ℕ
  pub second : ℕ
  pub third : ℕ
  pub law : after ≡ loop_after before (value_of measured) (value_of set)
  pub log : new ≡ old ++ did (Read 0) measured first ∷ did (Read 4) set second
      ∷ did (Write 9 after.output (word tick (are_there (value_of measured) (value_of set))))
      replaced third ∷ []

-- the operation that was due, if any, was done
abbrev pub acted : Option Operation → Tag → ℕ → List Done
acted None tag stamp = []
acted (Some op) tag stamp = did op tag stamp ∷ []

-- a scan of alarm i: its record, the sensor and the acknowledgement were read, and the list was
-- changed as is due
pub record HasScanned (l : Limits) (i : ℕ) (old new : List Done) : Type 0 where
  pub kept : Tag
  pub measured : Tag
  pub told : Tag
  pub replaced : Tag
  pub first : ℕ
  pub second : ℕ
  pub third : ℕ
  pub fourth : ℕ
  pub log : new ≡ old ++ did (Read (10 + i)) kept first ∷ did (Read i) measured second
      ∷ did (Read (5 + i)) told third
      ∷ acted (act_of (move_of l kept measured told) i told) replaced fourth

-- a number, where it is one that a table holds
abbrev pub fitted : ℕ → ℕ
fitted n = min n (2 ^ 62 - 1)

-- the reading of a sensor that was read, in its place of the ring
abbrev pub put_in_ring : ℕ → Tag → Tag → ℕ → List Done
put_in_ring number None tag stamp = []
put_in_ring number (Some (v, w)) tag stamp =
    did (Write (14 + number % 32) (fitted v) (fitted w)) tag stamp ∷ []

-- the sensor was read, and the reading with this number went into the ring
pub record HasStored (number : ℕ) (old new : List Done) : Type 0 where
  pub measured : Tag
  pub replaced : Tag
  pub first : ℕ
  pub second : ℕ
  pub log : new ≡ old ++ did (Read 0) measured first
      ∷ put_in_ring number measured replaced second

-- the integral and the output of a controller are in their ranges
abbrev pub IsFine : Role → Type 0
IsFine (Control l) = (l.integral ≤ 16384000) × (l.output ≤ 1000)
IsFine _ = Unit {0}

-- the limits of alarm i, of which there are four
abbrev pub limits_of : ℕ → Limits
limits_of zero = record { low = 100000; high = 900000; dead = 20000 }
limits_of (suc zero) = record { low = 200000; high = 700000; dead = 10000 }
limits_of (suc (suc zero)) = record { low = 0; high = 800000; dead = 30000 }
limits_of (suc (suc (suc n))) = record { low = 50000; high = 950000; dead = 5000 }

-- the first so many alarms were scanned, one after the other
abbrev pub HasScannedTo : ℕ → List Done → List Done → Type 0
HasScannedTo zero old new = new ≡ old
HasScannedTo (suc i) old new =
    (mid : List Done) × HasScannedTo i old mid × HasScanned (limits_of i) i mid new

-- all four alarms were scanned, if this is a tick for it
abbrev pub HasWatched : Bool → List Done → List Done → Type 0
HasWatched true old new = HasScannedTo 4 old new
HasWatched false old new = new ≡ old

-- a reading with this number was kept, if this is a tick for it
abbrev pub HasRecorded : Bool → ℕ → List Done → List Done → Type 0
HasRecorded true number old new = HasStored number old new
HasRecorded false number old new = new ≡ old

-- What a role adds to its log at a tick, and what it is for the next. Alarms are scanned and readings
-- are kept at each fifth tick.
abbrev pub HasTicked : Role → ℕ → List Done → List Done → Role → Type 0
HasTicked (Control before) tick old new role =
    (after : Loop) × HasControlled before tick old new after × (role ≡ Control after)
HasTicked Alarms tick old new role = HasWatched (tick % 5 == 0) old new × (role ≡ Alarms)
HasTicked History tick old new role =
    HasRecorded (tick % 5 == 0) (tick / 5) old new × (role ≡ History)

-- the log of a role after its first n ticks: what each of them added, one after the other
abbrev pub AfterTicks : Role → ℕ → List Done → Role → Type 0
AfterTicks first zero log role = (log ≡ []) × (role ≡ first)
AfterTicks first (suc n) log role =
    (old : List Done) × (before : Role) × AfterTicks first n old before
    × HasTicked before n old log role

-- the first so many places of the ring were read
abbrev pub HasReread : ℕ → List Done → List Done → Type 0
HasReread zero old new = new ≡ old
HasReread (suc k) old new =
    (mid : List Done) × (tag : Tag) × (stamp : ℕ) × HasReread k old mid
    × (new ≡ mid ++ did (Read (14 + k)) tag stamp ∷ [])

-- the controller before its first tick: its output is closed
abbrev pub closed : Role
closed = Control (record { integral = 0; output = 0 })
