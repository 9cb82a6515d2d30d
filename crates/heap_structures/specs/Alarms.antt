-- Lists of standing alarms: their operations, and the array that shows one.
use Rattle.std.specs.Prelude.{ℕ, zero, suc, ◌+◌, ◌-◌, ◌*◌, ◌<◌, ◌≡◌, ◌==◌, ◌||◌, Bool, true, false, if◌then◌else◌, Option, Some, None, Result, List, [], ◌∷◌, ◌++◌, length, map}
use Rattle.block_store.specs.declared.Value.{Value}
use Rattle.block_store.specs.declared.Value.TheVariants.{Int}
use Rattle.never_heap.specs.Graphs.{Graph}
use Rattle.heap_structures.specs.declared.cells.Cells.{Cells}
use Rattle.heap_structures.specs.declared.alarms.Alarm.{Alarm}
use Rattle.heap_structures.specs.declared.alarms.AlarmList.{AlarmList}
use Rattle.heap_structures.specs.declared.alarms.Raised.{Raised}
use Rattle.heap_structures.specs.declared.alarms.Raised.TheVariants.{New, Standing, Full}
use Rattle.control_heap.specs.Controls.{Control}
use Rattle.control_heap.specs.declared.faults.Fault.{Fault}
use Rattle.heap_structures.specs.Heaps.{Does, DoesOrStops, Sight}
use Rattle.heap_structures.specs.Rings.{IsRound}

-- whether the alarm with this number stands
abbrev pub stands : ℕ → List Alarm → Bool
stands n [] = false
stands n (x ∷ xs) = x.number == n || stands n xs

-- it is too, unacknowledged and after all others
abbrev pub raised : ℕ → List Alarm → List Alarm
raised n xs = xs ++ record { number = n; acknowledged = false } ∷ []

-- it is acknowledged, and keeps its place
abbrev pub acknowledged : ℕ → List Alarm → List Alarm
acknowledged n [] = []
acknowledged n (x ∷ xs) =
    if x.number == n then record { number = x.number; acknowledged = true } ∷ xs
    else x ∷ acknowledged n xs

-- it is gone, and the others keep their order
abbrev pub cleared : ℕ → List Alarm → List Alarm
cleared n [] = []
cleared n (x ∷ xs) = if x.number == n then xs else x ∷ cleared n xs

-- standing alarm i, the oldest first
abbrev pub alarm_at : ℕ → List Alarm → Option Alarm
alarm_at i [] = None
alarm_at zero (x ∷ xs) = Some x
alarm_at (suc i) (x ∷ xs) = alarm_at i xs

-- no number occurs twice
abbrev pub StandOnce : List Alarm → Type 0
StandOnce [] = Unit {0}
StandOnce (x ∷ xs) = (stands x.number xs ≡ false) × StandOnce xs

-- The array has a number for each alarm: twice the alarm's own, and one more where it is
-- acknowledged.
abbrev pub value_of : Alarm → Value
value_of x = Int (2 * x.number + (if x.acknowledged then 1 else 0))

-- a list shows these alarms, the oldest first
abbrev pub IsAlarms : Graph → AlarmList → List Alarm → Type 0
IsAlarms g l xs = IsRound g l.cells 0 l.count (map value_of xs)

abbrev pub alarm_cells : AlarmList → Cells
alarm_cells l = l.cells

-- how many alarms it holds at most
abbrev pub alarm_size : AlarmList → ℕ
alarm_size l = l.cells.size

-- what a list of at most n shows after an alarm was raised, and why it was not added
abbrev pub Raises : ℕ → (List Alarm → Type 0) → ℕ → List Alarm → Raised → Type 0
Raises n Shows number xs New =
    (stands number xs ≡ false) × (length xs < n) × Shows (raised number xs)
Raises n Shows number xs Standing = (stands number xs ≡ true) × Shows xs
Raises n Shows number xs Full = (stands number xs ≡ false) × (length xs ≡ n) × Shows xs

-- ---- the calls

-- The heap did at most so many commands, and has a graph in which this holds. The spare register
-- and the array apart, that is the graph from before.
abbrev pub Shows : Sight → ℕ → Control → Control → Cells → Graph → (Graph → Type 0) → Type 0
Shows s n h z c g Q = Does s n h z (c.spare ∷ []) c.array g Q

-- the same, or the call stops and nothing is changed
abbrev pub ShowsOrStops : {T : Type 0} → Sight → ℕ → Control → Control → AlarmList → Graph
    → (T → Graph → Type 0) → Type 0 → Type 0 → Result T Fault → Type 0
ShowsOrStops s n h z l g Q Bad Same x =
    DoesOrStops s n h z (l.cells.spare ∷ []) l.cells g Q Bad Same x

-- the first alarm with this number is at a place
abbrev pub IsFound : ℕ → ℕ → List Alarm → Type 0
IsFound n p [] = ⊥
IsFound n zero (x ∷ xs) = (x.number == n) ≡ true
IsFound n (suc p) (x ∷ xs) = ((x.number == n) ≡ false) × IsFound n p xs

-- it is, or none has this number
abbrev pub IsPlace : ℕ → List Alarm → Option ℕ → Type 0
IsPlace n xs (Some p) = IsFound n p xs
IsPlace n xs None = stands n xs ≡ false

-- how many of some alarms were looked at for a place
abbrev pub looked : ℕ → Option ℕ → ℕ
looked count (Some p) = p + 1
looked count None = count

-- what a walk to the alarm with a number found, and the heap after it
abbrev pub Finds : Sight → Control → Control → Graph → AlarmList → List Alarm → ℕ → Option ℕ
    → Type 0
Finds s h z g l xs n p =
    IsPlace n xs p × Shows s (looked l.count p) h z l.cells g (λ k. IsAlarms k l xs)

-- all values but value i
abbrev pub without : ℕ → List Value → List Value
without i [] = []
without zero (v ∷ vs) = vs
without (suc i) (v ∷ vs) = v ∷ without i vs

-- value i of a list's array is gone, and those after it have moved up
abbrev pub Closes : Sight → Control → Control → Graph → AlarmList → ℕ → List Value → Type 0
Closes s h z g l i vs =
    Shows s (2 * (l.count - i)) h z l.cells g
    (λ k. IsRound k l.cells 0 (l.count - 1) (without i vs))
