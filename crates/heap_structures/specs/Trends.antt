-- Trends: the last samples of a signal and the alarms among them, on a heap of their own.
use Rattle.std.specs.Prelude.{ℕ, ◌+◌, ◌-◌, ◌*◌, ◌≤◌, ◌≡◌, ◌≢◌, ◌⊎◌, max, Bool, true, false, if◌then◌else◌, MatchResult, Option, None, Some, Result, List, [], ◌∷◌, ◌++◌, drop, length, map}
use Rattle.block_store.specs.declared.Config.{Config}
use Rattle.block_store.specs.declared.Name.{Name}
use Rattle.block_store.specs.declared.Value.TheVariants.{Ref}
use Rattle.rate_plan.specs.Rates.{IsRate}
use Rattle.object_lists.specs.Records.{record_blocks}
use Rattle.array_trees.specs.InitialHeaps.{opening_blocks}
use Rattle.array_trees.specs.Trees.{array_blocks}
use Rattle.never_heap.specs.declared.Command.TheVariants.{Arr}
use Rattle.never_heap.specs.Graphs.{Array, Graph, has_name, nil_object, object_of, shared_name}
use Rattle.control_heap.specs.Controls.{CanOpen, Control, HasLeft, asked, units}
use Rattle.control_heap.specs.declared.faults.Fault.{Fault}
use Rattle.control_heap.specs.declared.faults.Fault.TheVariants.{NoLifeLeft}
use Rattle.control_heap.specs.graph_view.ShownGraph.{HasMetNoFull}
use Rattle.heap_structures.specs.declared.alarms.Alarm.{Alarm}
use Rattle.heap_structures.specs.declared.alarms.AlarmList.{AlarmList}
use Rattle.heap_structures.specs.declared.records.Records.{Records}
use Rattle.heap_structures.specs.declared.trend.Sample.{Sample}
use Rattle.heap_structures.specs.declared.trend.Trend.{Trend}
use Rattle.heap_structures.specs.Alarms.{IsAlarms, alarm_at, alarm_cells}
use Rattle.heap_structures.specs.Cells.{HasPlace, IsNone, held}
use Rattle.heap_structures.specs.Circles.{last_of}
use Rattle.heap_structures.specs.Heaps.{HasRoom}
use Rattle.heap_structures.specs.Records.{IsRecords, first_of, records_cells}

-- The live limit that is asked for a trend of n samples: the blocks of the registers and of the
-- shared array, of two records or arrays of n values, whichever are larger, of one object for each
-- sample, and of the next one.
abbrev pub trend_blocks : Config → ℕ → ℕ
trend_blocks c n =
    opening_blocks c + (2 * max (record_blocks c.width n) (array_blocks c.width n) + (n + 1))

-- a heap of this configuration can be opened, and suffices for a trend of n samples, 2 to 65,535
pub record HoldsTrend (c : Config) (n : ℕ) : Type 0 where
  pub can : CanOpen c
  pub some : 2 ≤ n
  pub short : n ≤ 65535
  pub object : array_blocks c.width n ≤ c.object
  pub live : trend_blocks c n ≤ c.live

abbrev pub values_in : List Sample → List ℕ
values_in xs = map (λ x. x.value) xs

-- alarm i in front of others, if it is one
abbrev pub with_alarm : Bool → ℕ → List Alarm → List Alarm
with_alarm b i ls = if b then record { number = i; acknowledged = false } ∷ ls else ls

-- how many of some samples are alarms
abbrev pub alarms_in : List Sample → ℕ
alarms_in [] = 0
alarms_in (x ∷ xs) = (if x.alarm then 1 else 0) + alarms_in xs

-- the alarms among some samples, of which the first is sample i of the signal
abbrev pub alarms_from : ℕ → List Sample → List Alarm
alarms_from i [] = []
alarms_from i (x ∷ xs) = with_alarm x.alarm i (alarms_from (i + 1) xs)

abbrev pub number_of : Option Alarm → Option ℕ
number_of None = None
number_of (Some x) = Some x.number

abbrev pub trend_heap : Trend → Control
trend_heap t = t.heap

-- how many samples it shows at most
abbrev pub trend_size : Trend → ℕ
trend_size t = (records_cells t.numbers).size

-- The ring has these values, and the list these alarms. Their arrays and the shared array are three
-- objects, and the shared array is as it was when the heap was opened. Register 0 refers to it, 3
-- and 4 to the others, and no register but these and 1 to an object.
pub record IsLaid (c : Config) (n : ℕ) (g : Graph) (r : Records) (a : AlarmList) (ys : List ℕ)
    (ls : List Alarm) : Type 0 where
  pub ring_place : HasPlace (records_cells r) 3 2 n
  pub alarm_place : HasPlace (alarm_cells a) 4 1 n
  pub apart : (records_cells r).array ≢ (alarm_cells a).array
  pub ring_other : (records_cells r).array ≢ shared_name 1
  pub alarms_other : (alarm_cells a).array ≢ shared_name 1
  pub zero : held g 0 ≡ Ref (shared_name 1)
  pub named : has_name g (shared_name 1) ≡ true
  pub shared : object_of g (shared_name 1) ≡ nil_object Array c.shared
  pub plain : (q : ℕ) (b : Name) → IsNone (0 ∷ 1 ∷ 2 ∷ 3 ∷ 4 ∷ []) q → held g q ≢ Ref b
  pub readings : IsRecords g r ys
  pub alarms : IsAlarms g a ls

-- The heap of a trend has this configuration, which suffices. It has met no `Full`, has done at
-- most so many commands, and has made the two arrays and so many objects of one block: these values
-- and alarms are there.
pub record Lays (t : Trend) (c : Config) (n most made : ℕ) (ys : List ℕ) (ls : List Alarm)
    : Type 0 where
  pub graph : Graph
  pub has : HasMetNoFull t.heap graph
  pub laid : IsLaid c n graph t.numbers t.alarms ys ls
  pub holds : HoldsTrend c n
  pub config : t.heap.config ≡ c
  pub commands : asked t.heap ≤ most
  pub objects : t.heap.objects ≡ 2 + made
  pub units : (rate : ℕ) → IsRate c rate
      → units t.heap ≡ rate * (2 * array_blocks c.width n + made)

-- the same, with the configuration, the counts and the lists as fields
pub record State (t : Trend) : Type 0 where
  pub config : Config
  pub size : ℕ
  pub most : ℕ
  pub made : ℕ
  pub ys : List ℕ
  pub ls : List Alarm
  pub lays : Lays t config size most made ys ls

-- A trend of at most n samples, on a heap of this configuration, to which these samples were
-- pushed: it shows the last n of them and their alarms. The heap has met no `Full`, has done at
-- most so many commands, and has made the two arrays and one object for each sample.
pub record IsTrend (t : Trend) (c : Config) (n most : ℕ) (xs : List Sample) : Type 0 where
  pub lays : Lays t c n most (length xs) (values_in (last_of n xs))
      (alarms_from (length xs - n) (last_of n xs))
  pub pushed : t.pushed ≡ length xs

-- a call took at most n commands of the room that the heap's life had
abbrev pub LeavesRoom : ℕ → Control → Control → Type 0
LeavesRoom n h z = (k : ℕ) → HasRoom (n + k) h → HasRoom k z

-- the same configuration after at most m commands, with so many objects, these values and alarms
abbrev pub LaysAfter : {t : Trend} → State t → ℕ → Trend → ℕ → List ℕ → List Alarm → Type 0
LaysAfter {t} s m u made ys ls =
    Lays u s.config s.size (s.most + m) made ys ls × LeavesRoom m t.heap u.heap

-- ---- the calls

-- a call had no room in the life for its m commands, and did nothing
abbrev pub LacksRoom : ℕ → Trend → Trend → Fault → Type 0
LacksRoom m t u f = (f ≡ NoLifeLeft) × (u ≡ t) × ¬ HasRoom m (trend_heap t)

-- A sample was pushed; or the life had no room for the commands or for the object, and nothing was
-- done.
abbrev pub Pushes : Trend → Trend → Config → ℕ → ℕ → List Sample → Sample
    → Result (Unit {0}) Fault → Type 0
Pushes t u c n most xs x result =
    MatchResult result
    (λ _. IsTrend u c n (most + (3 * n + 7)) (xs ++ x ∷ []) × HasRoom (3 * n + 7) (trend_heap t)
    × HasLeft (trend_heap t) (Arr 1 1))
    (λ f. (f ≡ NoLifeLeft) × (u ≡ t)
    × (¬ HasRoom (3 * n + 7) (trend_heap t) ⊎ ¬ HasLeft (trend_heap t) (Arr 1 1)))

-- the value of sample i of the last n
abbrev pub value_at : ℕ → List Sample → ℕ → Option ℕ
value_at n xs i = first_of (drop i (values_in (last_of n xs)))

-- which sample alarm i of the last n is
abbrev pub alarm_in : ℕ → List Sample → ℕ → Option ℕ
alarm_in n xs i = number_of (alarm_at i (alarms_from (length xs - n) (last_of n xs)))
