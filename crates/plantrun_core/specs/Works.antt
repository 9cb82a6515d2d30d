-- What a thread has done, when it ends or while it works.
use Rattle.std.specs.Prelude.{ℕ, suc, ◌+◌, ◌*◌, ◌/◌, ◌%◌, ◌<◌, ◌≤◌, ◌≡◌, ◌==◌, ◌++◌, Bool, true, false, List, length, map, Option, Some, None, IfSome}
use Rattle.std.specs.List.{AllByRecursion}
use Rattle.std.specs.Vec.{vec_capacity}
use Rattle.never_heap.specs.Histories.{HistoryItem}
use Rattle.trace_text.specs.Faults.{Rose}
use Rattle.live_tables.specs.rows.Workers.{IsSameWorker}
use Rattle.plantrun_core.specs.declared.calls.Done.{Done}
use Rattle.plantrun_core.specs.declared.hand.Hand.{Hand}
use Rattle.plantrun_core.specs.declared.readings.Reading.{Reading}
use Rattle.plantrun_core.specs.declared.roles.Role.{Role}
use Rattle.plantrun_core.specs.declared.roles.Role.TheVariants.{Control, Alarms, History}
use Rattle.plantrun_core.specs.declared.stops.Stop.{Stop}
use Rattle.plantrun_core.specs.declared.stops.Stop.TheVariants as stops
use Rattle.plantrun_core.specs.declared.work.Work.{Work}
use Rattle.plantrun_core.specs.Logs.{BeganAfter, operation_of}
use Rattle.plantrun_core.specs.Readings.{IsStop, IsTaken, puts}
use Rattle.plantrun_core.specs.Roles.{AfterTicks, HasReread, IsFine, closed}

-- how many operations a role does at most in its first n ticks
abbrev pub most_in : Role → ℕ → ℕ
most_in (Control l) n = 3 * n
most_in Alarms n = 16 * ((n + 4) / 5)
most_in History n = 2 * ((n + 4) / 5)

-- and how many at a tick
abbrev pub at_scan : Bool → ℕ → ℕ
at_scan true n = n
at_scan false n = 0

abbrev pub most_at : Role → ℕ → ℕ
most_at (Control l) tick = 3
most_at Alarms tick = at_scan (tick % 5 == 0) 16
most_at History tick = at_scan (tick % 5 == 0) 2

-- what a role was before its first tick
abbrev pub first_of : Role → Role
first_of (Control l) = closed
first_of Alarms = Alarms
first_of History = History

-- a thread at work in a plant of so many ticks: its log is that of its ticks so far
pub record IsAtWork (count : ℕ) (w : Work) : Type 0 where
  pub few : w.ticks ≤ count
  pub room : most_in w.role count ≤ vec_capacity w.hand.calls
  pub fine : IsFine w.role
  pub worked : AfterTicks (first_of w.role) w.ticks w.hand.calls.items w.role

-- the same thread, later
pub record HasGone (count : ℕ) (old new : Work) : Type 0 where
  pub same : IsSameWorker old.hand.who new.hand.who
  pub first : first_of new.role ≡ first_of old.role
  pub capacity : vec_capacity new.hand.calls ≡ vec_capacity old.hand.calls
  pub work : IsAtWork count new

-- why the input ended, or that it was taken to its end, where it wrote these readings
abbrev pub IsInputEnd : ℕ → Option (List ℕ) → Option (List ℕ) → List Reading → Option Stop → Type 0
IsInputEnd ticks all left rs None = IfSome all (λ bytes. IsTaken ticks bytes rs)
IsInputEnd ticks all left rs (Some stop) = IsStop ticks all left stop

-- how many faults the source has counted then
abbrev pub CountsInput : ℕ → ℕ → Option Stop → Type 0
CountsInput old new (Some stops.ReadFault) = Rose old new
CountsInput old new _ = new ≡ old

-- the input, when it has ended: its log has the writes of readings
pub record HasInput (ticks : ℕ) (all left : Option (List ℕ)) (hand : Hand) (stop : Option Stop)
    : Type 0 where
  pub readings : List Reading
  pub tags : AllByRecursion (λ (r : Reading). r.tag < 9) readings
  pub log : map operation_of hand.calls.items ≡ puts 1 readings
  pub end : IsInputEnd ticks all left readings stop

-- the history's log: that of all its ticks, and then of the ring
abbrev pub HasKeptAll : ℕ → List Done → Type 0
HasKeptAll ticks log =
    (mid : List Done) × (role : Role) × AfterTicks History ticks mid role × HasReread 32 mid log

-- the controller's log: that of all its ticks, and of one more
abbrev pub HasControlledAll : ℕ → List Done → Type 0
HasControlledAll ticks log = (role : Role) × AfterTicks closed (suc ticks) log role

-- The worker began its last tick, whose three operations end its log, after all of this history.
pub record HasActedAfter (seen : List HistoryItem) (hand : Hand) : Type 0 where
  pub earlier : List Done
  pub tick : List Done
  pub split : hand.calls.items ≡ earlier ++ tick
  pub three : length tick ≡ 3
  pub began : BeganAfter seen (map operation_of earlier) hand.who
