-- The four workers of a plant, and what they leave.
use Rattle.std.specs.Prelude.{ℕ, ◌+◌, ◌≡◌, ◌<◌, ◌≤◌, [], ◌∷◌, map, List, Option, Some, None, IfSome}
use Rattle.std.specs.List.{AllByRecursion}
use Rattle.std.specs.Vec.{vec_capacity}
use Rattle.shared_heap.specs.Shared.{stamps_in}
use Rattle.shared_heap.specs.Workers.{HeapState}
use Rattle.live_tables.specs.tags.Live.{TagWorkerState, HaveOneTable, opened_config}
use Rattle.live_tables.specs.rows.Workers.{IsOf, thread_of}
use Rattle.plantrun_core.specs.declared.calls.Logs.{Logs}
use Rattle.plantrun_core.specs.declared.crew.Crew.{Crew}
use Rattle.plantrun_core.specs.declared.crew.Ends.{Ends}
use Rattle.plantrun_core.specs.declared.crew.Works.{Works}
use Rattle.plantrun_core.specs.declared.hand.Hand.{Hand}
use Rattle.plantrun_core.specs.declared.readings.Reading.{Reading}
use Rattle.plantrun_core.specs.declared.roles.Role.{Role}
use Rattle.plantrun_core.specs.declared.roles.Role.TheVariants.{Alarms, History}
use Rattle.plantrun_core.specs.declared.stops.Stop.{Stop}
use Rattle.plantrun_core.specs.Logs.{IsHandOf, IsLog, operation_of}
use Rattle.plantrun_core.specs.PlantOrders.{ActsOnLast, IsPlainOrder, KeepsStamps}
use Rattle.plantrun_core.specs.Readings.{IsStop, IsTaken, puts, room}
use Rattle.plantrun_core.specs.Roles.{AfterTicks, closed}
use Rattle.plantrun_core.specs.Works.{HasActedAfter, HasControlledAll, HasGone, HasKeptAll, IsAtWork, first_of, most_in}

-- the worker of thread t of a table
abbrev pub IsWorker : HeapState → ℕ → TagWorkerState → Type 0
IsWorker table t w = IsOf table w × (thread_of w ≡ t)

-- the worker of thread t of the table of a plant, with its log
abbrev pub IsHandAt : HeapState → ℕ → Hand → Type 0
IsHandAt table t h = IsHandOf table h × (thread_of h.who ≡ t)

-- the workers of all four threads, with their logs
pub record IsCrew (table : HeapState) (c : Crew) : Type 0 where
  pub input : IsHandAt table 0 c.input
  pub control : IsHandAt table 1 c.control
  pub alarms : IsHandAt table 2 c.alarms
  pub history : IsHandAt table 3 c.history

-- its logs
abbrev pub logs_of : Crew → Logs
logs_of c = record {
  input = c.input.calls;
  control = c.control.calls;
  alarms = c.alarms.calls;
  history = c.history.calls;
}

-- a crew that has done nothing, with room in its logs for so many ticks
pub record IsNew (ticks : ℕ) (c : Crew) : Type 0 where
  pub input : c.input.calls.items ≡ []
  pub control : c.control.calls.items ≡ []
  pub alarms : c.alarms.calls.items ≡ []
  pub history : c.history.calls.items ≡ []
  pub input_room : room ticks ≤ vec_capacity c.input.calls
  pub control_room : most_in closed ticks + 3 ≤ vec_capacity c.control.calls
  pub alarms_room : most_in Alarms ticks ≤ vec_capacity c.alarms.calls
  pub history_room : most_in History ticks + 32 ≤ vec_capacity c.history.calls

-- These logs are those of these four workers of one table, which was closed: all that they did has
-- one order, in which each was answered as by a plain table.
pub record IsPlantOf (input control alarms history : TagWorkerState) (l : Logs) (cycles : ℕ)
    : Type 0 where
  pub table : HaveOneTable (opened_config 4 48) (input ∷ control ∷ alarms ∷ history ∷ []) cycles
  pub threads : (thread_of input ≡ 0) × (thread_of control ≡ 1) × (thread_of alarms ≡ 2)
      × (thread_of history ≡ 3)
  pub input_log : IsLog input l.input.items
  pub control_log : IsLog control l.control.items
  pub alarms_log : IsLog alarms l.alarms.items
  pub history_log : IsLog history l.history.items

-- These logs are those of the four workers of one table, which was closed. They have one order, in
-- which each answer is that of a plain table, which keeps real time as their stamps show it, and in
-- which the controller acts on the last readings.
pub record HasPlant (l : Logs) (cycles : ℕ) : Type 0 where
  pub input : TagWorkerState
  pub control : TagWorkerState
  pub alarms : TagWorkerState
  pub history : TagWorkerState
  pub plant : IsPlantOf input control alarms history l cycles
  pub ordered : IsPlainOrder l plant.table.order
  pub in_time : KeepsStamps l plant.table.order (stamps_in plant.table.timeline)
  pub last : ActsOnLast l plant.table.order

-- What the threads of a plant did: the input wrote the readings of a text, line by line, and each
-- other thread did what is due at each tick, one after the other. At the end the controller did one
-- tick more, and the history read its ring.
pub record HaveWorked (ticks : ℕ) (all : Option (List ℕ)) (l : Logs) : Type 0 where
  pub readings : List Reading
  pub tags : AllByRecursion (λ (r : Reading). r.tag < 9) readings
  pub input : map operation_of l.input.items ≡ puts 1 readings
  pub taken : IfSome all (λ bytes. IsTaken ticks bytes readings)
  pub control : HasControlledAll ticks l.control.items
  pub alarms_role : Role
  pub alarms : AfterTicks Alarms ticks l.alarms.items alarms_role
  pub history : HasKeptAll ticks l.history.items

-- ---- within a plant

-- the threads at ticks, before and after
pub record HaveGone (count : ℕ) (old new : Works) : Type 0 where
  pub control : HasGone count old.control new.control
  pub alarms : HasGone count old.alarms new.alarms
  pub history : HasGone count old.history new.history

pub record AreAtWork (count : ℕ) (w : Works) : Type 0 where
  pub control : IsAtWork count w.control
  pub alarms : IsAtWork count w.alarms
  pub history : IsAtWork count w.history

pub record AreOfTable (table : HeapState) (w : Works) : Type 0 where
  pub control : IsHandOf table w.control.hand
  pub alarms : IsHandOf table w.alarms.hand
  pub history : IsHandOf table w.history.hand

-- the threads at ticks when each has ended or was halted
pub record HaveEnded (ticks : ℕ) (w : Works) : Type 0 where
  pub work : AreAtWork ticks w
  pub control_role : first_of w.control.role ≡ closed
  pub alarms_role : first_of w.alarms.role ≡ Alarms
  pub history_role : first_of w.history.role ≡ History
  pub control_room : most_in closed ticks + 3 ≤ vec_capacity w.control.hand.calls
  pub history_room : most_in History ticks + 32 ≤ vec_capacity w.history.hand.calls

-- the workers of the threads
pub record AreTheirs (table : HeapState) (e : Ends) : Type 0 where
  pub input : IsHandAt table 0 e.input
  pub control : IsHandAt table 1 e.works.control.hand
  pub alarms : IsHandAt table 2 e.works.alarms.hand
  pub history : IsHandAt table 3 e.works.history.hand

-- all that the threads had to do is done, or why not
abbrev pub IsGone : ℕ → Option (List ℕ) → Option (List ℕ) → Crew → Option Stop → Type 0
IsGone ticks all left c None =
    HaveWorked ticks all (logs_of c) × HasActedAfter c.input.who.worker.seen c.control
IsGone ticks all left c (Some stop) = IsStop ticks all left stop
