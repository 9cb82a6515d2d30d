-- How the program ends: its status, and what it writes.
use Rattle.std.specs.Prelude.{ℕ, ◌≡◌, ◌⊎◌, ◌++◌, codes, decimal, List, Option, Some, None, Err}
use Rattle.trace_text.specs.Lines.{ended}
use Rattle.trace_text.specs.Streams.{Appends, AppendsPrefix}
use Rattle.plantrun_core.specs.declared.calls.Logs.{Logs}
use Rattle.plantrun_core.specs.declared.plans.Plan.{Plan}
use Rattle.plantrun_core.specs.declared.stops.Stop.{Stop}
use Rattle.plantrun_core.specs.declared.stops.Stop.TheVariants.{BadLine, TooMany, ReadFault, NoMemory}
use Rattle.plantrun_core.specs.declared.top.Ended.{Ended}
use Rattle.plantrun_core.specs.PlantWorkers.{HaveWorked}
use Rattle.plantrun_core.specs.Readings.{CountsRead, IsStop, plan_at}

-- the exit status of each stop
abbrev pub status_of : Stop → ℕ
status_of (BadLine n) = 3
status_of TooMany = 4
status_of ReadFault = 5
status_of NoMemory = 7

abbrev pub stop_text : Stop → List ℕ
stop_text (BadLine n) = codes "line " ++ decimal n ++ codes ": no reading"
stop_text TooMany = codes "too many readings"
stop_text ReadFault = codes "read fault"
stop_text NoMemory = codes "no memory"

-- the line of a stop
abbrev pub stop_line : Stop → List ℕ
stop_line stop = ended (codes "plantrun: " ++ stop_text stop)

abbrev pub usage_line : List ℕ
usage_line = ended (codes "plantrun: usage")

-- this line was written, with this status; or a prefix of it, with status 6
abbrev pub IsSaid : List ℕ → ℕ → Option (List ℕ) → Option (List ℕ) → ℕ → Type 0
IsSaid line due held now status =
    ((status ≡ due) × Appends held now line) ⊎ ((status ≡ 6) × AppendsPrefix held now line)

-- The words were a plan, whose plant stopped for a cause: the line of the stop was written.
pub record HasStopped (words : List (List ℕ)) (all left held now : Option (List ℕ))
    (read read_now status : ℕ) : Type 0 where
  pub plan : Plan
  pub planned : plan_at words ≡ Some plan
  pub stop : Stop
  pub cause : IsStop plan.ticks all left stop
  pub counted : CountsRead {X = Logs} read read_now (Err stop)
  pub said : IsSaid (stop_line stop) (status_of stop) held now status

-- The words were no plan, and the line of the usage was written.
abbrev pub IsUsage : List (List ℕ) → Option (List ℕ) → Option (List ℕ) → ℕ → ℕ → ℕ → Type 0
IsUsage words held now read read_now status =
    (plan_at words ≡ None) × (read_now ≡ read) × IsSaid usage_line 2 held now status

-- how the program ends: with a plant that ran to its end, by its plan; or for a cause
abbrev pub IsExit : List (List ℕ) → Option (List ℕ) → Option (List ℕ) → Option (List ℕ)
    → Option (List ℕ) → ℕ → ℕ → ℕ → Option Ended → Type 0
IsExit words all left held now read read_now status (Some e) =
    (plan : Plan) × (plan_at words ≡ Some plan) × HaveWorked plan.ticks all e.logs
    × (read_now ≡ read)
IsExit words all left held now read read_now status None =
    HasStopped words all left held now read read_now status
    ⊎ IsUsage words held now read read_now status
