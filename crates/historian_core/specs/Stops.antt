-- How a program ends that stops before the end of its text: its line and its status.
use Rattle.std.specs.Prelude.{ℕ, ◌≡◌, ◌⊎◌, ◌++◌, codes, decimal, List, Option, IfSome, Result, Ok, Err}
use Rattle.trace_text.specs.Faults.{Rose}
use Rattle.trace_text.specs.Lines.{ended}
use Rattle.trace_text.specs.Streams.{Appends, AppendsPrefix}
use Rattle.historian_core.specs.declared.stops.Stop.{Stop}
use Rattle.historian_core.specs.declared.stops.Stop.TheVariants.{BadLine, NoLifeLeft, ReadFault, WriteFault}
use Rattle.historian_core.specs.declared.stops.Why.{Why}
use Rattle.historian_core.specs.declared.stops.Why.TheVariants.{Limits, Order, Reading}
use Rattle.historian_core.specs.Reports.{IsReport, AreCounted}
use Rattle.historian_core.specs.ReportTexts.{due_in}

-- the exit status of each stop
abbrev pub status_of : Stop → ℕ
status_of (BadLine n why) = 3
status_of ReadFault = 5
status_of WriteFault = 6
status_of NoLifeLeft = 9

-- what is wrong with a line, as it is printed
abbrev pub why_text : Why → List ℕ
why_text Limits = codes "not two limits below 2^32"
why_text Order = codes "low limit above high limit"
why_text Reading = codes "not a reading below 2^32"

abbrev pub stop_text : Stop → List ℕ
stop_text (BadLine n why) = codes "line " ++ decimal n ++ codes ": " ++ why_text why
stop_text NoLifeLeft = codes "no life left"
stop_text ReadFault = codes "read fault"
stop_text WriteFault = codes "write fault"

abbrev pub stop_line : Stop → List ℕ
stop_line stop = ended (codes "historian: " ++ stop_text stop)

-- What a sink holds after a report that stopped so, and the exit status. The line of the stop is
-- written, and the status is that of the stop; or the sink counted a fault, a prefix of the line is
-- written, and the status is 6. Nothing is written to a sink that failed in the report.
abbrev pub IsSaid : Stop → Option (List ℕ) → Option (List ℕ) → ℕ → ℕ → ℕ → Type 0
IsSaid WriteFault held now faults faults_now status =
    (status ≡ 6) × (now ≡ held) × (faults_now ≡ faults)
IsSaid stop held now faults faults_now status =
    ((status ≡ status_of stop) × Appends held now (stop_line stop) × (faults_now ≡ faults))
    ⊎ ((status ≡ 6) × AppendsPrefix held now (stop_line stop) × Rose faults faults_now)

-- how the program ends where the report has this result
abbrev pub EndsSo : Result (Unit {0}) Stop → Option (List ℕ) → Option (List ℕ) → ℕ → ℕ → ℕ → Type 0
EndsSo (Ok done) held now faults faults_now status =
    (status ≡ 0) × (now ≡ held) × (faults_now ≡ faults)
EndsSo (Err stop) held now faults faults_now status = IsSaid stop held now faults faults_now status

-- How the program ends: there was a report with this result, after which the sink held `middle` and
-- had counted `faults`; and then it ended so.
pub record IsEnded (all left held held_now : Option (List ℕ))
    (read read_now written written_now status : ℕ) : Type 0 where
  pub result : Result (Unit {0}) Stop
  pub middle : Option (List ℕ)
  pub faults : ℕ
  pub report : IfSome all (λ bytes. IsReport due_in bytes left held middle result)
  pub counted : AreCounted read read_now written faults result
  pub ended : EndsSo result middle held_now faults written_now status
