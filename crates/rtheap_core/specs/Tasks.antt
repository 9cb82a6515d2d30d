-- Which words ask for which task.
use Rattle.std.specs.Prelude.{ℕ, ◌≡◌, ◌≤◌, List, [], ◌∷◌, Some, codes}
use Rattle.trace_text.specs.Reading.{number_at}
use Rattle.rtheap_core.specs.declared.schedules.Schedule.{Schedule}
use Rattle.rtheap_core.specs.declared.schedules.Schedule.TheVariants.{Robin, Serial, Key}
use Rattle.rtheap_core.specs.declared.task.Task.{Task}
use Rattle.rtheap_core.specs.declared.task.Task.TheVariants.{Run, Replay, Plan, Make, Trial}

-- the word is this number: 1 to 19 digits, with a 0 in front only in the number 0
abbrev pub IsNumber : List ℕ → ℕ → Type 0
IsNumber word n = number_at word ≡ Some n

-- and at most so large
abbrev pub IsNumberTo : ℕ → List ℕ → ℕ → Type 0
IsNumberTo most word n = IsNumber word n × (n ≤ most)

-- the most turns of a replay, and the most lines of each thread of a generated job
abbrev pub most_turns : ℕ
most_turns = 1000000000

abbrev pub most_lines : ℕ
most_lines = 131072

-- the word names the schedule
abbrev pub Names : List ℕ → Schedule → Type 0
Names word Robin = word ≡ codes "robin"
Names word Serial = word ≡ codes "serial"
Names word (Key key) = IsNumber word key

-- the words ask for the task
abbrev pub AsksFor : List (List ℕ) → Task → Type 0
AsksFor (w ∷ []) Run = w ≡ codes "run"
AsksFor (w ∷ []) Plan = w ≡ codes "plan"
AsksFor (w ∷ x ∷ y ∷ []) (Replay schedule turns) =
    (w ≡ codes "replay") × Names x schedule × IsNumberTo most_turns y turns
AsksFor (w ∷ x ∷ y ∷ []) (Make key lines) =
    (w ≡ codes "make") × IsNumber x key × IsNumberTo most_lines y lines
AsksFor (w ∷ x ∷ y ∷ []) (Trial key lines) =
    (w ≡ codes "trial") × IsNumber x key × IsNumberTo most_lines y lines
AsksFor words task = ⊥

-- the words ask for something that there is
abbrev pub Ask : List (List ℕ) → Type 0
Ask words = (task : Task) × AsksFor words task

-- the task runs a job that it reads
abbrev pub Runs : Task → Type 0
Runs Run = Unit {0}
Runs (Replay schedule turns) = Unit {0}
Runs task = ⊥

-- the task reads a job
abbrev pub Reads : Task → Type 0
Reads Plan = Unit {0}
Reads task = Runs task

-- the words ask for a run of a job that is read, or for anything of such a job
abbrev pub AskForRun : List (List ℕ) → Type 0
AskForRun words = (task : Task) × Runs task × AsksFor words task

abbrev pub AskForJob : List (List ℕ) → Type 0
AskForJob words = (task : Task) × Reads task × AsksFor words task
