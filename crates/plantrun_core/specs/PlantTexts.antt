-- What is printed of a plant.
use Rattle.std.specs.List.{flat_map}
use Rattle.std.specs.Prelude.{ℕ, ◌≡◌, ◌==◌, if◌then◌else◌, ◌⊎◌, Option, List, [], ◌∷◌, ◌++◌, codes, decimal, Some, None}
use Rattle.trace_text.specs.Lines.{ended}
use Rattle.trace_text.specs.Streams.{Appends, AppendsPrefix}
use Rattle.array_tables.specs.tag_table.Tables.{Tag}
use Rattle.array_tables.specs.declared.tag_table.operation.Operation.{Operation}
use Rattle.array_tables.specs.declared.tag_table.operation.Operation.TheVariants.{Write, Clear, Read}
use Rattle.plantrun_core.specs.declared.calls.Step.{Step}
use Rattle.plantrun_core.specs.declared.telling.Figures.{Figures}
use Rattle.plantrun_core.specs.declared.telling.Cycles.{Cycles}

-- what a thread is called
abbrev pub thread_text : ℕ → List ℕ
thread_text t =
    if t == 0 then codes "input"
    else if t == 1 then codes "control"
    else if t == 2 then codes "alarms"
    else codes "history"

abbrev pub tag_text : Tag → List ℕ
tag_text None = codes "none"
tag_text (Some (v, w)) = decimal v ++ codes " " ++ decimal w

abbrev pub operation_text : Operation → List ℕ
operation_text (Write i v w) =
    codes "write " ++ decimal i ++ codes " " ++ decimal v ++ codes " " ++ decimal w
operation_text (Clear i) = codes "clear " ++ decimal i
operation_text (Read i) = codes "read " ++ decimal i

-- an operation and what its tag was before
abbrev pub step_line : Step → List ℕ
step_line s = ended
    (thread_text s.thread ++ codes " " ++ operation_text s.done.operation ++ codes " was "
    ++ tag_text s.done.answer)

abbrev pub figures_line : Figures → List ℕ
figures_line f = ended
    (thread_text f.thread ++ codes " ticks " ++ decimal f.ticks ++ codes " late " ++ decimal f.late
    ++ codes " longest " ++ decimal f.longest)

abbrev pub cycles_line : Cycles → List ℕ
cycles_line c = ended (codes "end cycles " ++ decimal c.count)

abbrev pub parts_text : List Step → List Figures → List Cycles → List ℕ
parts_text order figures cycles =
    (flat_map step_line order ++ flat_map figures_line figures) ++ flat_map cycles_line cycles

-- all that is printed: the operations in the order, the figures of the threads, and the cycles
abbrev pub plant_text : List Step → List Figures → ℕ → List ℕ
plant_text order figures cycles = parts_text order figures (record { count = cycles } ∷ [])

-- all of the text was written, with status 0, or a prefix of it, with 6
abbrev pub IsTold : Option (List ℕ) → Option (List ℕ) → List ℕ → ℕ → Type 0
IsTold old new text status =
    ((status ≡ 0) × Appends old new text) ⊎ ((status ≡ 6) × AppendsPrefix old new text)
