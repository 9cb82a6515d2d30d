-- The lines in which the answers of threads are told.
use Rattle.std.specs.Prelude.{ℕ, ◌+◌, List, [], ◌∷◌, ◌++◌, codes, decimal}
use Rattle.std.specs.List.{flat_map}
use Rattle.trace_text.specs.Lines.{ended}

-- the line of an answer of thread t
abbrev pub answer_line : {T : Type 0} → (T → List ℕ) → ℕ → T → List ℕ
answer_line text t answer = ended (decimal t ++ codes " " ++ text answer)

-- those of the threads from thread t on
abbrev pub lines_from : {T : Type 0} → (T → List ℕ) → ℕ → List (List T) → List ℕ
lines_from text t [] = []
lines_from text t (told ∷ others) =
    flat_map (answer_line text t) told ++ lines_from text (t + 1) others
