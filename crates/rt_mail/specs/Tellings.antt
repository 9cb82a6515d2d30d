-- The lines in which it is told what came.
use Rattle.std.specs.Prelude.{ℕ, zero, suc, ◌+◌, List, [], ◌∷◌, ◌++◌, length, codes, decimal}
use Rattle.std.specs.List.{flat_map}
use Rattle.trace_text.specs.Lines.{ended}

abbrev pub number_text : ℕ → List ℕ
number_text v = codes " " ++ decimal v

-- the last of k numbers
abbrev pub last_text : ℕ → List ℕ → List ℕ
last_text zero last = []
last_text (suc k) last = codes " last" ++ flat_map number_text last

-- how many numbers came of thread t, and the last of them
abbrev pub mail_line : ℕ → ℕ → List ℕ → List ℕ
mail_line t k last = ended (decimal t ++ codes " got " ++ decimal k ++ last_text k last)

-- the lines of the threads from thread t on, by what was taken of each and what it recalled
abbrev pub lines_from : ℕ → List (List ℕ) → List (List ℕ) → List ℕ
lines_from t taken [] = []
lines_from t [] (last ∷ others) = []
lines_from t (vs ∷ taken) (last ∷ others) =
    mail_line t (length vs) last ++ lines_from (t + 1) taken others
