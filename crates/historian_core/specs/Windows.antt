-- What is written for the last readings.
use Rattle.std.specs.Prelude.{ℕ, ◌+◌, ◌-◌, ◌/◌, ◌^◌, ◌==◌, ◌||◌, ◌++◌, codes, decimal, nat_lt, min, max, Bool, if◌then◌else◌, List, [], ◌∷◌, length}
use Rattle.trace_text.specs.Lines.{ended}
use Rattle.heap_structures.specs.Circles.{last_of}
use Rattle.historian_core.specs.declared.Limits.{Limits}
use Rattle.historian_core.specs.declared.Figures.{Figures}

-- a reading is outside the limits
abbrev pub is_alarm : Limits → ℕ → Bool
is_alarm l v = nat_lt v l.low || nat_lt l.high v

abbrev pub mark : Limits → ℕ → ℕ
mark l v = if is_alarm l v then 1 else 0

-- the last 40 of some readings, or all of fewer
abbrev pub last_ones : List ℕ → List ℕ
last_ones xs = last_of 40 xs

-- the least of some readings; for none the greatest possible
abbrev pub least_in : List ℕ → ℕ
least_in [] = 2 ^ 32 - 1
least_in (x ∷ xs) = min x (least_in xs)

abbrev pub greatest_in : List ℕ → ℕ
greatest_in [] = 0
greatest_in (x ∷ xs) = max x (greatest_in xs)

abbrev pub total_in : List ℕ → ℕ
total_in [] = 0
total_in (x ∷ xs) = x + total_in xs

-- how many of them are outside the limits
abbrev pub alarms_in : Limits → List ℕ → ℕ
alarms_in l [] = 0
alarms_in l (x ∷ xs) = mark l x + alarms_in l xs

abbrev pub figures_of : Limits → List ℕ → Figures
figures_of l xs = record {
  least = least_in xs;
  greatest = greatest_in xs;
  total = total_in xs;
  count = length xs;
  alarms = alarms_in l xs;
}

-- the mean of figures, rounded down; 0 for no reading
abbrev pub mean_of : Figures → ℕ
mean_of f = if f.count == 0 then 0 else f.total / f.count

abbrev pub figures_line : Figures → List ℕ
figures_line f = ended (
    codes "least " ++ decimal f.least ++ codes " greatest " ++ decimal f.greatest
    ++ codes " mean " ++ decimal (mean_of f) ++ codes " alarms " ++ decimal f.alarms)

-- the line after these readings
abbrev pub told_line : Limits → List ℕ → List ℕ
told_line l xs = figures_line (figures_of l (last_ones xs))

-- the lines after each of some readings, which follow others
abbrev pub told_lines : Limits → List ℕ → List ℕ → List ℕ
told_lines l past [] = []
told_lines l past (x ∷ xs) = told_line l (past ++ x ∷ []) ++ told_lines l (past ++ x ∷ []) xs
