-- Which lines of an order are taken, whatever the rate and the limits of the heap that told it.
use Rattle.std.specs.Prelude.{ℕ, ◌+◌, ◌^◌, ◌<◌, ◌≤◌, ◌≡◌, ◌≢◌, ◌⊎◌, List, [], ◌∷◌, ◌++◌}
use Rattle.block_store.specs.declared.Config.{Config}
use Rattle.never_heap.specs.declared.Command.{Command}
use Rattle.never_heap.specs.Coming.{left_of, IsNoFull}
use Rattle.never_heap.specs.Histories.{HistoryItem}
use Rattle.trace_text.specs.RunTexts.{totals_text}
use Rattle.rt_check.specs.declared.moves.Move.{Move}
use Rattle.exit_statuses.specs.declared.refusal.Refusal.{Refusal}
use Rattle.exit_statuses.specs.declared.refusal.Refusal.TheVariants as refusals
use Rattle.rt_check.specs.Good.{IsGood}
use Rattle.rt_check.specs.Moves.{moves_in}

-- After these items the line is taken, as this item: it is good at some rate, and no `full`. So it
-- is the start of the next cycle, or a thread's next command with the reply of the heap that never
-- frees. No heap has a greater rate.
pub record IsTaken
    (c : Config) (traces : List (List Command)) (past : List HistoryItem)
    (line : List ℕ) (i : HistoryItem) : Type 0 where
  pub rate : ℕ
  pub low : rate ≤ 131070
  pub good : IsGood c rate traces past line i
  pub no_full : IsNoFull i

-- a line of totals, whatever they are
pub record TellsTotals (line : List ℕ) : Type 0 where
  pub cycles : ℕ
  pub units : ℕ
  pub few_cycles : cycles < 10 ^ 19
  pub few_units : units < 10 ^ 19
  pub text : line ≡ totals_text cycles units

-- after these items the line is taken as the last: no command is left, and it tells totals
pub record IsEnd (traces : List (List Command)) (past : List HistoryItem) (line : List ℕ)
    : Type 0 where
  pub begun : past ≢ []
  pub no_command : (t : ℕ) → left_of traces past t ≡ []
  pub totals : TellsTotals line

-- after these items all lines are taken, and the last of them tells totals; this is the history
abbrev pub AreTaken : Config → List (List Command) → List HistoryItem → List (List ℕ)
    → List HistoryItem → Type 0
AreTaken c traces past [] h = ⊥
AreTaken c traces past (l ∷ ls) h =
    (IsEnd traces past l × (ls ≡ []) × (h ≡ past))
    ⊎ ((i : HistoryItem) × IsTaken c traces past l i × AreTaken c traces (past ++ i ∷ []) ls h)

-- the line is taken in neither way
abbrev pub IsLeft : Config → List (List Command) → List HistoryItem → List ℕ → Type 0
IsLeft c traces past l =
    (IsEnd traces past l → ⊥) × ((i : HistoryItem) → IsTaken c traces past l i → ⊥)

-- After these items the n-th line, counted from 1, is the first that is not taken. After the line
-- of the totals none is. Where all are taken and none is that line, n is one more than there are.
abbrev pub FirstLeft :
    Config → List (List Command) → List HistoryItem → List (List ℕ) → ℕ → Type 0
FirstLeft c traces past [] n = n ≡ 1
FirstLeft c traces past (l ∷ ls) n =
    ((n ≡ 1) × IsLeft c traces past l)
    ⊎ (((n ≡ 2) × IsEnd traces past l × (ls ≢ []))
    ⊎ ((m : ℕ) × (n ≡ m + 1) × ((i : HistoryItem) × IsTaken c traces past l i
    × FirstLeft c traces (past ++ i ∷ []) ls m)))

-- all lines are taken, and these are the commands of their history
abbrev pub AreMoves : Config → List (List Command) → List (List ℕ) → List Move → Type 0
AreMoves c traces lines ms =
    (h : List HistoryItem) × AreTaken c traces [] lines h × (ms ≡ moves_in h)

-- some line is the first that is not taken, or memory ran out
abbrev pub IsLeftAt : Config → List (List Command) → List (List ℕ) → Refusal → Type 0
IsLeftAt c traces lines r =
    ((n : ℕ) × (r ≡ refusals.BadOrder n) × FirstLeft c traces [] lines n)
    ⊎ (r ≡ refusals.OutOfMemory)
