-- Which lines of an order are good, and the first that is not.
use Rattle.std.specs.Prelude.{ℕ, ◌+◌, ◌≡◌, ◌≢◌, ◌⊎◌, List, [], ◌∷◌, ◌++◌, Option, Some, None}
use Rattle.block_store.specs.declared.Config.{Config}
use Rattle.never_heap.specs.declared.Command.{Command}
use Rattle.never_heap.specs.Coming.{left_of, MayCome}
use Rattle.never_heap.specs.Histories.{HistoryItem, starts_in}
use Rattle.trace_text.specs.OrderTexts.{item_text, end_text}

-- after these items the line is good, as this item: the item may come, and the line is its text
pub record IsGood
    (c : Config) (rate : ℕ) (traces : List (List Command)) (past : List HistoryItem)
    (line : List ℕ) (i : HistoryItem) : Type 0 where
  pub may_come : MayCome c rate traces past i
  pub text : line ≡ item_text (starts_in past) i

-- after these items the line is good as the last: no command is left, and the line has the totals
pub record IsLast
    (traces : List (List Command)) (past : List HistoryItem) (line : List ℕ) : Type 0 where
  pub begun : past ≢ []
  pub no_command : (t : ℕ) → left_of traces past t ≡ []
  pub text : line ≡ end_text past

-- after these items all lines are good, and the last of them is the line of the totals
abbrev pub AreGood : Config → ℕ → List (List Command) → List HistoryItem → List (List ℕ) → Type 0
AreGood c rate traces past [] = ⊥
AreGood c rate traces past (l ∷ ls) =
    (IsLast traces past l × (ls ≡ []))
    ⊎ ((i : HistoryItem) × IsGood c rate traces past l i
    × AreGood c rate traces (past ++ i ∷ []) ls)

-- the line is good in neither way
abbrev pub IsBad : Config → ℕ → List (List Command) → List HistoryItem → List ℕ → Type 0
IsBad c rate traces past l =
    (IsLast traces past l → ⊥) × ((i : HistoryItem) → IsGood c rate traces past l i → ⊥)

-- After these items the n-th line, counted from 1, is the first that is not good. After the line
-- of the totals none is. Where all are good and none is that line, n is one more than there are.
abbrev pub FirstBad :
    Config → ℕ → List (List Command) → List HistoryItem → List (List ℕ) → ℕ → Type 0
FirstBad c rate traces past [] n = n ≡ 1
FirstBad c rate traces past (l ∷ ls) n =
    ((n ≡ 1) × IsBad c rate traces past l)
    ⊎ (((n ≡ 2) × IsLast traces past l × (ls ≢ []))
    ⊎ ((m : ℕ) × (n ≡ m + 1) × ((i : HistoryItem) × IsGood c rate traces past l i
    × FirstBad c rate traces (past ++ i ∷ []) ls m)))

-- the first line that is not good, or none where the lines are good to the end
abbrev pub IsFound : Config → ℕ → List (List Command) → List (List ℕ) → Option ℕ → Type 0
IsFound c rate traces lines None = AreGood c rate traces [] lines
IsFound c rate traces lines (Some n) = FirstBad c rate traces [] lines n
