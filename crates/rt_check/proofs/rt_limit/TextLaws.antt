-- The lines for some rates, and one more.
use Rattle.std.proofs.Common.{ℕ, ◌+◌, ◌≡◌, ◌<◌, List, [], ◌∷◌, ◌++◌, length, take, get_or, decimal, ap, sym, ◌∙◌, refl, subst, append_assoc, append-nil, add-one}
use Rattle.std.proofs.Math.Seq.{take-suc}
use Rattle.block_store.specs.declared.Config.{Config}
use Rattle.rt_check.specs.rt_limit.NeedTexts.{IsRow, AreRows}

-- the last of some rates, or where there is none the one before them
abbrev pub last_of : ℕ → List ℕ → ℕ
last_of before [] = before
last_of before (rate ∷ more) = last_of rate more

pub last_more : (before : ℕ) (ps : List ℕ) (p : ℕ) → last_of before (ps ++ p ∷ []) ≡ p
last_more before [] p = refl
last_more before (q ∷ ps) p = last_more q ps p

pub rows_more : (c : Config) (live before : ℕ) (ps : List ℕ) (p : ℕ) (text row : List ℕ)
    → AreRows c live before ps text → IsRow c live (last_of before ps) p row
    → AreRows c live before (ps ++ p ∷ []) (text ++ row)
rows_more c live before [] p text row none is =
    (row, [], ap (λ (t : List ℕ). t ++ row) none ∙ sym (append-nil row), is, refl)
rows_more c live before (q ∷ ps) p text row rows is = (
  rows.0,
  rows.1 ++ row,
  ap (λ (t : List ℕ). t ++ row) rows.2 ∙ append_assoc rows.0 rows.1 row,
  rows.3,
  rows_more c live q ps p rows.1 row rows.4 is,
)

-- what was added for these rates
abbrev pub HasRows : Config → ℕ → List ℕ → List ℕ → List ℕ → Type 0
HasRows c live ps old new =
    (rows : List ℕ) × AreRows c live 0 ps rows × (new ≡ old ++ rows)

pub one_rate_more : (all : List ℕ) (i : ℕ) → i < length all
    → take (i + 1) all ≡ take i all ++ get_or all i 0 ∷ []
one_rate_more all i low = ap (λ (n : ℕ). take n all) (add-one i) ∙ take-suc all i 0 low

pub last_at : (all : List ℕ) (i : ℕ) → i < length all
    → last_of 0 (take (i + 1) all) ≡ get_or all i 0
last_at all i low =
    ap (last_of 0) (one_rate_more all i low) ∙ last_more 0 (take i all) (get_or all i 0)

pub has_more : (c : Config) (live before : ℕ) (all : List ℕ) (i : ℕ) (old mid new : List ℕ)
    → i < length all → before ≡ last_of 0 (take i all) → HasRows c live (take i all) old mid
    → ((row : List ℕ) × IsRow c live before (get_or all i 0) row × (new ≡ mid ++ row))
    → HasRows c live (take (i + 1) all) old new
has_more c live before all i old mid new low is has row =
    subst (λ (ps : List ℕ). HasRows c live ps old new) (sym (one_rate_more all i low)) (
      has.0 ++ row.0,
      rows_more c live 0 (take i all) (get_or all i 0) has.0 row.0 has.1
          (subst (λ (b : ℕ). IsRow c live b (get_or all i 0) row.0) is row.1),
      row.2 ∙ ap (λ (t : List ℕ). t ++ row.0) has.2 ∙ append_assoc old has.0 row.0,
    )

-- a text that was made in four parts
pub four_parts : (none first second third whole a b c d : List ℕ)
    → first ≡ none ++ a → none ≡ [] → second ≡ first ++ b → third ≡ second ++ c
    → whole ≡ third ++ d → whole ≡ ((a ++ b) ++ c) ++ d
four_parts none first second third whole a b c d one empty two three four =
    four ∙ ap (λ (t : List ℕ). t ++ d) (three ∙ ap (λ (t : List ℕ). t ++ c)
    (two ∙ ap (λ (t : List ℕ). t ++ b) (one ∙ ap (λ (t : List ℕ). t ++ a) empty)))

-- a word and a number, made from after, in front of what was made before
pub figure : (front word : List ℕ) (n m : ℕ) (whole a b rest : List ℕ) → whole ≡ front ++ a
    → a ≡ word ++ b → b ≡ decimal n ++ rest → n ≡ m
    → whole ≡ ((front ++ word) ++ decimal m) ++ rest
figure front word n m whole a b rest whole_is a_is b_is same =
    whole_is
    ∙ ap (λ (t : List ℕ). front ++ t)
    (a_is ∙ ap (λ (t : List ℕ). word ++ t)
    (b_is ∙ ap (λ (k : ℕ). decimal k ++ rest) same))
    ∙ sym (append_assoc front word (decimal m ++ rest))
    ∙ sym (append_assoc (front ++ word) (decimal m) rest)
