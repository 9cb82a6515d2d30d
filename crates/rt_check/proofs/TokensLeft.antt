-- What is left of the tokens of a line, and the numbers in it.
use Rattle.std.proofs.Common.{◌≡◌, ℕ, zero, suc, ◌+◌, ◌^◌, ◌<◌, ◌≤◌, eqb, false, List, [], ◌∷◌, ◌++◌, drop, codes, decimal, Some, None, sym, refl, ap, ◌∙◌, arith, add-one, append_assoc}
use Rattle.std.specs.List.{AllByRecursion}
use Rattle.std.specs.Str.Parse.{AllDigits}
use Rattle.std.proofs.lemmas.Bool.Decides.{nat_tests}
use Rattle.std.proofs.lemmas.Fmt.{decimal_is_IsNumeral_wide}
use Rattle.std.proofs.lemmas.Str.Parse.{digit_from_value}
use Rattle.block_store.specs.declared.Name.{Name}
use Rattle.trace_text.specs.Lines.{tokens_of, onto_first}
use Rattle.trace_text.specs.Reading.{number_at}
use Rattle.trace_text.specs.RunTexts.{name_text, reply_text, totals_text}
use Rattle.trace_text.proofs.NumberLaws.{number_complete}
use Rattle.never_heap.specs.declared.Reply.TheVariants.{New}
use Rattle.rt_check.specs.Taking.{first_number, number_behind}

-- ---- passing tokens

pub drop_suc : (n : ℕ) (xs : List (List ℕ)) (first : List ℕ) (others : List (List ℕ))
    → drop n xs ≡ first ∷ others → drop (suc n) xs ≡ others
drop_suc zero [] first others e = absurd cc
drop_suc zero (x ∷ xs) first others e = let f : xs ≡ others = cc in f
drop_suc (suc n) [] first others e = absurd cc
drop_suc (suc n) (x ∷ xs) first others e = drop_suc n xs first others e

drop_none : (n : ℕ) → drop {A = List ℕ} n [] ≡ []
drop_none zero = refl
drop_none (suc n) = refl

drop_past : (m n : ℕ) (xs : List (List ℕ)) → drop m xs ≡ [] → m ≤ n → drop n xs ≡ []
drop_past zero n [] e l = drop_none n
drop_past zero n (x ∷ xs) e l = absurd cc
drop_past (suc m) n [] e l = drop_none n
drop_past (suc m) zero (x ∷ xs) e l = absurd (omega arith)
drop_past (suc m) (suc n) (x ∷ xs) e l = drop_past m n xs e (omega arith)

module _ (tokens : List (List ℕ)) (passed : ℕ) (rest first : List ℕ) (others : List (List ℕ))
    (left : tokens_of rest ≡ drop passed tokens) (has : tokens_of rest ≡ first ∷ others) where
  pub passed_more : others ≡ drop (passed + 1) tokens
  passed_more = sym (ap (λ (n : ℕ). drop n tokens) (add-one passed)
      ∙ drop_suc passed tokens first others (sym left ∙ has))

  -- after the last token there is no number
  pub passed_all : (before : ℕ) → passed < before → others ≡ [] → number_behind before tokens ≡ None
  passed_all before low none =
      ap first_number (drop_past (passed + 1) before tokens (sym passed_more ∙ none) (omega arith))

  pub passed_here : number_behind passed tokens ≡ number_at first
  passed_here = ap first_number (sym left ∙ has)

-- ---- tokens with no space

abbrev NoSpace : List ℕ → Type 0
NoSpace bs = AllByRecursion (λ (b : ℕ). eqb b 32 ≡ false) bs

digits_no_space : (ds : List ℕ) → AllDigits 10 ds → NoSpace ds
digits_no_space [] all = tt
digits_no_space (d ∷ ds) all =
    let range = digit_from_value d all.0 in
    let none : eqb d 32 ≡ false = grind (arith, nat_tests) in
    (none, digits_no_space ds all.1)

no_space_append : (xs ys : List ℕ) → NoSpace xs → NoSpace ys → NoSpace (xs ++ ys)
no_space_append [] ys a b = b
no_space_append (x ∷ xs) ys a b = (a.0, no_space_append xs ys a.1 b)

token_then : (bs r : List ℕ) → NoSpace bs → tokens_of (bs ++ 32 ∷ r) ≡ bs ∷ tokens_of r
token_then [] r all = refl
token_then (b ∷ bs) r all = rw (all.0) (ap (onto_first b) (token_then bs r all.1))

token_last : (bs : List ℕ) → NoSpace bs → tokens_of bs ≡ bs ∷ []
token_last [] all = refl
token_last (b ∷ bs) all = rw (all.0) (ap (onto_first b) (token_last bs all.1))

numeral_no_space : (n : ℕ) → n < 10 ^ 64 → NoSpace (decimal n)
numeral_no_space n low = digits_no_space (decimal n) (decimal_is_IsNumeral_wide n low).0.1

-- ---- the numbers of the totals, and of the line of an allocation

last_number : (n : ℕ) → n < 10 ^ 19 → first_number (tokens_of (decimal n)) ≡ Some n
last_number n low =
    ap first_number (token_last (decimal n) (numeral_no_space n (omega arith)))
    ∙ number_complete n low

module _ (cycles units : ℕ) (few_cycles : cycles < 10 ^ 19) (few_units : units < 10 ^ 19) where
  parts : totals_text cycles units
      ≡ codes "end cycles " ++ (decimal cycles ++ (codes " work " ++ decimal units))
  parts = append_assoc (codes "end cycles " ++ decimal cycles) (codes " work ") (decimal units)
      ∙ append_assoc (codes "end cycles ") (decimal cycles) (codes " work " ++ decimal units)

  front : tokens_of (decimal cycles ++ (codes " work " ++ decimal units))
      ≡ decimal cycles ∷ tokens_of (codes "work " ++ decimal units)
  front = token_then (decimal cycles) (codes "work " ++ decimal units)
      (numeral_no_space cycles (omega arith))

  pub totals_cycles : number_behind 2 (tokens_of (totals_text cycles units)) ≡ Some cycles
  totals_cycles =
      ap (λ (l : List ℕ). number_behind 2 (tokens_of l)) parts
      ∙ ap first_number front ∙ number_complete cycles few_cycles

  pub totals_units : number_behind 4 (tokens_of (totals_text cycles units)) ≡ Some units
  totals_units =
      ap (λ (l : List ℕ). number_behind 4 (tokens_of l)) parts
      ∙ ap (λ (ts : List (List ℕ)). first_number (drop 2 ts)) front
      ∙ last_number units few_units

pub made_units : (thread : ℕ) (name : Name) (units : ℕ) → thread < 10 ^ 64
    → name.thread < 10 ^ 64 → name.serial < 10 ^ 64 → units < 10 ^ 19
    → number_behind 4 (tokens_of (decimal thread ++ (32 ∷ reply_text (New name) units)))
    ≡ Some units
made_units thread name units few own serial low =
    let spaceless : NoSpace (name_text name) =
    no_space_append (decimal name.thread ++ codes ".") (decimal name.serial)
    (no_space_append (decimal name.thread) (codes ".") (numeral_no_space name.thread own) (refl, tt))
    (numeral_no_space name.serial serial) in
    let reply : reply_text (New name) units
    ≡ codes "new " ++ (name_text name ++ (codes " work " ++ decimal units)) =
    append_assoc (codes "new " ++ name_text name) (codes " work ") (decimal units)
    ∙ append_assoc (codes "new ") (name_text name) (codes " work " ++ decimal units) in
    let first : tokens_of (decimal thread ++ (32 ∷ reply_text (New name) units))
    ≡ decimal thread ∷ tokens_of (reply_text (New name) units) =
    token_then (decimal thread) (reply_text (New name) units) (numeral_no_space thread few) in
    ap (λ (ts : List (List ℕ)). first_number (drop 4 ts)) first
    ∙ ap (λ (l : List ℕ). first_number (drop 3 (tokens_of l))) reply
    ∙ ap (λ (ts : List (List ℕ)). first_number (drop 2 ts))
    (token_then (name_text name) (codes "work " ++ decimal units) spaceless)
    ∙ last_number units low
