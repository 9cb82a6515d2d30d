-- The numbers that replies tell row by row are those that they tell recall by recall.
use Rattle.std.proofs.Common.{◌≡◌, ℕ, zero, suc, ◌+◌, ◌*◌, ◌≤◌, None, List, [], ◌∷◌, ◌++◌, length, drop, refl, sym, ap, ◌∙◌, arith}
use Rattle.std.specs.Prelude.{flat_map}
use Rattle.std.proofs.lemmas.List.{length-drop}
use Rattle.never_heap.specs.declared.Reply.{Reply}
use Rattle.array_tables.specs.operations.Linearizations.{answers_told}
use Rattle.array_tables.specs.number_rings.Rings.{Operation, Keep, Recall, Cell, keeps, recalls, rows_of, ends, number_of, with_number, numbers_told, recalled, script_of, lost_of, left_of}

-- the answers of operations, four replies to a keep and two to a recall
abbrev pub answers_of : List Operation → List Reply → List Cell
answers_of [] rs = []
answers_of (Keep i v ∷ ops) (a ∷ b ∷ c ∷ d ∷ rs) = None ∷ answers_of ops rs
answers_of (Recall i ∷ ops) (a ∷ b ∷ rs) = number_of b ∷ answers_of ops rs
answers_of (_ ∷ ops) rs = []

-- the numbers among answers
abbrev pub numbers_in : List Cell → List ℕ
numbers_in [] = []
numbers_in (c ∷ cs) = with_number c (numbers_in cs)

pub by_chunks : (ops : List Operation) (rs : List Reply)
    → length (flat_map rows_of ops) ≤ length rs
    → answers_told ends [] (flat_map rows_of ops) rs ≡ answers_of ops rs
by_chunks [] rs enough = refl
by_chunks (Recall i ∷ ops) (a ∷ b ∷ rs) enough =
    ap (λ l. number_of b ∷ l) (by_chunks ops rs (omega arith))
by_chunks (Keep i v ∷ ops) (a ∷ b ∷ c ∷ d ∷ rs) enough =
    ap (λ l. None ∷ l) (by_chunks ops rs (omega arith))
by_chunks (op ∷ ops) rs enough = absurd (omega arith)

four_more : (k : ℕ) → 4 * suc k ≡ suc (suc (suc (suc (4 * k))))
four_more k = omega arith

-- keeps tell no numbers
keeps_tell : (t j : ℕ) (vs : List ℕ) (ops : List Operation) (rs : List Reply)
    → 4 * length vs ≤ length rs
    → numbers_in (answers_of (keeps t j vs ++ ops) rs)
    ≡ numbers_in (answers_of ops (drop (4 * length vs) rs))
keeps_tell t j [] ops rs enough = refl
keeps_tell t j (v ∷ vs) ops (a ∷ b ∷ c ∷ d ∷ rs) enough =
    keeps_tell t (j + 1) vs ops rs (omega (arith, four_more (length vs)))
    ∙ ap (λ (n : ℕ). numbers_in (answers_of ops (drop n (a ∷ b ∷ c ∷ d ∷ rs))))
    (sym (four_more (length vs)))
keeps_tell t j (v ∷ vs) ops rs enough = absurd (omega arith)

-- recalls tell what is read two by two
recalls_tell : (t j n : ℕ) (rs : List Reply) → length rs ≡ 2 * n
    → numbers_in (answers_of (recalls t j n) rs) ≡ numbers_told rs
recalls_tell t j zero [] long = refl
recalls_tell t j (suc n) (a ∷ b ∷ rs) long =
    ap (λ (ns : List ℕ). with_number (number_of b) ns)
    (recalls_tell t (j + 1) n rs (omega (arith, long)))
recalls_tell t j n rs long = absurd (omega arith)

keeps_long : (t j : ℕ) (vs : List ℕ) (ops : List Operation)
    → length (flat_map rows_of (keeps t j vs ++ ops))
    ≡ 4 * length vs + length (flat_map rows_of ops)
keeps_long t j [] ops = omega arith
keeps_long t j (v ∷ vs) ops = omega (arith, keeps_long t (j + 1) vs ops)

recalls_long : (t j n : ℕ) → length (flat_map rows_of (recalls t j n)) ≡ 2 * n
recalls_long t j zero = omega arith
recalls_long t j (suc n) = omega (arith, recalls_long t (j + 1) n)

pub rows_long : (t : ℕ) (vs : List ℕ)
    → length (flat_map rows_of (script_of t vs)) ≡ 4 * length vs + 2 * left_of (length vs)
rows_long t vs =
    keeps_long t 0 vs (recalls t (lost_of (length vs)) (left_of (length vs)))
    ∙ ap (λ (n : ℕ). 4 * length vs + n)
    (recalls_long t (lost_of (length vs)) (left_of (length vs)))

-- a script's answers are what its recalls are told
pub script_tells : (t : ℕ) (vs : List ℕ) (rs : List Reply)
    → length rs ≡ length (flat_map rows_of (script_of t vs))
    → numbers_in (answers_of (script_of t vs) rs) ≡ recalled (length vs) rs
script_tells t vs rs long =
    let size = rows_long t vs in
    keeps_tell t 0 vs (recalls t (lost_of (length vs)) (left_of (length vs))) rs (omega arith)
    ∙ recalls_tell t (lost_of (length vs)) (left_of (length vs)) (drop (4 * length vs) rs)
    (omega (arith, length-drop (4 * length vs) rs))
