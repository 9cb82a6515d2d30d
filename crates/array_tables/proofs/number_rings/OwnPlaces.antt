-- The places of a ring are its thread's own: the thread's answers are those it would get alone.
use Rattle.std.proofs.Common.{◌≡◌, ◌≢◌, ℕ, ◌+◌, ◌*◌, ◌<◌, ◌≤◌, inl, inr, Some, None, List, [], ◌∷◌, length, map, get_or, set, eq-eqb, ne_eqb, sym, refl, ◌∙◌, subst, arith}
use Rattle.std.specs.List.{AllByRecursion}
use Rattle.std.proofs.lemmas.Bool.{cases_eq}
use Rattle.std.proofs.lemmas.Grind.{common_steps}
use Rattle.std.proofs.lemmas.List.{get_or-set_other, length-set}
use Rattle.array_tables.specs.operations.Linearizations.{Call, calls_of, AreAnswered}
use Rattle.array_tables.specs.number_rings.Rings.{Operation, Keep, Recall, Cell, place_of, answer, cells_after}

-- a place of thread t's ring
pub record IsOwnPlace (t i : ℕ) : Type 0 where
  pub at : ℕ
  pub low : at < 8
  pub is : i ≡ 8 * t + at

abbrev pub IsOwn : ℕ → Operation → Type 0
IsOwn t op = IsOwnPlace t (place_of op)

-- what operations answer, one after the other, from these cells on
abbrev pub alone : List Operation → List Cell → List Cell
alone [] cells = []
alone (op ∷ ops) cells = answer op cells ∷ alone ops (cells_after op cells)

-- two arrays have the same in thread t's ring, and have that ring
pub record Agree (t : ℕ) (xs ys : List Cell) : Type 0 where
  pub room : 8 * t + 8 ≤ length xs
  pub long : length ys ≡ length xs
  pub same : (i : ℕ) → IsOwnPlace t i → get_or xs i None ≡ get_or ys i None

abbrev Calls : Type 0
Calls = List (Call Operation Cell)

abbrev ops_of : Calls → List Operation
ops_of order = map (λ (d : Call Operation Cell). d.operation) order

abbrev IsCallOwn : Call Operation Cell → Type 0
IsCallOwn d = IsOwn d.thread d.operation

-- ---- one operation

answers_agree : (t : ℕ) (xs ys : List Cell) (op : Operation) → Agree t xs ys → IsOwn t op
    → answer op xs ≡ answer op ys
answers_agree t xs ys (Keep i v) a own = refl
answers_agree t xs ys (Recall i) a own = a.same i own

same_set : (xs ys : List Cell) (i p : ℕ) (c : Cell) → p < length xs → length ys ≡ length xs
    → get_or xs p None ≡ get_or ys p None → get_or (set xs i c) p None ≡ get_or (set ys i c) p None
same_set xs ys i p c low long is = grind (arith, common_steps)

-- the thread's own
agree_own : (t : ℕ) (xs ys : List Cell) (op : Operation) → Agree t xs ys → IsOwn t op
    → Agree t (cells_after op xs) (cells_after op ys)
agree_own t xs ys (Recall i) a own = a
agree_own t xs ys (Keep i v) a own = record {
  room = omega (arith, a.room, length-set xs i (Some v));
  long = length-set ys i (Some v) ∙ a.long ∙ sym (length-set xs i (Some v));
  same = λ p at.
      same_set xs ys i p (Some v) (omega (arith, a.room, at.is, at.low)) a.long (a.same p at);
}

-- another's place is none of thread t's
apart : (t u i p : ℕ) → u ≢ t → IsOwnPlace u i → IsOwnPlace t p → p ≢ i
apart t u i p ne other own same = ne (omega (arith, same, other.is, own.is, other.low, own.low))

-- another thread's
agree_other : (t u : ℕ) (xs ys : List Cell) (op : Operation) → u ≢ t → Agree t xs ys
    → IsOwn u op → Agree t (cells_after op xs) ys
agree_other t u xs ys (Recall i) ne a own = a
agree_other t u xs ys (Keep i v) ne a own = record {
  room = omega (arith, a.room, length-set xs i (Some v));
  long = a.long ∙ sym (length-set xs i (Some v));
  same = λ p at.
      get_or-set_other xs i p (Some v) None (apart t u i p ne own at) ∙ a.same p at;
}

-- ---- all of them

abbrev answers_in : Calls → List Cell
answers_in order = map (λ (d : Call Operation Cell). d.answer) order

pub answers_alone : (t : ℕ) (order : Calls) (xs ys : List Cell)
    → AreAnswered answer cells_after xs order → AllByRecursion IsCallOwn order → Agree t xs ys
    → answers_in (calls_of t order) ≡ alone (ops_of (calls_of t order)) ys
answers_alone t [] xs ys answered own a = refl
answers_alone t (d ∷ ds) xs ys answered own a = elim (cases_eq d.thread t) [
  | inl e ↦ (
      let mine : IsOwn t d.operation = subst (λ (u : ℕ). IsOwn u d.operation) e own.0 in
      let first : d.answer ≡ answer d.operation ys =
      answered.0 ∙ answers_agree t xs ys d.operation a mine in
      let rest = answers_alone t ds (cells_after d.operation xs) (cells_after d.operation ys)
      answered.1 own.1 (agree_own t xs ys d.operation a mine) in
      rw (eq-eqb d.thread t e) (λ i. first i ∷ rest i)
      )
  | inr ne ↦ rw (ne_eqb d.thread t ne) (answers_alone t ds (cells_after d.operation xs) ys
      answered.1 own.1 (agree_other t d.thread xs ys d.operation ne a own.0))
]
