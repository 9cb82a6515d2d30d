-- What a thread has made, with one deed more.
use Rattle.std.proofs.Common.{◌≡◌, ℕ, ◌+◌, ◌<◌, ◌≤◌, inl, inr, cond, Option, Some, None, List, [], ◌∷◌, ◌++◌, length, eq-eqb, ne_eqb, sym, refl, ap, ◌∙◌, subst, arith}
use Rattle.std.proofs.lemmas.Bool.{cases_eq}
use Rattle.array_tables.specs.handle_table.Handles.{Deed, Make, See, Drop, Take, Evict, last_after, AreNumbered}
use Rattle.live_tables.specs.handles.Live.{CanFollow, commands_of}
use Rattle.live_tables.specs.handles.Makes.{last_behind, made_behind, last_by, slot_after, slot_by, slots_behind}

pub made_more : (n : ℕ) (ops : List Deed) (op : Deed)
    → made_behind n (ops ++ op ∷ []) ≡ made_behind (made_behind n ops) (op ∷ [])
made_more n [] op = refl
made_more n (Make t j h i x ∷ ops) op = made_more (n + 1) ops op
made_more n (See t j h i ∷ ops) op = made_more n ops op
made_more n (Drop t j h i ∷ ops) op = made_more n ops op
made_more n (Take i ∷ ops) op = made_more n ops op
made_more n (Evict i ∷ ops) op = made_more n ops op

pub slots_more : (slot : ℕ → Option ℕ) (ops : List Deed) (op : Deed)
    → slots_behind slot (ops ++ op ∷ []) ≡ slots_behind (slots_behind slot ops) (op ∷ [])
slots_more slot [] op = refl
slots_more slot (Make t j h i x ∷ ops) op = slots_more (slot_after slot h i) ops op
slots_more slot (See t j h i ∷ ops) op = slots_more slot ops op
slots_more slot (Drop t j h i ∷ ops) op = slots_more slot ops op
slots_more slot (Take i ∷ ops) op = slots_more slot ops op
slots_more slot (Evict i ∷ ops) op = slots_more slot ops op

-- each make has a command
pub made_few : (n : ℕ) (ops : List Deed) → made_behind n ops ≤ n + length (commands_of ops)
made_few n [] = omega arith
made_few n (Make t j h i x ∷ ops) = omega (arith, made_few (n + 1) ops)
made_few n (See t j h i ∷ ops) = omega (arith, made_few n ops)
made_few n (Drop t j h i ∷ ops) = omega (arith, made_few n ops)
made_few n (Take i ∷ ops) = omega (arith, made_few n ops)
made_few n (Evict i ∷ ops) = omega (arith, made_few n ops)

-- a deed that can follow keeps the numbers
pub numbered_more : (slots t n : ℕ) (last : ℕ → ℕ) (ops : List Deed) (op : Deed)
    → AreNumbered slots t n last ops
    → CanFollow slots t (made_behind n ops) (last_behind n last ops) op
    → AreNumbered slots t n last (ops ++ op ∷ [])
numbered_more s t n last [] (Make u j h i x) all one = ((one.0, one.1, one.2, one.3), tt)
numbered_more s t n last [] (See u j h i) all one = (one, tt)
numbered_more s t n last [] (Drop u j h i) all one = (one, tt)
numbered_more s t n last [] (Take i) all one = (one, tt)
numbered_more s t n last [] (Evict i) all one = (one, tt)
numbered_more s t n last (Make u j h i x ∷ ops) op all one =
    (all.0, numbered_more s t (n + 1) (last_after last h (n + 1)) ops op all.1 one)
numbered_more s t n last (See u j h i ∷ ops) op all one =
    (all.0, numbered_more s t n last ops op all.1 one)
numbered_more s t n last (Drop u j h i ∷ ops) op all one =
    (all.0, numbered_more s t n last ops op all.1 one)
numbered_more s t n last (Take i ∷ ops) op all one =
    (all.0, numbered_more s t n last ops op all.1 one)
numbered_more s t n last (Evict i ∷ ops) op all one =
    (all.0, numbered_more s t n last ops op all.1 one)

-- an h whose slot is known was made, and its slot is one of these
abbrev pub AreKnown : ℕ → (ℕ → Option ℕ) → (ℕ → ℕ) → Type 0
AreKnown slots slot last = (h i : ℕ) → slot h ≡ Some i → (0 < last h) × (i < slots)

abbrev or_zero : Option ℕ → ℕ
or_zero None = 0
or_zero (Some i) = i

known_made : (slots n g i : ℕ) (slot : ℕ → Option ℕ) (last : ℕ → ℕ) → i < slots
    → AreKnown slots slot last
    → AreKnown slots (slot_after slot g i) (last_after last g (n + 1))
known_made slots n g i slot last low known h k e = elim (cases_eq g h) [
  | inl y ↦ (
    subst (λ b. 0 < cond b (n + 1) (last h)) (sym (eq-eqb g h y)) (omega arith),
    (let same : i ≡ k = ap or_zero (sym (ap (λ b. cond b (Some i) (slot h)) (eq-eqb g h y)) ∙ e) in
        omega (arith, same, low)),
  )
  | inr ne ↦
      let old = known h k (sym (ap (λ b. cond b (Some i) (slot h)) (ne_eqb g h ne)) ∙ e) in
      (subst (λ b. 0 < cond b (n + 1) (last h)) (sym (ne_eqb g h ne)) old.0, old.1)
]

known_behind : (slots t n : ℕ) (slot : ℕ → Option ℕ) (last : ℕ → ℕ) (ops : List Deed)
    → AreNumbered slots t n last ops → AreKnown slots slot last
    → AreKnown slots (slots_behind slot ops) (last_behind n last ops)
known_behind s t n slot last [] all known = known
known_behind s t n slot last (Make u j h i x ∷ ops) all known =
    known_behind s t (n + 1) (slot_after slot h i) (last_after last h (n + 1)) ops all.1
    (known_made s n h i slot last all.0.3 known)
known_behind s t n slot last (See u j h i ∷ ops) all known =
    known_behind s t n slot last ops all.1 known
known_behind s t n slot last (Drop u j h i ∷ ops) all known =
    known_behind s t n slot last ops all.1 known
known_behind s t n slot last (Take i ∷ ops) all known =
    known_behind s t n slot last ops all.1 known
known_behind s t n slot last (Evict i ∷ ops) all known =
    known_behind s t n slot last ops all.1 known

pub known_by : (slots t : ℕ) (ops : List Deed) → AreNumbered slots t 0 (λ h. 0) ops
    → AreKnown slots (slot_by ops) (last_by ops)
known_by slots t ops all =
    known_behind slots t 0 (λ h. None) (λ h. 0) ops all (λ h i e. absurd (none i e))
  where
    none : (i : ℕ) → None ≡ Some i → ⊥
    none i e = cc
