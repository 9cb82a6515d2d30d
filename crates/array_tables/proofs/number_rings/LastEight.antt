-- A thread that is alone recalls the last eight of its numbers.
use Rattle.std.proofs.Common.{◌≡◌, ◌≢◌, ℕ, zero, suc, ◌+◌, ◌*◌, ◌%◌, ◌<◌, ◌≤◌, inl, inr, Some, None, List, [], ◌∷◌, ◌++◌, length, drop, get_or, set, sym, refl, ap, ◌∙◌, subst, arith}
use Rattle.std.specs.List.{AllByRecursion}
use Rattle.std.proofs.lemmas.Bool.{cases_eq}
use Rattle.std.proofs.lemmas.Grind.{get_or-set_at}
use Rattle.std.proofs.lemmas.List.{get_or-set_other, length-set, at_drop_more, drop_all}
use Rattle.std.proofs.Math.Nat.{mod-lt, div-add-mod}
use Rattle.array_tables.specs.number_rings.Rings.{Operation, Cell, ring_place, keeps, recalls, script_of, last_numbers, lost_of, left_of, with_number}
use Rattle.array_tables.proofs.number_rings.OwnPlaces.{IsOwn, IsOwnPlace, alone}
use Rattle.array_tables.proofs.number_rings.Chunks.{numbers_in}

pub ring_own : (t j : ℕ) → IsOwnPlace t (ring_place t j)
ring_own t j = record { at = j % 8; low = mod-lt j (omega arith); is = refl }

-- two numbers that are fewer than eight apart have two places
places_differ : (t i j : ℕ) → i < j → j < i + 8 → ring_place t i ≢ ring_place t j
places_differ t i j low near same =
    let a = div-add-mod i 8 in
    let b = div-add-mod j 8 in
    omega (arith, same, a, b)

-- of all numbers, those before number j that are among its last eight are at their places
pub record IsHeld (t j : ℕ) (all : List ℕ) (cells : List Cell) : Type 0 where
  pub room : 8 * t + 8 ≤ length cells
  pub holds : (i : ℕ) → i < j → j ≤ i + 8
      → get_or cells (ring_place t i) None ≡ Some (get_or all i 0)

held_more : (t j v : ℕ) (all : List ℕ) (cells : List Cell) → v ≡ get_or all j 0
    → IsHeld t j all cells → IsHeld t (j + 1) all (set cells (ring_place t j) (Some v))
held_more t j v all cells is h =
    let own = ring_own t j in
    let there : ring_place t j < length cells = omega (arith, own.low, h.room) in
    record {
      room = omega (arith, h.room, length-set cells (ring_place t j) (Some v));
      holds = λ i low near. elim (cases_eq i j) [
        | inl e ↦ get_or-set_at cells (ring_place t j) (ring_place t i) (Some v) None
            (ap (ring_place t) e) there
            ∙ ap Some (is ∙ ap (λ (k : ℕ). get_or all k 0) (sym e))
        | inr ne ↦ (let less : i < j = omega (arith, ne) in
            get_or-set_other cells (ring_place t j) (ring_place t i) (Some v) None
            (places_differ t i j less (omega arith))
            ∙ h.holds i less (omega arith))
      ];
    }

-- what these operations answer from these cells on is what others answer from where they leave them
pub record IsLeft (t j : ℕ) (all : List ℕ) (before after : List Operation) (cells : List Cell)
    : Type 0 where
  pub left : List Cell
  pub held : IsHeld t j all left
  pub same : numbers_in (alone before cells) ≡ numbers_in (alone after left)

keeps_leave : (t j k : ℕ) (all vs : List ℕ) (ops : List Operation) (cells : List Cell)
    → j + length vs ≡ k → ((i : ℕ) → get_or vs i 0 ≡ get_or all (j + i) 0) → IsHeld t j all cells
    → IsLeft t k all (keeps t j vs ++ ops) ops cells
keeps_leave t j k all [] ops cells long is h = record {
  left = cells;
  held = subst (λ (n : ℕ). IsHeld t n all cells) (omega (arith, long)) h;
  same = refl;
}
keeps_leave t j k all (v ∷ vs) ops cells long is h =
    let first : v ≡ get_or all j 0 = is 0 ∙ ap (λ (n : ℕ). get_or all n 0) (omega arith) in
    let rest = keeps_leave t (j + 1) k all vs ops (set cells (ring_place t j) (Some v))
    (omega (arith, long)) (λ i. is (suc i) ∙ ap (λ (n : ℕ). get_or all n 0) (omega arith))
    (held_more t j v all cells first h) in
    record { left = rest.left; held = rest.held; same = rest.same }

recalls_show : (t j n : ℕ) (all : List ℕ) (cells : List Cell) → n ≤ 8 → j + n ≡ length all
    → IsHeld t (length all) all cells
    → numbers_in (alone (recalls t j n) cells) ≡ drop j all
recalls_show t j zero all cells few end h = sym (drop_all j all (omega arith))
recalls_show t j (suc n) all cells few end h =
    let first : get_or cells (ring_place t j) None ≡ Some (get_or all j 0) =
    h.holds j (omega arith) (omega arith) in
    let rest : numbers_in (alone (recalls t (j + 1) n) cells) ≡ drop (j + 1) all =
    recalls_show t (j + 1) n all cells (omega arith) (omega arith) h in
    (λ i. with_number (first i) (rest i))
    ∙ sym (at_drop_more (λ (l : List ℕ). l) all j 0 (omega arith))

pub script_shows : (t : ℕ) (vs : List ℕ) (cells : List Cell) → 8 * t + 8 ≤ length cells
    → numbers_in (alone (script_of t vs) cells) ≡ last_numbers vs
script_shows t vs cells room =
    let from = lost_of (length vs) in
    let left = keeps_leave t 0 (length vs) vs vs (recalls t from (left_of (length vs))) cells
    (omega arith) (λ i. ap (λ (k : ℕ). get_or vs k 0) (omega arith))
    (record { room = room; holds = λ i low near. absurd (omega arith) }) in
    left.same
    ∙ recalls_show t from (left_of (length vs)) vs left.left (omega arith) (omega arith) left.held

-- ---- the places of a script are its thread's own

keeps_own : (t j : ℕ) (vs : List ℕ) (ops : List Operation) → AllByRecursion (IsOwn t) ops
    → AllByRecursion (IsOwn t) (keeps t j vs ++ ops)
keeps_own t j [] ops own = own
keeps_own t j (v ∷ vs) ops own = (ring_own t j, keeps_own t (j + 1) vs ops own)

recalls_own : (t j n : ℕ) → AllByRecursion (IsOwn t) (recalls t j n)
recalls_own t j zero = tt
recalls_own t j (suc n) = (ring_own t j, recalls_own t (j + 1) n)

pub script_own : (t : ℕ) (vs : List ℕ) → AllByRecursion (IsOwn t) (script_of t vs)
script_own t vs = keeps_own t 0 vs _ (recalls_own t (lost_of (length vs)) (left_of (length vs)))
