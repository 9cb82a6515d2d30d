-- A ring's or queue's next values, by what was stored in its array.
use Rattle.std.proofs.Common.{◌≡◌, ℕ, zero, suc, ◌+◌, ◌-◌, ◌<◌, ◌≤◌, ◌≢◌, inl, inr, Some, None, List, [], ◌∷◌, ◌++◌, length, drop, slice_index_or, slice_set, sym, refl, ap, ◌∙◌, subst, arith}
use Rattle.std.specs.Prelude.{replicate}
use Rattle.std.proofs.lemmas.Bool.{cases_lt}
use Rattle.std.proofs.lemmas.List.{length_push, get_or_past}
use Rattle.block_store.specs.declared.Name.{Name}
use Rattle.block_store.specs.declared.Value.{Value}
use Rattle.block_store.specs.declared.Value.TheVariants.{Nil}
use Rattle.never_heap.specs.Graphs.{Graph, field_of, object_of}
use Rattle.control_heap.specs.Controls.{Control}
use Rattle.control_heap.specs.declared.faults.Fault.{Fault}
use Rattle.control_heap.specs.declared.faults.Fault.TheVariants as faults
use Rattle.heap_structures.specs.declared.cells.Cells.{Cells}
use Rattle.heap_structures.specs.Cells.{IsCells, IsNone, Saves, Spares, held}
use Rattle.heap_structures.specs.Circles.{around, last_of, IsCircle}
use Rattle.heap_structures.specs.Heaps.{Does, Has, HasRoom, Ready, Sight, Stops}
use Rattle.heap_structures.specs.Rings.{Gives, IsRound}
use Rattle.heap_structures.proofs.rings.Circling.{around_in, around_low, around_high, circle_at, circle_fewer, circle_more, circle_over, empty_circle, length_drop, last_fewer, last_over}
use Rattle.heap_structures.proofs.cell_arrays.CellMoves.{cells_spared, saves_of, spares_none, spares_wider}
use Rattle.heap_structures.proofs.cell_arrays.Chained.{does_wider}

-- a cause that implies another
pub stops_as : (n : ℕ) (A B : Type 0) (h z : Control) (f : Fault) → (A → B) → Stops n A h z f
    → Stops n B h z f
stops_as n A B h z faults.OutOfBounds by stop = (by stop.0, stop.1)
stops_as n A B h z faults.NoLifeLeft by stop = stop
stops_as n A B h z (faults.Full c) by stop = absurd stop
stops_as n A B h z faults.Null by stop = absurd stop
stops_as n A B h z faults.Kind by stop = absurd stop
stops_as n A B h z faults.Range by stop = absurd stop

-- where neither cause is there, none stops
pub not_stopped : (n : ℕ) (Bad : Type 0) (h z : Control) (f : Fault) → HasRoom n h → ¬ Bad
    → Stops n Bad h z f → ⊥
not_stopped n Bad h z faults.OutOfBounds room right stop = right stop.0
not_stopped n Bad h z faults.NoLifeLeft room right stop = stop.0 room
not_stopped n Bad h z (faults.Full c) room right stop = stop
not_stopped n Bad h z faults.Null room right stop = stop
not_stopped n Bad h z faults.Kind room right stop = stop
not_stopped n Bad h z faults.Range room right stop = stop

-- nothing is done
pub does_none : (s : Sight) (n : ℕ) (h : Control) (rs : List ℕ) (a : Name) (g : Graph)
    (Q : Graph → Type 0) → Has s h g → Q g → Does s n h h rs a g Q
does_none s n h rs a g Q has holds = record {
  graph = g;
  has = has;
  took = record {
    config = refl;
    commands = omega arith;
    objects = refl;
    units = refl;
  };
  spares = spares_wider [] rs a g g (λ q none. tt) (spares_none a g);
  holds = holds;
}

module _ (g : Graph) (c : Cells) (first count : ℕ) (xs : List Value)
    (r : IsRound g c first count xs) where
  -- it stays where its array and its base register do
  pub round_saved : (rs : List ℕ) (a : Name) (z : Graph) → Saves rs a g z → c.array ≢ a
      → IsNone rs c.base → IsRound z c first count xs
  round_saved rs a z s apart none = record {
    array = r.array;
    cells = cells_spared rs a g z c r.array s apart none r.cells;
    circle = r.circle;
    counted = r.counted;
  }

  pub round_stays : (rs : List ℕ) (a : Name) (z : Graph) → Spares rs a g z → c.array ≢ a
      → IsNone rs c.base → IsRound z c first count xs
  round_stays rs a z s = round_saved rs a z (saves_of rs rs a g z (λ q none. none) s)

  -- value p of the array is one of those that are shown, or nil
  pub at_place : (p : ℕ) → (i : ℕ)
      × (field_of (object_of g c.array) p ≡ slice_index_or xs i Nil)
  at_place p =
      let field : field_of (object_of g c.array) p ≡ slice_index_or r.array p Nil =
      ap (λ fs. slice_index_or fs p Nil) r.cells.values in
      let at : (i : ℕ) → i < c.size → around c.size (first + i) ≡ p
      → field_of (object_of g c.array) p ≡ slice_index_or xs i Nil =
      λ i low e. (field ∙ ap (λ k. slice_index_or r.array k Nil) (sym e) ∙ r.circle.places i low) in
      let start = r.circle.start in
      elim (cases_lt p c.size) [
        | inr past ↦ (
          c.size,
          field ∙ get_or_past r.array p Nil (omega (arith, r.circle.long, past))
              ∙ sym (get_or_past xs c.size Nil r.circle.few),
        )
        | inl here ↦ elim (cases_lt p first) [
          | inl before ↦ (
            (p + c.size) - first,
            at ((p + c.size) - first) (omega (arith, start, before))
                (around_high c.size (first + ((p + c.size) - first)) (omega (arith, start, before))
                ∙ omega (arith, start, before)),
          )
          | inr after ↦ (
            p - first,
            at (p - first) (omega (arith, here)) (around_low c.size (first + (p - first))
                (omega (arith, after, here)) ∙ omega (arith, after)),
          )
        ]
      ]

  pub round_ready : (s : Sight) (n : ℕ) (h : Control) → Has s h g → HasRoom n h
      → Ready s n h c g r.array
  round_ready s n h has room = record { has = has; cells = r.cells; room = room }

  pub place_low : around c.size (first + count) < length r.array
  place_low =
      subst (λ n. around c.size (first + count) < n) (sym r.circle.long)
      (around_in c.size (first + count)
      (let f = r.circle.start in let l = r.circle.few in omega (arith, f, l, r.counted)))

  pub first_low : first < length r.array
  first_low = let f = r.circle.start in let l = r.circle.long in omega (arith, f, l)

  abbrev stored : Value → List Value
  stored v = slice_set r.array (around c.size (first + count)) v

  by_length : (v : Value) → stored v ≡ slice_set r.array (around c.size (first + length xs)) v
  by_length v = ap (λ n. slice_set r.array (around c.size (first + n)) v) (sym r.counted)

  pub round_more : (z : Graph) (v : Value) → count < c.size → IsCells z c (stored v)
      → IsRound z c first (count + 1) (xs ++ v ∷ [])
  round_more z v room cells = record {
    array = stored v;
    cells = cells;
    circle = subst (λ ws. IsCircle c.size first ws (xs ++ v ∷ [])) (sym (by_length v))
        (circle_more c.size first r.array xs r.circle v (omega (arith, room, r.counted)));
    counted = let l = length_push xs v in omega (arith, l, r.counted);
  }

  here : count ≡ c.size → around c.size (first + length xs) ≡ first
  here full =
      around_high c.size (first + length xs) (omega (arith, full, r.counted))
      ∙ (let e : (first + length xs) - c.size ≡ first = omega (arith, full, r.counted) in e)

  pub round_over : (z : Graph) (v : Value) → count ≡ c.size → IsCells z c (stored v)
      → IsRound z c (around c.size (first + 1)) count (drop 1 (xs ++ v ∷ []))
  round_over z v full cells = record {
    array = stored v;
    cells = cells;
    circle = subst (λ ws. IsCircle c.size (around c.size (first + 1)) ws (drop 1 (xs ++ v ∷ [])))
        (sym (by_length v ∙ ap (λ n. slice_set r.array n v) (here full)))
        (circle_over c.size first r.array xs r.circle v (r.counted ∙ full));
    counted =
        let l = length_push xs v in
        let d = length_drop (xs ++ v ∷ []) (omega (arith, l)) in
        omega (arith, l, d, r.counted);
  }

  -- a ring with one more, and a full one
  pub put_more : (s : Sight) (h z : Control) (place : ℕ) (v : Value)
      → place ≡ around c.size (first + count) → count < c.size
      → Does s 1 h z [] c.array g (λ y. IsCells y c (slice_set r.array place v))
      → Does s 1 h z [] c.array g (λ y. IsRound y c first (count + 1) (xs ++ v ∷ []))
  put_more s h z place v is room d =
      does_wider s 1 h z [] [] c.array g (λ y. IsCells y c (slice_set r.array place v))
      (λ y. IsRound y c first (count + 1) (xs ++ v ∷ [])) (λ q none. none) d
      (λ cells. round_more d.graph v room
      (subst (λ n. IsCells d.graph c (slice_set r.array n v)) is cells))

  pub last_more : (s : Sight) (h z : Control) (place : ℕ) (v : Value)
      → place ≡ around c.size (first + count) → count < c.size
      → Does s 1 h z [] c.array g (λ y. IsCells y c (slice_set r.array place v))
      → Does s 1 h z [] c.array g
      (λ y. IsRound y c first (count + 1) (last_of c.size (xs ++ v ∷ [])))
  last_more s h z place v is room d =
      subst (λ ys. Does s 1 h z [] c.array g (λ y. IsRound y c first (count + 1) ys))
      (sym (last_fewer c.size first r.array xs r.circle v (omega (arith, room, r.counted))))
      (put_more s h z place v is room d)

  pub last_full : (s : Sight) (h z : Control) (place next : ℕ) (v : Value)
      → place ≡ around c.size (first + count) → c.size ≤ count
      → (first < c.size → next ≡ around c.size (first + 1))
      → Does s 1 h z [] c.array g (λ y. IsCells y c (slice_set r.array place v))
      → Does s 1 h z [] c.array g (λ y. IsRound y c next count (last_of c.size (xs ++ v ∷ [])))
  last_full s h z place next v is past on d =
      let full : count ≡ c.size =
      (let f = r.circle.few in omega (arith, f, past, r.counted)) in
      subst (λ ys. Does s 1 h z [] c.array g (λ y. IsRound y c next count ys))
      (sym (last_over c.size first r.array xs r.circle v (r.counted ∙ full)))
      (does_wider s 1 h z [] [] c.array g (λ y. IsCells y c (slice_set r.array place v))
      (λ y. IsRound y c next count (drop 1 (xs ++ v ∷ []))) (λ q none. none) d
      (λ cells. subst (λ n. IsRound d.graph c n count (drop 1 (xs ++ v ∷ [])))
      (sym (on r.circle.start))
      (round_over d.graph v full
      (subst (λ n. IsCells d.graph c (slice_set r.array n v)) is cells))))

  pub round_fewer : (z : Graph) → 1 ≤ count → IsCells z c (slice_set r.array first Nil)
      → IsRound z c (around c.size (first + 1)) (count - 1) (drop 1 xs)
  round_fewer z some cells = record {
    array = slice_set r.array first Nil;
    cells = cells;
    circle = circle_fewer c.size first r.array xs r.circle (omega (arith, some, r.counted));
    counted = let d = length_drop xs (omega (arith, some, r.counted)) in omega (arith, d, r.counted);
  }

  pub round_same : (z : Graph) → IsCells z c r.array → IsRound z c first count xs
  round_same z cells = record {
    array = r.array;
    cells = cells;
    circle = r.circle;
    counted = r.counted;
  }

  pub round_at : (i : ℕ) → i < count
      → slice_index_or r.array (around c.size (first + i)) Nil ≡ slice_index_or xs i Nil
  round_at i low = circle_at c.size first r.array xs r.circle i (omega (arith, low, r.counted))

  pub round_first : 1 ≤ count → slice_index_or r.array first Nil ≡ slice_index_or xs 0 Nil
  round_first some =
      ap (λ n. slice_index_or r.array n Nil)
      (sym (around_low c.size (first + 0) (let f = r.circle.start in omega (arith, f))
      ∙ (let e : first + 0 ≡ first = omega arith in e)))
      ∙ round_at 0 (omega (arith, some))

  pub at_low : (i : ℕ) → i < count → around c.size (first + i) < length r.array
  at_low i low =
      subst (λ n. around c.size (first + i) < n) (sym r.circle.long)
      (around_in c.size (first + i)
      (let f = r.circle.start in let l = r.circle.few in omega (arith, f, l, low, r.counted)))

-- what is given where there is a value, and where there is none
pub gives_at : (g : Graph) (d : ℕ) (xs : List Value) (i : ℕ) (v : Value) → i < length xs
    → v ≡ slice_index_or xs i Nil → held g d ≡ slice_index_or xs i Nil
    → Gives g d (drop i xs) (Some v)
gives_at g d [] i v low is at = absurd (omega (arith, low))
gives_at g d (x ∷ xs) zero v low is at = (is, at)
gives_at g d (x ∷ xs) (suc i) v low is at = gives_at g d xs i v (omega arith) is at

pub gives_none : (g : Graph) (d : ℕ) (xs : List Value) (i : ℕ) → length xs ≤ i
    → Gives g d (drop i xs) None
gives_none g d xs i past =
    subst (λ ys. Gives g d ys None)
    (sym (Rattle.std.proofs.lemmas.List.drop_all i xs past)) tt

module _ (g : Graph) (c : Cells) (first count : ℕ) (xs : List Value)
    (r : IsRound g c first count xs) (s : Sight) (h z : Control) (d place : ℕ) (v : Value) where
  abbrev there : Value
  there = slice_index_or r.array place Nil

  -- a value is loaded
  pub fetched : (i : ℕ) → i < count → place ≡ around c.size (first + i)
      → (v ≡ there) × Does s 1 h z (d ∷ []) c.array g
      (λ y. IsCells y c r.array × (held y d ≡ there))
      → Does s 1 h z (d ∷ []) c.array g
      (λ y. IsRound y c first count xs × Gives y d (drop i xs) (Some v))
  fetched i low is p =
      let same : there ≡ slice_index_or xs i Nil =
      ap (λ n. slice_index_or r.array n Nil) is ∙ round_at g c first count xs r i low in
      does_wider s 1 h z (d ∷ []) (d ∷ []) c.array g
      (λ y. IsCells y c r.array × (held y d ≡ there))
      (λ y. IsRound y c first count xs × Gives y d (drop i xs) (Some v)) (λ q none. none) p.1
      (λ e. (
        round_same g c first count xs r p.1.graph e.0,
        gives_at p.1.graph d xs i v (omega (arith, low, r.counted)) (p.0 ∙ same) (e.1 ∙ same),
      ))

  -- the first value is taken
  pub popped : (next : ℕ) → 1 ≤ count → place ≡ first
      → (first < c.size → next ≡ around c.size (first + 1))
      → (v ≡ there) × Does s 3 h z (d ∷ c.spare ∷ []) c.array g
      (λ y. IsCells y c (slice_set r.array place Nil) × (held y d ≡ there))
      → Does s 3 h z (d ∷ c.spare ∷ []) c.array g
      (λ y. IsRound y c next (count - 1) (drop 1 xs) × Gives y d xs (Some v))
  popped next some is on p =
      let same : there ≡ slice_index_or xs 0 Nil =
      ap (λ n. slice_index_or r.array n Nil) is ∙ round_first g c first count xs r some in
      does_wider s 3 h z (d ∷ c.spare ∷ []) (d ∷ c.spare ∷ []) c.array g
      (λ y. IsCells y c (slice_set r.array place Nil) × (held y d ≡ there))
      (λ y. IsRound y c next (count - 1) (drop 1 xs) × Gives y d xs (Some v)) (λ q none. none) p.1
      (λ e. (
        subst (λ n. IsRound p.1.graph c n (count - 1) (drop 1 xs)) (sym (on r.circle.start))
            (round_fewer g c first count xs r p.1.graph some
            (subst (λ n. IsCells p.1.graph c (slice_set r.array n Nil)) is e.0)),
        gives_at p.1.graph d xs 0 v (omega (arith, some, r.counted)) (p.0 ∙ same) (e.1 ∙ same),
      ))

-- a new array is a round of no values
pub round_new : (g : Graph) (c : Cells) (size : ℕ) → c.size ≡ size → 1 ≤ size
    → IsCells g c (replicate size Nil) → IsRound g c 0 0 []
round_new g c size is some cells = record {
  array = replicate size Nil;
  cells = cells;
  circle = subst (λ n. IsCircle n 0 (replicate size Nil) []) (sym is) (empty_circle size some);
  counted = refl;
}
