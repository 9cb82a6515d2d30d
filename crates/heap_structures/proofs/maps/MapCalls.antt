-- The calls of a map, by those on its array.
use Rattle.std.proofs.Common.{◌≡◌, ◌≢◌, ℕ, zero, suc, ◌+◌, ◌*◌, ◌-◌, ◌/◌, ◌<◌, ◌≤◌, Some, None, List, [], ◌∷◌, length, drop, sym, refl, ap, ◌∙◌, subst, arith}
use Rattle.block_store.specs.declared.Value.{Value}
use Rattle.never_heap.specs.Graphs.{Graph}
use Rattle.control_heap.specs.Controls.{Control}
use Rattle.heap_structures.specs.declared.cells.Cells.{Cells}
use Rattle.heap_structures.specs.declared.table.Place.TheVariants.{Row, Before}
use Rattle.heap_structures.specs.Cells.{held}
use Rattle.heap_structures.specs.Heaps.{Does, Has, HasRoom, Sight}
use Rattle.heap_structures.specs.Maps.{GivesPair, most_to_change, most_to_get}
use Rattle.heap_structures.specs.Pairs.{Pair, pair_at, value_of, with_value, without}
use Rattle.heap_structures.specs.Tables.{Finds, IsStocked, IsTable, digits}
use Rattle.heap_structures.proofs.cell_arrays.Answered.{room_less}
use Rattle.heap_structures.proofs.cell_arrays.Chained.{does_wider}
use Rattle.heap_structures.proofs.tables.TableCalls.{does_more, does_then, value_absent, value_row}

pub map_stocked : (s : Sight) (n m : ℕ) (h : Control) (c : Cells) (g : Graph) (count : ℕ)
    (xs : List Pair) → Has s h g → IsTable g c count xs → HasRoom n h → m ≤ n
    → IsStocked s m h c g count xs
map_stocked s n m h c g count xs has table room less = record {
  has = has;
  table = table;
  room = room_less n m h less room;
}

same_digits : (n m : ℕ) → n ≡ m → digits n ≡ digits m
same_digits n m e = ap digits e

pair_is : (k : ℕ) (v : Value) (p : Pair) → k ≡ p.0 → v ≡ p.1 → (k, v) ≡ p
pair_is k v p a b =
    subst (λ q. (q, v) ≡ p) (sym a) (subst (λ q. (p.0, q) ≡ p) (sym b) refl)

module _ (s : Sight) (c : Cells) (count key : ℕ) (xs : List Pair) (h : Control) (g : Graph)
    (counted : length xs ≡ count) where
  abbrev Reads : ℕ → Control → Control → Graph → Type 0
  Reads n f z q = Does s n f z (c.spare ∷ []) c.array q (λ w. IsTable w c count xs)

  to_get : digits count + 2 ≤ most_to_get (length xs)
  to_get = let e = same_digits (length xs) count counted in omega (arith, e)

  to_change : digits count + 4 * count + 4 ≤ most_to_change (length xs)
  to_change = let e = same_digits (length xs) count counted in omega (arith, e, counted)

  module _ (y : Control) (d row : ℕ) where
    pub get_none : Finds key xs (Before row) × Reads (digits count + 1) h y g
        → Does s (most_to_get (length xs)) h y (d ∷ c.spare ∷ []) c.array g
        (λ w. IsTable w c count xs × (None ≡ value_of key xs) × Unit {0})
    get_none f =
        does_wider s (most_to_get (length xs)) h y (c.spare ∷ []) (d ∷ c.spare ∷ []) c.array g
        (λ w. IsTable w c count xs)
        (λ w. IsTable w c count xs × (None ≡ value_of key xs) × Unit {0}) (λ q none. none.1)
        (does_more s (digits count + 1) (most_to_get (length xs)) h y (c.spare ∷ []) c.array g
        (λ w. IsTable w c count xs) (let e = to_get in omega (arith, e)) f.1)
        (λ t. (t, sym (value_absent key xs f.0.1), tt))

    pub get_found : (z : Control) (v : Value)
        (f : Finds key xs (Row row) × Reads (digits count + 1) h y g)
        → (v ≡ (pair_at xs row).1) × Does s 1 y z (d ∷ []) c.array f.1.graph
        (λ w. IsTable w c count xs × (held w d ≡ v))
        → Does s (most_to_get (length xs)) h z (d ∷ c.spare ∷ []) c.array g
        (λ w. IsTable w c count xs × (Some v ≡ value_of key xs) × (held w d ≡ v))
    get_found z v f l =
        does_then s (digits count + 1) 1 (most_to_get (length xs)) h y z (d ∷ c.spare ∷ []) c.array g
        (λ w. IsTable w c count xs) (λ w. IsTable w c count xs × (held w d ≡ v))
        (λ w. IsTable w c count xs × (Some v ≡ value_of key xs) × (held w d ≡ v))
        (does_wider s (digits count + 1) h y (c.spare ∷ []) (d ∷ c.spare ∷ []) c.array g
        (λ w. IsTable w c count xs) (λ w. IsTable w c count xs) (λ q none. none.1) f.1 (λ t. t))
        (does_wider s 1 y z (d ∷ []) (d ∷ c.spare ∷ []) c.array f.1.graph
        (λ w. IsTable w c count xs × (held w d ≡ v)) (λ w. IsTable w c count xs × (held w d ≡ v))
        (λ q none. (none.0, tt)) l.1 (λ t. t))
        (let e = to_get in omega (arith, e))
        (λ t. (t.0, ap (λ (u : Value). Some u) l.0 ∙ sym (value_row key xs row f.0), t.1))

    pub remove_none : Finds key xs (Before row) × Reads (digits count + 1) h y g
        → Does s (most_to_change (length xs)) h y (d ∷ c.spare ∷ []) c.array g
        (λ w. IsTable w c count (without key xs) × (None ≡ value_of key xs) × Unit {0})
    remove_none f =
        does_wider s (most_to_change (length xs)) h y (c.spare ∷ []) (d ∷ c.spare ∷ []) c.array g
        (λ w. IsTable w c count xs)
        (λ w. IsTable w c count (without key xs) × (None ≡ value_of key xs) × Unit {0})
        (λ q none. none.1)
        (does_more s (digits count + 1) (most_to_change (length xs)) h y (c.spare ∷ []) c.array g
        (λ w. IsTable w c count xs) (let e = to_change in omega (arith, e)) f.1)
        (λ t. (subst (λ ys. IsTable f.1.graph c count ys) f.0.1 t, sym (value_absent key xs f.0.1), tt))

    pub remove_found : (w z : Control) (v : Value) → d ≢ c.spare
        → (f : Finds key xs (Row row) × Reads (digits count + 1) h y g)
        → (l : (v ≡ (pair_at xs row).1) × Does s 1 y w (d ∷ []) c.array f.1.graph
        (λ q. IsTable q c count xs × (held q d ≡ v)))
        → Does s (4 * count) w z (c.spare ∷ []) c.array l.1.graph
        (λ q. IsTable q c (count - 1) (without key xs))
        → Does s (most_to_change (length xs)) h z (d ∷ c.spare ∷ []) c.array g
        (λ q. IsTable q c (count - 1) (without key xs) × (Some v ≡ value_of key xs) × (held q d ≡ v))
    remove_found w z v apart f l e =
        does_then s (digits count + 1 + 1) (4 * count) (most_to_change (length xs)) h w z
        (d ∷ c.spare ∷ []) c.array g (λ q. IsTable q c count xs × (held q d ≡ v))
        (λ q. IsTable q c (count - 1) (without key xs))
        (λ q. IsTable q c (count - 1) (without key xs) × (Some v ≡ value_of key xs) × (held q d ≡ v))
        (does_then s (digits count + 1) 1 (digits count + 1 + 1) h y w (d ∷ c.spare ∷ []) c.array g
        (λ q. IsTable q c count xs) (λ q. IsTable q c count xs × (held q d ≡ v))
        (λ q. IsTable q c count xs × (held q d ≡ v))
        (does_wider s (digits count + 1) h y (c.spare ∷ []) (d ∷ c.spare ∷ []) c.array g
        (λ q. IsTable q c count xs) (λ q. IsTable q c count xs) (λ q none. none.1) f.1 (λ t. t))
        (does_wider s 1 y w (d ∷ []) (d ∷ c.spare ∷ []) c.array f.1.graph
        (λ q. IsTable q c count xs × (held q d ≡ v)) (λ q. IsTable q c count xs × (held q d ≡ v))
        (λ q none. (none.0, tt)) l.1 (λ t. t))
        (omega arith) (λ t. t))
        (does_wider s (4 * count) w z (c.spare ∷ []) (d ∷ c.spare ∷ []) c.array l.1.graph
        (λ q. IsTable q c (count - 1) (without key xs))
        (λ q. IsTable q c (count - 1) (without key xs)) (λ q none. none.1) e (λ t. t))
        (let k = to_change in omega (arith, k))
        (λ t. (
          t,
          ap (λ (u : Value). Some u) l.0 ∙ sym (value_row key xs row f.0),
          e.spares.registers d (apart, tt) ∙ l.1.holds.1,
        ))

    pub nth_found : (z : Control) (i k : ℕ) (v : Value) → i < count
        → (f : (k ≡ (pair_at xs i).0) × Reads 1 h y g)
        → (v ≡ (pair_at xs i).1) × Does s 1 y z (d ∷ []) c.array f.1.graph
        (λ w. IsTable w c count xs × (held w d ≡ v))
        → Does s 2 h z (d ∷ c.spare ∷ []) c.array g
        (λ w. IsTable w c count xs × GivesPair w d (drop i xs) (Some (k, v)))
    nth_found z i k v low f l =
        does_then s 1 1 2 h y z (d ∷ c.spare ∷ []) c.array g
        (λ w. IsTable w c count xs) (λ w. IsTable w c count xs × (held w d ≡ v))
        (λ w. IsTable w c count xs × GivesPair w d (drop i xs) (Some (k, v)))
        (does_wider s 1 h y (c.spare ∷ []) (d ∷ c.spare ∷ []) c.array g
        (λ w. IsTable w c count xs) (λ w. IsTable w c count xs) (λ q none. none.1) f.1 (λ t. t))
        (does_wider s 1 y z (d ∷ []) (d ∷ c.spare ∷ []) c.array f.1.graph
        (λ w. IsTable w c count xs × (held w d ≡ v)) (λ w. IsTable w c count xs × (held w d ≡ v))
        (λ q none. (none.0, tt)) l.1 (λ t. t))
        (omega arith)
        (λ t. (t.0, gives xs i (let n = counted in omega (arith, n, low)) f.0 l.0 t.1))
      where
        gives : (ys : List Pair) (j : ℕ) → j < length ys → k ≡ (pair_at ys j).0
            → v ≡ (pair_at ys j).1 → held l.1.graph d ≡ v
            → GivesPair l.1.graph d (drop j ys) (Some (k, v))
        gives [] j few is at there = absurd (omega (arith, few))
        gives (p ∷ ys) zero few is at there =
            (pair_is k v p is at, there ∙ at)
        gives (p ∷ ys) (suc j) few is at there = gives ys j (omega arith) is at there

  module _ (y : Control) (from row : ℕ) (apart : from ≢ c.spare) where
    pub insert_old : (z : Control) (old : Value)
        (f : Finds key xs (Row row) × Reads (digits count + 1) h y g)
        → (value_of key xs ≡ Some old) × Does s 2 y z (c.spare ∷ []) c.array f.1.graph
        (λ q. IsTable q c count (with_value key (held f.1.graph from) xs))
        → Does s (most_to_change (length xs)) h z (c.spare ∷ []) c.array g
        (λ q. (value_of key xs ≡ Some old) × IsTable q c count (with_value key (held g from) xs))
    insert_old z old f e =
        does_then s (digits count + 1) 2 (most_to_change (length xs)) h y z (c.spare ∷ []) c.array g
        (λ q. IsTable q c count xs)
        (λ q. IsTable q c count (with_value key (held f.1.graph from) xs))
        (λ q. (value_of key xs ≡ Some old) × IsTable q c count (with_value key (held g from) xs))
        f.1 e.1 (let k = to_change in omega (arith, k))
        (λ t. (
          e.0,
          subst (λ v. IsTable e.1.graph c count (with_value key v xs))
              (f.1.spares.registers from (apart, tt)) t,
        ))

    pub insert_new : (z : Control) → count < c.size / 2
        → (f : Finds key xs (Before row) × Reads (digits count + 1) h y g)
        → Does s (4 * count + 3) y z (c.spare ∷ []) c.array f.1.graph
        (λ q. IsTable q c (count + 1) (with_value key (held f.1.graph from) xs))
        → Does s (most_to_change (length xs)) h z (c.spare ∷ []) c.array g
        (λ q. (value_of key xs ≡ None) × (length xs < c.size / 2)
        × IsTable q c (count + 1) (with_value key (held g from) xs))
    insert_new z room f e =
        does_then s (digits count + 1) (4 * count + 3) (most_to_change (length xs)) h y z
        (c.spare ∷ []) c.array g (λ q. IsTable q c count xs)
        (λ q. IsTable q c (count + 1) (with_value key (held f.1.graph from) xs))
        (λ q. (value_of key xs ≡ None) × (length xs < c.size / 2)
        × IsTable q c (count + 1) (with_value key (held g from) xs))
        f.1 e (let k = to_change in omega (arith, k))
        (λ t. (
          value_absent key xs f.0.1,
          omega (arith, room, counted),
          subst (λ v. IsTable e.graph c (count + 1) (with_value key v xs))
              (f.1.spares.registers from (apart, tt)) t,
        ))

    pub insert_full : c.size / 2 ≤ count
        → Finds key xs (Before row) × Reads (digits count + 1) h y g
        → Does s (most_to_change (length xs)) h y (c.spare ∷ []) c.array g
        (λ q. (value_of key xs ≡ None) × (length xs ≡ c.size / 2) × IsTable q c count xs)
    insert_full past f =
        does_wider s (most_to_change (length xs)) h y (c.spare ∷ []) (c.spare ∷ []) c.array g
        (λ q. IsTable q c count xs)
        (λ q. (value_of key xs ≡ None) × (length xs ≡ c.size / 2) × IsTable q c count xs)
        (λ q none. none)
        (does_more s (digits count + 1) (most_to_change (length xs)) h y (c.spare ∷ []) c.array g
        (λ q. IsTable q c count xs) (let k = to_change in omega (arith, k)) f.1)
        (λ t. (value_absent key xs f.0.1, (let n = t.few in omega (arith, n, past, counted)), t))
