-- Calls on an array of pairs.
use Rattle.std.proofs.Common.{◌≡◌, ◌≢◌, ℕ, zero, suc, ◌+◌, ◌*◌, ◌-◌, ◌^◌, ◌<◌, ◌≤◌, Result, Some, None, List, [], ◌∷◌, ◌++◌, length, slice_index_or, slice_set, sym, ap, ◌∙◌, subst, arith}
use Rattle.std.specs.Prelude.{IsOkAnd}
use Rattle.std.specs.List.{AllByRecursion}
use Rattle.std.proofs.lemmas.List.{length-append}
use Rattle.block_store.specs.declared.Name.{Name}
use Rattle.block_store.specs.declared.Value.{Value}
use Rattle.block_store.specs.declared.Value.TheVariants.{Int, Nil}
use Rattle.never_heap.specs.Graphs.{Graph}
use Rattle.control_heap.specs.Controls.{Control}
use Rattle.control_heap.specs.declared.faults.Fault.{Fault}
use Rattle.heap_structures.specs.declared.cells.Cells.{Cells}
use Rattle.heap_structures.specs.declared.table.Place.TheVariants.{Row, Before}
use Rattle.heap_structures.specs.Cells.{IsCells, held}
use Rattle.heap_structures.specs.Heaps.{Does, Ready, Sight, Took}
use Rattle.heap_structures.specs.Pairs.{Pair, above, below, pair_at, value_of, with_value, without}
use Rattle.heap_structures.specs.Tables.{Finds, IsLowered, IsRaised, IsStocked, IsTable, place_of}
use Rattle.heap_structures.proofs.cell_arrays.Answered.{ok_map, room_after, room_less, took_both}
use Rattle.heap_structures.proofs.cell_arrays.CellMoves.{spares_both, spares_wider}
use Rattle.heap_structures.proofs.tables.PairLists.{all_above, all_below, all_join, cut_absent, cut_found, in_above, in_below, rising_with, rising_without, value_here, value_none}
use Rattle.heap_structures.proofs.tables.PairPlaces.{pair_behind, place_key, place_value, places_added, places_removed, places_replaced}

-- ---- one call after the other

pub took_more : (n m : ℕ) (h z : Control) → n ≤ m → Took n h z → Took m h z
took_more n m h z less t = record {
  config = t.config;
  commands = let c = t.commands in omega (arith, c, less);
  objects = t.objects;
  units = t.units;
}

abbrev pub does_more : (s : Sight) (n m : ℕ) (h z : Control) (rs : List ℕ) (a : Name) (g : Graph)
    (P : Graph → Type 0) → n ≤ m → Does s n h z rs a g P → Does s m h z rs a g P
does_more s n m h z rs a g P less d = record {
  graph = d.graph;
  has = d.has;
  took = took_more n m h z less d.took;
  spares = d.spares;
  holds = d.holds;
}

abbrev pub does_then : (s : Sight) (n m k : ℕ) (h y z : Control) (rs : List ℕ) (a : Name) (g : Graph)
    (P Q R : Graph → Type 0) (d : Does s n h y rs a g P) (e : Does s m y z rs a d.graph Q)
    → n + m ≤ k → (Q e.graph → R e.graph) → Does s k h z rs a g R
does_then s n m k h y z rs a g P Q R d e less f = record {
  graph = e.graph;
  has = e.has;
  took = took_more (n + m) k h z less (took_both n m h y z d.took e.took);
  spares = spares_both rs a g d.graph e.graph d.spares e.spares;
  holds = f e.holds;
}

-- a call that spares all registers, as one that may change one
abbrev pub does_one : (s : Sight) (n : ℕ) (h z : Control) (r : ℕ) (a : Name) (g : Graph)
    (P : Graph → Type 0) → Does s n h z [] a g P → Does s n h z (r ∷ []) a g P
does_one s n h z r a g P d = record {
  graph = d.graph;
  has = d.has;
  took = d.took;
  spares = spares_wider [] (r ∷ []) a g d.graph (λ q none. tt) d.spares;
  holds = d.holds;
}

pub ready_then : (s : Sight) (n m k : ℕ) (h y : Control) (rs : List ℕ) (c : Cells) (g : Graph)
    (vs ws : List Value) (P : Graph → Type 0) → Ready s k h c g vs
    → (d : Does s n h y rs c.array g P) → n + m ≤ k → IsCells d.graph c ws
    → Ready s m y c d.graph ws
ready_then s n m k h y rs c g vs ws P r d less cells = record {
  has = d.has;
  cells = cells;
  room = room_after n m h y d.took (room_less k (n + m) h less r.room);
}

-- ---- tables

pub ready_of : (s : Sight) (n m : ℕ) (h : Control) (c : Cells) (g : Graph) (count : ℕ)
    (xs : List Pair) (st : IsStocked s n h c g count xs) → m ≤ n
    → Ready s m h c g st.table.array
ready_of s n m h c g count xs st less = record {
  has = st.has;
  cells = st.table.cells;
  room = room_less n m h less st.room;
}

pub stocked_less : (s : Sight) (n m : ℕ) (h : Control) (c : Cells) (g : Graph) (count : ℕ)
    (xs : List Pair) → m ≤ n → IsStocked s n h c g count xs → IsStocked s m h c g count xs
stocked_less s n m h c g count xs less st = record {
  has = st.has;
  table = st.table;
  room = room_less n m h less st.room;
}

pub stocked_then : (s : Sight) (n m k : ℕ) (h y : Control) (rs : List ℕ) (c : Cells) (g : Graph)
    (count : ℕ) (xs : List Pair) (P : Graph → Type 0) → IsStocked s k h c g count xs
    → (d : Does s n h y rs c.array g P) → n + m ≤ k → IsTable d.graph c count xs
    → IsStocked s m y c d.graph count xs
stocked_then s n m k h y rs c g count xs P st d less table = record {
  has = d.has;
  table = table;
  room = room_after n m h y d.took (room_less k (n + m) h less st.room);
}

module _ (g : Graph) (c : Cells) (count : ℕ) (xs : List Pair) (t : IsTable g c count xs) where
  pub place_low : (row place : ℕ) → row < count → place ≤ 2 * row + 1 → place < length t.array
  place_low row place low near =
      let long = t.cells.size in
      let few = t.few in
      let n = t.counted in
      omega (arith, low, near, long, few, n)

  pub table_same : (z : Graph) → IsCells z c t.array → IsTable z c count xs
  table_same z cells = record {
    array = t.array;
    cells = cells;
    places = t.places;
    few = t.few;
    rising = t.rising;
    small = t.small;
    counted = t.counted;
  }

  module _ (s : Sight) (h y : Control) (row place : ℕ) (low : row < count) (v : Value) where
    abbrev there : Value
    there = slice_index_or t.array place Nil

    few_rows : row < length xs
    few_rows = let n = t.counted in omega (arith, low, n)

    pub key_read : (x : Result ℕ Fault) → place ≡ 2 * row
        → (v ≡ there) × Does s 1 h y (c.spare ∷ []) c.array g
        (λ z. IsCells z c t.array × (held z c.spare ≡ there))
        → ((n : ℕ) → v ≡ Int n → n < 2 ^ 32 → IsOkAnd x (λ k. k ≡ n))
        → IsOkAnd x (λ k. (k ≡ (pair_at xs row).0)
        × Does s 1 h y (c.spare ∷ []) c.array g (λ z. IsTable z c count xs))
    key_read x is got known =
        ok_map (λ k. k ≡ (pair_at xs row).0) _ x
        (λ k e. (
          e,
          record {
            graph = got.1.graph;
            has = got.1.has;
            took = got.1.took;
            spares = got.1.spares;
            holds = table_same got.1.graph got.1.holds.0;
          },
        ))
        (known (pair_at xs row).0
        (got.0 ∙ t.places place ∙ place_key xs row place few_rows is)
        (at_all xs row t.small few_rows))
      where
        at_all : (ys : List Pair) (j : ℕ) → AllByRecursion (λ q. q.0 < 2 ^ 32) ys
            → j < length ys → (pair_at ys j).0 < 2 ^ 32
        at_all [] j all few = absurd (omega (arith, few))
        at_all (q ∷ ys) zero all few = all.0
        at_all (q ∷ ys) (suc j) all few = at_all ys j all.1 (omega arith)

    pub value_read : (d : ℕ) → place ≡ 2 * row + 1
        → (v ≡ there) × Does s 1 h y (d ∷ []) c.array g
        (λ z. IsCells z c t.array × (held z d ≡ there))
        → (v ≡ (pair_at xs row).1) × Does s 1 h y (d ∷ []) c.array g
        (λ z. IsTable z c count xs × (held z d ≡ v))
    value_read d is got = (
      got.0 ∙ t.places place ∙ place_value xs row place few_rows is,
      record {
        graph = got.1.graph;
        has = got.1.has;
        took = got.1.took;
        spares = got.1.spares;
        holds = (table_same got.1.graph got.1.holds.0, got.1.holds.1 ∙ sym got.0);
      },
    )

-- ---- a key is found

module _ (s : Sight) (c : Cells) (count key : ℕ) (xs : List Pair) (n k : ℕ) (h y : Control)
    (g : Graph) (r : ℕ) (is : r ≡ length (below key xs)) where
  abbrev pub Reads : ℕ → Control → Control → Graph → Type 0
  Reads m f z q = Does s m f z (c.spare ∷ []) c.array q (λ w. IsTable w c count xs)

  pub found_end : count ≤ r → Reads n h y g → n ≤ k → Finds key xs (Before r) × Reads k h y g
  found_end past d less = (
    (
      is,
      cut_absent key xs d.holds.rising
          (λ low. absurd (let m = d.holds.counted in omega (arith, low, m, past, is))),
    ),
    does_more s n k h y (c.spare ∷ []) c.array g (λ w. IsTable w c count xs) less d,
  )

  pub found_none : (z : Control) (here : ℕ) (d : Reads n h y g)
      → (here ≡ (pair_at xs r).0) × Reads 1 y z d.graph → here ≢ key → n + 1 ≤ k
      → Finds key xs (Before r) × Reads k h z g
  found_none z here d got other less = (
    (
      is,
      cut_absent key xs d.holds.rising
          (λ low same. other (got.0 ∙ ap (λ i. (pair_at xs i).0) is ∙ same)),
    ),
    does_then s n 1 k h y z (c.spare ∷ []) c.array g (λ w. IsTable w c count xs)
        (λ w. IsTable w c count xs) (λ w. IsTable w c count xs) d got.1 less (λ t. t),
  )

  pub found_row : (z : Control) (here : ℕ) (d : Reads n h y g)
      → (here ≡ (pair_at xs r).0) × Reads 1 y z d.graph → here ≡ key → r < count → n + 1 ≤ k
      → Finds key xs (Row r) × Reads k h z g
  found_row z here d got same low less = (
    (
      is,
      cut_found key xs d.holds.rising (let m = d.holds.counted in omega (arith, low, m, is))
          (ap (λ i. (pair_at xs i).0) (sym is) ∙ sym got.0 ∙ same),
    ),
    does_then s n 1 k h y z (c.spare ∷ []) c.array g (λ w. IsTable w c count xs)
        (λ w. IsTable w c count xs) (λ w. IsTable w c count xs) d got.1 less (λ t. t),
  )

-- ---- the values of keys

pub value_absent : (key : ℕ) (xs : List Pair) → xs ≡ below key xs ++ above key xs
    → value_of key xs ≡ None
value_absent key xs is =
    ap (value_of key) is
    ∙ value_none key (below key xs) (above key xs) (all_below key xs) (all_above key xs)

pub value_found : (key : ℕ) (xs : List Pair) (w : Value)
    → xs ≡ below key xs ++ (key, w) ∷ above key xs → value_of key xs ≡ Some w
value_found key xs w is =
    ap (value_of key) is ∙ value_here key w (below key xs) (above key xs) (all_below key xs)

pub value_row : (key : ℕ) (xs : List Pair) (r : ℕ) → Finds key xs (Row r)
    → value_of key xs ≡ Some (pair_at xs r).1
value_row key xs r f =
    value_found key xs f.1.0 f.1.1
    ∙ ap (λ (q : Pair). Some q.1)
    (sym (ap (λ ys. pair_at ys r) f.1.1
    ∙ ap (pair_at (below key xs ++ (key, f.1.0) ∷ above key xs)) f.0
    ∙ pair_behind (below key xs) (above key xs) (key, f.1.0)))

-- ---- changed tables

module _ (g : Graph) (c : Cells) (count key row : ℕ) (xs : List Pair) (t : IsTable g c count xs) where
  abbrev b : List Pair
  b = below key xs

  abbrev a : List Pair
  a = above key xs

  small_with : (v : Value) → key < 2 ^ 32
      → AllByRecursion (λ x. x.0 < 2 ^ 32) (b ++ (key, v) ∷ a)
  small_with v low =
      all_join (λ x. x.0 < 2 ^ 32) b ((key, v) ∷ a) (in_below (λ x. x.0 < 2 ^ 32) key xs t.small)
      (low, in_above (λ x. x.0 < 2 ^ 32) key xs t.small)

  pub row_in : Finds key xs (Before row) → row ≤ count
  row_in f =
      let n = ap length f.1 in
      let m = length-append b a in
      let k = t.counted in
      let r = f.0 in
      omega (arith, n, m, k, r)

  pub table_added : (z : Graph) (v : Value) (first end : ℕ) → Finds key xs (Before row)
      → key < 2 ^ 32 → 2 * count + 2 ≤ c.size → first ≡ 2 * row → end ≡ 2 * count
      → (q : Graph) (r : IsRaised q c first end t.array)
      → IsCells z c (slice_set (slice_set r.array first (Int key)) (first + 1) v)
      → IsTable z c (count + 1) (with_value key v xs)
  table_added z v first end f low room is last q r cells = record {
    array = slice_set (slice_set r.array first (Int key)) (first + 1) v;
    cells = cells;
    places = places_added b a key v t.array r.array first (let e = f.0 in omega (arith, is, e))
        (let l = r.cells.size in let i = row_in f in omega (arith, l, is, i, room))
        (λ j. t.places j ∙ ap (λ ys. place_of ys j) f.1) r.before
        (λ j from up. r.moved j from (omega (arith, up, last, long)))
        (λ j from. r.behind j (omega (arith, from, last, long)));
    few = omega (arith, more, room);
    rising = rising_with key v xs t.rising;
    small = small_with v low;
    counted = more;
  }
    where
      long : length (b ++ a) ≡ count
      long = ap length (sym f.1) ∙ t.counted

      more : length (b ++ (key, v) ∷ a) ≡ count + 1
      more =
          let n : length (b ++ (key, v) ∷ a) ≡ length b + suc (length a) =
          length-append b ((key, v) ∷ a) in
          let m = length-append b a in
          omega (arith, n, m, long)

  module _ (f : Finds key xs (Row row)) where
    full : (j : ℕ) → slice_index_or t.array j Nil ≡ place_of (b ++ (key, f.1.0) ∷ a) j
    full j = t.places j ∙ ap (λ ys. place_of ys j) f.1.1

    rows : length b + suc (length a) ≡ count
    rows = sym (length-append b ((key, f.1.0) ∷ a)) ∙ ap length (sym f.1.1) ∙ t.counted

    pub row_of : row < count
    row_of = let e = f.0 in let n = rows in omega (arith, e, n)

    pub table_replaced : (z : Graph) (v : Value) (place : ℕ) → key < 2 ^ 32 → place ≡ 2 * row + 1
        → IsCells z c (slice_set t.array place v) → IsTable z c count (with_value key v xs)
    table_replaced z v place low is cells = record {
      array = slice_set t.array place v;
      cells = cells;
      places = subst (λ p. (j : ℕ) → slice_index_or (slice_set t.array p v) j Nil
          ≡ place_of (b ++ (key, v) ∷ a) j) (sym is)
          (places_replaced b a key v t.array t.array (2 * row) (let e = f.0 in omega (arith, e))
          f.1.0 (let l = t.cells.size in let n = row_of in let m = t.few in let k = t.counted in
          omega (arith, l, n, m, k)) full);
      few = let m = t.few in let k = t.counted in omega (arith, m, k, same);
      rising = rising_with key v xs t.rising;
      small = small_with v low;
      counted = same;
    }
      where
        same : length (b ++ (key, v) ∷ a) ≡ count
        same = length-append b ((key, v) ∷ a) ∙ rows

    pub table_removed : (z : Graph) (first end : ℕ) → first ≡ 2 * row → end ≡ 2 * (count - 1)
        → (q : Graph) (r : IsLowered q c first end t.array)
        → IsCells z c (slice_set (slice_set r.array end Nil) (end + 1) Nil)
        → IsTable z c (count - 1) (without key xs)
    table_removed z first end is last q r cells = record {
      array = slice_set (slice_set r.array end Nil) (end + 1) Nil;
      cells = cells;
      places = places_removed b a key f.1.0 t.array r.array first
          (let e = f.0 in omega (arith, is, e)) end
          (let n = rows in let m = length-append b ((key, f.1.0) ∷ a) in
          omega (arith, last, n, m))
          (let l = r.cells.size in let n = t.few in let m = t.counted in let k = rows in
          omega (arith, l, n, m, k, last))
          full r.before r.moved r.behind;
      few = let m = t.few in let k = t.counted in omega (arith, m, k, fewer);
      rising = rising_without key xs t.rising;
      small = all_join (λ x. x.0 < 2 ^ 32) b a (in_below (λ x. x.0 < 2 ^ 32) key xs t.small)
          (in_above (λ x. x.0 < 2 ^ 32) key xs t.small);
      counted = fewer;
    }
      where
        fewer : length (b ++ a) ≡ count - 1
        fewer = let n = rows in let m = length-append b a in omega (arith, n, m)
