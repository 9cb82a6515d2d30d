-- Rows that are found, added, changed and removed by several calls.
use Rattle.std.proofs.Common.{◌≡◌, ◌≢◌, ℕ, zero, suc, ◌+◌, ◌*◌, ◌-◌, ◌/◌, ◌^◌, ◌<◌, ◌≤◌, inl, inr, Some, List, [], ◌∷◌, length, slice_index_or, slice_set, sym, refl, ap, ◌∙◌, subst, arith}
use Rattle.std.proofs.Math.Nat.{pow-suc}
use Rattle.std.proofs.lemmas.Bool.{cases_Bool, cases_eq, cases_lt}
use Rattle.std.proofs.lemmas.List.{get_or-replicate, get_or-set_same, get_or-set_other, get_or_past, length-replicate}
use Rattle.std.proofs.lemmas.Nat.{leading_length}
use Rattle.std.specs.Prelude.{nat_lt, replicate}
use Rattle.block_store.specs.declared.Value.{Value}
use Rattle.block_store.specs.declared.Value.TheVariants.{Int, Nil}
use Rattle.never_heap.specs.Graphs.{Graph}
use Rattle.control_heap.specs.Controls.{Control}
use Rattle.heap_structures.specs.declared.cells.Cells.{Cells}
use Rattle.heap_structures.specs.declared.table.Place.TheVariants.{Row, Before}
use Rattle.heap_structures.specs.Cells.{IsCells, held}
use Rattle.heap_structures.specs.Heaps.{Does, Sight}
use Rattle.heap_structures.specs.Pairs.{Pair, below, pair_at, value_of, with_value, without}
use Rattle.heap_structures.specs.Tables.{Finds, IsLowered, IsRaised, IsStocked, IsTable, digits}
use Rattle.heap_structures.proofs.tables.PairLists.{few_below, more_below}
use Rattle.heap_structures.proofs.tables.PairPlaces.{place_value}
use Rattle.heap_structures.proofs.rings.Rounds.{does_none}
use Rattle.heap_structures.proofs.tables.TableCalls.{does_more, does_one, does_then, stocked_then, table_added, table_removed, table_replaced, row_in, row_of, value_row}

-- ---- halving

pub few_digits : (n : ℕ) → n < 2 ^ 32 → n < 2 ^ digits n
few_digits n low =
    let p = leading_length 32 n low in
    subst (λ m. n < 2 ^ m) (let e : p.0 ≡ digits n = omega (arith, p.1) in e) p.2

twice_pow : (n : ℕ) → 2 ^ suc n ≡ 2 * 2 ^ n
twice_pow n = let p = pow-suc 2 n in omega (arith, p)

-- After some steps the number of smaller keys is between `low` and `high`, and these are less than
-- 2^left apart.
pub record IsHalving (s : Sight) (h z : Control) (c : Cells) (g : Graph) (count key : ℕ)
    (xs : List Pair) (low high : ℕ) : Type 0 where
  pub used : ℕ
  pub left : ℕ
  pub turns : used + left ≤ digits count
  pub width : high < low + 2 ^ left
  pub from : low ≤ length (below key xs)
  pub to : length (below key xs) ≤ high
  pub does : Does s used h z (c.spare ∷ []) c.array g (λ y. IsTable y c count xs)

below_few : (k : ℕ) (xs : List Pair) → length (below k xs) ≤ length xs
below_few k [] = omega arith
below_few k (x ∷ xs) =
    elim (cases_Bool (nat_lt x.0 k)) [
      | inl e ↦ rw e (let r = below_few k xs in omega (arith, r))
      | inr e ↦ rw e (let r = below_few k xs in omega (arith, r))
    ]

module _ (s : Sight) (h : Control) (c : Cells) (g : Graph) (count key : ℕ) (xs : List Pair) where
  pub halving_starts : count < 2 ^ 32 → IsStocked s (digits count) h c g count xs
      → IsHalving s h h c g count key xs 0 count
  halving_starts few st = record {
    used = 0;
    left = digits count;
    turns = omega arith;
    width = let e = few_digits count few in omega (arith, e);
    from = omega arith;
    to = let n = st.table.counted in let m = below_few key xs in omega (arith, n, m);
    does = does_none s 0 h (c.spare ∷ []) c.array g (λ y. IsTable y c count xs) st.has st.table;
  }

  -- there is room for one step more
  pub halving_goes : (y : Control) (low high : ℕ) (v : IsHalving s h y c g count key xs low high)
      → low < high → IsStocked s (digits count) h c g count xs
      → IsStocked s 1 y c v.does.graph count xs
  halving_goes y low high v more st =
      stocked_then s v.used 1 (digits count) h y (c.spare ∷ []) c g count xs
      (λ w. IsTable w c count xs) st v.does (some_left v.left v.width v.turns) v.does.holds
    where
      some_left : (left : ℕ) → high < low + 2 ^ left → v.used + left ≤ digits count
          → v.used + 1 ≤ digits count
      some_left zero width turns = absurd (omega (arith, width, more))
      some_left (suc left) width turns = omega (arith, turns)

  module _ (y z : Control) (low high middle here : ℕ) (v : IsHalving s h y c g count key xs low high)
      (more : low < high) (is : middle ≡ low + (high - low) / 2) (within : high ≤ count)
      (got : (here ≡ (pair_at xs middle).0) × Does s 1 y z (c.spare ∷ []) c.array v.does.graph
      (λ w. IsTable w c count xs)) where
    next : (used left l u : ℕ) → used ≡ v.used → used + 1 + left ≤ digits count → u < l + 2 ^ left
        → l ≤ length (below key xs) → length (below key xs) ≤ u
        → IsHalving s h z c g count key xs l u
    next used left l u same turns width from to = record {
      used = v.used + 1;
      left = left;
      turns = omega (arith, same, turns);
      width = width;
      from = from;
      to = to;
      does = does_then s v.used 1 (v.used + 1) h y z (c.spare ∷ []) c.array g
          (λ w. IsTable w c count xs) (λ w. IsTable w c count xs) (λ w. IsTable w c count xs) v.does
          got.1 (omega arith) (λ t. t);
    }

    inside : middle < length xs
    inside =
        let n = v.does.holds.counted in omega (arith, n, more, is, within)

    halves_up : (left : ℕ) → high < low + 2 ^ left → v.used + left ≤ digits count → here < key
        → IsHalving s h z c g count key xs (middle + 1) high
    halves_up zero width turns less = absurd (omega (arith, width, more))
    halves_up (suc left) width turns less =
        next v.used left (middle + 1) high refl (omega (arith, turns))
        (let p = twice_pow left in omega (arith, width, more, is, p))
        (let l = more_below key xs middle v.does.holds.rising inside
        (subst (λ q. q < key) got.0 less) in omega (arith, l))
        v.to

    halves_down : (left : ℕ) → high < low + 2 ^ left → v.used + left ≤ digits count → key ≤ here
        → IsHalving s h z c g count key xs low middle
    halves_down zero width turns less = absurd (omega (arith, width, more))
    halves_down (suc left) width turns less =
        next v.used left low middle refl (omega (arith, turns))
        (let p = twice_pow left in omega (arith, width, more, is, p))
        v.from
        (few_below key xs middle v.does.holds.rising inside (subst (λ q. key ≤ q) got.0 less))

    pub goes_up : here < key → IsHalving s h z c g count key xs (middle + 1) high
    goes_up less = halves_up v.left v.width v.turns less

    pub goes_down : key ≤ here → IsHalving s h z c g count key xs low middle
    goes_down less = halves_down v.left v.width v.turns less

  pub halving_ends : (z : Control) (low high : ℕ) → IsHalving s h z c g count key xs low high
      → high ≤ low
      → (low ≡ length (below key xs)) × Does s (digits count) h z (c.spare ∷ []) c.array g
      (λ y. IsTable y c count xs)
  halving_ends z low high v past = (
    (let f = v.from in let t = v.to in omega (arith, f, t, past)),
    does_more s v.used (digits count) h z (c.spare ∷ []) c.array g (λ y. IsTable y c count xs)
        (let t = v.turns in omega (arith, t)) v.does,
  )

-- ---- values that move by two places

pub raised_none : (g : Graph) (c : Cells) (n : ℕ) (vs : List Value) → IsCells g c vs
    → IsRaised g c n n vs
raised_none g c n vs cells = record {
  array = vs;
  cells = cells;
  before = λ t low. refl;
  moved = λ t from up. absurd (omega (arith, from, up));
  behind = λ t from. refl;
}

pub lowered_none : (g : Graph) (c : Cells) (n m : ℕ) (vs : List Value) → n ≡ m → IsCells g c vs
    → IsLowered g c n m vs
lowered_none g c n m vs is cells = record {
  array = vs;
  cells = cells;
  before = λ t low. refl;
  moved = λ t from up. absurd (omega (arith, from, up, is));
  behind = λ t from. refl;
}

module _ (c : Cells) (first end : ℕ) (vs : List Value) (g z : Graph) where
  pub raised_more : (place last : ℕ) (r : IsRaised g c last end vs) → last ≡ place + 1
      → last ≤ end → end + 2 ≤ c.size
      → IsCells z c (slice_set r.array (place + 2) (slice_index_or r.array place Nil))
      → IsRaised z c place end vs
  raised_more place last r is few room cells = record {
    array = slice_set r.array (place + 2) (slice_index_or r.array place Nil);
    cells = cells;
    before = λ t low.
        get_or-set_other r.array (place + 2) t (slice_index_or r.array place Nil) Nil
        (λ e. absurd (omega (arith, low, e)))
        ∙ r.before t (omega (arith, low, is));
    moved = λ t from up. elim (cases_eq t place) [
      | inl e ↦
          ap (λ q. slice_index_or (slice_set r.array (place + 2) (slice_index_or r.array place Nil))
          (q + 2) Nil) e
          ∙ get_or-set_same r.array (place + 2) (slice_index_or r.array place Nil) Nil
          (let l = r.cells.size in omega (arith, l, is, few, room))
          ∙ r.before place (omega (arith, is))
          ∙ ap (λ q. slice_index_or vs q Nil) (sym e)
      | inr ne ↦
          get_or-set_other r.array (place + 2) (t + 2) (slice_index_or r.array place Nil) Nil
          (λ e. ne (omega (arith, e)))
          ∙ r.moved t (omega (arith, from, ne, is)) up
    ];
    behind = λ t from.
        get_or-set_other r.array (place + 2) t (slice_index_or r.array place Nil) Nil
        (λ e. absurd (omega (arith, from, e, is, few)))
        ∙ r.behind t from;
  }

  pub lowered_more : (place : ℕ) (r : IsLowered g c first place vs) → first ≤ place
      → place + 2 < c.size
      → IsCells z c (slice_set r.array place (slice_index_or r.array (place + 2) Nil))
      → IsLowered z c first (place + 1) vs
  lowered_more place r low room cells = record {
    array = slice_set r.array place (slice_index_or r.array (place + 2) Nil);
    cells = cells;
    before = λ t less.
        get_or-set_other r.array place t (slice_index_or r.array (place + 2) Nil) Nil
        (λ e. absurd (omega (arith, low, less, e)))
        ∙ r.before t less;
    moved = λ t from up. elim (cases_eq t place) [
      | inl e ↦
          ap (λ q. slice_index_or (slice_set r.array place (slice_index_or r.array (place + 2) Nil))
          q Nil) e
          ∙ get_or-set_same r.array place (slice_index_or r.array (place + 2) Nil) Nil
          (let l = r.cells.size in omega (arith, l, room))
          ∙ r.behind (place + 2) (omega arith)
          ∙ ap (λ q. slice_index_or vs (q + 2) Nil) (sym e)
      | inr ne ↦
          get_or-set_other r.array place t (slice_index_or r.array (place + 2) Nil) Nil ne
          ∙ r.moved t from (omega (arith, up, ne))
    ];
    behind = λ t from.
        get_or-set_other r.array place t (slice_index_or r.array (place + 2) Nil) Nil
        (λ e. absurd (omega (arith, from, e)))
        ∙ r.behind t (omega (arith, from));
  }

-- ---- the calls

module _ (s : Sight) (c : Cells) (count key row : ℕ) (xs : List Pair) (h : Control) (g : Graph) where
  pub row_added : (y w z : Control) (from first end place : ℕ)
      (st : IsStocked s (4 * count + 3) h c g count xs) → Finds key xs (Before row)
      → key < 2 ^ 32 → 2 * count + 2 ≤ c.size → from ≢ c.spare
      → first ≡ 2 * row → end ≡ 2 * count → place ≡ first + 1
      → (d : Does s (2 * (end - first)) h y (c.spare ∷ []) c.array g
      (λ q. IsRaised q c first end st.table.array))
      → (e : Does s 2 y w (c.spare ∷ []) c.array d.graph
      (λ q. IsCells q c (slice_set d.holds.array first (Int key))))
      → Does s 1 w z [] c.array e.graph
      (λ q. IsCells q c
      (slice_set (slice_set d.holds.array first (Int key)) place (held e.graph from)))
      → Does s (4 * count + 3) h z (c.spare ∷ []) c.array g
      (λ q. IsTable q c (count + 1) (with_value key (held g from) xs))
  row_added y w z from first end place st f low room apart is last at d e p =
      does_then s (2 * (end - first) + 2) 1 (4 * count + 3) h w z (c.spare ∷ []) c.array g
      (λ q. IsCells q c (slice_set d.holds.array first (Int key)))
      (λ q. IsCells q c
      (slice_set (slice_set d.holds.array first (Int key)) place (held e.graph from)))
      (λ q. IsTable q c (count + 1) (with_value key (held g from) xs))
      (does_then s (2 * (end - first)) 2 (2 * (end - first) + 2) h y w (c.spare ∷ []) c.array g
      (λ q. IsRaised q c first end st.table.array)
      (λ q. IsCells q c (slice_set d.holds.array first (Int key)))
      (λ q. IsCells q c (slice_set d.holds.array first (Int key))) d e (omega arith) (λ t. t))
      (does_one s 1 w z c.spare c.array e.graph (λ q. IsCells q c
      (slice_set (slice_set d.holds.array first (Int key)) place (held e.graph from))) p)
      (let r = row_in g c count key row xs st.table f in omega (arith, is, last, r))
      (λ cells. table_added g c count key row xs st.table p.graph (held g from) first end f low room
      is last d.graph d.holds
      (subst (λ n. IsCells p.graph c (slice_set (slice_set d.holds.array first (Int key)) n
      (held g from))) at
      (subst (λ v. IsCells p.graph c (slice_set (slice_set d.holds.array first (Int key)) place v))
      (e.spares.registers from (apart, tt) ∙ d.spares.registers from (apart, tt)) cells)))

  pub row_replaced : (y z : Control) (from place : ℕ) (old : Value)
      (st : IsStocked s 2 h c g count xs) → Finds key xs (Row row)
      → key < 2 ^ 32 → from ≢ c.spare → place ≡ 2 * row + 1
      → (d : (old ≡ slice_index_or st.table.array place Nil)
      × Does s 1 h y (c.spare ∷ []) c.array g (λ q. IsCells q c st.table.array
      × (held q c.spare ≡ slice_index_or st.table.array place Nil)))
      → Does s 1 y z [] c.array d.1.graph
      (λ q. IsCells q c (slice_set st.table.array place (held d.1.graph from)))
      → (value_of key xs ≡ Some old) × Does s 2 h z (c.spare ∷ []) c.array g
      (λ q. IsTable q c count (with_value key (held g from) xs))
  row_replaced y z from place old st f low apart is d p = (
    value_row key xs row f
        ∙ ap (λ (v : Value). Some v)
        (sym (d.0 ∙ st.table.places place
        ∙ place_value xs row place (let n = st.table.counted in
        let m = row_of g c count key row xs st.table f in omega (arith, n, m)) is)),
    does_then s 1 1 2 h y z (c.spare ∷ []) c.array g
        (λ q. IsCells q c st.table.array
        × (held q c.spare ≡ slice_index_or st.table.array place Nil))
        (λ q. IsCells q c (slice_set st.table.array place (held d.1.graph from)))
        (λ q. IsTable q c count (with_value key (held g from) xs)) d.1
        (does_one s 1 y z c.spare c.array d.1.graph
        (λ q. IsCells q c (slice_set st.table.array place (held d.1.graph from))) p)
        (omega arith)
        (λ cells. table_replaced g c count key row xs st.table f p.graph (held g from) place low is
        (subst (λ v. IsCells p.graph c (slice_set st.table.array place v))
        (d.1.spares.registers from (apart, tt)) cells)),
  )

  pub row_removed : (y w z : Control) (first end place : ℕ)
      (st : IsStocked s (4 * count) h c g count xs) → Finds key xs (Row row)
      → first ≡ 2 * row → end ≡ 2 * (count - 1) → place ≡ end + 1
      → (d : Does s (2 * (end - first)) h y (c.spare ∷ []) c.array g
      (λ q. IsLowered q c first end st.table.array))
      → (e : Does s 2 y w (c.spare ∷ []) c.array d.graph
      (λ q. IsCells q c (slice_set d.holds.array end Nil)))
      → Does s 2 w z (c.spare ∷ []) c.array e.graph
      (λ q. IsCells q c (slice_set (slice_set d.holds.array end Nil) place Nil))
      → Does s (4 * count) h z (c.spare ∷ []) c.array g
      (λ q. IsTable q c (count - 1) (without key xs))
  row_removed y w z first end place st f is last at d e p =
      does_then s (2 * (end - first) + 2) 2 (4 * count) h w z (c.spare ∷ []) c.array g
      (λ q. IsCells q c (slice_set d.holds.array end Nil))
      (λ q. IsCells q c (slice_set (slice_set d.holds.array end Nil) place Nil))
      (λ q. IsTable q c (count - 1) (without key xs))
      (does_then s (2 * (end - first)) 2 (2 * (end - first) + 2) h y w (c.spare ∷ []) c.array g
      (λ q. IsLowered q c first end st.table.array)
      (λ q. IsCells q c (slice_set d.holds.array end Nil))
      (λ q. IsCells q c (slice_set d.holds.array end Nil)) d e (omega arith) (λ t. t))
      p (let r = row_of g c count key row xs st.table f in omega (arith, is, last, r))
      (λ cells. table_removed g c count key row xs st.table f p.graph first end is last d.graph
      d.holds
      (subst (λ n. IsCells p.graph c (slice_set (slice_set d.holds.array end Nil) n Nil)) at cells))

-- a new array has no pairs
pub table_new : (g : Graph) (c : Cells) (n : ℕ) → IsCells g c (replicate n Nil) → IsTable g c 0 []
table_new g c n cells = record {
  array = replicate n Nil;
  cells = cells;
  places = λ t. elim (cases_lt t n) [
    | inl low ↦ get_or-replicate n t Nil Nil low
    | inr past ↦ get_or_past (replicate n Nil) t Nil
        (let l = length-replicate n Nil in omega (arith, l, past))
  ];
  few = omega arith;
  rising = tt;
  small = tt;
  counted = refl;
}
