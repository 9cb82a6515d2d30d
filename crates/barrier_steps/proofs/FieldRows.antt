-- The registers that a command in range names are in range, payloads and shapes are read of their
-- words, and the way to a field leads to it. What holds of the rows: their places are in range, and
-- a row that fits becomes one that fits.
use Rattle.std.proofs.Common.{◌≡◌, ◌≢◌, ℕ, ◌<◌, ◌≤◌, ◌+◌, true, false, cond, IsSome, is_some, arith, refl, sym, subst, ap, ◌∙◌, leb, zero, suc, ◌-◌, ◌^◌, ◌/◌, ◌%◌, Option, None, Some, List, [], ◌∷◌, length, get_or, ltb, ltb-true, ltb-false}
use Rattle.barrier_steps.proofs.Common.{lt-ltb, Config, REGISTERS, Payload, Shape, target, payload_of, payload_code, payload-code, target-number, target-nil, extent, PayloadOf, register_block, register_slot, payloads, IsShape, Command, IsCommandInRange, place_of, Pass, FieldRow, Purpose, GreyRow, is_shading, block_stays, FieldStore, TreePath, to_register, answered_register, field_index, constant_word, is_get, is_say, goes_to_field, is_swap, is_cas, takes_field, stores_in_field, shape_length, links_to, FieldState, register_place, payload_in, shape_in, stored_word, shaded_for, before_store, at_first_row, register_wanted, row_want, row_got, field_got, after_object, after_field, after_said, on_way, way_from, way_on, IsThread, IsWalk, IsThere, IsBarrier, is_store_of, StoreFits, is_row_of, FitsAt, FieldFits, ReadsAt, FieldReads, le-leb, IsPayload, in_range, is_block, IsBlock, registers_end, Fits, StoresHeld, LoadRegister, LoadShape, LoadLink, LoadField, LoadOwner, Shade, Store, StoreConstant, Moved, Pending, InField, Exchanged, Compared, object_in, IsLoaded, RowFits, Swap, Cas, Get, Set, New, Copied, Object, Expected, Stored, First, Second, Shown, from_register, other_register, expected_register, payload_or_nil, shape_or_empty, shape_of, Width, Extent, shape_part, link_at, field_at, ordinal_at, or_zero, reads_in, TakeOwn, ShadeStored, PutOwn, Shaded, marking_got, payload_reads, or_right, false_from_ne_true}
use Rattle.block_store.specs.declared.Payload.TheVariants as payloads
use Rattle.block_store.proofs.Lemmas.{in_array, register_some, root_end, slot_low, wide}
use Rattle.grey_steps.proofs.RowsFit as ranges
use Rattle.barrier_steps.proofs.Decisions.{either_is, before_is, barrier_is, at_block_is, after_shape_is, after_owner_is}
use Rattle.std.proofs.lemmas.List.{get_or_past}
use Rattle.std.specs.List.{AllByRecursion}
use Rattle.never_heap.specs.Signatures.{Operand, Register, Destination, Exchanged as Exchange, IsInRange, operands, destination_in}
use Rattle.never_heap.proofs.Lemmas.{operands_in_range}
use Rattle.block_store.proofs.ShapeWords as shape_words
use Rattle.std.proofs.lemmas.Nat.{mod_below}
use Rattle.block_store.specs.declared.Shape.TheVariants as shapes
use Rattle.block_store.specs.declared.Width.TheVariants.{Four, Eight}
use Rattle.object_lists.specs.Layouts.{IsWay}
use Rattle.object_lists.specs.Records.{record_slot}
use Rattle.object_lists.proofs.Lists.{record_way}
use Rattle.array_trees.specs.Levels.{array_depth}
use Rattle.array_trees.proofs.Depths.{depth_few}
use Rattle.array_trees.proofs.Arrays.{tree_is_way}

reads_low : (os : List Operand) → AllByRecursion IsInRange os → (i : ℕ)
    → get_or (reads_in os) i 0 < 16
reads_low [] all i = subst (λ n. n < 16) (sym (get_or_past [] i 0 (omega arith))) (omega arith)
reads_low (Register Destination d ∷ os) all i = reads_low os all.1 i
reads_low (Register role r ∷ os) all zero = all.0
reads_low (Register role r ∷ os) all (suc i) = reads_low os all.1 i
reads_low (_ ∷ os) all i = reads_low os all.1 i

destination_low : (os : List Operand) → AllByRecursion IsInRange os
    → or_zero (destination_in os) < 16
destination_low [] all = omega arith
destination_low (Register Destination d ∷ os) all = all.0
destination_low (Register Exchange v ∷ os) all = all.0
destination_low (_ ∷ os) all = destination_low os all.1

pub to_low : (k : Command) → IsCommandInRange k → to_register k < 16
to_low k h = destination_low (operands k) (operands_in_range k h)

pub from_low : (k : Command) → IsCommandInRange k → from_register k < 16
from_low k h = reads_low (operands k) (operands_in_range k h) 0

pub other_low : (k : Command) → IsCommandInRange k → other_register k < 16
other_low k h = reads_low (operands k) (operands_in_range k h) (length (reads_in (operands k)) - 1)

pub expected_low : (k : Command) → IsCommandInRange k → expected_register k < 16
expected_low k h = reads_low (operands k) (operands_in_range k h) 1

pub wanted_low : (k : Command) (wanted : Purpose) → IsCommandInRange k → register_wanted k wanted < 16
wanted_low k (Expected way) h = expected_low k h
wanted_low k (Stored way) h = other_low k h
wanted_low k (Second word) h = other_low k h
wanted_low k _ h = from_low k h

-- what holds of nil, of each number, and of the word's target, holds of the payload in a word
pub payload_cases : (w : ℕ) → IsSome (payload_of w) → (P : Payload → Type 0)
    → (target w ≡ 0 → P payloads.Nil) → ((v : ℕ) → target w ≡ 0 → v < 2 ^ 62 → P (payloads.Int v))
    → ((x : ℕ) → x ≡ target w → 1 ≤ x → P (payloads.Block x)) → P (payload_in w)
payload_cases w some P nil int block = go (payload_of w) refl some
  where
    go : (o : Option Payload) → payload_of w ≡ o → IsSome o → P (payload_or_nil o)
    go None is h = absurd cc
    go (Some payloads.Nil) is h = nil (sym (payload_reads w payloads.Nil is).2)
    go (Some (payloads.Int v)) is h = let all = payload_reads w (payloads.Int v) is in int v (sym all.2) all.0
    go (Some (payloads.Block x)) is h = let all = payload_reads w (payloads.Block x) is in block x all.2 all.0.0

-- the shape in a shape word is one that has a word
pub shape_fits : (w : ℕ) → IsSome (shape_of w) → IsShape (shape_in w)
shape_fits w some = go (shape_of w) refl some
  where
    go : (o : Option Shape) → shape_of w ≡ o → IsSome o → IsShape (shape_or_empty o)
    go None is h = absurd cc
    go (Some f) is h = (shape_words.reads w f is).0

-- there are few links, and links and fields are in the payloads of a block
slot_in : (w : Width) (i : ℕ) → ((record_slot w i).0 ≤ i) × ((record_slot w i).1 < payloads w)
slot_in Four i = let h : i % 3 < 3 = mod_below i 3 (omega arith) in (omega arith, omega arith)
slot_in Eight i = let h : i % 7 < 7 = mod_below i 7 (omega arith) in (omega arith, omega arith)

pub links_few : (e : Extent) (f : Shape) (i : ℕ) → IsShape f → i < shape_length f → links_to e f i ≤ 65535
links_few e (shapes.List n) i fits h = omega (arith, (slot_in e.width i).0)
links_few e (shapes.Tree n) i fits h = omega (arith, depth_few e.width n fits)

turn_low : (w : Width) (n : ℕ) → n % payloads w < payloads w
turn_low w n = mod_below n (payloads w) (omega (arith, (wide w).0))

pub link_low : (c : Config) (f : Shape) (i l : ℕ) → link_at (extent c) f i l < payloads c.width
link_low c (shapes.List n) i l = omega (arith, (wide c.width).0)
link_low c (shapes.Tree n) i l = turn_low c.width (i / payloads c.width ^ (array_depth c.width n - l))

pub field_low : (c : Config) (f : Shape) (i : ℕ) → field_at (extent c) f i < payloads c.width
field_low c (shapes.List n) i = (slot_in c.width i).1
field_low c (shapes.Tree n) i = turn_low c.width (i / payloads c.width ^ (array_depth c.width n - array_depth c.width n))

-- the links lead to the field
pub way_is : (c : Config) (f : Shape) (i : ℕ) → i < shape_length f → IsWay (shape_part c.width f) i (links_to (extent c) f i) (field_at (extent c) f i) (ordinal_at (extent c) f i) (link_at (extent c) f i)
way_is c (shapes.List n) i h = record_way c.width n i h
way_is c (shapes.Tree n) i h = tree_is_way (payloads c.width) n (omega (arith, (wide c.width).0)) i h

-- what a payload place can hold
abbrev pub IsHeldWord : Config → ℕ → Type 0
IsHeldWord c w = IsSome (payload_of w) × (target w ≤ c.blocks)

block_in : (c : Config) (x : ℕ) → IsBlock c x → is_block (extent c) x ≡ true
block_in c x h = let low : leb 1 x ≡ true = le-leb 1 x h.0 in rw low (le-leb x c.blocks h.1)

payload_in_range : (c : Config) (x j : ℕ) → IsBlock c x → j < payloads c.width → in_range (extent c) (PayloadOf x j) ≡ true
payload_in_range c x j h low = let block : is_block (extent c) x ≡ true = block_in c x h in rw block (lt-ltb j (payloads c.width) low)

register_in : (c : Config) (t r : ℕ) → IsThread c t → r < REGISTERS → in_range (extent c) (register_place (extent c) t r) ≡ true
register_in c t r h low =
    let last : register_block c.width t r ≤ registers_end c.width (t + 1) = omega (arith, in_array c.width t r low, root_end c.width (t + 1)) in
    payload_in_range c (register_block c.width t r) (register_slot c.width r) (register_some c.width t r, omega (arith, h.registers, last)) (slot_low c.width r)

loaded : (c : Config) (w : ℕ) → IsHeldWord c w → IsLoaded c w
loaded c w h = record { payload = h.0; block = h.1 }

pub reference : (x w : ℕ) → x ≡ target w → 1 ≤ x → target w ≢ 0
reference x w is some = omega arith

-- a word that is written is one that a payload place can hold
held : (c : Config) (p : Payload) → IsPayload p → target (payload_code p) ≤ c.blocks → IsHeldWord c (payload_code p)
held c p fits low = (ap is_some (payload-code p fits), low)

-- the block to which a loaded reference goes
target_block : (c : Config) (w : ℕ) → IsLoaded c w → target w ≢ 0 → IsBlock c (target w)
target_block c w h some = let high : target w ≤ c.blocks = h.block in (omega (arith, some), high)

-- what is so of a command by what it is
goes_to : (k : Command) → (is_get k ≡ true → goes_to_field k ≡ true)
    × (stores_in_field k ≡ true → goes_to_field k ≡ true) × (is_cas k ≡ true → stores_in_field k ≡ true)
goes_to (Cas s i a v) = (λ is. cc, λ is. refl, λ is. refl)
goes_to _ = (λ is. cc, λ is. cc, λ is. cc)

pub get_takes : (k : Command) → is_get k ≡ true → takes_field k ≡ true
get_takes (Get d s i) is = refl
get_takes _ is = absurd cc

pub swap_takes : (k : Command) → is_swap k ≡ true → takes_field k ≡ true
swap_takes (Swap s i v) is = refl
swap_takes _ is = absurd cc

pub taken_register : (k : Command) → takes_field k ≡ true → answered_register k ≡ to_register k
taken_register (Get d s i) is = refl
taken_register _ is = cc

constant_held : (c : Config) (k : Command) → IsCommandInRange k → IsHeldWord c (constant_word k)
constant_held c (Set d v) h = held c (payloads.Int v) h.1 (omega (arith, target-number v))
constant_held c _ h = held c payloads.Nil tt (omega (arith, target-nil))

-- a row that shades a block is one of a barrier
pub barrier_shades : (c : Config) (p : Pass) (r : GreyRow) (store : FieldStore) → IsBarrier c p r (stored_word store) → is_shading r ≡ true
barrier_shades c p (TakeOwn y) store is = refl
barrier_shades c p (ShadeStored y a) store is = refl
barrier_shades c p (PutOwn y a) store is = refl
barrier_shades c p (Shaded y) store is = refl
barrier_shades c p _ store is = absurd (is.refers (sym is.stores))

module _ (c : Config) (p : Pass) (k : Command) where
  -- the place that a row wants is in range
  pub place_at : (row : FieldRow) → FitsAt c p k row → in_range (extent c) (place_of (row_want (extent c) p k row)) ≡ true
  place_at (LoadRegister wanted) f = register_in c p.thread (register_wanted k wanted) f.thread (wanted_low k wanted f.command)
  place_at (LoadShape x) f = block_in c x f.row
  place_at (LoadLink way word) f = payload_in_range c way.block _ f.row.0.block (link_low c way.shape (field_index k) way.level)
  place_at (LoadField way) f = payload_in_range c way.block _ f.row.0.block (field_low c way.shape (field_index k))
  place_at (LoadOwner word) f = block_in c (target word) (target_block c word f.row.0 f.row.1)
  place_at (Shade r store) f = ranges.place_fits c (record { pass = p; row = r }) f.row.0.fits
  place_at (Store (InField way word)) f = payload_in_range c way.block _ f.row.0.block (field_low c way.shape (field_index k))
  place_at (Store (Exchanged way word)) f = payload_in_range c way.block _ f.row.0.block (field_low c way.shape (field_index k))
  place_at (Store (Compared way word)) f = payload_in_range c way.block _ f.row.0.block (field_low c way.shape (field_index k))
  place_at (Store store) f = register_in c p.thread (to_register k) f.thread (to_low k f.command)
  place_at StoreConstant f = register_in c p.thread (to_register k) f.thread (to_low k f.command)
  place_at _ f = refl

  -- no row adds or takes away
  pub sum_at : (row : FieldRow) (w : ℕ) → Fits (row_want (extent c) p k row) w
  sum_at (Shade r store) w = ranges.sum_fits (record { pass = p; row = r }) w
  sum_at (Store (Moved word)) w = tt
  sum_at _ w = tt

  -- what a row stores is what its place can hold
  store_loaded : (store : FieldStore) → StoreFits c k store → IsLoaded c (stored_word store)
  store_loaded (Moved word) fits = fits
  store_loaded (Pending word value) fits = fits
  store_loaded _ fits = fits.2

  pub stores_at : (row : FieldRow) → FitsAt c p k row → StoresHeld c (row_want (extent c) p k row)
  stores_at (Shade r store) f = ranges.stores_held c (record { pass = p; row = r }) f.row.0.fits
  stores_at (Store (Moved word)) f = (f.row.payload, f.row.block)
  stores_at (Store store) f = let word = store_loaded store f.row in (word.payload, word.block)
  stores_at StoreConstant f = constant_held c k f.command
  stores_at _ f = tt

  -- A row that fits becomes one that fits: the command comes to it, and its numbers are in range.
  abbrev Good : FieldRow → Type 0
  Good row = (is_row_of c p k row ≡ true) × RowFits c p k row

  module _ (thread : IsThread c p.thread) (threads : p.threads ≡ c.threads) (blocks : c.blocks ≤ 65535) where
    before_fits : (store : FieldStore) → is_store_of k store ≡ true → StoreFits c k store → Good (before_store p store)
    before_fits store of fits = before_is Good p store (λ _. (of, fits))
        (λ ne.
        let mark : p.sweep ≡ false = false_from_ne_true p.sweep (λ e. ne (ap (λ b. cond b 0 (target (stored_word store))) e)) in
        let is : shaded_for p (stored_word store) ≡ target (stored_word store) = ap (λ b. cond b 0 (target (stored_word store))) mark in
        let refers : target (stored_word store) ≢ 0 = subst (λ y. y ≢ 0) is ne in
        let few : p.threads ≤ 16 = subst (λ n. n ≤ 16) (sym threads) thread.few in
        let low : p.thread < p.threads = subst (λ n. p.thread < n) (sym threads) thread.thread in
        let block : IsBlock c (shaded_for p (stored_word store)) = subst (IsBlock c) (sym is) (target_block c (stored_word store) (store_loaded store fits) refers) in
        let barrier : IsBarrier c p (TakeOwn (shaded_for p (stored_word store))) (stored_word store) = record {
          mark = mark;
          refers = refers;
          stores = is;
          fits = ranges.shade_fits c p (shaded_for p (stored_word store)) threads few blocks low block;
        } in
        (of, (barrier, fits)))

    way_fits : (way : TreePath) (word : ℕ) → goes_to_field k ≡ true → IsWalk c (field_index k) way → IsLoaded c word → Good (on_way (extent c) p k way word)
    way_fits way word goes is fits =
        either_is Good (ltb way.level (links_to (extent c) way.shape (field_index k))) _ _
        (λ less. (goes, (is, ltb-true way.level _ less, fits)))
        (λ past.
        let low : way.level ≤ links_to (extent c) way.shape (field_index k) = is.level in
        let high : links_to (extent c) way.shape (field_index k) ≤ way.level = ltb-false way.level _ past in
        let there : IsThere c (field_index k) way = omega arith in
        at_block_is Good p k way word (λ get. (get goes, (is, there)))
        (λ put. before_fits (InField way word) put (is, there, fits))
        (λ swap. before_fits (Exchanged way word) swap (is, there, fits))
        (λ cas. before_fits (Compared way word) cas (is, there, fits)))

    -- after a word that is stored in a register, or shown
    field_row_fits : (w : ℕ) → takes_field k ≡ true → IsHeldWord c w → Good (after_field w (payload_in w))
    field_row_fits w is r = payload_cases w r.0 (λ q. Good (after_field w q)) (λ none. (is, loaded c w r))
        (λ v none low. (is, loaded c w r)) (λ x to some. (rw is refl, (loaded c w r, reference x w to some)))

    row_fits : (row : FieldRow) (w : ℕ) → is_row_of c p k row ≡ true → RowFits c p k row → ReadsAt c p k row w → Good (row_got (extent c) p k row w)
    row_fits (LoadRegister Copied) w is h r = before_fits (Moved w) is (loaded c w r.0)
    row_fits (LoadRegister Object) w is h r =
        payload_cases w r.0.0 (λ q. Good (after_object q)) (λ none. (refl, tt)) (λ v none low. (refl, tt))
        (λ x to some. let high : target w ≤ c.blocks = r.0.1 in (is, (some, omega (arith, to, high))))
    row_fits (LoadRegister (Expected way)) w is h r =
        ((goes_to k).2 is, (record { shape = h.0.shape; index = h.0.index; level = h.0.level; block = h.0.block }, h.1))
    row_fits (LoadRegister (Stored way)) w is h r = way_fits way w ((goes_to k).1 is) h.0 (loaded c w r.0)
    row_fits (LoadRegister First) w is h r = (is, loaded c w r.0)
    row_fits (LoadRegister Shown) w is h r =
        payload_cases w r.0.0 (λ q. Good (after_said w q)) (λ none. (refl, tt)) (λ v none low. (refl, tt))
        (λ x to some. (or_right (takes_field k) (is_say k) is, (loaded c w r.0, reference x w to some)))
    row_fits (LoadShape x) w is h r =
        let walk : field_index k < shape_length (shape_in w) → IsWalk c (field_index k) (way_from (shape_in w) x) =
        λ less. record { shape = shape_fits w r.0; index = less; level = omega arith; block = h } in
        after_shape_is Good (extent c) p k x (shape_in w) (λ _. (refl, tt)) (λ less is. (is, (walk less, refl)))
        (λ less is. (is, (walk less, refl)))
        (λ less is. way_fits (way_from (shape_in w) x) 0 ((goes_to k).0 is) (walk less)
        (loaded c 0 (held c payloads.Nil tt (omega (arith, target-nil)))))
    row_fits (LoadLink way word) w is h r = way_fits (way_on way (target w)) word is (record {
      shape = h.0.shape;
      index = h.0.index;
      level = let low : way.level < links_to (extent c) way.shape (field_index k) = h.1 in omega arith;
      block = target_block c w (loaded c w r.0) r.1;
    }) h.2
    row_fits (LoadField way) w is h r = field_row_fits w (get_takes k is) r.0
    row_fits (LoadOwner word) w is h r = after_owner_is Good p k word (object_in w) (λ say. (refl, tt))
        (λ takes same. before_fits (Pending word (object_in w)) (takes is) h.0)
    row_fits (Shade r store) w is h reads =
        let on : GreyRow = marking_got (payloads c.width) p.threads p.cycle r w in
        let barrier : IsBarrier c p on (stored_word store) = record {
          mark = h.0.mark;
          refers = h.0.refers;
          stores = block_stays (payloads c.width) p.threads p.cycle r w (barrier_shades c p r store h.0) ∙ h.0.stores;
          fits = ranges.next_fits c (record { pass = p; row = r }) w h.0.fits reads.0;
        } in
        barrier_is Good on store (λ _. (is, h.1)) (λ _. (is, (barrier, h.1)))
    row_fits (Store (Exchanged way word)) w is h r = field_row_fits w (swap_takes k is) r.0
    row_fits _ w is h r = (refl, tt)

pub first_fits : (c : Config) (p : Pass) (k : Command) → IsThread c p.thread → p.threads ≡ c.threads → c.blocks ≤ 65535 → IsCommandInRange k → FieldFits c (at_first_row p k)
first_fits c p (New d f) thread threads blocks range =
    record { thread = thread; threads = threads; blocks = blocks; command = range; belongs = refl; row = tt }
first_fits c p _ thread threads blocks range =
    record { thread = thread; threads = threads; blocks = blocks; command = range; belongs = refl; row = tt }

pub field_fits : (c : Config) (s : FieldState) (w : ℕ) → FieldFits c s → FieldReads c s w → FieldFits c (field_got (extent c) s w)
field_fits c s w f r =
    let next = row_fits c s.pass s.command f.thread f.threads f.blocks s.row w f.belongs f.row r in
    record { thread = f.thread; threads = f.threads; blocks = f.blocks; command = f.command; belongs = next.0; row = next.1 }

-- the same of a part as it is seen
pub moved_fits : (c : Config) (p : Pass) (k : Command) (row r : FieldRow) (s : FieldState) (w : ℕ) → record { pass = p; command = k; row = row } ≡ s → r ≡ (field_got (extent c) s w).row → FieldFits c s → FieldReads c s w → FitsAt c p k r
moved_fits c p k row r s w same is f reads =
    subst (λ (x : FieldState). r ≡ (field_got (extent c) x w).row → FieldFits c x → FieldReads c x w → FitsAt c p k r) same
    (λ e g rd. subst (FitsAt c p k) (sym e) (field_fits c (record { pass = p; command = k; row = row }) w g rd)) is f reads
