-- Which event is a unit, and where a part has found nothing.
use Rattle.std.proofs.Common.{◌≡◌, ℕ, zero, suc, ◌<◌, ◌+◌, ◌-◌, ◌*◌, Bool, true, false, ◌||◌, ◌&&◌, arith, refl, ap, sym, subst, ◌∙◌, cond, inl, inr, eqb, ltb, eq-eqb, List, [], ◌∷◌, length, Option, Some, mod-eq_of_lt}
use Rattle.std.proofs.lemmas.Bool.{cases_Bool, cases_lt, lt-ltb, le-ltb, and_parts}
use Rattle.std.proofs.lemmas.Nat.{mod-mul-add}
use Rattle.block_store.specs.declared.Config.{Config}
use Rattle.block_store.specs.Colours.{is_grey, black_word}
use Rattle.block_store.specs.Heaps.{Heap}
use Rattle.block_store.specs.Payloads.{target}
use Rattle.block_store.specs.Widths.{payloads}
use Rattle.block_store.specs.Places.{Extent, extent, GreyList, ColourOf}
use Rattle.heap_machine.specs.Grey.{GreyInHand, no_grey, GreyKept}
use Rattle.heap_machine.specs.WorkInHand.{grey_held}
use Rattle.heap_machine.specs.Operations.{Operation, Exchange, heap_after}
use Rattle.heap_machine.specs.declared.pass.Pass.{Pass}
use Rattle.heap_machine.proofs.Lemmas.{own_empty, scan_is_grey}
use Rattle.grey_steps.specs.declared.rows.GreyRow.{GreyRow}
use Rattle.grey_steps.specs.declared.rows.GreyRow.TheVariants.{Take, Pop, ScanWord, Shade, Blacken, Put, Scanned, NothingGrey, TakeOwn, ShadeStored, PutOwn, Shaded}
use Rattle.grey_steps.specs.Rows.{GreyState, list_of, row_got, row_want, after_take, after_word, shaded_list, grey_want, grey_got, grey_over, grey_unit, grey_nothing, grey_in_hand, marking_in_hand, scanning}
use Rattle.grey_steps.specs.Fits.{GreyFits}
use Rattle.grey_steps.specs.MarkUnits.{is_blackening, is_putting, is_shading, block_stored, grey_after, begins_with_zeros}
use Rattle.grey_steps.proofs.GreyRuleKept.{low_thread}

-- what a test says of both rows of a choice it says of the one that is taken
either : (P : GreyRow → Type 0) (b : Bool) (p q : GreyRow) → P p → P q → P (cond b p q)
either P true p q a c = a
either P false p q a c = c

abbrev IsShading : GreyRow → Type 0
IsShading r = is_shading r ≡ true

pub shading_goes_on : (m n c : ℕ) (r : GreyRow) (w : ℕ) → IsShading r
    → IsShading (row_got m n c r w)
shading_goes_on m n c (TakeOwn y) w is = refl
shading_goes_on m n c (ShadeStored y a) w is =
    either IsShading (eqb (shaded_list c y a w) 0) (Shaded y) (PutOwn y (shaded_list c y a w)) refl
    refl
shading_goes_on m n c (PutOwn y a) w is = refl
shading_goes_on m n c (Shaded y) w is = refl
shading_goes_on m n c _ w is = absurd cc

-- of the same block
pub block_stays : (m n c : ℕ) (r : GreyRow) (w : ℕ) → IsShading r
    → block_stored (row_got m n c r w) ≡ block_stored r
block_stays m n c (TakeOwn y) w is = refl
block_stays m n c (ShadeStored y a) w is =
    let next = shaded_list c y a w in
    either (λ r. block_stored r ≡ y) (eqb next 0) (Shaded y) (PutOwn y next) refl refl
block_stays m n c (PutOwn y a) w is = refl
block_stays m n c (Shaded y) w is = refl
block_stays m n c _ w is = absurd cc

shading_is_none : (r : GreyRow) → IsShading r → (grey_nothing r ≡ false) × (grey_unit r ≡ false)
shading_is_none (TakeOwn y) is = (refl, refl)
shading_is_none (ShadeStored y a) is = (refl, refl)
shading_is_none (PutOwn y a) is = (refl, refl)
shading_is_none (Shaded y) is = (refl, refl)
shading_is_none _ is = absurd cc

-- a shading never finds nothing, and makes no unit
pub shading_ends : (e : Extent) (s : GreyState) → IsShading s.row → (ws : List ℕ)
    → (grey_nothing (grey_after e s ws).row ≡ false) × (grey_unit (grey_after e s ws).row ≡ false)
shading_ends e s is [] = shading_is_none s.row is
shading_ends e s is (w ∷ ws) = shading_ends e (grey_got e s w)
    (shading_goes_on (payloads e.width) s.pass.threads s.pass.cycle s.row w is) ws

-- a scan has no row of a shading
abbrev IsScan : GreyRow → Type 0
IsScan r = is_shading r ≡ false

pub scan_goes_on : (m n c : ℕ) (r : GreyRow) (w : ℕ) → IsScan r → IsScan (row_got m n c r w)
scan_goes_on m n c (Take u) w is = either IsScan (eqb w 0) _ _
    (either IsScan (ltb (u + 1) n) (Take (u + 1)) NothingGrey refl refl) refl
scan_goes_on m n c (Pop a) w is = refl
scan_goes_on m n c (ScanWord x j a) w is = either IsScan (eqb (target w) 0) (after_word m x j a)
    (Shade x j (target w) a)
    (either IsScan (ltb (j + 1) m) (ScanWord x (j + 1) a) (Blacken x a) refl refl) refl
scan_goes_on m n c (Shade x j y a) w is = either IsScan (ltb (j + 1) m)
    (ScanWord x (j + 1) (shaded_list c y a w)) (Blacken x (shaded_list c y a w)) refl refl
scan_goes_on m n c (Blacken x a) w is = either IsScan (eqb a 0) Scanned (Put a) refl refl
scan_goes_on m n c (Put a) w is = refl
scan_goes_on m n c Scanned w is = refl
scan_goes_on m n c NothingGrey w is = refl
scan_goes_on m n c _ w is = absurd cc

pub scan_is_over : (e : Extent) (s : GreyState) → IsScan s.row → (ws : List ℕ)
    → is_shading (grey_after e s ws).row ≡ false
scan_is_over e s is [] = is
scan_is_over e s is (w ∷ ws) = scan_is_over e (grey_got e s w)
    (scan_goes_on (payloads e.width) s.pass.threads s.pass.cycle s.row w is) ws

-- the rows of the shading of block y
abbrev Shades : ℕ → GreyRow → Type 0
Shades y (TakeOwn z) = z ≡ y
Shades y (ShadeStored z a) = z ≡ y
Shades y (PutOwn z a) = z ≡ y
Shades y (Shaded z) = z ≡ y
Shades y _ = ⊥

shades_on : (y m n c : ℕ) (r : GreyRow) (w : ℕ) → Shades y r → Shades y (row_got m n c r w)
shades_on y m n c (TakeOwn z) w is = is
shades_on y m n c (ShadeStored z a) w is = either (Shades y) (eqb (shaded_list c z a w) 0)
    (Shaded z) (PutOwn z (shaded_list c z a w)) is is
shades_on y m n c (PutOwn z a) w is = is
shades_on y m n c (Shaded z) w is = is
shades_on y m n c _ w is = absurd is

shades_until : (y : ℕ) (r : GreyRow) → Shades y r → grey_over r ≡ true → r ≡ Shaded y
shades_until y (Shaded z) is over = ap Shaded is
shades_until y Scanned is over = absurd is
shades_until y NothingGrey is over = absurd is
shades_until y _ is over = absurd cc

-- a shading that is over has shaded its block
pub shade_is_over : (e : Extent) (y : ℕ) (s : GreyState) → Shades y s.row → (ws : List ℕ)
    → grey_over (grey_after e s ws).row ≡ true → (grey_after e s ws).row ≡ Shaded y
shade_is_over e y s is [] over = shades_until y s.row is over
shade_is_over e y s is (w ∷ ws) over = shade_is_over e y (grey_got e s w)
    (shades_on y (payloads e.width) s.pass.threads s.pass.cycle s.row w is) ws over

-- a row is a unit or is not
abbrev IsUnit : Bool → GreyRow → Type 0
IsUnit b r = grey_unit r ≡ b

row_unit : (m n c : ℕ) (r : GreyRow) (w : ℕ) → grey_unit (row_got m n c r w)
    ≡ (grey_unit r || is_blackening r)
row_unit m n c (Take u) w = either (IsUnit false) (eqb w 0) _ _
    (either (IsUnit false) (ltb (u + 1) n) (Take (u + 1)) NothingGrey refl refl) refl
row_unit m n c (Pop a) w = refl
row_unit m n c (ScanWord x j a) w = either (IsUnit false) (eqb (target w) 0) (after_word m x j a)
    (Shade x j (target w) a)
    (either (IsUnit false) (ltb (j + 1) m) (ScanWord x (j + 1) a) (Blacken x a) refl refl) refl
row_unit m n c (Shade x j y a) w = either (IsUnit false) (ltb (j + 1) m)
    (ScanWord x (j + 1) (shaded_list c y a w)) (Blacken x (shaded_list c y a w)) refl refl
row_unit m n c (Blacken x a) w = either (IsUnit true) (eqb a 0) Scanned (Put a) refl refl
row_unit m n c (Put a) w = refl
row_unit m n c Scanned w = refl
row_unit m n c NothingGrey w = refl
row_unit m n c (TakeOwn y) w = refl
row_unit m n c (ShadeStored y a) w = either (IsUnit false) (eqb (shaded_list c y a w) 0) (Shaded y)
    (PutOwn y (shaded_list c y a w)) refl refl
row_unit m n c (PutOwn y a) w = refl
row_unit m n c (Shaded y) w = refl

pub unit_after : (e : Extent) (s : GreyState) (w : ℕ)
    → grey_unit (grey_got e s w).row ≡ (grey_unit s.row || is_blackening s.row)
unit_after e s w = row_unit (payloads e.width) s.pass.threads s.pass.cycle s.row w

unit_is_over : (r : GreyRow) → grey_unit r ≡ true → is_blackening r ≡ false
unit_is_over (Put a) e = refl
unit_is_over Scanned e = refl
unit_is_over _ e = absurd cc

pub unit_once : (s : GreyState) → grey_unit s.row ≡ true → is_blackening s.row ≡ false
unit_once s e = unit_is_over s.row e

blackens : (m t n c : ℕ) (r : GreyRow) → is_blackening r ≡ true
    → (x : ℕ) × ((grey_in_hand m r).scan ≡ Some x)
    × (row_want t n c r ≡ Exchange (ColourOf x) (black_word c))
blackens m t n c (Blacken x a) e = (x, refl, refl)
blackens m t n c _ e = absurd cc

pub unit_event : (e : Extent) (s : GreyState) → is_blackening s.row ≡ true
    → (x : ℕ) × ((marking_in_hand e s).scan ≡ Some x)
    × (grey_want s ≡ Exchange (ColourOf x) (black_word s.pass.cycle))
unit_event e s is = blackens (payloads e.width) s.pass.thread s.pass.threads s.pass.cycle s.row is

writes_black : (h : Heap) (o : Operation) (x v : ℕ) → o ≡ Exchange (ColourOf x) v
    → heap_after h o (ColourOf x) ≡ v
writes_black h o x v e = rw e (rw (eq-eqb x x refl) refl)

one_block : (x y : ℕ) (o : Option ℕ) → o ≡ Some x → o ≡ Some y → x ≡ y
one_block x y o a b = (let e : Some x ≡ Some y = sym a ∙ b in cc)

pub unit_grey : (c : Config) (h : Heap) (hs : ℕ → GreyInHand) (s : GreyState) (x : ℕ)
    → GreyFits c s → GreyKept c.threads h hs → hs s.pass.thread ≡ grey_held
    (marking_in_hand (extent c) s) → is_blackening s.row ≡ true → (marking_in_hand (extent c) s).scan ≡ Some x
    → (is_grey (h (ColourOf x)) ≡ true)
    × (heap_after h (grey_want s) (ColourOf x) ≡ black_word s.pass.cycle)
unit_grey c h hs s x f k e is scan =
    let b = unit_event (extent c) s is in
    let same : b.0 ≡ x = one_block b.0 x (marking_in_hand (extent c) s).scan b.1 scan in
    let wants : grey_want s ≡ Exchange (ColourOf x) (black_word s.pass.cycle) =
    subst (λ y. grey_want s ≡ Exchange (ColourOf y) (black_word s.pass.cycle)) same b.2 in (
      scan_is_grey c.threads h hs k s.pass.thread x (low_thread c s f)
          (ap (λ (w : GreyInHand). w.scan) e ∙ scan),
      writes_black h (grey_want s) x
          (black_word s.pass.cycle) wants,
    )

put_row : (m t n c : ℕ) (r : GreyRow) → is_putting r ≡ true
    → (row_want t n c r ≡ Exchange (GreyList t) (grey_in_hand m r).list)
    × ((grey_in_hand m r).emptied ≡ true)
put_row m t n c (Put a) e = (refl, refl)
put_row m t n c (PutOwn y a) e = (refl, refl)
put_row m t n c _ e = absurd cc

-- a part that is over holds nothing
pub over_holds_none : (m : ℕ) (r : GreyRow) → grey_over r ≡ true
    → grey_held (grey_in_hand m r) ≡ no_grey
over_holds_none m Scanned e = refl
over_holds_none m NothingGrey e = refl
over_holds_none m (Shaded y) e = refl
over_holds_none m _ e = absurd cc

-- where a private list is put, the list is empty
pub put_on_empty : (c : Config) (h : Heap) (hs : ℕ → GreyInHand) (s : GreyState) → GreyFits c s
    → GreyKept c.threads h hs → hs s.pass.thread ≡ grey_held (marking_in_hand (extent c) s)
    → is_putting s.row ≡ true
    → (grey_want s ≡ Exchange (GreyList s.pass.thread) (marking_in_hand (extent c) s).list)
    × (h (GreyList s.pass.thread) ≡ 0)
put_on_empty c h hs s f k e is =
    let p = put_row (payloads c.width) s.pass.thread s.pass.threads s.pass.cycle s.row is in (
      p.0,
      own_empty c.threads h hs k s.pass.thread (low_thread c s f)
          (grey_held (marking_in_hand (extent c) s)) e p.1,
    )

-- each list is one of those that are taken
pub each_list : (t n v : ℕ) → t < n → v < n → (u : ℕ) × (u < n) × (list_of t n u ≡ v)
unfolding list_of
each_list t n v low vlow = elim (cases_lt v t) [
  | inl below ↦
      let sum : t + (v + n - t) ≡ 1 * n + v = omega arith in
      (v + n - t, omega arith, rw sum (mod-mul-add 1 n v vlow))
  | inr above ↦
      let sum : t + (v - t) ≡ v = omega arith in
      (v - t, omega arith, rw sum (mod-eq_of_lt vlow))
]

-- the rows at which a list was found, and those after them
abbrev has_list : GreyRow → Bool
has_list (Pop a) = true
has_list (ScanWord x j a) = true
has_list (Shade x j y a) = true
has_list (Blacken x a) = true
has_list (Put a) = true
has_list Scanned = true
has_list _ = false

abbrev HasList : GreyRow → Type 0
HasList r = has_list r ≡ true

list_stays : (m n c : ℕ) (r : GreyRow) (w : ℕ) → HasList r → HasList (row_got m n c r w)
list_stays m n c (Pop a) w e = refl
list_stays m n c (ScanWord x j a) w e = either HasList (eqb (target w) 0) (after_word m x j a)
    (Shade x j (target w) a)
    (either HasList (ltb (j + 1) m) (ScanWord x (j + 1) a) (Blacken x a) refl refl) refl
list_stays m n c (Shade x j y a) w e = either HasList (ltb (j + 1) m)
    (ScanWord x (j + 1) (shaded_list c y a w)) (Blacken x (shaded_list c y a w)) refl refl
list_stays m n c (Blacken x a) w e = either HasList (eqb a 0) Scanned (Put a) refl refl
list_stays m n c (Put a) w e = refl
list_stays m n c Scanned w e = refl
list_stays m n c _ w e = absurd cc

some_list : (r : GreyRow) → HasList r → grey_nothing r ≡ false
some_list NothingGrey e = absurd cc
some_list (Take u) e = refl
some_list (Pop a) e = refl
some_list (ScanWord x j a) e = refl
some_list (Shade x j y a) e = refl
some_list (Blacken x a) e = refl
some_list (Put a) e = refl
some_list Scanned e = refl
some_list (TakeOwn y) e = refl
some_list (ShadeStored y a) e = refl
some_list (PutOwn y a) e = refl
some_list (Shaded y) e = refl

-- the state of a row
abbrev at : Pass → GreyRow → GreyState
at p r = record { pass = p; row = r }

module _ (e : Extent) (p : Pass) where
  after_list : (r : GreyRow) (ws : List ℕ) → HasList r
      → grey_nothing (grey_after e (at p r) ws).row ≡ false
  after_list r [] h = some_list r h
  after_list r (w ∷ ws) h = after_list (row_got (payloads e.width) p.threads p.cycle r w) ws
      (list_stays (payloads e.width) p.threads p.cycle r w h)

  after_nothing : (ws : List ℕ) → grey_nothing (grey_after e (at p NothingGrey) ws).row ≡ true
  after_nothing [] = refl
  after_nothing (w ∷ ws) = after_nothing ws

  went : (u w : ℕ) (ws : List ℕ) (r : GreyRow) (b : Bool) → after_take p.threads u w ≡ r
      → grey_nothing (grey_after e (at p r) ws).row ≡ b
      → grey_nothing (grey_after e (at p (Take u)) (w ∷ ws)).row ≡ b
  went u w ws r b is k = subst (λ q. grey_nothing (grey_after e (at p q) ws).row ≡ b) (sym is) k

  -- d lists are left after the u-th
  from_take : (d u : ℕ) (ws : List ℕ) → u + suc d ≡ p.threads
      → grey_nothing (grey_after e (at p (Take u)) ws).row ≡ begins_with_zeros (suc d) ws
  from_take d u [] h = refl
  from_take zero u (w ∷ ws) h = elim (cases_Bool (eqb w 0)) [
    | inr some ↦ went u w ws (Pop w) (eqb w 0 && true) (rw some refl)
        (after_list (Pop w) ws refl ∙ rw some refl)
    | inl none ↦ went u w ws NothingGrey (eqb w 0 && true)
        (rw (none, le-ltb (u + 1) p.threads (omega arith)) refl) (after_nothing ws ∙ rw none refl)
  ]
  from_take (suc d) u (w ∷ ws) h = elim (cases_Bool (eqb w 0)) [
    | inr some ↦ went u w ws (Pop w) (eqb w 0 && begins_with_zeros (suc d) ws) (rw some refl)
        (after_list (Pop w) ws refl ∙ rw some refl)
    | inl none ↦ went u w ws (Take (u + 1)) (eqb w 0 && begins_with_zeros (suc d) ws)
        (rw (none, lt-ltb (u + 1) p.threads (omega arith)) refl)
        (from_take d (u + 1) ws (omega arith) ∙ rw none refl)
  ]

  pub nothing_is_zeros : (ws : List ℕ) → p.thread < p.threads
      → grey_nothing (grey_after e (scanning p) ws).row ≡ begins_with_zeros p.threads ws
  nothing_is_zeros ws low =
      let split : suc (p.threads - 1) ≡ p.threads = omega arith in
      subst (λ m. grey_nothing (grey_after e (scanning p) ws).row ≡ begins_with_zeros m ws) split
      (from_take (p.threads - 1) 0 ws (omega arith))

  -- while each list was read 0, the next is taken
  takes_from : (u : ℕ) (ws : List ℕ) → u + length ws < p.threads
      → begins_with_zeros (length ws) ws ≡ true
      → (grey_after e (at p (Take u)) ws).row ≡ Take (u + length ws)
  takes_from u [] low h = ap Take (omega arith)
  takes_from u (w ∷ ws) low h =
      let z = and_parts (eqb w 0) (begins_with_zeros (length ws) ws) h in
      let next : u + 1 < p.threads = omega arith in
      let sum : u + 1 + length ws ≡ u + length (w ∷ ws) = omega arith in
      let empty : eqb w 0 ≡ true = z.0 in
      let step : after_take p.threads u w ≡ Take (u + 1) =
      rw (empty, lt-ltb (u + 1) p.threads next) refl in
      subst (λ r. (grey_after e (at p r) ws).row ≡ Take (u + length (w ∷ ws))) (sym step)
      (takes_from (u + 1) ws (omega arith) z.1 ∙ ap Take sum)

  same_numbers : (r : GreyRow) (ws : List ℕ) → grey_after e (at p r) ws ≡ at p
      (grey_after e (at p r) ws).row
  same_numbers r [] = refl
  same_numbers r (w ∷ ws) = same_numbers (row_got (payloads e.width) p.threads p.cycle r w) ws

  pub each_is_taken : (ws : List ℕ) → length ws < p.threads
      → begins_with_zeros (length ws) ws ≡ true
      → grey_want (grey_after e (scanning p) ws)
      ≡ Exchange (GreyList (list_of p.thread p.threads (length ws))) 0
  each_is_taken ws low h =
      ap grey_want (same_numbers (Take 0) ws) ∙ ap (row_want p.thread p.threads p.cycle)
      (takes_from 0 ws (omega arith) h ∙ ap Take (omega arith))
