-- While the phase is Mark each event of marking keeps where Free blocks are, what is claimed and
-- what was passed.
use Rattle.std.proofs.Common.{◌≡◌, ℕ, ◌<◌, true, false, eqb, refl, arith, subst, sym, ap, ◌∙◌, inl, inr, eqb-true}
use Rattle.std.proofs.lemmas.Bool.{cases_Bool}
use Rattle.block_store.specs.declared.Config.{Config}
use Rattle.block_store.specs.Colours.{kind, is_free, is_grey, grey_word, white_word, black_word}
use Rattle.block_store.proofs.Lemmas.{not_free_black, not_free_grey, not_free_white}
use Rattle.block_store.specs.Heaps.{Heap, put_at}
use Rattle.block_store.specs.Phases.{is_sweep, cycle_of}
use Rattle.block_store.specs.Places.{Extent, extent, Phase, GreyList, ColourOf}
use Rattle.block_store.specs.Widths.{payloads}
use Rattle.block_store.specs.Counts.{changed}
use Rattle.heap_machine.specs.FreeBlocks.{no_free}
use Rattle.heap_machine.specs.Grey.{GreyKept}
use Rattle.heap_machine.specs.WorkInHand.{WorkInHand, grey_held, free_held, sweep_held}
use Rattle.heap_machine.specs.Operations.{Exchange, CompareExchange, place_of, heap_after}
use Rattle.heap_machine.specs.HeapKept.{HeapKept}
use Rattle.heap_machine.specs.PhaseKept.{PhaseKept}
use Rattle.heap_machine.specs.ReuseKept.{ReuseKept}
use Rattle.heap_machine.specs.Sweeping.{no_claim}
use Rattle.heap_machine.proofs.Lemmas.{from_mark, in_mark, reuse_colour, reuse_other, reuse_stays, scan_is_grey}
use Rattle.grey_steps.specs.declared.rows.GreyRow.{GreyRow}
use Rattle.grey_steps.specs.declared.rows.GreyRow.TheVariants.{Take, Pop, ScanWord, Shade, Blacken, Put, Scanned, NothingGrey, TakeOwn, ShadeStored, PutOwn, Shaded}
use Rattle.grey_steps.specs.Rows.{GreyState, list_of, row_want, grey_want, grey_got, grey_in_hand, marking_in_hand}
use Rattle.grey_steps.specs.Fits.{GreyFits}
use Rattle.grey_steps.proofs.AllRules.{keeps_heap}
use Rattle.grey_steps.proofs.GreyRuleKept.{low_thread}

-- marking holds nothing of either rule
none_held : (m : ℕ) (r : GreyRow)
    → (free_held (grey_in_hand m r) ≡ no_free) × (sweep_held (grey_in_hand m r) ≡ no_claim)
none_held m (Take u) = (refl, refl)
none_held m (Pop a) = (refl, refl)
none_held m (ScanWord x j a) = (refl, refl)
none_held m (Shade x j y a) = (refl, refl)
none_held m (Blacken x a) = (refl, refl)
none_held m (Put a) = (refl, refl)
none_held m Scanned = (refl, refl)
none_held m NothingGrey = (refl, refl)
none_held m (TakeOwn y) = (refl, refl)
none_held m (ShadeStored y a) = (refl, refl)
none_held m (PutOwn y a) = (refl, refl)
none_held m (Shaded y) = (refl, refl)

-- a grey block is not Free
grey_live : (w : ℕ) → is_grey w ≡ true → is_free w ≡ false
grey_live w g = elim (cases_Bool (is_free w)) [
  | inl f ↦ absurd (omega (arith, eqb-true (kind w) 3 g, eqb-true (kind w) 0 f))
  | inr f ↦ f
]

module _ (e : Extent) (h : Heap) (hs : ℕ → WorkInHand) (k : ReuseKept e h hs) (n c t : ℕ)
    (low : t < e.threads) (mark : is_sweep (h Phase) ≡ false)
    (grey : GreyKept e.threads h (λ u. grey_held (hs u))) where
  -- in Mark a colour may be any
  colour : (x v : ℕ) → is_free (h (ColourOf x)) ≡ false → is_free v ≡ false
      → ReuseKept e (put_at h (ColourOf x) v) hs
  colour x v was live = reuse_colour e h hs k x v was live
      (λ sweep. absurd (let z : true ≡ false = sym sweep ∙ mark in cc))

  -- a white block becomes grey
  greys : (y a : ℕ) → ReuseKept e (heap_after h (row_want t n c (ShadeStored y a))) hs
  greys y a = elim (cases_Bool (eqb (h (ColourOf y)) (white_word c))) [
    | inl is ↦
        let white : is_free (h (ColourOf y)) ≡ false =
        ap is_free (eqb-true (h (ColourOf y)) (white_word c) is) ∙ not_free_white c in
        rw is (colour y (grey_word a) white (not_free_grey a))
    | inr is ↦ rw is k
  ]

  list : (u a : ℕ) → ReuseKept e (put_at h (GreyList u) a) hs
  list u a = reuse_other e h hs k (Exchange (GreyList u) a) refl

  row_keeps : (r : GreyRow) → hs t ≡ grey_in_hand (payloads e.width) r
      → ReuseKept e (heap_after h (row_want t n c r)) hs
  row_keeps (Take u) is = list (list_of t n u) 0
  row_keeps (Pop a) is = k
  row_keeps (ScanWord x j a) is = k
  row_keeps (Shade x j y a) is = greys y a
  row_keeps (Blacken x a) is =
      let scanned = scan_is_grey e.threads h (λ u. grey_held (hs u)) grey t x low
      (ap (λ (w : WorkInHand). w.scan) is) in
      colour x (black_word c) (grey_live (h (ColourOf x)) scanned) (not_free_black c)
  row_keeps (Put a) is = list t a
  row_keeps Scanned is = k
  row_keeps NothingGrey is = k
  row_keeps (TakeOwn y) is = list t 0
  row_keeps (ShadeStored y a) is = greys y a
  row_keeps (PutOwn y a) is = list t a
  row_keeps (Shaded y) is = k

pub keeps_reuse : (c : Config) (h : Heap) (hs : ℕ → WorkInHand) (s : GreyState) → GreyFits c s
    → is_sweep (h Phase) ≡ false
    → GreyKept c.threads h (λ t. grey_held (hs t)) → ReuseKept (extent c) h hs
    → hs s.pass.thread ≡ marking_in_hand (extent c) s
    → ReuseKept (extent c) (heap_after h (grey_want s))
    (changed hs s.pass.thread
    (marking_in_hand (extent c) (grey_got (extent c) s (h (place_of (grey_want s))))))
keeps_reuse c h hs s f mark grey k is =
    let low = low_thread c s f in
    let m = payloads c.width in
    let next : GreyRow = (grey_got (extent c) s (h (place_of (grey_want s)))).row in
    reuse_stays (extent c) (heap_after h (grey_want s)) hs
    (row_keeps (extent c) h hs k s.pass.threads s.pass.cycle s.pass.thread low mark grey s.row is)
    s.pass.thread (grey_in_hand m next) low
    (ap free_held is ∙ (none_held m s.row).0 ∙ sym (none_held m next).0)
    (ap sweep_held is ∙ (none_held m s.row).1 ∙ sym (none_held m next).1)

-- no event of marking writes the phase word
shade_leaves : (h : Heap) (y old v : ℕ)
    → heap_after h (CompareExchange (ColourOf y) old v) Phase ≡ h Phase
shade_leaves h y old v = elim (cases_Bool (eqb (h (ColourOf y)) old)) [
  | inl is ↦ rw is refl
  | inr is ↦ rw is refl
]

pub leaves_phase : (h : Heap) (t n c : ℕ) (r : GreyRow)
    → heap_after h (row_want t n c r) Phase ≡ h Phase
leaves_phase h t n c (Take u) = refl
leaves_phase h t n c (Pop a) = refl
leaves_phase h t n c (ScanWord x j a) = refl
leaves_phase h t n c (Shade x j y a) = shade_leaves h y (white_word c) (grey_word a)
leaves_phase h t n c (Blacken x a) = refl
leaves_phase h t n c (Put a) = refl
leaves_phase h t n c Scanned = refl
leaves_phase h t n c NothingGrey = refl
leaves_phase h t n c (TakeOwn y) = refl
leaves_phase h t n c (ShadeStored y a) = shade_leaves h y (white_word c) (grey_word a)
leaves_phase h t n c (PutOwn y a) = refl
leaves_phase h t n c (Shaded y) = refl

-- all that is kept in Mark
pub keeps_phase : (c : Config) (h : Heap) (hs : ℕ → WorkInHand) (s : GreyState) → GreyFits c s
    → is_sweep (h Phase) ≡ false → cycle_of (h Phase) ≡ s.pass.cycle
    → PhaseKept (extent c) h hs → hs s.pass.thread ≡ marking_in_hand (extent c) s
    → PhaseKept (extent c) (heap_after h (grey_want s))
    (changed hs s.pass.thread
    (marking_in_hand (extent c) (grey_got (extent c) s (h (place_of (grey_want s))))))
keeps_phase c h hs s f mark cycle k is =
    let next : WorkInHand = marking_in_hand (extent c)
    (grey_got (extent c) s (h (place_of (grey_want s)))) in
    let same = leaves_phase h s.pass.thread s.pass.threads s.pass.cycle s.row in
    let old : HeapKept (extent c) s.pass.cycle h hs =
    subst (λ y. HeapKept (extent c) y h hs) cycle (in_mark (extent c) h hs k mark) in
    from_mark (extent c) (heap_after h (grey_want s)) (changed hs s.pass.thread next) s.pass.cycle
    (ap cycle_of same ∙ cycle)
    (keeps_heap c h hs s f old is) (keeps_reuse c h hs s f mark k.grey k.reuse is)
