-- Each event of marking keeps that no block that is not Free refers to a Free one, and that the
-- root blocks are marked.
use Rattle.std.proofs.Common.{◌≡◌, ℕ, ◌<◌, true, false, eqb, refl, arith, sym, ap, ◌∙◌, inl, inr, eqb-true}
use Rattle.std.proofs.lemmas.Bool.{cases_Bool}
use Rattle.block_store.specs.declared.Config.{Config}
use Rattle.block_store.specs.Colours.{kind, is_free, is_grey, grey_word, white_word, black_word}
use Rattle.block_store.proofs.Lemmas.{grey_grey, not_free_black, not_free_grey, not_free_white}
use Rattle.block_store.specs.Heaps.{Heap, put_at}
use Rattle.block_store.specs.Widths.{payloads}
use Rattle.block_store.specs.Places.{Extent, extent, GreyList, ColourOf}
use Rattle.heap_machine.specs.Grey.{GreyInHand, GreyKept}
use Rattle.heap_machine.specs.WorkInHand.{grey_held}
use Rattle.heap_machine.specs.Operations.{heap_after}
use Rattle.heap_machine.specs.Solid.{SolidKept}
use Rattle.heap_machine.proofs.Lemmas.{scan_is_grey, solid_colour, solid_place}
use Rattle.grey_steps.specs.declared.rows.GreyRow.{GreyRow}
use Rattle.grey_steps.specs.declared.rows.GreyRow.TheVariants.{Take, Pop, ScanWord, Shade, Blacken, Put, Scanned, NothingGrey, TakeOwn, ShadeStored, PutOwn, Shaded}
use Rattle.grey_steps.specs.Rows.{GreyState, list_of, row_want, grey_want, grey_in_hand, marking_in_hand}
use Rattle.grey_steps.specs.Fits.{GreyFits}
use Rattle.grey_steps.proofs.GreyRuleKept.{low_thread}

grey_or_free : (w : ℕ) → is_grey w ≡ true → is_free w ≡ true → ⊥
grey_or_free w g f = omega (arith, eqb-true (kind w) 3 g, eqb-true (kind w) 0 f)

white_or_free : (c w : ℕ) → eqb w (white_word c) ≡ true → is_free w ≡ true → ⊥
white_or_free c w is free = let q : true ≡ false =
    sym free ∙ ap is_free (eqb-true w (white_word c) is) ∙ not_free_white c in cc

module _ (e : Extent) (n c : ℕ) (h : Heap) (hs : ℕ → GreyInHand) (grey : GreyKept e.threads h hs)
    (t : ℕ) (low : t < e.threads) (k : SolidKept e c h) where
  -- a white block becomes grey
  greys : (y a : ℕ) → SolidKept e c (heap_after h (row_want t n c (ShadeStored y a)))
  greys y a = elim (cases_Bool (eqb (h (ColourOf y)) (white_word c))) [
    | inl is ↦ rw is
        (solid_colour e c h y (grey_word a) (not_free_grey a)
        (λ free. absurd (white_or_free c (h (ColourOf y)) is free)) (λ u l q. inl (grey_grey a)) k)
    | inr is ↦ rw is k
  ]

  -- the block under scan becomes black
  blackens : (x a : ℕ) → hs t ≡ grey_held (grey_in_hand (payloads e.width) (Blacken x a))
      → SolidKept e c (put_at h (ColourOf x) (black_word c))
  blackens x a is_held =
      let is : is_grey (h (ColourOf x)) ≡ true =
      scan_is_grey e.threads h hs grey t x low (ap (λ (w : GreyInHand). w.scan) is_held) in
      solid_colour e c h x (black_word c) (not_free_black c)
      (λ free. absurd (grey_or_free (h (ColourOf x)) is free)) (λ u l q. inr refl) k

  row_keeps : (r : GreyRow) → hs t ≡ grey_held (grey_in_hand (payloads e.width) r)
      → SolidKept e c (heap_after h (row_want t n c r))
  row_keeps (Take u) is_held = solid_place e c h (GreyList (list_of t n u)) 0 refl k
  row_keeps (Pop a) is_held = k
  row_keeps (ScanWord x j a) is_held = k
  row_keeps (Shade x j y a) is_held = greys y a
  row_keeps (Blacken x a) is_held = blackens x a is_held
  row_keeps (Put a) is_held = solid_place e c h (GreyList t) a refl k
  row_keeps Scanned is_held = k
  row_keeps NothingGrey is_held = k
  row_keeps (TakeOwn y) is_held = solid_place e c h (GreyList t) 0 refl k
  row_keeps (ShadeStored y a) is_held = greys y a
  row_keeps (PutOwn y a) is_held = solid_place e c h (GreyList t) a refl k
  row_keeps (Shaded y) is_held = k

pub keeps_solid : (c : Config) (h : Heap) (hs : ℕ → GreyInHand) (s : GreyState) → GreyFits c s
    → GreyKept c.threads h hs → hs s.pass.thread ≡ grey_held (marking_in_hand (extent c) s)
    → SolidKept (extent c) s.pass.cycle h → SolidKept (extent c) s.pass.cycle
    (heap_after h (grey_want s))
keeps_solid c h hs s f grey is_held k =
    let low = low_thread c s f in
    row_keeps (extent c) s.pass.threads s.pass.cycle h hs grey s.pass.thread low k s.row is_held
