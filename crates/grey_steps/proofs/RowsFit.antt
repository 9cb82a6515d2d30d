-- What holds of the rows: their places are in range, and a row that fits becomes one that fits.
use Rattle.std.proofs.Common.{◌≡◌, ℕ, ◌<◌, ◌≤◌, ◌+◌, true, is_some, arith, refl, ap, sym, subst, inl, inr, eqb, ltb, eq-eqb, ne_eqb, ltb-true}
use Rattle.std.proofs.lemmas.Bool.{cases_Bool, cases_eq, lt-ltb}
use Rattle.block_store.specs.declared.Config.{Config}
use Rattle.block_store.specs.declared.Colour.TheVariants.{Grey}
use Rattle.block_store.specs.Colours.{grey_word, black_word, white_word}
use Rattle.block_store.proofs.Lemmas.{block_in, colour-black, colour-code, hand_block, link-black, link-grey, wide}
use Rattle.block_store.specs.Heaps.{Heap}
use Rattle.block_store.specs.Payloads.{target}
use Rattle.block_store.specs.Widths.{payloads}
use Rattle.block_store.specs.Places.{extent, in_range, is_block, IsBlock, ColourOf}
use Rattle.heap_machine.specs.Operations.{place_of, heap_after, Fits}
use Rattle.heap_machine.specs.declared.pass.Pass.{Pass}
use Rattle.heap_machine.specs.Readings.{CanHold, StoresHeld, IsHeld}
use Rattle.heap_machine.proofs.Lemmas.{held_after}
use Rattle.grey_steps.specs.declared.rows.GreyRow.{GreyRow}
use Rattle.grey_steps.specs.declared.rows.GreyRow.TheVariants.{Take, Pop, ScanWord, Shade, Blacken, Put, Scanned, NothingGrey, TakeOwn, ShadeStored, PutOwn, Shaded}
use Rattle.grey_steps.specs.Rows.{GreyState, list_of, row_want, row_got, after_word, after_stored, shaded_list, grey_want, grey_got, scanning, shading}
use Rattle.grey_steps.specs.Fits.{RowFits, GreyFits, GreyReads}
use Rattle.grey_steps.proofs.GreyRuleKept.{list_low, low_thread}

pub scan_fits : (c : Config) (p : Pass) → p.threads ≡ c.threads → p.threads ≤ 16 → c.blocks ≤ 65535
    → p.thread < p.threads → GreyFits c (scanning p)
scan_fits c p same few blocks low =
    record { threads = same; few = few; blocks = blocks; thread = low; row = omega arith }

pub shade_fits : (c : Config) (p : Pass) (y : ℕ) → p.threads ≡ c.threads → p.threads ≤ 16
    → c.blocks ≤ 65535 → p.thread < p.threads → IsBlock c y → GreyFits c (shading p y)
shade_fits c p y same few blocks low is =
    record { threads = same; few = few; blocks = blocks; thread = low; row = is }

word_fits : (c : Config) (x j a : ℕ) → IsBlock c x → a ≤ c.blocks
    → RowFits c (after_word (payloads c.width) x j a)
word_fits c x j a block high = elim (cases_Bool (ltb (j + 1) (payloads c.width))) [
  | inl is ↦ rw is (block, ltb-true (j + 1) (payloads c.width) is, high)
  | inr is ↦ rw is (block, high)
]

private_fits : (c : Config) (cycle y a w : ℕ) → IsBlock c y → a ≤ c.blocks
    → shaded_list cycle y a w ≤ c.blocks
private_fits c cycle y a w block high = elim (cases_Bool (eqb w (white_word cycle))) [
  | inl is ↦ rw is block.1
  | inr is ↦ rw is high
]

stored_fits : (c : Config) (y a : ℕ) → IsBlock c y → a ≤ c.blocks → RowFits c (after_stored y a)
stored_fits c y a block high = elim (cases_eq a 0) [
  | inl z ↦ rw (eq-eqb a 0 z) block
  | inr nz ↦ rw (ne_eqb a 0 nz) (block, hand_block c a nz high)
]

module _ (c : Config) (t cycle : ℕ) where
  row_fits : (r : GreyRow) (w : ℕ) → RowFits c r
      → CanHold (extent c) (place_of (row_want t c.threads cycle r)) w
      → RowFits c (row_got (payloads c.width) c.threads cycle r w)
  row_fits (Take u) w f reads = elim (cases_eq w 0) [
    | inl z ↦ elim (cases_Bool (ltb (u + 1) c.threads)) [
      | inl more ↦ rw (eq-eqb w 0 z, more) (ltb-true (u + 1) c.threads more)
      | inr last ↦ rw (eq-eqb w 0 z, last) tt
    ]
    | inr nz ↦ rw (ne_eqb w 0 nz) (hand_block c w nz reads)
  ]
  row_fits (Pop a) w f reads = (f, omega (arith, (wide c.width).0), reads.1)
  row_fits (ScanWord x j a) w f reads = elim (cases_eq (target w) 0) [
    | inl z ↦ rw (eq-eqb (target w) 0 z) (word_fits c x j a f.0 f.2)
    | inr nz ↦ rw (ne_eqb (target w) 0 nz) (f.0, f.1, hand_block c (target w) nz reads.1, f.2)
  ]
  row_fits (Shade x j y a) w f reads =
      word_fits c x j (shaded_list cycle y a w) f.0 (private_fits c cycle y a w f.2 f.3)
  row_fits (Blacken x a) w f reads = elim (cases_eq a 0) [
    | inl z ↦ rw (eq-eqb a 0 z) tt
    | inr nz ↦ rw (ne_eqb a 0 nz) (hand_block c a nz f.1)
  ]
  row_fits (Put a) w f reads = tt
  row_fits Scanned w f reads = tt
  row_fits NothingGrey w f reads = tt
  row_fits (TakeOwn y) w f reads = (f, reads)
  row_fits (ShadeStored y a) w f reads =
      stored_fits c y (shaded_list cycle y a w) f.0 (private_fits c cycle y a w f.0 f.1)
  row_fits (PutOwn y a) w f reads = f.0
  row_fits (Shaded y) w f reads = f

  row_place : (r : GreyRow) → t < c.threads → RowFits c r
      → in_range (extent c) (place_of (row_want t c.threads cycle r)) ≡ true
  row_place (Take u) low f = lt-ltb (list_of t c.threads u) c.threads (list_low t c.threads u low)
  row_place (Pop a) low f = block_in c a f
  row_place (ScanWord x j a) low f = let block : is_block (extent c) x ≡ true = block_in c x f.0 in
      rw block (lt-ltb j (payloads c.width) f.1)
  row_place (Shade x j y a) low f = block_in c y f.2
  row_place (Blacken x a) low f = block_in c x f.0
  row_place (Put a) low f = lt-ltb t c.threads low
  row_place Scanned low f = refl
  row_place NothingGrey low f = refl
  row_place (TakeOwn y) low f = lt-ltb t c.threads low
  row_place (ShadeStored y a) low f = block_in c y f.0
  row_place (PutOwn y a) low f = lt-ltb t c.threads low
  row_place (Shaded y) low f = refl

  grey_held : (y a : ℕ) → c.blocks ≤ 65535 → a ≤ c.blocks
      → CanHold (extent c) (ColourOf y) (grey_word a)
  grey_held y a few high =
      (ap is_some (colour-code (Grey a) (omega arith)), omega (arith, link-grey a))

  black_held : (x : ℕ) → CanHold (extent c) (ColourOf x) (black_word cycle)
  black_held x = (ap is_some (colour-black cycle), omega (arith, link-black cycle))

  row_stores : (r : GreyRow) → c.blocks ≤ 65535 → RowFits c r
      → StoresHeld c (row_want t c.threads cycle r)
  row_stores (Take u) few f = omega arith
  row_stores (Pop a) few f = tt
  row_stores (ScanWord x j a) few f = tt
  row_stores (Shade x j y a) few f = grey_held y a few f.3
  row_stores (Blacken x a) few f = black_held x
  row_stores (Put a) few f = f.1
  row_stores Scanned few f = tt
  row_stores NothingGrey few f = tt
  row_stores (TakeOwn y) few f = omega arith
  row_stores (ShadeStored y a) few f = grey_held y a few f.1
  row_stores (PutOwn y a) few f = f.1.1
  row_stores (Shaded y) few f = tt

row_sum : (t n c : ℕ) (r : GreyRow) (w : ℕ) → Fits (row_want t n c r) w
row_sum t n c (Take u) w = tt
row_sum t n c (Pop a) w = tt
row_sum t n c (ScanWord x j a) w = tt
row_sum t n c (Shade x j y a) w = tt
row_sum t n c (Blacken x a) w = tt
row_sum t n c (Put a) w = tt
row_sum t n c Scanned w = tt
row_sum t n c NothingGrey w = tt
row_sum t n c (TakeOwn y) w = tt
row_sum t n c (ShadeStored y a) w = tt
row_sum t n c (PutOwn y a) w = tt
row_sum t n c (Shaded y) w = tt

pub next_fits : (c : Config) (s : GreyState) (w : ℕ) → GreyFits c s → GreyReads c s w
    → GreyFits c (grey_got (extent c) s w)
next_fits c s w f reads = record {
  threads = f.threads;
  few = f.few;
  blocks = f.blocks;
  thread = f.thread;
  row =
      let word = subst
      (λ n. CanHold (extent c) (place_of (row_want s.pass.thread n s.pass.cycle s.row)) w)
      f.threads reads in
      subst (λ n. RowFits c (row_got (payloads c.width) n s.pass.cycle s.row w)) (sym f.threads)
      (row_fits c s.pass.thread s.pass.cycle s.row w f.row word);
}

pub place_fits : (c : Config) (s : GreyState) → GreyFits c s
    → in_range (extent c) (place_of (grey_want s)) ≡ true
place_fits c s f = subst
    (λ n. in_range (extent c) (place_of (row_want s.pass.thread n s.pass.cycle s.row)) ≡ true)
    (sym f.threads)
    (row_place c s.pass.thread s.pass.cycle s.row
    (low_thread c s f) f.row)

pub sum_fits : (s : GreyState) (w : ℕ) → Fits (grey_want s) w
sum_fits s w = row_sum s.pass.thread s.pass.threads s.pass.cycle s.row w

pub stores_held : (c : Config) (s : GreyState) → GreyFits c s → StoresHeld c (grey_want s)
stores_held c s f = subst (λ n. StoresHeld c (row_want s.pass.thread n s.pass.cycle s.row))
    (sym f.threads) (row_stores c s.pass.thread s.pass.cycle s.row f.blocks f.row)

pub keeps_words : (c : Config) (h : Heap) (s : GreyState) → GreyFits c s → IsHeld c h
    → IsHeld c (heap_after h (grey_want s))
keeps_words c h s f k = held_after c h (grey_want s) (stores_held c s f) k
