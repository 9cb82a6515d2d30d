-- What holds of the rows: their places are in range, and a row that fits becomes one that fits.
use Rattle.std.proofs.Common.{◌≡◌, ℕ, ◌<◌, ◌≤◌, ◌+◌, ◌-◌, min, true, arith, refl, sym, subst, inl, inr, ⊎_elim, eqb, ltb, eq-eqb, ne_eqb, ltb-true, ltb-false}
use Rattle.std.proofs.lemmas.Bool.{cases_Bool, cases_eq, lt-ltb}
use Rattle.block_store.specs.declared.Config.{Config}
use Rattle.block_store.specs.Colours.{white_word}
use Rattle.block_store.specs.Places.{Extent, extent, in_range, is_block}
use Rattle.block_store.proofs.Indexes.{block_is}
use Rattle.heap_machine.specs.Operations.{place_of, Fits}
use Rattle.heap_machine.specs.Readings.{CanHold}
use Rattle.sweep_steps.specs.declared.rows.SweepRow.{SweepRow}
use Rattle.sweep_steps.specs.declared.rows.SweepRow.TheVariants.{ReadCursor, ClaimRange, PassBlock, TakeFree, FreeBlock, PutFree, Credit, Swept, NothingLeft}
use Rattle.sweep_steps.specs.Rows.{SweepState, row_want, row_got, after_read, after_range, next_block, before_free, sweep_want, sweep_got, sweeping}
use Rattle.sweep_steps.specs.Fits.{IsLeft, IsFreed, RowFits, SweepFits, SweepReads}

pub first_fits : (c : Config) (t cycle owed : ℕ) → t < c.threads → c.blocks ≤ 65535 → 1 ≤ owed
    → SweepFits c (sweeping t cycle c.blocks owed)
first_fits c t cycle owed low few some =
    record { blocks = refl; few = few; thread = low; owed = some; row = tt }

-- the range that a thread claims at the cursor
pub claim_left : (m owed w : ℕ) → 1 ≤ owed → 1 ≤ w → w ≤ m
    → IsLeft m owed w (w + min 8 (min (m + 1 - w) owed)) 0
claim_left m owed w due some low = record {
  some = some;
  left = omega arith;
  last = omega arith;
  few = omega arith;
  due = omega arith;
}

read_fits : (m owed w : ℕ) → 1 ≤ owed → 1 ≤ w → RowFits m owed (after_read m owed w)
read_fits m owed w due some = elim (cases_Bool (ltb m w)) [
  | inl is ↦ rw is tt
  | inr is ↦ rw is (claim_left m owed w due some (let q = ltb-false m w is in omega arith))
]

range_fits : (m owed p a f : ℕ) → 1 ≤ p → p ≤ 8 → p ≤ owed → IsFreed m p a f
    → RowFits m owed (after_range p a f)
range_fits m owed p a f some few due freed = elim (cases_eq f 0) [
  | inl z ↦ rw (eq-eqb f 0 z) (some, omega arith, few, due)
  | inr nz ↦ rw (ne_eqb f 0 nz)
      (⊎_elim (λ n. absurd (nz n.0)) (λ s. (s.2, s.3, s.0, s.1, few, due)) freed)
]

next_fits_row : (m owed x high p a f : ℕ) → IsLeft m owed x high p → IsFreed m (p + 1) a f
    → RowFits m owed (next_block x high p a f)
next_fits_row m owed x high p a f is freed =
    let some = is.some in
    let left = is.left in
    let last = is.last in
    let few = is.few in
    let due = is.due in
    elim (cases_Bool (ltb (x + 1) high)) [
      | inl more ↦
          let q = ltb-true (x + 1) high more in
          rw more (
            record {
              some = omega arith;
              left = q;
              last = last;
              few = omega arith;
              due = omega arith;
            },
            freed,
          )
      | inr none ↦
          let q = ltb-false (x + 1) high none in
          rw none (range_fits m owed (p + 1) a f (omega arith) (omega arith) (omega arith) freed)
    ]

free_fits : (m owed x high p a f : ℕ) → IsLeft m owed x high p → IsFreed m p a f
    → RowFits m owed (before_free x high p a f)
free_fits m owed x high p a f is freed = elim (cases_eq f 0) [
  | inl z ↦ rw (eq-eqb f 0 z) is
  | inr nz ↦ rw (ne_eqb f 0 nz) (
    is,
    ⊎_elim (λ n. absurd (nz n.0)) (λ s. s.3) freed,
    ⊎_elim (λ n. absurd (nz n.0)) (λ s. s.1) freed,
  )
]

freed_more : (m p a f : ℕ) → IsFreed m p a f → IsFreed m (p + 1) a f
freed_more m p a f freed =
    ⊎_elim (λ n. inl n) (λ s. (let z = s.1 in inr (s.0, omega arith, s.2, s.3))) freed

module _ (e : Extent) (t cycle owed : ℕ) (due : 1 ≤ owed) where
  row_fits : (r : SweepRow) (w : ℕ) → RowFits e.blocks owed r
      → CanHold e (place_of (row_want t cycle r)) w
      → RowFits e.blocks owed (row_got cycle e.blocks owed r w)
  row_fits ReadCursor w f reads = read_fits e.blocks owed w due reads.0
  row_fits (ClaimRange x high) w f reads = elim (cases_Bool (eqb w x)) [
    | inl is ↦ rw is (f, inl (refl, refl))
    | inr is ↦ rw is tt
  ]
  row_fits (PassBlock x high p a g) w f reads = elim (cases_Bool (eqb w (white_word cycle))) [
    | inl is ↦ rw is (free_fits e.blocks owed x high p a g f.0 f.1)
    | inr is ↦ rw is (next_fits_row e.blocks owed x high p a g f.0 (freed_more e.blocks p a g f.1))
  ]
  row_fits (TakeFree x high p) w f reads = (f, reads, omega arith)
  row_fits (FreeBlock x high p a g) w f reads =
      let some = f.0.some in
      let left = f.0.left in
      let last = f.0.last in
      let freed = f.2 in
      next_fits_row e.blocks owed x high p x (g + 1) f.0
      (inr (omega arith, omega arith, some, omega arith))
  row_fits (PutFree a p g) w f reads = (f.2, f.3, f.4, f.5)
  row_fits (Credit p g) w f reads =
      let some = f.0 in
      let freed = f.1 in
      (omega arith, freed, f.2, f.3)
  row_fits (Swept p g) w f reads = f
  row_fits NothingLeft w f reads = tt

block_of : (e : Extent) (owed x high p : ℕ) → IsLeft e.blocks owed x high p → is_block e x ≡ true
block_of e owed x high p f =
    let left = f.left in
    let last = f.last in
    block_is e x f.some (omega arith)

row_place : (e : Extent) (t cycle owed : ℕ) (r : SweepRow) → t < e.threads → RowFits e.blocks owed r
    → in_range e (place_of (row_want t cycle r)) ≡ true
row_place e t cycle owed ReadCursor low f = refl
row_place e t cycle owed (ClaimRange x high) low f = refl
row_place e t cycle owed (PassBlock x high p a g) low f = block_of e owed x high p f.0
row_place e t cycle owed (TakeFree x high p) low f = lt-ltb t e.threads low
row_place e t cycle owed (FreeBlock x high p a g) low f = block_of e owed x high p f.0
row_place e t cycle owed (PutFree a p g) low f = lt-ltb t e.threads low
row_place e t cycle owed (Credit p g) low f = refl
row_place e t cycle owed (Swept p g) low f = refl
row_place e t cycle owed NothingLeft low f = refl

row_sum : (e : Extent) (t cycle owed : ℕ) (r : SweepRow) (w : ℕ) → e.blocks ≤ 65535
    → RowFits e.blocks owed r
    → CanHold e (place_of (row_want t cycle r)) w → Fits (row_want t cycle r) w
row_sum e t cycle owed ReadCursor w few f reads = tt
row_sum e t cycle owed (ClaimRange x high) w few f reads = tt
row_sum e t cycle owed (PassBlock x high p a g) w few f reads = tt
row_sum e t cycle owed (TakeFree x high p) w few f reads = tt
row_sum e t cycle owed (FreeBlock x high p a g) w few f reads = tt
row_sum e t cycle owed (PutFree a p g) w few f reads = tt
row_sum e t cycle owed (Credit p g) w few f reads =
    let freed = f.1 in
    let all = f.2 in
    omega (arith, reads)
row_sum e t cycle owed (Swept p g) w few f reads = tt
row_sum e t cycle owed NothingLeft w few f reads = tt

pub fits_next : (c : Config) (s : SweepState) (w : ℕ) → SweepFits c s → SweepReads c s w
    → SweepFits c (sweep_got s w)
fits_next c s w f reads = record {
  blocks = f.blocks;
  few = f.few;
  thread = f.thread;
  owed = f.owed;
  row = subst (λ m. RowFits c.blocks s.owed (row_got s.cycle m s.owed s.row w)) (sym f.blocks)
      (row_fits (extent c) s.thread s.cycle s.owed f.owed s.row w f.row reads);
}

pub place_fits : (c : Config) (s : SweepState) → SweepFits c s
    → in_range (extent c) (place_of (sweep_want s)) ≡ true
place_fits c s f = row_place (extent c) s.thread s.cycle s.owed s.row f.thread f.row

pub sum_fits : (c : Config) (s : SweepState) (w : ℕ) → SweepFits c s → SweepReads c s w
    → Fits (sweep_want s) w
sum_fits c s w f reads = row_sum (extent c) s.thread s.cycle s.owed s.row w f.few f.row reads
