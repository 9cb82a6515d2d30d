-- Where the cursor goes: over the blocks that are claimed.
use Rattle.std.proofs.Common.{◌≡◌, ℕ, zero, suc, length, ◌<◌, ◌+◌, ◌-◌, ◌||◌, cond, true, false, is_some, refl, arith, subst, sym, ap, ◌∙◌, inl, inr, eqb, ltb, eqb-true, ltb-true, ltb-false}
use Rattle.std.proofs.lemmas.Bool.{cases_Bool}
use Rattle.block_store.specs.declared.Config.{Config}
use Rattle.block_store.specs.Colours.{white_word}
use Rattle.block_store.specs.Heaps.{Heap}
use Rattle.block_store.specs.Phases.{bit}
use Rattle.block_store.specs.Places.{Cursor}
use Rattle.heap_machine.specs.Operations.{place_of, heap_after}
use Rattle.sweep_steps.specs.declared.rows.SweepRow.{SweepRow}
use Rattle.sweep_steps.specs.declared.rows.SweepRow.TheVariants.{ReadCursor, ClaimRange, PassBlock, TakeFree, FreeBlock, PutFree, Credit, Swept, NothingLeft}
use Rattle.sweep_steps.specs.SweepUnits.{row_passes, row_claims, blocks_from, is_reading, unpassed}
use Rattle.sweep_steps.specs.Fits.{RowFits, SweepFits}
use Rattle.sweep_steps.proofs.PassedBlocks.{nothing_read}
use Rattle.sweep_steps.specs.Rows.{SweepState, row_want, row_got, after_read, after_range, next_block, before_free, sweep_want, sweep_got, sweep_in_hand, sweep_nothing}

-- the blocks that a row has left
abbrev left_at : SweepRow → ℕ
left_at r = unpassed (sweep_in_hand r)

read_left : (m owed w : ℕ) → left_at (after_read m owed w) ≡ 0
read_left m owed w =
    elim (cases_Bool (ltb m w)) [ inl none ↦ rw none refl | inr some ↦ rw some refl ]

range_left : (p a v : ℕ) → left_at (after_range p a v) ≡ 0
range_left p a v = elim (cases_Bool (eqb v 0)) [ inl z ↦ rw z refl | inr nz ↦ rw nz refl ]

-- one less when a block was passed
next_left : (x high p a v : ℕ) → x < high → left_at (next_block x high p a v) + 1 + x ≡ high
next_left x high p a v low = elim (cases_Bool (ltb (x + 1) high)) [
  | inl more ↦ rw more (omega (arith, ltb-true (x + 1) high more))
  | inr last ↦ rw last (omega (arith, range_left (p + 1) a v, ltb-false (x + 1) high last))
]

-- as many while a white block is to be freed
white_left : (x high p a v : ℕ) → left_at (before_free x high p a v) ≡ high - x
white_left x high p a v = elim (cases_Bool (eqb v 0)) [ inl z ↦ rw z refl | inr nz ↦ rw nz refl ]

row_of : (c : Config) (s : SweepState) → SweepFits c s → RowFits s.blocks s.owed s.row
row_of c s f = subst (λ m. RowFits m s.owed s.row) (sym f.blocks) f.row

-- n blocks are n
from_length : (x n : ℕ) → length (blocks_from x n) ≡ n
from_length x zero = refl
from_length x (suc n) = omega (arith, from_length (x + 1) n)

-- the cursor goes on by what is claimed
claims : (h : Heap) (t c m owed : ℕ) (r : SweepRow) → RowFits m owed r
    → heap_after h (row_want t c r) Cursor
    ≡ h Cursor + length (row_claims r (h (place_of (row_want t c r))))
claims h t c m owed (ClaimRange x high) f = elim (cases_Bool (eqb (h Cursor) x)) [
  | inl won ↦ rw won (omega (arith, eqb-true (h Cursor) x won, f.left, from_length x (high - x)))
  | inr lost ↦ rw lost (omega arith)
]
claims h t c m owed _ f = omega arith

-- what a thread has left gets more by what is claimed, and less by what is passed
leaves : (c m owed : ℕ) (r : SweepRow) (w : ℕ) → RowFits m owed r
    → left_at r + length (row_claims r w)
    ≡ left_at (row_got c m owed r w) + bit (is_some (row_passes c r w))
leaves c m owed ReadCursor w f = omega (arith, read_left m owed w)
leaves c m owed (ClaimRange x high) w f = elim (cases_Bool (eqb w x)) [
  | inl won ↦ rw won (omega (arith, f.left, from_length x (high - x)))
  | inr lost ↦ rw lost (omega arith)
]
leaves c m owed (PassBlock x high p a v) w f = elim (cases_Bool (eqb w (white_word c))) [
  | inl white ↦ rw white (omega (arith, white_left x high p a v))
  | inr dark ↦ rw dark (omega (arith, next_left x high p a v f.0.left))
]
leaves c m owed (TakeFree x high p) w f = omega arith
leaves c m owed (FreeBlock x high p a v) w f =
    omega (arith, next_left x high p x (v + 1) f.0.left)
leaves c m owed (PutFree a p v) w f = omega arith
leaves c m owed (Credit p v) w f = omega arith
leaves c m owed (Swept p v) w f = omega arith
leaves c m owed NothingLeft w f = omega arith

-- a part that finds nothing does so where the cursor is after the last block
found_none : (r : SweepRow) (m w : ℕ)
    → (false || cond (is_reading r) (ltb m w) false) ≡ true → (r ≡ ReadCursor) × (m < w)
found_none ReadCursor m w e = (refl, ltb-true m w e)
found_none _ m w e = absurd cc

pub nothing_behind : (c : Config) (h : Heap) (s : SweepState) → SweepFits c s
    → sweep_nothing s.row ≡ false
    → sweep_nothing (sweep_got s (h (place_of (sweep_want s)))).row ≡ true → c.blocks < h Cursor
nothing_behind c h s f before after =
    let w = h (place_of (sweep_want s)) in
    let read = found_none s.row s.blocks w
    (subst (λ b. (b || cond (is_reading s.row) (ltb s.blocks w) false) ≡ true) before
    (sym (nothing_read s w) ∙ after)) in
    let same : w ≡ h Cursor = ap (λ r. h (place_of (row_want s.thread s.cycle r))) read.0 in
    omega (arith, f.blocks, read.1)

pub cursor_moves : (c : Config) (h : Heap) (s : SweepState) → SweepFits c s
    → heap_after h (sweep_want s) Cursor
    ≡ h Cursor + length (row_claims s.row (h (place_of (sweep_want s))))
cursor_moves c h s f = claims h s.thread s.cycle s.blocks s.owed s.row (row_of c s f)

pub left_moves : (c : Config) (s : SweepState) (w : ℕ) → SweepFits c s
    → unpassed (sweep_in_hand s.row) + length (row_claims s.row w)
    ≡ unpassed (sweep_in_hand (sweep_got s w).row) + bit (is_some (row_passes s.cycle s.row w))
left_moves c s w f = leaves s.cycle s.blocks s.owed s.row w (row_of c s f)

pub both_move : (c : Config) (h : Heap) (s : SweepState) → SweepFits c s
    → heap_after h (sweep_want s) Cursor + unpassed (sweep_in_hand s.row)
    ≡ h Cursor + unpassed (sweep_in_hand (sweep_got s (h (place_of (sweep_want s)))).row)
    + bit (is_some (row_passes s.cycle s.row (h (place_of (sweep_want s)))))
both_move c h s f =
    omega (arith, cursor_moves c h s f, left_moves c s (h (place_of (sweep_want s))) f)
