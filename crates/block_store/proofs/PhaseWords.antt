-- What phase words say.
use Rattle.std.proofs.Common.{◌^◌, ◌-◌, inl, inr, ◌≡◌, ℕ, ◌+◌, ◌-◌, ◌/◌, ◌%◌, ◌<◌, refl, arith, Bool, true, false, eqb}
use Rattle.std.proofs.lemmas.Bool.{cases_eq}
use Rattle.block_store.specs.Phases.{bit, phase_code, phase_of, inside_of, is_sweep, is_closed, cycle_of}
use Rattle.block_store.specs.declared.PhaseWord.{PhaseWord}

eqb_bit : (n : ℕ) (b : Bool) → n ≡ bit b → eqb n 1 ≡ b
eqb_bit n true e = rw e refl
eqb_bit n false e = rw e refl

bit_eqb : (n : ℕ) → n < 2 → bit (eqb n 1) ≡ n
bit_eqb n low = elim (cases_eq n 1) [
  | inl e ↦ rw e refl
  | inr ne ↦ (let z : n ≡ 0 = omega arith in rw z refl)
]

pub bit_low : (b : Bool) → bit b < 2
bit_low true = omega arith
bit_low false = omega arith

pub inside-code : (p : PhaseWord) → p.inside < 256 → inside_of (phase_code p) ≡ p.inside
unfolding inside_of phase_code
inside-code p low = omega (arith, bit_low p.closed, bit_low p.sweep)

pub sweep-code : (p : PhaseWord) → p.inside < 256 → is_sweep (phase_code p) ≡ p.sweep
unfolding is_sweep phase_code
sweep-code p low = eqb_bit _ p.sweep (omega (arith, bit_low p.closed, bit_low p.sweep))

pub closed-code : (p : PhaseWord) → p.inside < 256 → is_closed (phase_code p) ≡ p.closed
unfolding is_closed phase_code
closed-code p low = eqb_bit _ p.closed (omega (arith, bit_low p.closed, bit_low p.sweep))

pub cycle-code : (p : PhaseWord) → p.inside < 256 → cycle_of (phase_code p) ≡ p.cycle
unfolding cycle_of phase_code
cycle-code p low = omega (arith, bit_low p.closed, bit_low p.sweep)

pub phase-code : (p : PhaseWord) → p.inside < 256 → phase_of (phase_code p) ≡ p
phase-code p low = rw (
  inside-code p low,
  sweep-code p low,
  closed-code p low,
  cycle-code p low,
) refl

pub code-phase : (w : ℕ) → phase_code (phase_of w) ≡ w
unfolding phase_code inside_of is_sweep is_closed cycle_of
code-phase w = omega (
  arith,
  bit_eqb (w / 256 % 2) (omega arith),
  bit_eqb (w / 512 % 2) (omega arith),
)

-- one thread more inside
pub phase-more : (w : ℕ) → inside_of w < 255
    → phase_of (w + 1) ≡ record (phase_of w) { inside = inside_of w + 1 }
unfolding inside_of is_sweep is_closed cycle_of
phase-more w low =
    let i : (w + 1) % 256 ≡ w % 256 + 1 = omega arith in
    let s : (w + 1) / 256 ≡ w / 256 = omega arith in
    let c : (w + 1) / 512 ≡ w / 512 = omega arith in
    let y : (w + 1) / 1024 ≡ w / 1024 = omega arith in
    rw (i, s, c, y) refl

-- one thread less inside
pub phase-less : (w : ℕ) → 0 < inside_of w
    → phase_of (w - 1) ≡ record (phase_of w) { inside = inside_of w - 1 }
unfolding inside_of is_sweep is_closed cycle_of
phase-less w some =
    let i : (w - 1) % 256 ≡ w % 256 - 1 = omega arith in
    let s : (w - 1) / 256 ≡ w / 256 = omega arith in
    let c : (w - 1) / 512 ≡ w / 512 = omega arith in
    let y : (w - 1) / 1024 ≡ w / 1024 = omega arith in
    rw (i, s, c, y) refl

-- the phase word of 64 bits
pub phase_below : (p : PhaseWord) → p.inside < 256 → p.cycle < 2 ^ 54 → phase_code p < 2 ^ 64
unfolding phase_code
phase_below p inside cycle = omega (arith, bit_low p.closed, bit_low p.sweep)
