-- The gate: the phase word counts the threads inside; while it is closed one thread has closed it
-- and nobody is inside; and a thread inside has the phase and cycle of the word.
use Rattle.std.specs.Prelude.{ℕ, ◌<◌, ◌≡◌, Bool, true, false}
use Rattle.block_store.specs.Phases.{bit, phase_code, phase_of, inside_of, is_sweep, is_closed, cycle_of}
use Rattle.block_store.specs.Counts.{total}

-- the word w with the gate closed
abbrev pub closed_word : ℕ → ℕ
closed_word w = phase_code (record (phase_of w) { closed = true })

-- the word of a cycle and phase, with the gate open and nobody inside
abbrev pub open_word : ℕ → Bool → ℕ
open_word c sweep = phase_code (record { inside = 0; sweep = sweep; closed = false; cycle = c })

-- a thread is outside, inside, or has closed the gate
pub data Stand : Type 0 where
  Outside : Stand
  Inside : Stand
  Closing : Stand

abbrev pub is_outside : Stand → Bool
is_outside Outside = true
is_outside Inside = false
is_outside Closing = false

abbrev pub is_inside : Stand → Bool
is_inside Outside = false
is_inside Inside = true
is_inside Closing = false

abbrev pub is_closing : Stand → Bool
is_closing Outside = false
is_closing Inside = false
is_closing Closing = true

-- where a thread is, and the cycle and phase of its pass
pub record Gating : Type 0 where
  pub stand : Stand
  pub cycle : ℕ
  pub sweep : Bool

-- over the phase word and what each of n threads holds of the gate
pub record GateOf (n phase : ℕ) (gs : ℕ → Gating) : Type 0 where
  pub count : total n (λ t. bit (is_inside (gs t).stand)) ≡ inside_of phase
  pub closers : total n (λ t. bit (is_closing (gs t).stand)) ≡ bit (is_closed phase)
  pub alone : is_closed phase ≡ true → inside_of phase ≡ 0
  pub passes : (t : ℕ) → t < n → is_outside (gs t).stand ≡ false
      → ((gs t).cycle ≡ cycle_of phase) × ((gs t).sweep ≡ is_sweep phase)
