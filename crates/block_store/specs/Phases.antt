-- The phase word: the cycle, whether the gate is closed, whether the phase is Sweep, and how many
-- threads are inside.
use Rattle.std.specs.Prelude.{ℕ, ◌+◌, ◌*◌, ◌/◌, ◌%◌, Bool, true, false, ◌==◌}
use Rattle.block_store.specs.declared.PhaseWord.{PhaseWord}

-- 1 for true, 0 for false
abbrev pub bit : Bool → ℕ
bit true = 1
bit false = 0

-- the word of its four parts
unfoldable pub phase_code : PhaseWord → ℕ
phase_code p = p.cycle * 1024 + bit p.closed * 512 + bit p.sweep * 256 + p.inside

-- how many threads a word says to be inside
unfoldable pub inside_of : ℕ → ℕ
inside_of w = w % 256

-- whether a word says Sweep, and not Mark
unfoldable pub is_sweep : ℕ → Bool
is_sweep w = w / 256 % 2 == 1

-- whether a word says that the gate is closed
unfoldable pub is_closed : ℕ → Bool
is_closed w = w / 512 % 2 == 1

-- the cycle that a word says
unfoldable pub cycle_of : ℕ → ℕ
cycle_of w = w / 1024

-- the four parts of a word
abbrev pub phase_of : ℕ → PhaseWord
phase_of w = record {
  inside = inside_of w;
  sweep = is_sweep w;
  closed = is_closed w;
  cycle = cycle_of w;
}
