-- The sweep goes through the blocks once in each cycle: a thread claims a range of blocks from the
-- cursor on, which goes to its end, and then passes them one by one.
use Rattle.std.specs.Prelude.{ℕ, ◌+◌, ◌≡◌, ◌≢◌, ◌<◌, ◌≤◌, ◌⊎◌, ◌&&◌, nat_lt, nat_le, cond, Bool, true, false}
use Rattle.block_store.specs.Colours.{white_word}
use Rattle.block_store.specs.Heaps.{Heap}
use Rattle.block_store.specs.Phases.{bit, is_sweep, cycle_of}
use Rattle.block_store.specs.Places.{Extent, Place, Phase, Cursor, ColourOf}
use Rattle.block_store.specs.Counts.{total}

-- the blocks that a thread has claimed and not yet passed: those from low on below high, where
-- (0, 0) is none; and the block among them that it has read white and is about to free, or 0
pub record SweepInHand : Type 0 where
  pub low : ℕ
  pub high : ℕ
  pub doomed : ℕ

-- it holds nothing
abbrev pub no_claim : SweepInHand
no_claim = record { low = 0; high = 0; doomed = 0 }

-- whether the thread has claimed block x and not yet passed it
abbrev pub has_claimed : SweepInHand → ℕ → Bool
has_claimed w x = nat_le w.low x && nat_lt x w.high

-- what is left of its range when the first block of it was passed
abbrev pub rest_of : SweepInHand → SweepInHand
rest_of w = cond (nat_lt (w.low + 1) w.high)
    (record { low = w.low + 1; high = w.high; doomed = 0 }) no_claim

-- how many of n threads have claimed block x
abbrev pub claims : ℕ → (ℕ → SweepInHand) → ℕ → ℕ
claims n cs x = total n (λ t. bit (has_claimed (cs t) x))

-- nothing is claimed, or a range of blocks below the cursor
abbrev pub IsRange : ℕ → SweepInHand → Type 0
IsRange cursor w = (w.low ≡ 0) × (w.high ≡ 0) ⊎ (1 ≤ w.low) × (w.low < w.high) × (w.high ≤ cursor)

-- over whether the phase is Sweep, the white word of the cycle, the cursor, the colour words, and
-- what each thread holds. No two ranges overlap; in Sweep a block below the cursor that no range
-- has was passed, and is not white; and a block that is about to be freed is still white
pub record SweepOf (e : Extent) (sweep : Bool) (white cursor : ℕ) (colour : ℕ → ℕ)
    (cs : ℕ → SweepInHand) : Type 0 where
  pub cursor_in : (1 ≤ cursor) × (cursor ≤ e.blocks + 1)
  pub ranges : (t : ℕ) → t < e.threads → IsRange cursor (cs t)
  pub once : (x : ℕ) → claims e.threads cs x ≤ 1
  pub passed : sweep ≡ true → (x : ℕ) → 1 ≤ x → x < cursor → claims e.threads cs x ≡ 0
      → colour x ≢ white
  pub doomed : (t : ℕ) → t < e.threads → (cs t).doomed ≢ 0
      → (sweep ≡ true) × (has_claimed (cs t) (cs t).doomed ≡ true) × (colour (cs t).doomed ≡ white)

-- of a heap, in the phase and cycle of its phase word
abbrev pub SweepKept : Extent → Heap → (ℕ → SweepInHand) → Type 0
SweepKept e h cs =
    SweepOf e (is_sweep (h Phase)) (white_word (cycle_of (h Phase))) (h Cursor)
    (λ x. h (ColourOf x)) cs

-- the places whose words the rule speaks of
abbrev pub is_of_sweep : Place → Bool
is_of_sweep Phase = true
is_of_sweep Cursor = true
is_of_sweep (ColourOf x) = true
is_of_sweep _ = false
