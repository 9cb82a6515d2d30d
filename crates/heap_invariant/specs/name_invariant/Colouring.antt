-- What the colours of blocks say of a graph's objects, and where words refer. W is the width of
-- the blocks, n the number of threads.
use Rattle.std.specs.Prelude.{ℕ, ◌<◌, ◌≤◌, ◌≡◌, ◌≢◌, ◌⊎◌, Bool, true}
use Rattle.block_store.specs.declared.Name.{Name}
use Rattle.block_store.specs.declared.Width.{Width}
use Rattle.block_store.specs.Colours.{is_free, is_grey, black_word, white_word}
use Rattle.block_store.specs.Payloads.{target}
use Rattle.block_store.specs.Registers.{root_block, registers_end}
use Rattle.block_store.specs.Widths.{payloads}

-- P holds of the block to which a payload word refers, if it refers to one
abbrev pub IfRefers : (ℕ → Type 0) → ℕ → Type 0
IfRefers P word = target word ≢ 0 → P (target word)

-- the colour word of a block that is marked in this cycle: grey or black
abbrev pub IsDark : ℕ → ℕ → Type 0
IsDark cycle word = (is_grey word ≡ true) ⊎ (word ≡ black_word cycle)

-- a colour word of this cycle: Free, white, grey or black
abbrev pub IsColoured : ℕ → ℕ → Type 0
IsColoured cycle word = (is_free word ≡ true) ⊎ (word ≡ white_word cycle) ⊎ IsDark cycle word

-- x is a block of a register array
abbrev pub IsRegisterBlock : Width → ℕ → ℕ → Type 0
IsRegisterBlock W n x = (0 < x) × (x ≤ registers_end W n)

-- no register array begins at block y
abbrev pub NotRoot : Width → ℕ → ℕ → Type 0
NotRoot W n y = (t : ℕ) → t < n → y ≢ root_block W t

-- Block x is that of an ordinal of the object of a name in K. The object of a name has `blocks` of
-- it, and its ordinals are `at` them.
pub record IsBlockOf (K : Name → Type 0) (blocks : Name → ℕ) (at : Name → ℕ → ℕ) (x : ℕ) : Type 0
  where
    pub name : Name
    pub ordinal : ℕ
    pub kept : K name
    pub low : ordinal < blocks name
    pub is : x ≡ at name ordinal

-- block x is of a register array or of such an object
abbrev pub Belongs : Width → ℕ → (Name → Type 0) → (Name → ℕ) → (Name → ℕ → ℕ) → ℕ → Type 0
Belongs W n K blocks at x = IsRegisterBlock W n x ⊎ IsBlockOf K blocks at x

-- x is the first block of a register array that is shaded for the next cycle
abbrev pub IsShadedRoot : Width → ℕ → (ℕ → Bool) → ℕ → Type 0
IsShadedRoot W n shaded x = (t : ℕ) × (t < n) × (x ≡ root_block W t) × (shaded t ≡ true)

-- While the phase is Mark: every known name is kept, and the root of each register array is marked.
pub record MarkColours (W : Width) (n cycle : ℕ) (Known Kept : Name → Type 0) (colour : ℕ → ℕ)
    : Type 0 where
  pub all : (a : Name) → Known a → Kept a
  pub roots : (t : ℕ) → t < n → IsDark cycle (colour (root_block W t))

-- While the phase is Sweep: the blocks of kept objects and of register arrays are black, but for
-- the roots that are shaded already, and no other block is grey. Neither a black block nor a
-- shaded root refers to a block that is not black, or to the first block of a register array.
pub record SweepColours (W : Width) (n cycle : ℕ) (K : Name → Type 0) (blocks : Name → ℕ)
    (at : Name → ℕ → ℕ) (colour : ℕ → ℕ) (payload : ℕ → ℕ → ℕ) (shaded : ℕ → Bool) : Type 0 where
  pub kept : (a : Name) (o : ℕ) → K a → o < blocks a → colour (at a o) ≡ black_word cycle
  pub arrays : (x : ℕ) → IsRegisterBlock W n x → IsDark cycle (colour x)
  pub greys : (x : ℕ) → is_grey (colour x) ≡ true → IsShadedRoot W n shaded x
  pub roots : (t : ℕ) → t < n → shaded t ≡ true → is_grey (colour (root_block W t)) ≡ true
  pub darks : (x j : ℕ) → IsDark cycle (colour x) → j < payloads W
      → IfRefers (λ y. (colour y ≡ black_word cycle) × NotRoot W n y) (payload x j)

-- The tricolour rule of marking: no black block refers to a white one.
abbrev pub IsTricolour : Width → ℕ → (ℕ → ℕ) → (ℕ → ℕ → ℕ) → Type 0
IsTricolour W cycle colour payload =
    (x j : ℕ) → colour x ≡ black_word cycle → j < payloads W
    → IfRefers (λ y. colour y ≢ white_word cycle) (payload x j)
