-- How many blocks an array takes, where each has w payload words.
use Rattle.std.specs.Prelude.{ℕ, zero, suc, ◌+◌, ◌-◌, ◌/◌, ◌<◌, ◌≡◌, max, nat_lt, if◌then◌else◌}
use Rattle.block_store.specs.declared.Width.{Width}
use Rattle.block_store.specs.Widths.{payloads}

-- the level over a level of q blocks has one block per w of them
abbrev pub blocks_over : ℕ → ℕ → ℕ
blocks_over w q = (q + (w - 1)) / w

-- the blocks that hold e elements: w elements a block, and at least one block
abbrev pub leaves : ℕ → ℕ → ℕ
leaves w e = max 1 (blocks_over w e)

-- a level of q blocks with all levels over it, of which there are at most n
abbrev pub tree_within : ℕ → ℕ → ℕ → ℕ
tree_within w zero q = q
tree_within w (suc n) q = if nat_lt 1 q then q + tree_within w n (blocks_over w q) else q

-- A level of q blocks with all levels over it. Each has fewer blocks than the one below, so there
-- are fewer than q.
unfoldable pub tree : ℕ → ℕ → ℕ
tree w q = tree_within w q q

-- what `tree` is: one block has no level over it, and over more blocks is one more level
pub record IsTree (w : ℕ) : Type 0 where
  pub one : tree w 1 ≡ 1
  pub more : (q : ℕ) → 1 < q → tree w q ≡ q + tree w (blocks_over w q)

-- the blocks of an array of e elements
abbrev pub array_blocks : Width → ℕ → ℕ
array_blocks w e = tree (payloads w) (leaves (payloads w) e)
