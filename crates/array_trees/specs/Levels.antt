-- How an array lies in blocks of w payload words: level by level from the root, and from left to
-- right in each level.
use Rattle.std.specs.Prelude.{ℕ, zero, suc, ◌+◌, ◌-◌, ◌*◌, ◌/◌, ◌%◌, ◌^◌, ◌<◌, ◌≡◌, nat_lt, if◌then◌else◌}
use Rattle.block_store.specs.declared.Width.{Width}
use Rattle.block_store.specs.Widths.{payloads}
use Rattle.object_lists.specs.Parts.{Part, Blank, link_below, field_below}
use Rattle.array_trees.specs.Trees.{blocks_over, leaves, tree}

-- how many blocks has the level that is h levels above a level of q blocks
abbrev pub level : ℕ → ℕ → ℕ → ℕ
level w q zero = q
level w q (suc h) = blocks_over w (level w q h)

-- how many levels are above a level of q blocks; there are at most n
abbrev pub depth_within : ℕ → ℕ → ℕ → ℕ
depth_within w zero q = 0
depth_within w (suc n) q = if nat_lt 1 q then suc (depth_within w n (blocks_over w q)) else 0

-- how many levels are above the leaves of an array of e elements
unfoldable pub tree_depth : ℕ → ℕ → ℕ
tree_depth w e = depth_within w (leaves w e) (leaves w e)

-- what `tree_depth` is: so many levels above the leaves is the first level of one block, the root
pub record IsDepth (w e depth : ℕ) : Type 0 where
  pub root : level w (leaves w e) depth ≡ 1
  pub more : (h : ℕ) → h < depth → 1 < level w (leaves w e) h

-- how many blocks has the level that is h levels above the leaves
abbrev pub level_size : ℕ → ℕ → ℕ → ℕ
level_size w e h = level w (leaves w e) h

-- the ordinal of its first block: the blocks of all levels above it come before
abbrev pub level_start : ℕ → ℕ → ℕ → ℕ
level_start w e h = tree w (level_size w e h) - level_size w e h

-- What is at payload j of block o, which is in the level that is h levels above the leaves or
-- in one below. Of a level that is h levels above the leaves, `start h` is the first ordinal and
-- `size h` the number of blocks. Block r of a level has as children the blocks r * w + j of the
-- level below, as far as they exist.
abbrev pub part_from : ℕ → ℕ → (ℕ → ℕ) → (ℕ → ℕ) → ℕ → ℕ → ℕ → Part
part_from w e start size zero o j = field_below ((o - start 0) * w + j) e
part_from w e start size (suc h) o j =
    if nat_lt o (start h)
    then link_below (start h + ((o - start (suc h)) * w + j)) (start h + size h)
    else part_from w e start size h o j

-- what is at payload j of block o of an array of e elements
abbrev pub tree_part : ℕ → ℕ → ℕ → ℕ → Part
tree_part w e o j =
    if nat_lt j w
    then part_from w e (level_start w e) (level_size w e) (tree_depth w e) o j
    else Blank

-- What `tree_part` is: the ordinals go level by level from the root, block r of a level that has
-- one below it refers to the blocks r * w to r * w + w - 1 of that level, as far as they exist,
-- and a leaf r has the elements of these numbers.
pub record IsByLevels (w e : ℕ) : Type 0 where
  pub root : level_start w e (tree_depth w e) ≡ 0
  pub next : (h : ℕ) → h < tree_depth w e
      → level_start w e h ≡ level_start w e (suc h) + level_size w e (suc h)
  pub last : tree w (leaves w e) ≡ level_start w e 0 + level_size w e 0
  pub links : (h r j : ℕ) → h < tree_depth w e → r < level_size w e (suc h) → j < w
      → tree_part w e (level_start w e (suc h) + r) j
      ≡ link_below (level_start w e h + (r * w + j)) (level_start w e h + level_size w e h)
  pub elements : (r j : ℕ) → j < w
      → tree_part w e (level_start w e 0 + r) j ≡ field_below (r * w + j) e

-- where element i is: its leaf, and its payload
abbrev pub tree_slot : ℕ → ℕ → ℕ → ℕ × ℕ
tree_slot w e i = (level_start w e 0 + i / w, i % w)

-- the block of level l under which element i is, where level 0 is the root
abbrev pub tree_way : ℕ → ℕ → ℕ → ℕ → ℕ
tree_way w e i l = level_start w e (tree_depth w e - l) + i / w ^ (tree_depth w e - l + 1)

-- and the payload that leads on to it
abbrev pub tree_turn : ℕ → ℕ → ℕ → ℕ → ℕ
tree_turn w e i l = i / w ^ (tree_depth w e - l) % w

-- these functions for blocks of either width
abbrev pub array_part : Width → ℕ → ℕ → ℕ → Part
array_part w e o j = tree_part (payloads w) e o j

abbrev pub array_slot : Width → ℕ → ℕ → ℕ × ℕ
array_slot w e i = tree_slot (payloads w) e i

abbrev pub array_depth : Width → ℕ → ℕ
array_depth w e = tree_depth (payloads w) e

abbrev pub array_way : Width → ℕ → ℕ → ℕ → ℕ
array_way w e i l = tree_way (payloads w) e i l

abbrev pub array_turn : Width → ℕ → ℕ → ℕ → ℕ
array_turn w e i l = tree_turn (payloads w) e i l
