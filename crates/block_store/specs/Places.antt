-- The places of a heap, and the index of each among its words.
use Rattle.std.specs.Prelude.{ℕ, ◌+◌, ◌*◌, ◌-◌, ◌/◌, ◌%◌, ◌≤◌, Bool, true, false, cond, ◌==◌, ◌&&◌, nat_lt, nat_le}
use Rattle.block_store.specs.declared.Config.{Config}
use Rattle.block_store.specs.declared.Width.{Width}
use Rattle.block_store.specs.Widths.{payloads}

-- how many threads and blocks a heap has, and how wide its blocks are
pub record Extent : Type 0 where
  pub threads : ℕ
  pub blocks : ℕ
  pub width : Width

-- how many words each block has: its colour, its owner, its shape and its payloads
abbrev pub block_size : Extent → ℕ
block_size e = 3 + payloads e.width

abbrev pub extent : Config → Extent
extent c = record { threads = c.threads; blocks = c.blocks; width = c.width }

-- what a word of the heap is of: the whole heap, thread t, or block x
pub data Place : Type 0 where
  Phase : Place
  Cursor : Place
  FreeCount : Place
  GreyList : (t : ℕ) → Place
  FreeList : (t : ℕ) → Place
  ColourOf : (x : ℕ) → Place
  OwnerOf : (x : ℕ) → Place
  ShapeOf : (x : ℕ) → Place
  PayloadOf : (x j : ℕ) → Place

-- blocks are counted from 1
abbrev pub is_block : Extent → ℕ → Bool
is_block e x = nat_le 1 x && nat_le x e.blocks

-- a place of the heap
abbrev pub in_range : Extent → Place → Bool
in_range e Phase = true
in_range e Cursor = true
in_range e FreeCount = true
in_range e (GreyList t) = nat_lt t e.threads
in_range e (FreeList t) = nat_lt t e.threads
in_range e (ColourOf x) = is_block e x
in_range e (OwnerOf x) = is_block e x
in_range e (ShapeOf x) = is_block e x
in_range e (PayloadOf x j) = is_block e x && nat_lt j (payloads e.width)

-- the index of the first word of block x, which is its colour
abbrev pub block_index : Extent → ℕ → ℕ
block_index e x = 3 + 2 * e.threads + block_size e * (x - 1)

-- where a place is among the words
abbrev pub index : Extent → Place → ℕ
index e Phase = 0
index e Cursor = 1
index e FreeCount = 2
index e (GreyList t) = 3 + t
index e (FreeList t) = 3 + e.threads + t
index e (ColourOf x) = block_index e x
index e (OwnerOf x) = block_index e x + 1
index e (ShapeOf x) = block_index e x + 2
index e (PayloadOf x j) = block_index e x + (3 + j)

abbrev pub words_count : Extent → ℕ
words_count e = 3 + 2 * e.threads + block_size e * e.blocks

-- the bytes of a heap's words
abbrev pub bytes : Config → ℕ
bytes c = 8 * words_count (extent c)

-- the place of block x whose word is k words after the colour
abbrev pub in_block : ℕ → ℕ → Place
in_block x k =
    cond (k == 0) (ColourOf x)
    (cond (k == 1) (OwnerOf x) (cond (k == 2) (ShapeOf x) (PayloadOf x (k - 3))))

-- the place whose word has this index
abbrev pub place_at : Extent → ℕ → Place
place_at e i =
    cond (nat_lt i 3) (cond (i == 0) Phase (cond (i == 1) Cursor FreeCount))
    (cond (nat_lt i (3 + e.threads)) (GreyList (i - 3))
    (cond (nat_lt i (3 + 2 * e.threads)) (FreeList (i - (3 + e.threads)))
    (let k = i - (3 + 2 * e.threads) in in_block (k / block_size e + 1) (k % block_size e))))

-- whether two places are one
abbrev pub same_place : Place → Place → Bool
same_place Phase Phase = true
same_place Cursor Cursor = true
same_place FreeCount FreeCount = true
same_place (GreyList t) (GreyList u) = t == u
same_place (FreeList t) (FreeList u) = t == u
same_place (ColourOf x) (ColourOf y) = x == y
same_place (OwnerOf x) (OwnerOf y) = x == y
same_place (ShapeOf x) (ShapeOf y) = x == y
same_place (PayloadOf x j) (PayloadOf y k) = (x == y) && (j == k)
same_place _ _ = false

-- x is the number of a block
abbrev pub IsBlock : Config → ℕ → Type 0
IsBlock c x = (1 ≤ x) × (x ≤ c.blocks)
