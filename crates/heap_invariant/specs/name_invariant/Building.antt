-- What a thread builds: blocks that are Free, then written word by word from the last ordinal
-- on, then black, and of no kept name. W is the width of the blocks, n the number of threads, m the
-- last block.
use Rattle.std.specs.Prelude.{ℕ, suc, ◌+◌, ◌<◌, ◌≤◌, ◌≡◌, ◌⊎◌, true, Option, Some, None, ◌^◌}
use Rattle.block_store.specs.declared.Name.{Name}
use Rattle.block_store.specs.declared.Width.{Width}
use Rattle.block_store.specs.Colours.{is_free, black_word}
use Rattle.block_store.specs.WideOwners.{wide_word}
use Rattle.block_store.specs.Registers.{registers_end}
use Rattle.block_store.specs.Widths.{payloads}
use Rattle.object_lists.specs.Parts.{link_in}
use Rattle.never_heap.specs.Graphs.{ObjectKind, Record}
use Rattle.heap_invariant.specs.graph_relation.Layouts.{layout_blocks, layout_part}
use Rattle.heap_invariant.specs.graph_relation.Made.{link_word, IsWritten}
use Rattle.heap_invariant.specs.graph_relation.Words.{BlockWords, kind_word}
use Rattle.block_store.specs.Counts.{changed}

pub record Build : Type 0 where
  pub name : Name  -- that the object will have
  pub kind : ObjectKind
  pub size : ℕ  -- how many fields or elements it has
  pub held : ℕ → ℕ  -- the block that was collected for each ordinal
  pub collected : ℕ  -- how many of them are held
  pub left : ℕ  -- the ordinals below are not coloured yet, those from it on are
  pub step : ℕ  -- how many words of ordinal left - 1 are written: owner, shape, payloads

abbrev pub no_build : Build
no_build = record {
  name = record { thread = 0; serial = 0 };
  kind = Record;
  size = 0;
  held = λ o. 0;
  collected = 0;
  left = 0;
  step = 0;
}

abbrev pub build_in : Option Build → Build
build_in None = no_build
build_in (Some b) = b

-- how many blocks the object takes
abbrev pub build_blocks : Width → Build → ℕ
build_blocks W b = layout_blocks W b.kind b.size

-- the words of ordinal o: its owner, its shape, and payload j
abbrev pub build_owner : Build → ℕ → ℕ
build_owner b o = wide_word b.name.thread b.name.serial o

abbrev pub build_shape : Build → ℕ
build_shape b = kind_word b.kind b.size

abbrev pub build_payload : Width → Build → ℕ → ℕ → ℕ
build_payload W b o j = link_word b.held (link_in (layout_part W b.kind b.size o j))

-- the words after v was written as the owner, or as the shape, of block x
abbrev pub with_owner : BlockWords → ℕ → ℕ → BlockWords
with_owner w x v = record w { owner = changed w.owner x v }

abbrev pub with_shape : BlockWords → ℕ → ℕ → BlockWords
with_shape w x v = record w { shape = changed w.shape x v }

-- of ordinal o the first words are written
pub record IsBegun (W : Width) (w : BlockWords) (b : Build) (o : ℕ) : Type 0 where
  pub owned : 0 < b.step → w.owner (b.held o) ≡ build_owner b o
  pub shaped : 1 < b.step → w.shape (b.held o) ≡ build_shape b
  pub links : (j : ℕ) → j < payloads W → j + 2 < b.step
      → w.payload (b.held o) j ≡ build_payload W b o j

-- Each held block lies after the register arrays. It is Free until its words are written, and
-- black from then on. Words are written once all blocks are held.
pub record IsBuild (W : Width) (n m cycle : ℕ) (colour : ℕ → ℕ) (w : BlockWords) (b : Build)
    : Type 0 where
  pub behind : (o : ℕ) → o < b.collected → registers_end W n < b.held o
  pub within : (o : ℕ) → o < b.collected → b.held o ≤ m
  pub free : (o : ℕ) → o < b.collected → o < b.left → is_free (colour (b.held o)) ≡ true
  pub black : (o : ℕ) → b.left ≤ o → o < build_blocks W b → colour (b.held o) ≡ black_word cycle
  pub written : (o : ℕ) → b.left ≤ o → o < build_blocks W b
      → IsWritten W w b.name b.kind b.size b.held o
  pub begun : (o : ℕ) → suc o ≡ b.left → IsBegun W w b o
  pub some : b.collected ≤ build_blocks W b
  pub few_left : b.left ≤ build_blocks W b
  pub phase : (b.collected ≡ build_blocks W b) ⊎ ((b.left ≡ build_blocks W b) × (b.step ≡ 0))
  pub few_blocks : build_blocks W b ≤ 1024
  pub thread : b.name.thread ≤ 16
  pub serial : b.name.serial < 2 ^ 43

-- one of n builders has coloured block x
pub record IsBuilt (W : Width) (n : ℕ) (builds : ℕ → Option Build) (x : ℕ) : Type 0 where
  pub thread : ℕ
  pub there : thread < n
  pub build : Build
  pub builds_it : builds thread ≡ Some build
  pub ordinal : ℕ
  pub coloured : build.left ≤ ordinal
  pub low : ordinal < build_blocks W build
  pub is : x ≡ build.held ordinal

-- block x is not held by b
abbrev pub NotHeld : Build → ℕ → Type 0
NotHeld b x = (o : ℕ) → o < b.collected → x ≡ b.held o → ⊥

-- Of the held blocks that are not coloured yet, of all builders, only the o-th of thread t is
-- block x.
abbrev pub IsHeldOnce : ℕ → (ℕ → Option Build) → ℕ → ℕ → ℕ → Type 0
IsHeldOnce n builds t o x =
    (u p : ℕ) (b : Build) → u < n → builds u ≡ Some b → p < b.collected → p < b.left
    → x ≡ b.held p → (t ≡ u) × (o ≡ p)
