-- An object that was made, and its name.
use Rattle.std.specs.Prelude.{ℕ, ◌+◌, ◌<◌, ◌≤◌, ◌⊎◌, ◌≡◌, true, cond, Option, Some, None, ◌^◌}
use Rattle.block_store.specs.declared.Name.{Name}
use Rattle.block_store.specs.declared.Width.{Width}
use Rattle.block_store.specs.Widths.{payloads}
use Rattle.block_store.specs.Registers.{registers_end}
use Rattle.block_store.specs.WideOwners.{wide_word}
use Rattle.block_store.specs.Payloads.{reference_word}
use Rattle.object_lists.specs.Parts.{link_in}
use Rattle.never_heap.specs.Graphs.{Graph, Object, ObjectKind, nil_object, count_of, same_name, next_name}
use Rattle.heap_invariant.specs.graph_relation.Layouts.{layout_blocks, layout_part}
use Rattle.heap_invariant.specs.graph_relation.Words.{BlockWords, kind_word}
use Rattle.heap_invariant.specs.graph_relation.GraphOfWords.{BlockShows}

-- an object of n nils
abbrev pub new_object : ObjectKind → ℕ → Object
new_object k n = nil_object k n

-- the placement with the ordinals of name a at these blocks
abbrev pub with_blocks : (Name → ℕ → ℕ) → Name → (ℕ → ℕ) → Name → ℕ → ℕ
with_blocks at a block_of b = cond (same_name a b) block_of (at b)

-- the kept names and a new one
abbrev pub and_name : (Name → Type 0) → Name → Name → Type 0
and_name K a b = (same_name a b ≡ true) ⊎ K b

-- The blocks show the object that thread t makes next, one of n nils: its name and its ordinals
-- have owner words, and each of its blocks shows its part, after the register blocks and at block
-- m at the latest.
pub record IsMade (W : Width) (threads m : ℕ) (g : Graph) (w : BlockWords) (t : ℕ)
    (k : ObjectKind) (n : ℕ) (block_of : ℕ → ℕ) : Type 0 where
  pub thread : t < threads
  pub few_threads : t ≤ 16
  pub serial : count_of g t + 1 < 2 ^ 43
  pub ordinals : layout_blocks W k n ≤ 1024
  pub behind : (o : ℕ) → o < layout_blocks W k n → registers_end W threads < block_of o
  pub within : (o : ℕ) → o < layout_blocks W k n → block_of o ≤ m
  pub blocks : (o : ℕ) → o < layout_blocks W k n
      → BlockShows W (λ a. 0) w (next_name g t) (new_object k n) block_of o

-- a word of a new object: a reference to the block of the ordinal to which it links, or nil
abbrev pub link_word : (ℕ → ℕ) → Option ℕ → ℕ
link_word block_of None = 0
link_word block_of (Some o) = reference_word (block_of o)

-- a block of a new object by its words alone: its owner, its shape, and its links
pub record IsWritten (W : Width) (w : BlockWords) (a : Name) (k : ObjectKind) (n : ℕ)
    (block_of : ℕ → ℕ) (o : ℕ) : Type 0 where
  pub owned : w.owner (block_of o) ≡ wide_word a.thread a.serial o
  pub shaped : w.shape (block_of o) ≡ kind_word k n
  pub links : (j : ℕ) → j < payloads W
      → w.payload (block_of o) j ≡ link_word block_of (link_in (layout_part W k n o j))
