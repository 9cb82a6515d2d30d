-- Words and the graph that they show, at one moment.
use Rattle.std.specs.Prelude.{ℕ, ◌<◌, ◌≡◌, Bool, true, false}
use Rattle.block_store.specs.declared.Name.{Name}
use Rattle.block_store.specs.declared.TheConstants.{REGISTERS}
use Rattle.block_store.specs.declared.Value.{Value}
use Rattle.block_store.specs.declared.Value.TheVariants.{Ref}
use Rattle.block_store.specs.declared.Width.{Width}
use Rattle.block_store.specs.Payloads.{reference_word}
use Rattle.never_heap.specs.Graphs.{Graph, ObjectKind, object_of, has_name, with_register, with_object, next_name}
use Rattle.heap_invariant.specs.graph_relation.Layouts.{object_blocks}
use Rattle.heap_invariant.specs.graph_relation.Words.{BlockWords, value_word, with_register_word}
use Rattle.heap_invariant.specs.graph_relation.GraphOfWords.{IsValueOf, heads, Shows, named}
use Rattle.heap_invariant.specs.graph_relation.Made.{new_object, with_blocks, IsMade}

-- the width of the blocks, how many threads there are, the last block, the kept names, the graph,
-- where the ordinals of objects are, the words, and which registers are pending
pub record Snapshot : Type 0 where
  pub width : Width
  pub threads : ℕ
  pub last : ℕ
  pub kept : Name → Bool
  pub graph : Graph
  pub at : Name → ℕ → ℕ
  pub words : BlockWords
  pub pending : ℕ → ℕ → Bool

-- the words show the kept part of the graph
abbrev pub IsShown : Snapshot → Type 0
IsShown s = Shows s.width s.threads s.last (named s.kept) s.graph s.at s.words s.pending

abbrev pub IsRegister : Snapshot → ℕ → ℕ → Type 0
IsRegister s t r = (t < s.threads) × (r < REGISTERS)

-- a value that names only what is kept, and its word
abbrev pub IsKeptValue : Snapshot → Value → Type 0
IsKeptValue s v = IsValueOf (named s.kept) v

abbrev pub word_of : Snapshot → Value → ℕ
word_of s v = value_word (heads s.at) v

-- ordinal o of the object of a kept name, and the block at which it is
pub record IsBlockOf (s : Snapshot) (a : Name) (o : ℕ) : Type 0 where
  pub kept : s.kept a ≡ true
  pub ordinal : o < object_blocks s.width (object_of s.graph a)

-- an object that was made in these blocks and has no name yet
abbrev pub IsMadeIn : Snapshot → ℕ → ObjectKind → ℕ → (ℕ → ℕ) → Type 0
IsMadeIn s t k n block_of = IsMade s.width s.threads s.last s.graph s.words t k n block_of

-- the graph with that object, to which register d of its thread refers
abbrev pub with_new : Snapshot → ℕ → ℕ → ObjectKind → ℕ → Graph
with_new s t d k n =
    with_register (with_object s.graph t (new_object k n)) t d (Ref (next_name s.graph t))

-- and the words that show it, where all names are kept
abbrev pub referred_new : Snapshot → ℕ → ℕ → ObjectKind → ℕ → (ℕ → ℕ) → Snapshot
referred_new s t d k n block_of = record s {
  kept = has_name (with_new s t d k n);
  graph = with_new s t d k n;
  at = with_blocks s.at (next_name s.graph t) block_of;
  words = with_register_word s.width s.words t d (reference_word (block_of 0));
}

-- no register becomes pending, but that register r of thread t may be pending no more
abbrev pub CatchesUp : Snapshot → (ℕ → ℕ → Bool) → ℕ → ℕ → Type 0
CatchesUp s later t r =
    (u q : ℕ) → later u q ≡ false → ((t ≡ u) → (r ≡ q) → ⊥) → s.pending u q ≡ false

-- registers may become pending, and none is pending no more
abbrev pub FallsBehind : Snapshot → (ℕ → ℕ → Bool) → Type 0
FallsBehind s later = (u q : ℕ) → later u q ≡ false → s.pending u q ≡ false
