-- What the rules read that need the graph: the graph with its order, the words and colours of
-- blocks, and what the threads are at.
use Rattle.std.specs.Prelude.{ℕ, ◌≡◌, ◌||◌, Bool, true, Option, List}
use Rattle.block_store.specs.declared.Config.{Config}
use Rattle.block_store.specs.declared.Name.{Name}
use Rattle.never_heap.specs.Graphs.{same_name, object_of}
use Rattle.never_heap.specs.Histories.{HistoryItem}
use Rattle.heap_invariant.specs.graph_relation.Layouts.{object_blocks}
use Rattle.heap_invariant.specs.graph_relation.Events.{GraphState}
use Rattle.heap_invariant.specs.name_invariant.Building.{Build}
use Rattle.heap_invariant.specs.name_invariant.Colouring.{Belongs}

pub record KeptState : Type 0 where
  pub seen : GraphState  -- the graph, the words of the blocks, and what commands have loaded
  pub order : List HistoryItem  -- the starts and the commands that were decided, oldest first
  pub cycle : ℕ
  pub sweep : Bool  -- whether the phase is Sweep, and not Mark
  pub colour : ℕ → ℕ  -- the colour word of each block
  pub at : Name → ℕ → ℕ  -- the block of each ordinal of the object of a name
  pub known : Name → Bool  -- the names that were reachable at the last start, or made since
  pub kept : Name → Bool  -- of these the ones that the last flip to Sweep found marked
  pub shaded : ℕ → Bool  -- whether a thread's root is shaded for the next cycle
  pub builds : ℕ → Option Build  -- what each thread builds
  pub scans : ℕ → ℕ  -- the block to which the payload refers that a thread's scan has read, or 0

-- how many blocks the object of a name takes
abbrev pub sizes : Config → KeptState → Name → ℕ
sizes c s a = object_blocks c.width (object_of s.seen.graph a)

abbrev pub Known : KeptState → Name → Type 0
Known s a = s.known a ≡ true

abbrev pub Kept : KeptState → Name → Type 0
Kept s a = s.kept a ≡ true

-- block x is of a register array or of the object of a known name, or of a kept one
abbrev pub IsKnownBlock : Config → KeptState → ℕ → Type 0
IsKnownBlock c s x = Belongs c.width c.threads (Known s) (sizes c s) s.at x

abbrev pub IsKeptBlock : Config → KeptState → ℕ → Type 0
IsKeptBlock c s x = Belongs c.width c.threads (Kept s) (sizes c s) s.at x

-- the names of a set, and one more
abbrev pub with_name : (Name → Bool) → Name → Name → Bool
with_name set a b = same_name a b || set b
