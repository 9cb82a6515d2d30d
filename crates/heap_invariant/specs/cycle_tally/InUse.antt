-- The blocks in use at a start: those of the register arrays, and of names that were reachable at
-- the start before, or were made since.
use Rattle.std.specs.Prelude.{ℕ, suc, ◌<◌, ◌≤◌, ◌≡◌, ◌⊎◌, Bool, true, false, List}
use Rattle.block_store.specs.declared.Config.{Config}
use Rattle.block_store.specs.declared.Name.{Name}
use Rattle.block_store.specs.Phases.{bit}
use Rattle.block_store.specs.Registers.{registers_end}
use Rattle.never_heap.specs.Graphs.{Graph, object_of, has_name}
use Rattle.never_heap.specs.Histories.{HistoryItem, replay, starts_in}
use Rattle.never_heap.specs.Cycles.{graph_at}
use Rattle.never_heap.specs.LiveBlocks.{object_blocks}
use Rattle.never_heap.specs.Reach.{reachable}
use Rattle.block_store.specs.Counts.{total}

-- the graph at the last start
abbrev pub graph_then : Config → List HistoryItem → Graph
graph_then c h = graph_at c h (starts_in h)

-- a name was reachable then, or is of an object that was made since
abbrev pub ReachedOrMade : Config → List HistoryItem → Name → Type 0
ReachedOrMade c h a =
    (reachable (graph_then c h) a ≡ true)
    ⊎ ((has_name (replay c h) a ≡ true) × (has_name (graph_then c h) a ≡ false))

-- Block x is that of an ordinal of the object of such a name. The ordinals of objects are `at`
-- their blocks.
pub record IsBlockOfThese (c : Config) (h : List HistoryItem) (at : Name → ℕ → ℕ) (x : ℕ) : Type 0
  where
    pub name : Name
    pub ordinal : ℕ
    pub reached : ReachedOrMade c h name
    pub low : ordinal < object_blocks c.width (object_of (replay c h) name)
    pub is : x ≡ at name ordinal

-- each block that is not Free is of a register array, or of such an object
abbrev pub IsCovered : Config → List HistoryItem → (Name → ℕ → ℕ) → (ℕ → Bool) → Type 0
IsCovered c h at free =
    (x : ℕ) → 0 < x → x ≤ c.blocks → free x ≡ false
    → (x ≤ registers_end c.width c.threads) ⊎ IsBlockOfThese c h at x

-- how many of the blocks 1 to m are Free
abbrev pub count_free : ℕ → (ℕ → Bool) → ℕ
count_free m free = total m (λ x. bit (free (suc x)))
