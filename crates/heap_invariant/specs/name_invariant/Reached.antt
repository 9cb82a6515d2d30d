-- What the graph reaches, what was made since the start of the cycle, and what a builder has
-- coloured.
use Rattle.std.specs.Prelude.{ℕ, ◌<◌, ◌≤◌, ◌≡◌, ◌⊎◌, true, false}
use Rattle.block_store.specs.declared.Config.{Config}
use Rattle.block_store.specs.declared.Name.{Name}
use Rattle.block_store.specs.declared.Width.{Width}
use Rattle.never_heap.specs.Graphs.{Graph, has_name}
use Rattle.never_heap.specs.Cycles.{graph_at}
use Rattle.never_heap.specs.Reach.{reachable}
use Rattle.heap_invariant.specs.name_invariant.Building.{Build, build_blocks}
use Rattle.heap_invariant.specs.name_invariant.Colouring.{Belongs}
use Rattle.heap_invariant.specs.name_invariant.States.{KeptState, sizes}

abbrev pub Reached : KeptState → Name → Type 0
Reached s a = reachable s.seen.graph a ≡ true

-- block x is one that the graph reaches: of a register array, or of a reachable object
abbrev pub IsReachedBlock : Config → KeptState → ℕ → Type 0
IsReachedBlock c s x = Belongs c.width c.threads (Reached s) (sizes c s) s.at x

-- the graph at the start of the cycle
abbrev pub graph_then : Config → KeptState → Graph
graph_then c s = graph_at c s.order s.cycle

-- a name was reachable then, or is of an object that was made since
abbrev pub ReachedOrMade : Config → KeptState → Name → Type 0
ReachedOrMade c s a =
    (reachable (graph_then c s) a ≡ true)
    ⊎ ((has_name s.seen.graph a ≡ true) × (has_name (graph_then c s) a ≡ false))

-- block x is of a register array, or of the object of such a name
abbrev pub IsReachedOrMade : Config → KeptState → ℕ → Type 0
IsReachedOrMade c s x = Belongs c.width c.threads (ReachedOrMade c s) (sizes c s) s.at x

-- block y is a coloured one of the object that is being built
abbrev pub IsColouredOf : Width → Build → ℕ → Type 0
IsColouredOf W b y = (o : ℕ) × (b.left ≤ o) × (o < build_blocks W b) × (y ≡ b.held o)
