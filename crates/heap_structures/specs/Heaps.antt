-- A heap seen as a graph: what a call takes of the heap's life, and what it leaves in its graph.
use Rattle.std.specs.Prelude.{ℕ, ◌+◌, ◌≤◌, ◌≡◌, false, MatchResult, Result, List, [], ◌∷◌, slice_index_or, slice_set}
use Rattle.block_store.specs.declared.Name.{Name}
use Rattle.block_store.specs.declared.Value.{Value}
use Rattle.block_store.specs.declared.Value.TheVariants.{Nil}
use Rattle.rate_plan.specs.Rates.{IsRate}
use Rattle.never_heap.specs.declared.Command.{Command}
use Rattle.never_heap.specs.Graphs.{Graph}
use Rattle.never_heap.specs.RightWork.{requested_units}
use Rattle.never_heap.specs.Steps.{makes_object}
use Rattle.heap_system.specs.Lives.{most_commands, most_objects, most_units}
use Rattle.control_heap.specs.Controls.{Control, asked, units}
use Rattle.control_heap.specs.declared.faults.Fault.{Fault}
use Rattle.control_heap.specs.declared.faults.Fault.TheVariants as faults
use Rattle.control_heap.specs.graph_view.ShownGraph.{HasMetNoFull, Leaves, Shows}
use Rattle.heap_structures.specs.Cells.{IsCells, Spares, held}
use Rattle.heap_structures.specs.declared.cells.Cells.{Cells}

-- How well a heap's graph is known: whatever was answered `Full`; with two cycles that began with
-- small graphs; or with small graphs alone.
pub data Sight : Type 0 where
  Any : Sight
  Small : Sight
  Always : Sight

abbrev pub Has : Sight → Control → Graph → Type 0
Has Any h g = Leaves h g
Has Small h g = Shows h g
Has Always h g = HasMetNoFull h g

-- a command that makes neither an object nor a unit
abbrev pub IsQuiet : Command → Type 0
IsQuiet k = (makes_object k ≡ false) × (requested_units k ≡ 0)

-- the life has room for so many of these
pub record HasRoom (n : ℕ) (h : Control) : Type 0 where
  pub commands : asked h + n ≤ most_commands
  pub objects : h.objects ≤ most_objects
  pub units : (rate : ℕ) → IsRate h.config rate → units h ≤ most_units

-- from heap to heap it did at most so many of these, and nothing else
pub record Took (n : ℕ) (h z : Control) : Type 0 where
  pub config : z.config ≡ h.config
  pub commands : asked z ≤ asked h + n
  pub objects : z.objects ≡ h.objects
  pub units : units z ≡ units h

-- the heap has this graph, with these values in the array, and room for so many commands
pub record Ready (s : Sight) (n : ℕ) (h : Control) (c : Cells) (g : Graph) (vs : List Value)
    : Type 0 where
  pub has : Has s h g
  pub cells : IsCells g c vs
  pub room : HasRoom n h

-- The heap did at most so many commands, and has a graph in which this holds. These registers and
-- the array apart, that is the graph from before.
pub record Does (s : Sight) (n : ℕ) (h z : Control) (rs : List ℕ) (a : Name) (g : Graph)
    (Q : Graph → Type 0) : Type 0 where
  pub graph : Graph
  pub has : Has s z graph
  pub took : Took n h z
  pub spares : Spares rs a g graph
  pub holds : Q graph

-- A call stops, and the heap is unchanged: it was given a bad register, or the life has no room for
-- so many commands.
abbrev pub Stops : ℕ → Type 0 → Control → Control → Fault → Type 0
Stops n Bad h z faults.OutOfBounds = Bad × (z ≡ h)
Stops n Bad h z faults.NoLifeLeft = ¬ HasRoom n h × (z ≡ h)
Stops n Bad h z _ = ⊥

-- A call does at most so many commands with this outcome, or it stops and nothing is changed.
abbrev pub DoesOrStops : {T : Type 0} → Sight → ℕ → Control → Control → List ℕ → Cells → Graph
    → (T → Graph → Type 0) → Type 0 → Type 0 → Result T Fault → Type 0
DoesOrStops s n h z rs c g Q Bad Same x =
    MatchResult x (λ v. Does s n h z rs c.array g (Q v)) (λ f. Stops n Bad h z f × Same)

-- a value went by the spare register, and the array has these
abbrev pub Fills : Sight → ℕ → Control → Control → Cells → Graph → List Value → Type 0
Fills s n h z c g ws = Does s n h z (c.spare ∷ []) c.array g (λ k. IsCells k c ws)

-- value i is in a register, and nil in the array
abbrev pub Takes : Sight → Control → Control → Cells → Graph → List Value → ℕ → ℕ → Type 0
Takes s h z c g vs i d =
    Does s 3 h z (d ∷ c.spare ∷ []) c.array g
    (λ k. IsCells k c (slice_set vs i Nil) × (held k d ≡ slice_index_or vs i Nil))
