-- A new array on a heap.
use Rattle.std.specs.Prelude.{ℕ, ◌+◌, ◌*◌, ◌≤◌, ◌≡◌, ◌⊎◌, false, [], ◌∷◌, replicate}
use Rattle.block_store.specs.declared.Config.{Config}
use Rattle.block_store.specs.declared.Name.{Name}
use Rattle.block_store.specs.declared.Value.TheVariants.{Nil}
use Rattle.rate_plan.specs.Rates.{IsRate}
use Rattle.array_trees.specs.Trees.{array_blocks}
use Rattle.never_heap.specs.declared.Command.TheVariants.{Arr}
use Rattle.never_heap.specs.Bounds.{IsCommandInBounds}
use Rattle.never_heap.specs.Graphs.{Graph, has_name}
use Rattle.never_heap.specs.LiveBlocks.{live_blocks}
use Rattle.never_heap.specs.Steps.{step}
use Rattle.control_heap.specs.Controls.{Control, HasLeft, asked, units}
use Rattle.control_heap.specs.declared.faults.Fault.{Fault}
use Rattle.control_heap.specs.declared.faults.Fault.TheVariants as faults
use Rattle.control_heap.specs.graph_view.ShownGraph.{IsSmall}
use Rattle.heap_structures.specs.declared.cells.Cells.{Cells}
use Rattle.heap_structures.specs.Cells.{IsCells, IsPlaced, Spares}
use Rattle.heap_structures.specs.Heaps.{Any, Has, Sight}

-- There is room for the blocks of n values. Where any `Full` may have been answered, nothing is
-- asked: the array may be refused as `Full`.
abbrev pub MayOpen : Sight → Config → Graph → ℕ → Type 0
MayOpen Any c g n = Unit {0}
MayOpen s c g n = live_blocks c.width g + array_blocks c.width n ≤ c.live

-- a graph is small after an array of n values was made in a register
abbrev pub StaysSmall : Sight → Config → Graph → ℕ → ℕ → Type 0
StaysSmall Any c g base n = Unit {0}
StaysSmall s c g base n = IsSmall c (step g 0 (Arr base n)).0

-- The heap did one command, which made a new array: this holds of the graph, and of the rest of the
-- graph only the base register is another. The units are those of the array's blocks, and no more
-- blocks are live than those and the ones before.
pub record Opens (s : Sight) (h z : Control) (c : Cells) (g : Graph) (Q : Graph → Type 0)
    : Type 0 where
  pub graph : Graph
  pub has : Has s z graph
  pub spares : Spares (c.base ∷ []) c.array g graph
  pub fresh : has_name g c.array ≡ false
  pub holds : Q graph
  pub config : z.config ≡ h.config
  pub commands : asked z ≡ asked h + 1
  pub objects : z.objects ≡ h.objects + 1
  pub units : (rate : ℕ) → IsRate h.config rate
      → units z ≡ units h + rate * array_blocks h.config.width c.size
  pub live : live_blocks h.config.width graph
      ≤ live_blocks h.config.width g + array_blocks h.config.width c.size

-- the new array has this name and so many nils, whichever other register it is given
abbrev pub OpensNils : Sight → Control → Control → Graph → ℕ → ℕ → Name → Type 0
OpensNils s h z g base n a =
    (c : Cells) → c.array ≡ a → c.base ≡ base → c.size ≡ n → IsPlaced c
    → Opens s h z c g (λ k. IsCells k c (replicate n Nil))

-- only where any `Full` may have been answered is one answered now, and the graph stays
abbrev pub FullOf : Sight → Control → Graph → Type 0
FullOf Any z g = Has Any z g
FullOf s z g = ⊥

-- it made none: why, and what is left
abbrev pub NotOpened : Sight → Control → Control → ℕ → ℕ → ℕ → Graph → Fault → Type 0
NotOpened s h z base spare n g (faults.Full c) = FullOf s z g
NotOpened s h z base spare n g faults.OutOfBounds =
    ((16 ≤ spare) ⊎ (spare ≡ base) ⊎ (n ≡ 0) ⊎ ¬ IsCommandInBounds h.config (Arr base n))
    × (z ≡ h)
NotOpened s h z base spare n g faults.NoLifeLeft = ¬ HasLeft h (Arr base n) × (z ≡ h)
NotOpened s h z base spare n g f = ⊥
