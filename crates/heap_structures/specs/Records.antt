-- Rings of numbers, each in an object of its own.
use Rattle.std.specs.Prelude.{ℕ, ◌+◌, ◌*◌, ◌^◌, ◌<◌, ◌≤◌, ◌≡◌, ◌≢◌, ◌⊎◌, true, false, Option, Some, None, List, [], ◌∷◌, length, map}
use Rattle.block_store.specs.declared.Config.{Config}
use Rattle.block_store.specs.declared.Name.{Name}
use Rattle.block_store.specs.declared.Value.TheVariants.{Int, Nil, Ref}
use Rattle.rate_plan.specs.Rates.{IsRate}
use Rattle.array_trees.specs.Trees.{array_blocks}
use Rattle.never_heap.specs.declared.Command.TheVariants.{Arr}
use Rattle.never_heap.specs.Bounds.{IsCommandInBounds}
use Rattle.never_heap.specs.Graphs.{Graph, field_of, has_name, object_of}
use Rattle.never_heap.specs.LiveBlocks.{live_blocks}
use Rattle.never_heap.specs.Reach.{is_among}
use Rattle.control_heap.specs.Controls.{Control, HasLeft, asked, units}
use Rattle.control_heap.specs.declared.faults.Fault.{Fault}
use Rattle.control_heap.specs.declared.faults.Fault.TheVariants as faults
use Rattle.heap_structures.specs.declared.cells.Cells.{Cells}
use Rattle.heap_structures.specs.declared.records.Records.{Records}
use Rattle.heap_structures.specs.Cells.{Saves, Spares, held}
use Rattle.heap_structures.specs.Heaps.{Any, Has, HasRoom, Sight}
use Rattle.heap_structures.specs.Opened.{FullOf}
use Rattle.heap_structures.specs.Rings.{IsNoTarget, IsRing}

-- each of these objects has one field, with its number
abbrev pub AreNumbers : Graph → List Name → List ℕ → Type 0
AreNumbers g [] [] = Unit {0}
AreNumbers g (a ∷ bs) (n ∷ ns) =
    ((object_of g a).fields ≡ Int n ∷ []) × (n < 2 ^ 32) × AreNumbers g bs ns
AreNumbers g bs ns = ⊥

abbrev pub records_cells : Records → Cells
records_cells r = r.ring.cells

-- no object is referred to by its spare register
abbrev pub HasFreeSpare : Graph → Records → Type 0
HasFreeSpare g r = (b : Name) → held g (records_cells r).spare ≢ Ref b

-- the ring refers to objects with these numbers, the oldest first
pub record IsRecords (g : Graph) (r : Records) (ns : List ℕ) : Type 0 where
  pub names : List Name
  pub ring : IsRing g r.ring (map Ref names)
  pub numbers : AreNumbers g names ns
  pub free : HasFreeSpare g r

-- graph k is g and a new object of one nil, to which this register refers
pub record HasBox (g k : Graph) (d : ℕ) (a : Name) : Type 0 where
  pub register : held k d ≡ Ref a
  pub fields : (object_of k a).fields ≡ Nil ∷ []
  pub fresh : has_name g a ≡ false
  pub spares : Spares (d ∷ []) a g k
  pub threads : length k.mutators ≡ length g.mutators

-- There is room for such an object. Where any `Full` may have been answered, nothing is asked.
abbrev pub MayPush : Sight → Config → Graph → ℕ → Type 0
MayPush Any c g d = Unit {0}
MayPush s c g d = (k : Graph) (a : Name) → HasBox g k d a → live_blocks c.width k ≤ c.live

-- The heap did at most four commands, and made one object of one value: this holds of the graph.
-- The two registers, the array and the new object apart, that is the graph from before.
pub record Grows (s : Sight) (h z : Control) (d : ℕ) (c : Cells) (g : Graph) (Q : Graph → Type 0)
    : Type 0 where
  pub graph : Graph
  pub has : Has s z graph
  pub saves : Saves (d ∷ c.spare ∷ []) c.array g graph
  pub holds : Q graph
  pub config : z.config ≡ h.config
  pub commands : asked z ≤ asked h + 4
  pub objects : z.objects ≡ h.objects + 1
  pub units : (rate : ℕ) → IsRate h.config rate
      → units z ≡ units h + rate * array_blocks h.config.width 1

-- it made none: why, and what is left
abbrev pub NotPushed : Sight → Control → Control → Cells → ℕ → Graph → Fault → Type 0
NotPushed s h z c d g (faults.Full n) = FullOf s z g
NotPushed s h z c d g faults.OutOfBounds =
    (IsNoTarget c d ⊎ ¬ IsCommandInBounds h.config (Arr d 1)) × (z ≡ h)
NotPushed s h z c d g faults.NoLifeLeft = (¬ HasRoom 4 h ⊎ ¬ HasLeft h (Arr d 1)) × (z ≡ h)
NotPushed s h z c d g f = ⊥

-- registers refer to none but these objects, and these refer to none
abbrev pub ReferOnly : Graph → List Name → Type 0
ReferOnly g bs = (q : ℕ) (b : Name) → held g q ≡ Ref b → is_among bs b ≡ true

abbrev pub ArePlain : Graph → List Name → Type 0
ArePlain g bs = (b x : Name) (i : ℕ) → is_among bs b ≡ true → field_of (object_of g b) i ≢ Ref x

-- the first of some numbers, or none
abbrev pub first_of : List ℕ → Option ℕ
first_of [] = None
first_of (n ∷ ns) = Some n
