-- What a structure shows on another heap that has the graph of its own heap up to names.
use Rattle.std.specs.Prelude.{List, map}
use Rattle.block_store.specs.declared.Name.{Name}
use Rattle.block_store.specs.declared.Value.{Value}
use Rattle.never_heap.specs.Graphs.{Graph}
use Rattle.saved_heap.specs.heap_pictures.UpToNames.{AreOneUpToNames, renamed}
use Rattle.control_heap.specs.Controls.{Control}
use Rattle.control_heap.specs.graph_view.ShownGraph.{Leaves}
use Rattle.heap_structures.specs.declared.cells.Cells.{Cells}
use Rattle.heap_structures.specs.Pairs.{Pair}

-- What it showed of this kind it shows on the other heap too, where each name is replaced.
abbrev pub ShowsAgain : {A : Type 0} → ((Name → Name) → A → A) → (Graph → A → Type 0)
    → (Graph → A → Type 0) → Control → Type 0
ShowsAgain {A} rename Shows Again other =
    (g z : Graph) (x : A) (one : AreOneUpToNames g z)
    → Shows g x → Leaves other z → Again z (rename one.to x)

abbrev pub renamed_values : (Name → Name) → List Value → List Value
renamed_values to xs = map (renamed to) xs

abbrev pub renamed_pairs : (Name → Name) → List Pair → List Pair
renamed_pairs to xs = map (λ x. (x.0, renamed to x.1)) xs

-- an array by another name
abbrev pub with_array : Cells → Name → Cells
with_array c a = record { array = a; base = c.base; spare = c.spare; size = c.size }
