-- The rules' state as a picture of a heap, of its graph and order, and of what its threads are at.
use Rattle.std.specs.Prelude.{ℕ, Bool, Option, None, List}
use Rattle.block_store.specs.declared.Name.{Name}
use Rattle.block_store.specs.Heaps.{Heap}
use Rattle.block_store.specs.Phases.{is_sweep, cycle_of}
use Rattle.block_store.specs.Places.{Phase, ColourOf}
use Rattle.never_heap.specs.Graphs.{Graph}
use Rattle.never_heap.specs.Histories.{HistoryItem}
use Rattle.heap_invariant.specs.graph_relation.Events.{Loading, unloaded}
use Rattle.heap_invariant.specs.graph_relation.Words.{block_words}
use Rattle.heap_invariant.specs.name_invariant.Building.{Build}
use Rattle.heap_invariant.specs.name_invariant.States.{KeptState}

-- what a thread is at: what its command has loaded, what it builds, and the block to which the
-- payload refers that its scan has read, or 0
pub record Task : Type 0 where
  pub loading : Loading
  pub build : Option Build
  pub scan : ℕ

-- nothing
abbrev pub no_task : Task
no_task = record { loading = unloaded; build = None; scan = 0 }

-- what no word of the heap says: the block of each ordinal of the object of a name, the names that
-- are known and kept, and whether a thread's root is shaded for the next cycle
pub record Names : Type 0 where
  pub at : Name → ℕ → ℕ
  pub known : Name → Bool
  pub kept : Name → Bool
  pub shaded : ℕ → Bool

abbrev pub picture : Graph → List HistoryItem → Heap → Names → (ℕ → Task) → KeptState
picture graph order h names tasks = record {
  seen = record {
    graph = graph;
    words = block_words h;
    loads = λ t. (tasks t).loading;
  };
  order = order;
  cycle = cycle_of (h Phase);
  sweep = is_sweep (h Phase);
  colour = λ x. h (ColourOf x);
  at = names.at;
  known = names.known;
  kept = names.kept;
  shaded = names.shaded;
  builds = λ t. (tasks t).build;
  scans = λ t. (tasks t).scan;
}
