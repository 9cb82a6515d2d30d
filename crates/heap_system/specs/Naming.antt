-- What an event changes of the names that the rules of the collector know.
use Rattle.std.specs.Prelude.{ℕ, ◌==◌, ◌&&◌, false, true}
use Rattle.block_store.specs.declared.Config.{Config}
use Rattle.block_store.specs.Colours.{black_word}
use Rattle.block_store.specs.Counts.{changed}
use Rattle.block_store.specs.Heaps.{Heap}
use Rattle.block_store.specs.Phases.{cycle_of}
use Rattle.block_store.specs.Places.{Phase, ColourOf}
use Rattle.never_heap.specs.Graphs.{Graph, start_graph, next_name}
use Rattle.never_heap.specs.Reach.{reachable}
use Rattle.heap_invariant.specs.graph_relation.Made.{with_blocks}
use Rattle.heap_invariant.specs.graph_relation.InitialHeaps.{opening_at}
use Rattle.heap_invariant.specs.name_invariant.Pictures.{Names}
use Rattle.heap_invariant.specs.name_invariant.States.{with_name}

-- nothing; what the flip found unmarked is lost; what is reachable at a start is known and kept;
-- the root of thread u is shaded; or an object is made, whose ordinals are at these blocks
pub data Naming : Type 0 where
  Same : Naming
  Lost : Naming
  Begun : Naming
  Shaded : (u : ℕ) → Naming
  Made : (blocks : ℕ → ℕ) → Naming

-- the names after an event of thread t on this graph and heap
abbrev pub renamed : ℕ → Graph → Heap → Naming → Names → Names
renamed t g h Same ns = ns
renamed t g h Lost ns = record ns {
  kept = λ a. ns.kept a && (h (ColourOf (ns.at a 0)) == black_word (cycle_of (h Phase)));
  shaded = λ u. false;
}
renamed t g h Begun ns = record ns { known = reachable g; kept = reachable g }
renamed t g h (Shaded u) ns = record ns { shaded = changed ns.shaded u true }
renamed t g h (Made blocks) ns = record ns {
  at = with_blocks ns.at (next_name g t) blocks;
  known = with_name ns.known (next_name g t);
  kept = with_name ns.kept (next_name g t);
}

-- those of the opening
abbrev pub opening_names : Config → Names
opening_names c = record {
  at = opening_at c.width c.threads;
  known = reachable (start_graph c);
  kept = reachable (start_graph c);
  shaded = λ t. false;
}
