-- The opening: the start graph, its words, and the colours of cycle 1.
use Rattle.std.specs.Prelude.{ℕ, ◌<◌, ◌≤◌, ◌≡◌, false, true, None, [], ◌∷◌}
use Rattle.block_store.specs.declared.Config.{Config}
use Rattle.block_store.specs.Colours.{is_free, is_grey, white_word}
use Rattle.block_store.specs.Registers.{root_block}
use Rattle.array_trees.specs.InitialHeaps.{opening_blocks}
use Rattle.never_heap.specs.Graphs.{start_graph}
use Rattle.never_heap.specs.Histories.{Started}
use Rattle.never_heap.specs.Reach.{reachable}
use Rattle.heap_invariant.specs.graph_relation.Events.{opening_state}
use Rattle.heap_invariant.specs.graph_relation.InitialHeaps.{opening_at}
use Rattle.heap_invariant.specs.name_invariant.Colouring.{NotRoot}
use Rattle.heap_invariant.specs.name_invariant.States.{KeptState}

-- the roots are grey, the other blocks of the register arrays and of the shared array are white,
-- and those after them are Free
pub record OpeningColours (c : Config) (colour : ℕ → ℕ) : Type 0 where
  pub roots : (t : ℕ) → t < c.threads → is_grey (colour (root_block c.width t)) ≡ true
  pub arrays : (x : ℕ) → 0 < x → x ≤ opening_blocks c → NotRoot c.width c.threads x
      → colour x ≡ white_word 1
  pub none : is_free (colour 0) ≡ true
  pub others : (x : ℕ) → opening_blocks c < x → is_free (colour x) ≡ true

-- the opening with these colours
abbrev pub opening_kept : Config → (ℕ → ℕ) → KeptState
opening_kept c colour = record {
  seen = opening_state c;
  order = Started ∷ [];
  cycle = 1;
  sweep = false;
  colour = colour;
  at = opening_at c.width c.threads;
  known = reachable (start_graph c);
  kept = reachable (start_graph c);
  shaded = λ t. false;
  builds = λ t. None;
  scans = λ t. 0;
}
