-- The opening heap of each configuration that has room for it opens its cycles: all its blocks are
-- live.
use Rattle.std.proofs.Common.{◌≡◌, ℕ, ◌≤◌, ◌<◌, refl, arith}
use Rattle.block_store.specs.declared.Config.{Config}
use Rattle.array_trees.specs.InitialHeaps.{opening_blocks}
use Rattle.never_heap.specs.Graphs.{start_graph}
use Rattle.never_heap.specs.LiveBlocks.{live_blocks}
use Rattle.heap_invariant.specs.cycle_tally.InitialHeaps.{Opened, opening_tally}
use Rattle.heap_invariant.specs.cycle_tally.TallyInvariant.{IsRequested}

pub opens : (c : Config) (colour asked requested : ℕ → ℕ)
    → live_blocks c.width (start_graph c) ≡ opening_blocks c → opening_blocks c ≤ c.blocks
    → ((t : ℕ) → t < c.threads → asked t ≤ c.object)
    → ((t : ℕ) → t < c.threads → IsRequested (asked t) (requested t) 0)
    → Opened c (opening_tally c colour asked requested)
opens c colour asked requested live room few owes = record {
  cycle = refl;
  sweep = refl;
  cursor = refl;
  order = refl;
  scanned = λ x. refl;
  passed = λ x. refl;
  past = refl;
  threads = λ t tl. record {
    inside = refl;
    balance = refl;
    asked = few t tl;
    requested = owes t tl;
    idled = refl;
    claimed = omega arith;
    reserved = refl;
  };
  free = omega (arith, live, room);
}
