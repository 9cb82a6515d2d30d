-- The opening: nothing was done, and all blocks that are not live are free.
use Rattle.std.specs.Prelude.{ℕ, ◌+◌, ◌-◌, ◌<◌, ◌≤◌, ◌≡◌, false, [], ◌∷◌}
use Rattle.block_store.specs.declared.Config.{Config}
use Rattle.array_trees.specs.InitialHeaps.{opening_blocks}
use Rattle.never_heap.specs.Cycles.{graph_at}
use Rattle.never_heap.specs.Histories.{Started}
use Rattle.never_heap.specs.LiveBlocks.{live_blocks}
use Rattle.work_account.specs.Accounts.{opened}
use Rattle.heap_invariant.specs.cycle_tally.Tallies.{Spending, Tally}
use Rattle.heap_invariant.specs.cycle_tally.TallyInvariant.{IsRequested}

-- a thread before its first command, which asks for at most one object
pub record IsNew (c : Config) (w : Spending) : Type 0 where
  pub inside : w.inside ≡ false
  pub balance : w.balance ≡ opened
  pub asked : w.asked ≤ c.object
  pub requested : IsRequested w.asked w.requested w.idled
  pub idled : w.idled ≡ 0
  pub claimed : w.high ≤ w.low
  pub reserved : w.reserved ≡ 0

pub record Opened (c : Config) (s : Tally) : Type 0 where
  pub cycle : s.cycle ≡ 1
  pub sweep : s.sweep ≡ false
  pub cursor : s.cursor ≡ c.blocks + 1
  pub order : s.order ≡ Started ∷ []
  pub threads : (t : ℕ) → t < c.threads → IsNew c (s.threads t)
  pub scanned : (x : ℕ) → s.scanned x ≡ 0
  pub passed : (x : ℕ) → s.passed x ≡ 0
  pub past : s.past ≡ 0
  pub free : c.blocks ≤ s.free + live_blocks c.width (graph_at c s.order 1)

-- the tally of the opening heap, with these colours, where each thread first asks for so many
-- blocks, or is told of so many units
abbrev pub opening_tally : Config → (colour asked requested : ℕ → ℕ) → Tally
opening_tally c colour asked requested = record {
  cycle = 1;
  sweep = false;
  cursor = c.blocks + 1;
  free = c.blocks - opening_blocks c;
  colour = colour;
  order = Started ∷ [];
  threads = λ t. record {
    inside = false;
    balance = opened;
    asked = asked t;
    requested = requested t;
    idled = 0;
    low = 0;
    high = 0;
    reserved = 0;
  };
  scanned = λ x. 0;
  passed = λ x. 0;
  past = 0;
}
