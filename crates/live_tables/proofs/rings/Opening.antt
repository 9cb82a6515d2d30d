-- The heap of rings can be opened.
use Rattle.std.proofs.Common.{ℕ, ◌*◌, arith}
use Rattle.array_trees.proofs.Counts.{few_shared}
use Rattle.block_store.specs.declared.Width.TheVariants.{Eight}
use Rattle.shared_heap.specs.Workers.{CanOpen}
use Rattle.array_tables.specs.number_rings.Rings.{ring_config}
use Rattle.live_tables.specs.rings.Live.{AreRingsInRange}

pub can_open : (threads : ℕ) → AreRingsInRange threads → CanOpen (ring_config threads)
can_open threads is = record {
  bounds = record {
    some_thread = is.some_thread;
    threads = is.few_threads;
    some_block = omega (arith, is.some_thread);
    blocks = omega (arith, is.few_threads, few_shared Eight (8 * threads) (omega (arith, is.few_threads)));
    live = omega (arith, is.few_threads, few_shared Eight (8 * threads) (omega (arith, is.few_threads)));
    some_object = omega arith;
    object = omega arith;
    shared = omega (arith, is.few_threads);
  };
  plan = record {
    opens = omega (arith, is.some_thread);
    room = omega (arith, is.some_thread);
  };
}
