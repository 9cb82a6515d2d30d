-- The heap of a table can be opened.
use Rattle.std.proofs.Common.{ℕ, arith}
use Rattle.array_trees.proofs.Counts.{few_shared}
use Rattle.block_store.specs.declared.Width.TheVariants.{Eight}
use Rattle.shared_heap.specs.Workers.{CanOpen}
use Rattle.live_tables.specs.tags.Live.{IsTableInRange, opened_config}

pub can_open : (tags threads : ℕ) → IsTableInRange tags threads
    → CanOpen (opened_config threads tags)
can_open tags threads is = record {
  bounds = record {
    some_thread = is.some_thread;
    threads = is.few_threads;
    some_block = omega (arith, is.some_thread);
    blocks = omega (arith, is.few_threads, is.few_tags, few_shared Eight tags is.few_tags);
    live = omega (arith, is.few_threads, is.few_tags, few_shared Eight tags is.few_tags);
    some_object = omega arith;
    object = omega arith;
    shared = is.few_tags;
  };
  plan = record {
    opens = omega (arith, is.some_thread);
    room = omega (arith, is.some_thread);
  };
}
