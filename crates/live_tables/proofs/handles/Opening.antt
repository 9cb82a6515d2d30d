-- The heap of slots can be opened.
use Rattle.std.proofs.Common.{ℕ, arith}
use Rattle.array_trees.proofs.Counts.{few_shared}
use Rattle.block_store.specs.declared.Width.TheVariants.{Eight}
use Rattle.shared_heap.specs.Workers.{CanOpen}
use Rattle.live_tables.specs.handles.Live.{IsTableInRange, opened_config}

pub can_open : (slots threads : ℕ) → IsTableInRange slots threads
    → CanOpen (opened_config threads slots)
can_open slots threads is = record {
  bounds = record {
    some_thread = is.some_thread;
    threads = is.few_threads;
    some_block = omega (arith, is.some_thread);
    blocks = omega (arith, is.few_threads, is.few_slots, few_shared Eight slots (omega (arith, is.few_slots)));
    live = omega (arith, is.few_threads, is.few_slots, few_shared Eight slots (omega (arith, is.few_slots)));
    some_object = omega arith;
    object = omega arith;
    shared = omega (arith, is.few_slots);
  };
  plan = record {
    opens = omega (arith, is.some_thread);
    room = omega (arith, is.some_thread);
  };
}
