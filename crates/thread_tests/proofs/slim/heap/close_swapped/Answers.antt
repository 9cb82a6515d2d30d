use Rattle.std.proofs.Common.{subst, sym, List}
use Rattle.shared_heap.specs.Workers.{AreEachOnce, WorkerState}
use Rattle.thread_tests.proofs.WorkersOfHeap.{two_each}
use Rattle.thread_tests.proofs.slim.heap.close_swapped.Goals as goal

pub close-requires : goal.close-requires
close-requires c =
    subst (λ (xs : List WorkerState). AreEachOnce c.args.heap xs) (sym c.in_ok-workers.ensures.items)
    (two_each c.args.heap _ _ c.requires.two c.requires.first c.requires.second)
