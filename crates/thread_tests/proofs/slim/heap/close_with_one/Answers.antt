use Rattle.std.proofs.Common.{subst, sym, List}
use Rattle.shared_heap.specs.Workers.{AreSome, WorkerState}
use Rattle.thread_tests.proofs.WorkersOfHeap.{one_some}
use Rattle.thread_tests.proofs.slim.heap.close_with_one.Goals as goal

pub close_some-requires : goal.close_some-requires
close_some-requires c =
    subst (λ (xs : List WorkerState). AreSome c.args.heap xs) (sym c.in_ok-workers.ensures.items)
    (one_some c.args.heap _ c.requires)
