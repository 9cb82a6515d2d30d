use Rattle.std.proofs.Common.{subst, sym, List}
use Rattle.shared_heap.specs.Workers as heaps
use Rattle.shared_heap.specs.Workers.{HeapState, HaveOneHistory, WorkerState}
use Rattle.live_tables.proofs.rows.heap.RowHeap.close.Goals as goal

pub close-requires : goal.close-requires
close-requires g c =
    let ws : List WorkerState = c.unwrapped-workers.result.items in
    subst (λ (t : HeapState). heaps.AreEachOnce t ws) (sym c.self.view_is)
    (c.requires.each ws c.unwrapped-workers.ensures.same)

pub returns : goal.returns
returns g c =
    let ws : List WorkerState = c.unwrapped-workers.result.items in (
      ws,
      c.unwrapped-workers.ensures.all,
      c.unwrapped-workers.ensures.same,
      subst (λ (t : HeapState). HaveOneHistory t.config ws c.close.result) c.self.view_is
          c.close.ensures,
    )
