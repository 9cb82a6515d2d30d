use Rattle.std.proofs.Common.{◌≡◌, ap, sym, ◌∙◌, arith}
use Rattle.shared_heap.specs.Workers.{HeapState, WorkerState}
use Rattle.shared_heap.proofs.Steps.{notes}
use Rattle.shared_heap.proofs.heap.SharedHeap.note.Goals as goal

pub split_seat-seat-requires : goal.split_seat-seat-requires
split_seat-seat-requires c =
    let w = c.who.inside in
    let table : w.port.seat.table_id ≡ c.self.inside.table.shared.table_id = ap (λ (x : WorkerState). x.heap) c.who.view_is ∙ c.requires ∙ sym (ap (λ (x : HeapState). x.id) c.self.view_is) in
    (table, omega (arith, c.self.invariant.2), notes c.self.inside.table.shared.key w.port.seat.id w.port.seat.me.0)
