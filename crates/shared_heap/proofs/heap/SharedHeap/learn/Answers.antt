use Rattle.std.proofs.Common.{◌≡◌, ap, sym, ◌∙◌, arith}
use Rattle.shared_heap.specs.Workers.{HeapState, NoteState, WorkerState}
use Rattle.shared_heap.proofs.Steps.{joins}
use Rattle.shared_heap.proofs.heap.SharedHeap.learn.Goals as goal

pub join_seat-requires : goal.join_seat-requires
join_seat-requires c =
    let w = c.who.inside in
    let n = c.note.inside.seat in
    let id = sym (ap (λ (x : HeapState). x.id) c.self.view_is) in
    let mine : w.port.seat.table_id ≡ c.self.inside.table.shared.table_id = ap (λ (x : WorkerState). x.heap) c.who.view_is ∙ c.requires.heap ∙ id in
    let theirs : n.table_id ≡ c.self.inside.table.shared.table_id = ap (λ (x : NoteState). x.heap) c.note.view_is ∙ c.requires.note ∙ id in
    (mine, theirs, ap (λ m. m.1) c.note.invariant, omega (arith, c.self.invariant.2), joins c.self.inside.table.shared.key w.port.seat.id w.port.seat.me.0 n.id n.me.0)
