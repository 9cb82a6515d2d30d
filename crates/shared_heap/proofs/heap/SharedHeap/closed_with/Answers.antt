use Rattle.std.proofs.Common.{◌≡◌, ap, sym, ◌∙◌, List, ◌∷◌}
use Rattle.block_store.specs.declared.PhaseWord.{PhaseWord}
use Rattle.shared_heap.specs.Workers.{HeapState, WorkerState}
use Rattle.shared_heap.proofs.AllWorkers.{own_of}
use Rattle.shared_heap.proofs.Endings.{was_closed, cycle_is}
use Rattle.shared_heap.proofs.heap.SharedHeap.closed_with.Goals as goal

pub first_and_rest-first-requires : goal.first_and_rest-first-requires
first_and_rest-first-requires c = c.requires.0

pub gathered-seat-requires-clause-own : goal.gathered-seat-requires-clause-own
gathered-seat-requires-clause-own c =
    own_of c.args.self c.args.who.items (c.first_and_rest-first.result.0 ∷ c.first_and_rest-first.result.1.items) c.self.inside.table.shared.table_id
    c.first_and_rest-first.ensures (sym (ap (λ (h : HeapState). h.id) c.self.view_is)) c.requires

pub returns : goal.returns
returns c =
    let last = c.close_with-closed.ensures.values.2 in
    let ws : List WorkerState = c.first_and_rest-first.result.0 ∷ c.first_and_rest-first.result.1.items in
    was_closed c.args.self.config c.self.inside.table.shared.key last.0 c.gathered-seat.result.id c.gathered-seat.result.me c.args.who.items ws c.read_phase-cycles.result.cycle
    last.1.0 last.1.1 c.gathered-seat.ensures.knows c.first_and_rest-first.ensures
    (sym (ap (λ (h : HeapState). h.config) c.self.view_is) ∙ c.self.invariant.0)
    (ap (λ (p : PhaseWord). p.cycle) c.read_phase-cycles.ensures ∙ sym (cycle_is last.0 _ c.word.result last.2 c.word.ensures))
