use Rattle.std.proofs.Common.{rules, ◌≡◌, suc, ap, sym, ◌∙◌, [], ◌∷◌, ◌++◌, length, arith}
use Rattle.std.proofs.lemmas.List.{append_assoc}
use Rattle.std.specs.Vec.Iter.{into_iter_items}
use Rattle.shared_heap.specs.Shared.{held_of, joined}
use Rattle.shared_heap.specs.Workers.{WorkerState}
use Rattle.atom_board.proofs.AllMutators.{at_middle}
use Rattle.shared_heap.proofs.AllWorkers.{of_worker, one_knows, one_more_knows}
use Rattle.shared_heap.proofs.Steps.{joins}
use Rattle.shared_heap.proofs.heap.gathered.Goals as goal

pub join_seat-requires : goal.join_seat-requires
join_seat-requires c =
    let here = at_middle c.loop-worker.yielded (into_iter_items c.next.new.self) (into_iter_items c.loop-worker.worker-iterator) c.args.rest.items c.in-Some.worker c.in-Some.worker c.loop-worker.invariant.0 c.in-Some.ensures.steps.0 in
    let board : c.worker.inside.port.seat.table_id ≡ c.args.shared.now.table_id = ap (λ (h : WorkerState). h.heap) (c.worker.view_is ∙ sym here.0) ∙ c.requires.own (suc (length c.loop-worker.yielded)) c.in-Some.worker (omega (arith, here.1)) in
    (c.loop-worker.invariant.2, board, ap (λ m. m.1) c.worker.invariant.0.knows, c.requires.table.1, joins c.args.shared.now.key c.loop-worker.seat.id c.loop-worker.seat.me.0 c.worker.inside.port.seat.id c.worker.inside.port.seat.me.0)

pub loop-worker-init : goal.loop-worker-init
loop-worker-init c =
    let board : c.first.inside.port.seat.table_id ≡ c.args.shared.now.table_id = ap (λ (m : WorkerState). m.heap) c.first.view_is ∙ c.requires.own 0 c.args.first (omega arith) in
    let w = c.first.inside in (
      search,
      search,
      board,
      one_knows w.port.seat.me w.port.seat.table_id (held_of w.local w.port.seat.me.0.threads) w.port.seat.me.0.notes c.args.first c.first.invariant.0.knows c.first.view_is c.first.invariant.0.done,
      tt,
      tt,
    )

pub loop-worker-preserved : goal.loop-worker-preserved
loop-worker-preserved c =
    let w = c.worker.inside in
    let h = held_of w.local w.port.seat.me.0.threads in
    let one = of_worker w.port.seat.table_id h w.port.seat.me.0.notes c.in-Some.worker c.worker.view_is c.worker.invariant.0.done in
    let steps : into_iter_items c.loop-worker.worker-iterator ≡ c.in-Some.worker ∷ into_iter_items c.next.new.self = c.in-Some.ensures.steps.0 in
    let taken : c.join_seat.new.seat.me ≡ (joined c.loop-worker.seat.me.0 w.port.seat.me.0, c.loop-worker.seat.me.1) = search rules in (
      append_assoc c.loop-worker.yielded (c.in-Some.worker ∷ []) (into_iter_items c.next.new.self) ∙ ap (λ xs. c.loop-worker.yielded ++ xs) (sym steps) ∙ c.loop-worker.invariant.0,
      search rules,
      search rules,
      one_more_knows c.loop-worker.seat.me w.port.seat.me c.join_seat.new.seat.me c.args.first c.loop-worker.yielded c.in-Some.worker h w.port.seat.me.0.notes c.loop-worker.invariant.3 c.worker.invariant.0.knows one taken,
      tt,
      tt,
    )
