use Rattle.std.proofs.Common.{rules, subst}
use Rattle.shared_heap.specs.Workers.{WorkerState}
use Rattle.live_tables.specs.rows.Workers.{IsNext, row_worker}
use Rattle.live_tables.specs.handles.Live.{IsInRange, IsMade, deed_of, handles}
use Rattle.live_tables.proofs.handles.Doing.{is_next}
use Rattle.live_tables.proofs.handles.slots.checked.Goals as goal

pub returns-clause-next : goal.returns-clause-next
returns-clause-next c =
    let w : WorkerState = c.who.inside.worker in
    let range : IsInRange w.thread.config.shared c.args.request.now = search rules in
    let made : IsMade (row_worker handles w) c.args.request.now = search rules in
    subst (λ v. IsNext handles v (deed_of v c.args.request.now)) c.who.view_is
    (is_next w c.who.inside.own c.who.invariant c.args.request.now range made)
