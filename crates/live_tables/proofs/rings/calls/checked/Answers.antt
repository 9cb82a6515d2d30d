use Rattle.std.proofs.Common.{rules, subst}
use Rattle.shared_heap.specs.Workers.{WorkerState}
use Rattle.live_tables.specs.rows.Workers.{IsNext}
use Rattle.live_tables.specs.rings.Live.{IsInRange, operation_of, rings}
use Rattle.live_tables.proofs.rings.Doing.{is_next}
use Rattle.live_tables.proofs.rings.calls.checked.Goals as goal

pub returns-clause-next : goal.returns-clause-next
returns-clause-next c =
    let w : WorkerState = c.who.inside.worker in
    let range : IsInRange w.thread.config.threads c.args.request.now = search rules in
    subst (λ v. IsNext rings v (operation_of v c.args.request.now)) c.who.view_is
    (is_next w c.who.inside.own c.who.invariant c.args.request.now range)
