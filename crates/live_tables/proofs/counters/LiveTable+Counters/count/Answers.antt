use Rattle.std.proofs.Common.{◌<◌, arith, subst, sym}
use Rattle.array_tables.specs.number_rings.Rings.{Recall}
use Rattle.live_tables.specs.counters.Counters.{CounterWorkerState, counters}
use Rattle.live_tables.specs.rows.Workers.{IsNext, row_worker, threads_of}
use Rattle.live_tables.proofs.counters.LiveTable+Counters.count.Goals as goal

pub does-requires-clause-next : goal.does-requires-clause-next
does-requires-clause-next g c =
    let low : c.args.thread < threads_of (row_worker counters c.who.inside.worker) =
    subst (λ (v : CounterWorkerState). c.args.thread < threads_of v) (sym c.who.view_is)
    c.requires.range in
    subst (λ (v : CounterWorkerState). IsNext counters v (Recall c.args.thread)) c.who.view_is
    (omega (arith, low, c.who.invariant.keeps.places))
