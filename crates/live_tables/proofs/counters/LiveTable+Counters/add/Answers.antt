use Rattle.std.proofs.Common.{ℕ, ◌≡◌, ◌+◌, ◌<◌, ◌^◌, refl, arith, subst, sym, ap, ◌∙◌}
use Rattle.live_tables.specs.declared.rings.request.RingRequest.TheVariants as asks
use Rattle.live_tables.specs.counters.Counters.{CounterWorkerState, counters, operation_of, total_by}
use Rattle.live_tables.specs.rows.Workers.{IsNext, row_worker}
use Rattle.live_tables.proofs.counters.LiveTable+Counters.add.Goals as goal

pub does-requires-clause-next : goal.does-requires-clause-next
does-requires-clause-next g c =
    let here : c.who.inside.own ≡ total_by c.args.who.now.done =
    c.who.invariant.keeps.total_so ∙ ap (λ (v : CounterWorkerState). total_by v.done) c.who.view_is in
    let sum : c.who.inside.own + c.args.amount < 2 ^ 62 = omega (arith, here, c.requires.small) in
    subst (λ (v : CounterWorkerState).
    IsNext counters v (operation_of v (asks.Keep (c.who.inside.own + c.args.amount)))) c.who.view_is
    (refl, omega (arith, c.who.invariant.low, c.who.invariant.keeps.places), sum)
