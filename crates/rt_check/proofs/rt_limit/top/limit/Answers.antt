use Rattle.std.proofs.Common.{List, ℕ, map, string_bytes, subst}
use Rattle.exit_statuses.specs.Exits.{IsWritten}
use Rattle.exit_statuses.specs.Sides.{sides}
use Rattle.rt_check.proofs.rt_limit.CarriedOut.{needs_are_carried_out, refusal_is_carried_out}
use Rattle.rt_check.proofs.rt_limit.top.limit.Goals as goal

pub returns-in-Ok : goal.returns-in-Ok
returns-in-Ok g c =
    let w = c.told.ensures in
    let sink = sides g.K.Sink.held g.K.Sink.faults c.args.sink.now c.told.new.sink in
    needs_are_carried_out (map (λ w. string_bytes w) c.args.words.now)
    (sides g.S.Source.left g.S.Source.faults c.args.source.now c.asked.new.source) sink
    c.told.result record { any_status = rw w.due w.status; still = w.still; rose = w.rose }
    c.in-Ok.text.items c.in-Ok.ensures.none c.in-Ok.ensures.needs w.due
    (subst (λ (t : List ℕ). IsWritten sink c.told.result.status t) c.deref.ensures.value w.text)

pub returns-in-Err : goal.returns-in-Err
returns-in-Err g c =
    let r = c.refused.ensures in
    refusal_is_carried_out (map (λ w. string_bytes w) c.args.words.now)
    (sides g.S.Source.left g.S.Source.faults c.args.source.now c.asked.new.source)
    (sides g.K.Sink.held g.K.Sink.faults c.args.sink.now c.refused.new.sink) _
    record { any_status = rw c.status.ensures r.status; still = r.still; rose = r.rose }
    c.in-Err.refusal c.status.ensures c.in-Err.ensures.refused r.line r.prefix
