use Rattle.std.proofs.Common.{refl, map, string_bytes, arith}
use Rattle.std.proofs.lemmas.List.{length-map}
use Rattle.exit_statuses.specs.Sides.{sides}
use Rattle.rt_mail.proofs.CarriedOut.{mail_is_carried_out, refusal_is_carried_out}
use Rattle.rt_mail.proofs.KeepableMail.{as_many_recalled, few_recalled}
use Rattle.rt_mail.proofs.top.mail.Goals as goal

pub returns-in-Ok : goal.returns-in-Ok
returns-in-Ok g c =
    let w = c.written.ensures in
    let m = c.in-Ok.mailed in
    mail_is_carried_out (map (λ w. string_bytes w) c.args.words.now)
    (sides g.S.Source.left g.S.Source.faults c.args.source.now c.asked.new.source)
    (sides g.K.Sink.held g.K.Sink.faults c.args.sink.now c.written.new.sink)
    c.written.result record { any_status = rw w.due w.status; still = w.still; rose = w.rose }
    m.first m.taken m.second (map (λ v. v.items) m.recalled.items) c.in-Ok.ensures.none
    c.in-Ok.ensures.mail c.in-Ok.ensures.recalled w.due w.first w.taken w.second w.text

pub returns-in-Err : goal.returns-in-Err
returns-in-Err g c =
    let r = c.refused.ensures in
    refusal_is_carried_out (map (λ w. string_bytes w) c.args.words.now)
    (sides g.S.Source.left g.S.Source.faults c.args.source.now c.asked.new.source)
    (sides g.K.Sink.held g.K.Sink.faults c.args.sink.now c.refused.new.sink) _
    record { any_status = rw c.status.ensures r.status; still = r.still; rose = r.rose }
    c.in-Err.refusal c.status.ensures refl refl refl c.in-Err.ensures.refused r.line r.prefix

pub written-requires-clause-few : goal.written-requires-clause-few
written-requires-clause-few g c =
    let m = c.in-Ok.mailed in
    let few = few_recalled
    (sides g.S.Source.left g.S.Source.faults c.args.source.now c.asked.new.source)
    m.first m.second m.taken.taken (map (λ v. v.items) m.recalled.items) c.in-Ok.ensures.mail
    c.in-Ok.ensures.recalled in
    omega (arith, few, length-map m.recalled.items (λ v. v.items))

pub written-requires-clause-all : goal.written-requires-clause-all
written-requires-clause-all g c =
    let m = c.in-Ok.mailed in
    let length_is = as_many_recalled
    (sides g.S.Source.left g.S.Source.faults c.args.source.now c.asked.new.source)
    m.first m.second m.taken.taken (map (λ v. v.items) m.recalled.items) c.in-Ok.ensures.mail
    c.in-Ok.ensures.recalled in
    omega (arith, length_is, length-map m.recalled.items (λ v. v.items))
