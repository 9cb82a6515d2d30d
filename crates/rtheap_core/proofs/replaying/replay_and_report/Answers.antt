use Rattle.rtheap_core.specs.declared.task.Task.TheVariants.{Replay}
use Rattle.rtheap_core.proofs.CarriedOut.{replay_is_carried_out, refusal_is_carried_out}
use Rattle.rtheap_core.proofs.OrderText.{has_order, written_as}
use Rattle.rtheap_core.proofs.replaying.replay_and_report.Goals as goal

pub written_in_order-requires : goal.written_in_order-requires
written_in_order-requires g c =
    has_order c.args.schedule c.args.turns c.in-Ok.run' c.orders_tell_histories.ensures.order
    c.in-Ok.ensures.replayed.replayed

pub returns-in-Ok : goal.returns-in-Ok
returns-in-Ok g c words asked =
    let w = c.written_in_order.ensures in
    let ran = c.in-Ok.ensures in
    replay_is_carried_out _ c.args.schedule c.args.turns c.in-Ok.run' asked ran.replayed ran.still
    w.due w.run
    (written_as _ _ c.args.schedule c.args.turns c.in-Ok.run' c.orders_tell_histories.ensures.text
    ran.replayed.replayed w.text)
    record { any_status = rw w.due w.status; still = w.still; rose = w.rose }

pub returns-in-Err : goal.returns-in-Err
returns-in-Err g c words asked =
    let task = Replay c.args.schedule c.args.turns in
    let r = c.refused.ensures in
    refusal_is_carried_out _ c.in-Err.refusal r.due r.run
    (c.in-Err.ensures.refused words asked) (λ n. absurd (n (task, tt, asked)))
    r.line r.prefix record { any_status = r.status; still = r.still; rose = r.rose }
