use Rattle.rtheap_core.specs.declared.task.Task.TheVariants.{Plan}
use Rattle.rtheap_core.proofs.CarriedOut.{plan_is_carried_out, refusal_is_carried_out}
use Rattle.rtheap_core.proofs.planning.plan_and_report.Goals as goal

pub returns-in-Ok : goal.returns-in-Ok
returns-in-Ok g c words asked =
    let w = c.planned.ensures in
    let rated = c.in-Ok.ensures in
    plan_is_carried_out _ c.in-Ok.rate asked rated.rated rated.still w.due w.run w.text
    record { any_status = rw w.due w.status; still = w.still; rose = w.rose }

pub returns-in-Err : goal.returns-in-Err
returns-in-Err g c words asked =
    let r = c.refused.ensures in
    refusal_is_carried_out _ c.in-Err.refusal r.due r.run
    (c.in-Err.ensures.refused words (Plan, tt, asked)) (λ n. absurd (n (Plan, tt, asked)))
    r.line r.prefix record { any_status = r.status; still = r.still; rose = r.rose }
