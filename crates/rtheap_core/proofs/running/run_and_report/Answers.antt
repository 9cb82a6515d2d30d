use Rattle.rtheap_core.specs.declared.task.Task.TheVariants.{Run}
use Rattle.rtheap_core.proofs.CarriedOut.{run_is_carried_out, refusal_is_carried_out}
use Rattle.rtheap_core.proofs.running.run_and_report.Goals as goal

pub returns-in-Ok : goal.returns-in-Ok
returns-in-Ok g c words asked =
    let w = c.written.ensures in
    let ran = c.in-Ok.ensures in
    run_is_carried_out _ c.in-Ok.run' asked ran.ran ran.still w.due w.run w.text
    record { any_status = rw w.due w.status; still = w.still; rose = w.rose }

pub returns-in-Err : goal.returns-in-Err
returns-in-Err g c words asked =
    let r = c.refused.ensures in
    refusal_is_carried_out _ c.in-Err.refusal r.due r.run
    (c.in-Err.ensures.refused words (Run, tt, asked)) (λ n. absurd (n (Run, tt, asked)))
    r.line r.prefix record { any_status = r.status; still = r.still; rose = r.rose }
