use Rattle.exit_statuses.specs.declared.refusal.Refusal.TheVariants.{OutOfMemory}
use Rattle.rtheap_core.specs.declared.task.Task.TheVariants.{Trial}
use Rattle.rtheap_core.proofs.CarriedOut.{trial_is_carried_out, refusal_is_carried_out}
use Rattle.rtheap_core.proofs.GeneratedOutcome.{memory_cause, tried_of}
use Rattle.rtheap_core.proofs.making.trial_and_report.Goals as goal

pub returns-in-Ok : goal.returns-in-Ok
returns-in-Ok g c words source untouched asked =
    let w = c.written_totals.ensures in
    trial_is_carried_out _ c.args.key c.args.lines asked untouched w.due w.run
    (tried_of _ _ c.args.key c.args.lines c.in-Ok.totals c.in-Ok.ensures w.text)
    record { any_status = rw w.due w.status; still = w.still; rose = w.rose }

pub returns-in-Err : goal.returns-in-Err
returns-in-Err g c words source untouched asked =
    let r = c.refused.ensures in
    refusal_is_carried_out _ OutOfMemory r.due r.run
    (memory_cause words source (Trial c.args.key c.args.lines) untouched asked) (λ _. untouched)
    r.line r.prefix record { any_status = r.status; still = r.still; rose = r.rose }
