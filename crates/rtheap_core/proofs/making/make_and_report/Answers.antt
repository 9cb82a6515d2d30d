use Rattle.exit_statuses.specs.declared.refusal.Refusal.TheVariants.{OutOfMemory}
use Rattle.rtheap_core.specs.declared.task.Task.TheVariants.{Make}
use Rattle.rtheap_core.proofs.CarriedOut.{refusal_is_carried_out}
use Rattle.rtheap_core.proofs.GeneratedOutcome.{memory_cause}
use Rattle.rtheap_core.proofs.making.make_and_report.Goals as goal

pub returns-in-Err : goal.returns-in-Err
returns-in-Err g c words source untouched asked =
    let r = c.refused.ensures in
    refusal_is_carried_out _ OutOfMemory r.due r.run
    (memory_cause words source (Make c.args.key c.args.lines) untouched asked) (λ _. untouched)
    r.line r.prefix record { any_status = r.status; still = r.still; rose = r.rose }
