use Rattle.std.proofs.Common.{refl}
use Rattle.exit_statuses.specs.declared.refusal.Refusal.TheVariants.{Usage}
use Rattle.rtheap_core.proofs.CarriedOut.{refusal_is_carried_out}
use Rattle.rtheap_core.proofs.top.carried_out.Goals as goal

pub returns-in-None : goal.returns-in-None
returns-in-None g c =
    let r = c.refused.ensures in
    record {
      done = refusal_is_carried_out _ Usage r.due r.run (c.in-None.ensures.none, (refl, refl))
          (λ _. (refl, refl)) r.line r.prefix
          record { any_status = r.status; still = r.still; rose = r.rose };
    }

pub returns-in-Some-Make : goal.returns-in-Some-Make
returns-in-Some-Make g c = record {
  done = c.make_and_report.ensures _ _ (refl, refl) (rw c.in-Some-Make.field-0-is at c.in-Some-Make.ensures.asked);
}

pub returns-in-Some-Trial : goal.returns-in-Some-Trial
returns-in-Some-Trial g c = record {
  done = c.trial_and_report.ensures _ _ (refl, refl) (rw c.in-Some-Trial.field-0-is at c.in-Some-Trial.ensures.asked);
}
