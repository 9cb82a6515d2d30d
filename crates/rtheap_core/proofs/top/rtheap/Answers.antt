use Rattle.std.proofs.Common.{refl}
use Rattle.rtheap_core.proofs.LogsWithoutFulls.{unfilled}
use Rattle.rtheap_core.proofs.OneHistory.{one_history}
use Rattle.rtheap_core.proofs.OwnersOfRuns.{owners_stand}
use Rattle.rtheap_core.proofs.Verdicts.{completes}
use Rattle.rtheap_core.proofs.top.rtheap.Goals as goal

pub returns : goal.returns
returns g c = record {
  shown = λ end. (refl, refl, refl);
  done = c.carried_out.ensures.done;
  complete = completes (record {
    serial = c.replays_end.ensures.serial;
    single = c.replays_end.ensures.single;
  }) _ c.carried_out.ensures.done;
  never_full = unfilled _ _ _ _ c.carried_out.ensures.done.headline;
  owners = owners_stand c.texts_are_lives.ensures.owners _ _ _ _ c.carried_out.ensures.done.headline;
  one_history = one_history c.texts_are_lives.ensures.owners c.early_cycles_have_no_full.ensures
      _ _ _ _ _ (λ some. (c.carried_out.ensures.done.run.0 some).0) c.carried_out.ensures.done.ran
      c.carried_out.ensures.done.replayed;
}
