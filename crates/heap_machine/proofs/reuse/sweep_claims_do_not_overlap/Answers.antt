use Rattle.heap_machine.proofs.SweepRule.{one_claim, claim_below, sweep_over}
use Rattle.heap_machine.proofs.reuse.sweep_claims_do_not_overlap.Goals as goal

pub returns : goal.returns
returns c = record {
  once = one_claim;
  below = claim_below;
  passed = λ e h cs k. k.passed;
  over = sweep_over;
  doomed = λ e h cs k. k.doomed;
}
