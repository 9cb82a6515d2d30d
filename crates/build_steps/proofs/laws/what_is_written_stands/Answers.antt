use Rattle.build_steps.proofs.WrittenBlocks.{first_stands, keeps_standing, others_leave}
use Rattle.build_steps.proofs.laws.what_is_written_stands.Goals as goal

pub returns : goal.returns
returns c = record {
  first = first_stands;
  kept = keeps_standing;
  others = others_leave;
}
