use Rattle.build_steps.proofs.MarkRulesKept.{
  keeps_grey,
  keeps_tricolour,
  keeps_solid,
  holds_no_grey,
  holds_no_tricolour,
}
use Rattle.build_steps.proofs.laws.rows_keep_marking.Goals as goal

pub returns : goal.returns
returns c = record {
  grey = keeps_grey;
  tricolour = keeps_tricolour;
  solid = keeps_solid;
  holds_no_grey = holds_no_grey;
  holds_no_tricolour = holds_no_tricolour;
}
