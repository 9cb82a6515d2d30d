use Rattle.barrier_steps.proofs.RepliesDue.{promised, kept, given}
use Rattle.barrier_steps.proofs.laws.rows_answer_as_steps.Goals as goal

pub returns : goal.returns
returns c = record {
  decided = λ c head g f. promised head c g f.pass.thread f.pass f.command f.row;
  kept = λ c head f. kept head c f.pass f.command f.row;
  given = given;
}
