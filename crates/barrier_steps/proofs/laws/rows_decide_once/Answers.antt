use Rattle.barrier_steps.proofs.Common.{extent}
use Rattle.barrier_steps.proofs.Decisions.{first_undecided, goes_on, decided_once, answered_decided, makes_none}
use Rattle.barrier_steps.proofs.laws.rows_decide_once.Goals as goal

pub returns : goal.returns
returns c = record {
  first = first_undecided;
  after = λ c f w. (goes_on 0 f.pass (extent c) f.command f.row w).0;
  once = λ f w. decided_once f.command f.row w;
  reply = answered_decided;
  made = λ c f w n going. makes_none c f.pass f.command f.row w going n;
}
