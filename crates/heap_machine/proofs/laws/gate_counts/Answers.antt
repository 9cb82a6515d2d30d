use Rattle.std.proofs.Common.{true, false}
use Rattle.heap_machine.proofs.Gatings.{gate_enters, gate_leaves, inside_most, inside_some, gate_closes, gate_opens, gate_closer, gate_closing, gate_stays, entered_phase, left_phase, closed_phase}
use Rattle.heap_machine.proofs.laws.gate_counts.Goals as goal

pub returns : goal.returns
returns c = record {
  enters = gate_enters;
  leaves = gate_leaves;
  most = inside_most;
  some = inside_some;
  closes = gate_closes;
  flips = λ n phase gs k t tl g y. gate_opens n phase gs k t tl g y true;
  reopens = λ n phase gs k t tl g y. gate_opens n phase gs k t tl g y false;
  closed_alone = gate_closer;
  closing = gate_closing;
  stays = gate_stays;
  entered_phase = entered_phase;
  left_phase = left_phase;
  closed_phase = closed_phase;
}
