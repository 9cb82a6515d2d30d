use Rattle.heap_machine.proofs.PhaseRules.{in_mark, from_mark, from_sweep, phase_stays, phase_flips}
use Rattle.heap_machine.proofs.reuse.rules_hold_by_the_phase.Goals as goal

pub returns : goal.returns
returns c = record {
  mark = in_mark;
  marks = from_mark;
  sweeps = from_sweep;
  phase = phase_stays;
  flips = phase_flips;
}
