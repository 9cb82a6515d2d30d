use Rattle.heap_machine.proofs.SweepRule.{sweep_other, sweep_colour, sweep_phase, sweep_turns, sweep_cursor, sweep_claims, sweep_dooms, sweep_passes, sweep_frees, sweep_begins}
use Rattle.heap_machine.proofs.reuse.what_keeps_the_sweep.Goals as goal

pub returns : goal.returns
returns c = record {
  place = sweep_other;
  colour = sweep_colour;
  phase = sweep_phase;
  turns = sweep_turns;
  cursor = λ e h cs v none mark inside. sweep_cursor e h cs v none mark inside;
  begins = λ e h cs none mark inside. sweep_begins e h cs none mark inside;
  claims = sweep_claims;
  dooms = sweep_dooms;
  passes = sweep_passes;
  frees = sweep_frees;
}
