use Rattle.heap_machine.proofs.ReuseRules.{reuse_stays, reuse_other, reuse_colour, reuse_phase, reuse_turns, reuse_cursor}
use Rattle.heap_machine.proofs.reuse.what_keeps_reuse.Goals as goal

pub returns : goal.returns
returns c = record {
  stays = reuse_stays;
  place = reuse_other;
  colour = reuse_colour;
  phase = reuse_phase;
  turns = reuse_turns;
  cursor = reuse_cursor;
}
