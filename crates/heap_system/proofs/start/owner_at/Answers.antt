use Rattle.std.proofs.Common.{arith}
use Rattle.heap_system.proofs.openings.OpeningArrays.{last_low}
use Rattle.heap_system.proofs.start.owner_at.Goals as goal

pub wide_word-requires-then-x-last_block : goal.wide_word-requires-then-x-last_block
wide_word-requires-then-x-last_block c = record {
  thread = omega arith;
  serial = omega arith;
  ordinal = omega (arith, last_low c.args.c.now c.requires.bounds);
}
