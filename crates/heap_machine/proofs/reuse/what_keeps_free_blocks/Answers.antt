use Rattle.heap_machine.proofs.FreeBlocks.{free_other, free_other_colour, free_takes, free_puts, free_counts, free_lets_go, free_collects, free_frees, free_builds}
use Rattle.heap_machine.proofs.reuse.what_keeps_free_blocks.Goals as goal

pub returns : goal.returns
returns c = record {
  place = free_other;
  colour = free_other_colour;
  takes = free_takes;
  puts = free_puts;
  counts = free_counts;
  lets_go = free_lets_go;
  collects = free_collects;
  frees = free_frees;
  builds = free_builds;
}
