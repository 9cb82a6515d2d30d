use Rattle.heap_machine.proofs.FreeBlocks.{free_once, free_list, free_private, free_held, free_one_held, free_first, free_in_hand, free_few}
use Rattle.heap_machine.proofs.reuse.free_blocks_stand_once.Goals as goal

pub returns : goal.returns
returns c = record {
  once = free_once;
  lists = free_list;
  private_lists = free_private;
  held = free_held;
  one_held = free_one_held;
  first = free_first;
  list = free_in_hand;
  counted = λ e h fs k. k.credit;
  few = free_few;
  empty = λ e h fs k. k.emptied;
}
