use Rattle.heap_machine.proofs.GreyBlocks.{stands_once, in_list, in_hand, one_list, one_private_list, own_or_private, first_is_grey, private_is_grey, scan_is_grey, none_is_grey}
use Rattle.heap_machine.proofs.laws.grey_blocks_stand_once.Goals as goal

pub returns : goal.returns
returns c = record {
  once = stands_once;
  lists = in_list;
  private_lists = in_hand;
  one_list = one_list;
  one_private_list = one_private_list;
  own_or_private = own_or_private;
  first = first_is_grey;
  list = private_is_grey;
  scanned = scan_is_grey;
  none = none_is_grey;
}
