use Rattle.block_store.proofs.Registers.{root_first, root_next, root_end, behind_root, in_array, slot_low, one_register, thread_of, ordinal_of}
use Rattle.block_store.proofs.laws.registers_are_placed.Goals as goal

pub returns : goal.returns
returns c = record {
  first = root_first;
  next = root_next;
  last = root_end;
  inside = λ w t r h. (behind_root w t r, in_array w t r h);
  slot = slot_low;
  distinct = one_register;
  thread = thread_of;
  ordinal = ordinal_of;
}
