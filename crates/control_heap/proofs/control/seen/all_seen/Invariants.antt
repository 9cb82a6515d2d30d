use Rattle.std.proofs.Common.{◌≡◌}
use Rattle.block_store.specs.Heaps.{heap_of}
use Rattle.block_store.specs.Places.{extent}
use Rattle.control_heap.specs.Seen.{fields_seen}
use Rattle.control_heap.proofs.control.seen.all_seen.Given as goal

abbrev pub invariant-loop-i : goal.invariant-loop-i
invariant-loop-i l = l.fields.items ≡ fields_seen (extent l.fn.c) (heap_of (extent l.fn.c) l.fn.words) l.shape l.fn.x l.i
