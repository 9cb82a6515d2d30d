use Rattle.std.proofs.Common.{◌≡◌, ◌++◌, length, take}
use Rattle.std.specs.List.{flat_map}
use Rattle.saved_heap.specs.heap_pictures.Spelling.{number, value_bytes}
use Rattle.saved_heap.proofs.heap_pictures.writing.put_values.Given as goal

abbrev pub invariant-loop-value : goal.invariant-loop-value
invariant-loop-value l = l.out.items ≡ l.fn.out.items ++ (number (length l.values) ++ flat_map value_bytes (take l.value-index l.values))
