use Rattle.std.proofs.Common.{◌≡◌}
use Rattle.block_store.specs.declared.Shape.TheVariants as shapes
use Rattle.block_store.specs.Heaps.{heap_of}
use Rattle.block_store.specs.Places.{extent}
use Rattle.control_heap.specs.Readings.{walked}
use Rattle.control_heap.proofs.readings.element_word.Given as goal

abbrev pub invariant-loop-level : goal.invariant-loop-level
invariant-loop-level l = l.block ≡ walked (extent l.fn.c) (heap_of (extent l.fn.c) l.fn.words) (shapes.Tree l.fn.elements) l.fn.i l.fn.x l.level
