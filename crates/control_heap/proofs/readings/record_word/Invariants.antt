use Rattle.std.proofs.Common.{◌≡◌, ℕ}
use Rattle.block_store.specs.declared.Shape.TheVariants as shapes
use Rattle.block_store.specs.Heaps.{heap_of}
use Rattle.block_store.specs.Places.{extent}
use Rattle.control_heap.specs.Readings.{walked}
use Rattle.control_heap.proofs.readings.record_word.Given as goal

abbrev pub invariant-loop-link : goal.invariant-loop-link
invariant-loop-link l = (f : ℕ) → l.block ≡ walked (extent l.fn.c) (heap_of (extent l.fn.c) l.fn.words) (shapes.List f) l.fn.i l.fn.x l._link
