use Rattle.std.proofs.Common.{◌≡◌, drop}
use Rattle.block_store.specs.Heaps.{heap_of}
use Rattle.block_store.specs.Places.{extent}
use Rattle.control_heap.specs.Peeks.{path_found}
use Rattle.control_heap.proofs.paths.path_found.Given as goal

abbrev pub invariant-loop-index : goal.invariant-loop-index
invariant-loop-index l =
    path_found (extent l.fn.c) (heap_of (extent l.fn.c) l.fn.words) l.last (drop l.index-index l.fn.path)
    ≡ path_found (extent l.fn.c) (heap_of (extent l.fn.c) l.fn.words) l.fn.word l.fn.path
