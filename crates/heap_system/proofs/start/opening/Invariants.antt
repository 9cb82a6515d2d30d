use Rattle.std.proofs.Common.{◌≡◌, ◌<◌, ℕ, length, get_or}
use Rattle.block_store.specs.Places.{extent, words_count, place_at}
use Rattle.heap_system.specs.InitialHeaps.{opening_heap}
use Rattle.heap_system.proofs.start.opening.Given as goal

abbrev pub invariant-loop-i : goal.invariant-loop-i
invariant-loop-i l = (l.count ≡ words_count (extent l.c)) × (length l.words ≡ words_count (extent l.c)) × ((k : ℕ) → k < l.i → get_or l.words k 0 ≡ opening_heap l.c (place_at (extent l.c) k))
