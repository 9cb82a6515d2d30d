-- The opening heap: each thread's register array, after these the shared array, and after that
-- the Free blocks.
use Rattle.std.specs.Prelude.{ℕ, ◌+◌, ◌-◌, ◌==◌, ◌&&◌, nat_le, nat_lt, if◌then◌else◌, Bool, false}
use Rattle.block_store.specs.declared.Config.{Config}
use Rattle.block_store.specs.Colours.{grey_word, white_word, free_word}
use Rattle.block_store.specs.Heaps.{Heap}
use Rattle.block_store.specs.Phases.{phase_code}
use Rattle.block_store.specs.Places.{Phase, Cursor, FreeCount, GreyList, FreeList, ColourOf, OwnerOf, ShapeOf, PayloadOf}
use Rattle.block_store.specs.Registers.{root_block, registers_end, register_ordinal}
use Rattle.array_trees.specs.InitialHeaps.{opening_blocks}
use Rattle.heap_invariant.specs.graph_relation.InitialHeaps.{opening_words}

-- cycle 1 in Mark, with the gate open and nobody inside
abbrev pub opening_phase : ℕ
opening_phase = phase_code (record { inside = 0; sweep = false; closed = false; cycle = 1 })

-- whether block x is the first of a register array
abbrev pub is_root : Config → ℕ → Bool
is_root c x = nat_le x (registers_end c.width c.threads) && (register_ordinal c.width x == 0)

-- the roots are Grey and alone in their lists, the other blocks of the arrays are white, and the
-- blocks after them are Free, linked upwards
abbrev pub opening_colour : Config → ℕ → ℕ
opening_colour c x =
    if is_root c x then grey_word 0
    else if nat_le x (opening_blocks c) then white_word 1
    else free_word (if nat_lt x c.blocks then x + 1 else 0)

-- The word of each place. The grey list of each thread is its root, and thread 0 has all Free
-- blocks.
abbrev pub opening_heap : Config → Heap
opening_heap c Phase = opening_phase
opening_heap c Cursor = c.blocks + 1
opening_heap c FreeCount = c.blocks - opening_blocks c
opening_heap c (GreyList t) = root_block c.width t
opening_heap c (FreeList t) = if t == 0 then opening_blocks c + 1 else 0
opening_heap c (ColourOf x) = opening_colour c x
opening_heap c (OwnerOf x) = (opening_words c).owner x
opening_heap c (ShapeOf x) = (opening_words c).shape x
opening_heap c (PayloadOf x j) = (opening_words c).payload x j
