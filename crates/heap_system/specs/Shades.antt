-- The colours of blocks after some turns: which are black, and which roots are grey.
use Rattle.std.specs.Prelude.{ℕ, ◌≡◌, true}
use Rattle.block_store.specs.declared.Config.{Config}
use Rattle.block_store.specs.Colours.{is_grey, black_word}
use Rattle.block_store.specs.Phases.{cycle_of}
use Rattle.block_store.specs.Places.{Phase, ColourOf}
use Rattle.heap_invariant.specs.name_invariant.Colouring.{IsShadedRoot}
use Rattle.heap_system.specs.Machines.{Run, heap_in}

-- block x is black
abbrev pub IsBlack : Config → Run → ℕ → Type 0
IsBlack c r x =
    heap_in c r.state (ColourOf x) ≡ black_word (cycle_of (heap_in c r.state Phase))

-- x is a root that is shaded for the next cycle, and it is grey
abbrev pub IsGreyRoot : Config → Run → ℕ → Type 0
IsGreyRoot c r x =
    IsShadedRoot c.width c.threads r.names.shaded x
    × (is_grey (heap_in c r.state (ColourOf x)) ≡ true)
