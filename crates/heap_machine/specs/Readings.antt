-- What the words of a heap can be.
use Rattle.std.specs.Prelude.{ℕ, ◌+◌, ◌-◌, ◌^◌, ◌<◌, ◌≤◌, ◌≡◌, true, IsSome}
use Rattle.block_store.specs.declared.Config.{Config}
use Rattle.block_store.specs.Places.{Extent, extent, Place, in_range, Phase, Cursor, FreeCount, GreyList, FreeList, ColourOf, OwnerOf, ShapeOf, PayloadOf}
use Rattle.block_store.specs.Heaps.{Heap}
use Rattle.block_store.specs.Phases.{inside_of, cycle_of}
use Rattle.block_store.specs.Colours.{colour_of, link}
use Rattle.block_store.specs.WideOwners.{wide_of}
use Rattle.block_store.specs.Shapes.{shape_of}
use Rattle.block_store.specs.Payloads.{payload_of, target}
use Rattle.heap_machine.specs.Operations.{Operation, Load, Exchange, CompareExchange, FetchAdd, FetchSub}

-- a phase word with room for one thread more inside, and for one cycle more
pub record IsPhaseWord (w : ℕ) : Type 0 where
  pub inside : inside_of w < 255
  pub cycle : cycle_of w < 2 ^ 54 - 1

-- what a place can hold: a word that its reader reads, with numbers of blocks of the heap
abbrev pub CanHold : Extent → Place → ℕ → Type 0
CanHold e Phase w = IsPhaseWord w
CanHold e Cursor w = (1 ≤ w) × (w ≤ e.blocks + 1)
CanHold e FreeCount w = w ≤ e.blocks
CanHold e (GreyList t) w = w ≤ e.blocks
CanHold e (FreeList t) w = w ≤ e.blocks
CanHold e (ColourOf x) w = IsSome (colour_of w) × (link w ≤ e.blocks)
CanHold e (OwnerOf x) w = IsSome (wide_of w)
CanHold e (ShapeOf x) w = IsSome (shape_of w)
CanHold e (PayloadOf x j) w = IsSome (payload_of w) × (target w ≤ e.blocks)

-- what the operation stores is what its place can hold. Of an addition or a subtraction this is
-- never said, since what it stores depends on the word before
abbrev pub StoresHeld : Config → Operation → Type 0
StoresHeld c (Load p) = Unit {0}
StoresHeld c (Exchange p v) = CanHold (extent c) p v
StoresHeld c (CompareExchange p old v) = CanHold (extent c) p v
StoresHeld c (FetchAdd p v) = ⊥
StoresHeld c (FetchSub p v) = ⊥

-- each place of the heap has a word that it can hold
abbrev pub IsHeld : Config → Heap → Type 0
IsHeld c h = (p : Place) → in_range (extent c) p ≡ true → CanHold (extent c) p (h p)
