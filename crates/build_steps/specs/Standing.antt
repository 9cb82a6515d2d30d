-- What a part has written in the blocks that it holds.
use Rattle.std.specs.Prelude.{
  ℕ,
  suc,
  ◌+◌,
  ◌<◌,
  ◌≤◌,
  ◌≡◌,
  ◌⊎◌,
  ◌==◌,
  Bool,
  false,
  List,
  [],
  ◌∷◌,
}
use Rattle.block_store.specs.declared.Config.{Config}
use Rattle.block_store.specs.declared.Width.{Width}
use Rattle.block_store.specs.Colours.{black_word}
use Rattle.block_store.specs.Heaps.{Heap}
use Rattle.block_store.specs.Widths.{payloads}
use Rattle.block_store.specs.Places.{
  Extent,
  Place,
  extent,
  ColourOf,
  OwnerOf,
  ShapeOf,
  PayloadOf,
}
use Rattle.block_store.specs.Counts.{times}
use Rattle.heap_machine.specs.Operations.{heap_after}
use Rattle.build_steps.specs.declared.rows.BuildRow.{BuildRow}
use Rattle.build_steps.specs.declared.rows.BuildRow.TheVariants.{
  WriteOwner,
  WriteShape,
  WritePayload,
  WriteColour,
  Publish,
  Built,
}
use Rattle.build_steps.specs.Rows.{
  BuildState,
  built_at,
  built_owner,
  built_shape,
  built_payload,
  build_want,
  build_got,
}
use Rattle.build_steps.specs.Fits.{BuildReads}

-- The block of ordinal o shows its part of the object: the name with the ordinal, the shape,
-- links to blocks of the object and nils; and it is black.
pub record IsWhole (w : Width) (h : Heap) (s : BuildState) (o : ℕ) : Type 0 where
  pub owned : h (OwnerOf (built_at s o)) ≡ built_owner s o
  pub shaped : h (ShapeOf (built_at s o)) ≡ built_shape s
  pub links : (j : ℕ) → j < payloads w
      → h (PayloadOf (built_at s o) j) ≡ built_payload w s o j
  pub black : h (ColourOf (built_at s o)) ≡ black_word s.cycle

-- the first n words of the block of ordinal o are written: its owner, its shape, its payloads
pub record IsBegun (w : Width) (h : Heap) (s : BuildState) (o n : ℕ) : Type 0 where
  pub owned : 0 < n → h (OwnerOf (built_at s o)) ≡ built_owner s o
  pub shaped : 1 < n → h (ShapeOf (built_at s o)) ≡ built_shape s
  pub links : (j : ℕ) → j < payloads w → j + 2 < n
      → h (PayloadOf (built_at s o) j) ≡ built_payload w s o j

-- how many ordinals, of k, are not black yet: the first ones
abbrev pub left_of : ℕ → BuildRow → ℕ
left_of k (WriteOwner o) = o + 1
left_of k (WriteShape o) = o + 1
left_of k (WritePayload o j) = o + 1
left_of k (WriteColour o) = o + 1
left_of k Publish = 0
left_of k Built = 0
left_of k _ = k

-- how many words of the last of them are written, where a block has so many payloads
abbrev pub begun_of : ℕ → BuildRow → ℕ
begun_of many (WriteShape o) = 1
begun_of many (WritePayload o j) = j + 2
begun_of many (WriteColour o) = many + 2
begun_of many _ = 0

-- From row r to row r', for k blocks of so many payloads: one more word of the same ordinal is
-- written, or with all of them its colour, and the next is the first word of the ordinal below.
abbrev pub IsNextWord : ℕ → ℕ → BuildRow → BuildRow → Type 0
IsNextWord many k r r' =
    (left_of k r' ≡ left_of k r) × (begun_of many r' ≡ begun_of many r + 1)
    ⊎ (left_of k r' + 1 ≡ left_of k r) × (begun_of many r ≡ many + 2) × (begun_of many r' ≡ 0)

-- what the part has written is in the heap
pub record Stands (w : Width) (h : Heap) (s : BuildState) : Type 0 where
  pub whole : (o : ℕ) → left_of s.blocks s.row ≤ o → o < s.blocks → IsWhole w h s o
  pub begun : (o : ℕ) → suc o ≡ left_of s.blocks s.row
      → IsBegun w h s o (begun_of (payloads w) s.row)

-- no block is held twice
abbrev pub HeldOnce : List ℕ → Type 0
HeldOnce held = (x : ℕ) → times x held ≤ 1

-- the place is of block x
abbrev pub is_of_block : ℕ → Place → Bool
is_of_block x (ColourOf y) = y == x
is_of_block x (OwnerOf y) = y == x
is_of_block x (ShapeOf y) = y == x
is_of_block x (PayloadOf y j) = y == x
is_of_block x _ = false

-- the place is of no block that the part holds
abbrev pub IsElsewhere : BuildState → Place → Type 0
IsElsewhere s p = (o : ℕ) → o < s.blocks → is_of_block (built_at s o) p ≡ false

-- the state after events that read these words, in this order
abbrev pub build_after : Extent → BuildState → List ℕ → BuildState
build_after e s [] = s
build_after e s (v ∷ vs) = build_after e (build_got e s v) vs

-- and the heap after these events, where nobody else writes
abbrev pub heap_written : Extent → Heap → BuildState → List ℕ → Heap
heap_written e h s [] = h
heap_written e h s (v ∷ vs) = heap_written e (heap_after h (build_want e s)) (build_got e s v) vs

-- each of these words is one that its row may read
abbrev pub AllRead : Config → BuildState → List ℕ → Type 0
AllRead c s [] = Unit {0}
AllRead c s (v ∷ vs) = BuildReads c s v × AllRead c (build_got (extent c) s v) vs
