-- How an object lies in blocks of the width W: a record as a list, an array as a tree.
use Rattle.std.specs.Prelude.{ℕ, length}
use Rattle.object_lists.specs.Parts.{Part}
use Rattle.object_lists.specs.Records.{record_part, record_slot}
use Rattle.array_trees.specs.Levels.{array_part, array_slot}
use Rattle.block_store.specs.declared.Shape.{Shape}
use Rattle.block_store.specs.declared.Width.{Width}
use Rattle.block_store.specs.declared.Shape.TheVariants as shapes
use Rattle.never_heap.specs.Graphs.{ObjectKind, Record, Array, Object}
use Rattle.never_heap.specs.LiveBlocks.{blocks_of_kind}
pub use Rattle.never_heap.specs.LiveBlocks.{object_blocks}

-- how many blocks an object of this many fields takes
abbrev pub layout_blocks : Width → ObjectKind → ℕ → ℕ
layout_blocks W k n = blocks_of_kind W k n

-- what is at payload j of ordinal o
abbrev pub layout_part : Width → ObjectKind → ℕ → ℕ → ℕ → Part
layout_part W Record n o j = record_part W n o j
layout_part W Array n o j = array_part W n o j

-- the ordinal and the payload where field i is
abbrev pub layout_slot : Width → ObjectKind → ℕ → ℕ → ℕ × ℕ
layout_slot W Record n i = record_slot W i
layout_slot W Array n i = array_slot W n i

-- the same of an object; how many blocks it takes is said with the graph
abbrev pub object_part : Width → Object → ℕ → ℕ → Part
object_part W o = layout_part W o.kind (length o.fields)

abbrev pub object_slot : Width → Object → ℕ → ℕ × ℕ
object_slot W o = layout_slot W o.kind (length o.fields)

-- the shape of an object of this kind and length, and what is in the blocks of a shape
abbrev pub kind_shape : ObjectKind → ℕ → Shape
kind_shape Record n = shapes.List n
kind_shape Array n = shapes.Tree n

abbrev pub shape_part : Width → Shape → ℕ → ℕ → Part
shape_part W (shapes.List f) = record_part W f
shape_part W (shapes.Tree e) = array_part W e
