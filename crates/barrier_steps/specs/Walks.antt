-- The way from the first block of an object to one of its fields: how many links there are, and
-- where each is.
use Rattle.std.specs.Prelude.{ℕ}
use Rattle.block_store.specs.Places.{Extent}
use Rattle.block_store.specs.declared.Shape.{Shape}
use Rattle.block_store.specs.declared.Shape.TheVariants as shapes
use Rattle.object_lists.specs.Records.{record_slot}
use Rattle.array_trees.specs.Levels.{array_depth, array_turn, array_way}

-- how many fields or elements there are
abbrev pub shape_length : Shape → ℕ
shape_length (shapes.List f) = f
shape_length (shapes.Tree e) = e

-- how many links lead to field i: in a record one for each block before it, in an array one for
-- each level above the leaves
abbrev pub links_to : Extent → Shape → ℕ → ℕ
links_to e (shapes.List f) i = (record_slot e.width i).0
links_to e (shapes.Tree n) i = array_depth e.width n

-- at which payload the link is that leads on to field i, after l links
abbrev pub link_at : Extent → Shape → ℕ → ℕ → ℕ
link_at e (shapes.List f) i l = 0
link_at e (shapes.Tree n) i l = array_turn e.width n i l

-- at which payload field i is in its block
abbrev pub field_at : Extent → Shape → ℕ → ℕ
field_at e (shapes.List f) i = (record_slot e.width i).1
field_at e (shapes.Tree n) i = array_turn e.width n i (array_depth e.width n)

-- the ordinal of the block that l links on the way to field i lead to
abbrev pub ordinal_at : Extent → Shape → ℕ → ℕ → ℕ
ordinal_at e (shapes.List f) i l = l
ordinal_at e (shapes.Tree n) i l = array_way e.width n i l
