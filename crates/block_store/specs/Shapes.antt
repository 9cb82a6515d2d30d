-- The words of shapes: twice the fields of a record, and one more than twice the elements of an
-- array.
use Rattle.std.specs.Prelude.{ℕ, ◌+◌, ◌*◌, ◌/◌, ◌%◌, ◌≤◌, ◌==◌, nat_le, if◌then◌else◌, Option, Some, None}
use Rattle.block_store.specs.declared.Shape.{Shape}
use Rattle.block_store.specs.declared.Shape.TheVariants as shapes

-- the word of a record of f fields
unfoldable pub record_word : ℕ → ℕ
record_word f = 2 * f

-- the word of an array of e elements
unfoldable pub array_word : ℕ → ℕ
array_word e = 2 * e + 1

-- the shapes that have a word: at most 65,535 fields or elements
abbrev pub IsShape : Shape → Type 0
IsShape (shapes.List f) = f ≤ 65535
IsShape (shapes.Tree e) = e ≤ 65535

-- the word of a shape
abbrev pub shape_code : Shape → ℕ
shape_code (shapes.List f) = record_word f
shape_code (shapes.Tree e) = array_word e

-- the shape that a word is, or none
unfoldable pub shape_of : ℕ → Option Shape
shape_of w =
    if nat_le (w / 2) 65535
    then (if w % 2 == 0 then Some (shapes.List (w / 2)) else Some (shapes.Tree (w / 2)))
    else None
