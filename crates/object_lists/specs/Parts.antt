-- What is in the payload words of an object's blocks.
use Rattle.std.specs.Prelude.{ℕ, Option, None, Some, nat_lt, if◌then◌else◌}

-- a reference to another block of the object, a field or element, or nothing
pub data Part : Type 0 where
  Link : (ordinal : ℕ) → Part
  Field : (index : ℕ) → Part
  Blank : Part

-- the ordinal to which a place refers
abbrev pub link_in : Part → Option ℕ
link_in (Link o) = Some o
link_in (Field i) = None
link_in Blank = None

-- a link to ordinal o where that is below n, and else nothing
abbrev pub link_below : ℕ → ℕ → Part
link_below o n = if nat_lt o n then Link o else Blank

-- field i where that is below n, and else nothing
abbrev pub field_below : ℕ → ℕ → Part
field_below i n = if nat_lt i n then Field i else Blank
