-- How a record lies in blocks, where each has room for k fields after its link: one less than it
-- has payload words.
use Rattle.std.specs.Prelude.{ℕ, zero, suc, ◌+◌, ◌-◌, ◌*◌, ◌/◌, ◌%◌, max, nat_lt, if◌then◌else◌}
use Rattle.block_store.specs.declared.Width.{Width}
use Rattle.block_store.specs.Widths.{payloads}
use Rattle.object_lists.specs.Parts.{Part, Blank, link_below, field_below}

-- the blocks of a record of f fields: k fields a block, and at least one block
abbrev pub list_blocks : ℕ → ℕ → ℕ
list_blocks k f = max 1 ((f + (k - 1)) / k)

-- payload 0 refers to the next block, and the others have the fields in order, as far as there are
-- any
abbrev pub list_part : ℕ → ℕ → ℕ → ℕ → Part
list_part k f o zero = link_below (o + 1) (list_blocks k f)
list_part k f o (suc j) = if nat_lt j k then field_below (o * k + j) f else Blank

-- where field i is: its block, and its payload
abbrev pub list_slot : ℕ → ℕ → ℕ × ℕ
list_slot k i = (i / k, 1 + i % k)

-- the fields of a block of this width
abbrev pub room : Width → ℕ
room w = payloads w - 1

abbrev pub record_blocks : Width → ℕ → ℕ
record_blocks w f = list_blocks (room w) f

abbrev pub record_part : Width → ℕ → ℕ → ℕ → Part
record_part w f o j = list_part (room w) f o j

abbrev pub record_slot : Width → ℕ → ℕ × ℕ
record_slot w i = list_slot (room w) i
