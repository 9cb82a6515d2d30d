-- The object that a command makes: its register, its shape, and what is in its blocks.
use Rattle.std.specs.Prelude.{ℕ, Option, Some, None, List, slice_index}
use Rattle.block_store.specs.declared.Width.{Width}
use Rattle.block_store.specs.Payloads.{reference_word}
use Rattle.block_store.specs.Shapes.{record_word, array_word}
use Rattle.object_lists.specs.Parts.{Part, Blank}
use Rattle.object_lists.specs.Records.{record_part}
use Rattle.array_trees.specs.Levels.{array_part}
use Rattle.never_heap.specs.declared.Command.{Command}
use Rattle.never_heap.specs.declared.Command.TheVariants.{New, Arr}

-- the register that then refers to it
abbrev pub made_register : Command → ℕ
made_register (New d f) = d
made_register (Arr d e) = d
made_register _ = 0

-- its shape word
abbrev pub made_shape : Command → ℕ
made_shape (New d f) = record_word f
made_shape (Arr d e) = array_word e
made_shape _ = 0

-- what is at payload j of ordinal o, in blocks of this width
abbrev pub made_part : Width → Command → ℕ → ℕ → Part
made_part w (New d f) o j = record_part w f o j
made_part w (Arr d e) o j = array_part w e o j
made_part w _ o j = Blank

-- the block of ordinal o, where these blocks are held for the ordinals from 0 on
abbrev pub block_at : List ℕ → ℕ → ℕ
block_at held o = slice_index held o

-- a payload word of a new object: a reference to the block of the ordinal to which it links, or nil
abbrev pub link_word : List ℕ → Option ℕ → ℕ
link_word held None = 0
link_word held (Some o) = reference_word (block_at held o)
