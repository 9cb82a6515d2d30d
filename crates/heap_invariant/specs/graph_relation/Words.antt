-- The words of values, of parts of objects, and of shapes; and the functions that say which words
-- the blocks hold.
use Rattle.std.specs.Prelude.{ℕ, ◌<◌, ◌≡◌, ◌==◌, ◌&&◌, cond, length}
use Rattle.block_store.specs.declared.Name.{Name}
use Rattle.block_store.specs.declared.Value.{Value}
use Rattle.block_store.specs.declared.Value.TheVariants.{Nil, Int, Ref}
use Rattle.block_store.specs.declared.Width.{Width}
use Rattle.block_store.specs.Widths.{payloads}
use Rattle.block_store.specs.Heaps.{Heap}
use Rattle.block_store.specs.Payloads.{number_word, reference_word}
use Rattle.block_store.specs.Places.{OwnerOf, ShapeOf, PayloadOf}
use Rattle.block_store.specs.Registers.{register_block, register_slot}
use Rattle.block_store.specs.Shapes.{record_word, array_word}
use Rattle.never_heap.specs.Graphs.{Object, ObjectKind, Record, Array}
use Rattle.object_lists.specs.Parts.{Part, Link, Field, Blank}

-- the payload word of a value, where the first block of a name's object is head of it
abbrev pub value_word : (Name → ℕ) → Value → ℕ
value_word head Nil = 0
value_word head (Int v) = number_word v
value_word head (Ref a) = reference_word (head a)

-- the payload word of a part of an object, where its ordinals are at these blocks and its fields
-- have these values
abbrev pub part_word : (Name → ℕ) → (ℕ → ℕ) → (ℕ → Value) → Part → ℕ
part_word head block_of field (Link o) = reference_word (block_of o)
part_word head block_of field (Field i) = value_word head (field i)
part_word head block_of field Blank = 0

abbrev pub kind_word : ObjectKind → ℕ → ℕ
kind_word Record n = record_word n
kind_word Array n = array_word n

-- the shape word of an object
abbrev pub object_shape : Object → ℕ
object_shape o = kind_word o.kind (length o.fields)

-- the words of the blocks: the owner and the shape of each, and payload j of it
pub record BlockWords : Type 0 where
  pub owner : ℕ → ℕ
  pub shape : ℕ → ℕ
  pub payload : ℕ → ℕ → ℕ

-- the words of the blocks of a heap
abbrev pub block_words : Heap → BlockWords
block_words h = record {
  owner = λ x. h (OwnerOf x);
  shape = λ x. h (ShapeOf x);
  payload = λ x j. h (PayloadOf x j);
}

-- the words after v was written at payload j of block x
abbrev pub with_payload : BlockWords → ℕ → ℕ → ℕ → BlockWords
with_payload w x j v = record {
  owner = w.owner;
  shape = w.shape;
  payload = λ y k. cond ((x == y) && (j == k)) v (w.payload y k);
}

-- the words after v was written in register r of thread t
abbrev pub with_register_word : Width → BlockWords → ℕ → ℕ → ℕ → BlockWords
with_register_word W w t r v = with_payload w (register_block W t r) (register_slot W r) v

-- the words of block x did not change
pub record Agrees (W : Width) (w u : BlockWords) (x : ℕ) : Type 0 where
  pub owners : u.owner x ≡ w.owner x
  pub shapes : u.shape x ≡ w.shape x
  pub payloads : (j : ℕ) → j < payloads W → u.payload x j ≡ w.payload x j
