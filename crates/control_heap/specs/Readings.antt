-- What the words of a heap say of values and objects.
use Rattle.std.specs.Prelude.{ℕ, zero, suc, ◌≡◌, ◌++◌, ◌∷◌, [], Option, Some, None, List}
use Rattle.block_store.specs.declared.Payload.{Payload}
use Rattle.block_store.specs.declared.Payload.TheVariants as payloads
use Rattle.block_store.specs.declared.Value.{Value}
use Rattle.block_store.specs.declared.Name.{Name}
use Rattle.block_store.specs.declared.Shape.{Shape}
use Rattle.block_store.specs.declared.Value.TheVariants.{Nil, Int, Ref}
use Rattle.block_store.specs.Heaps.{Heap}
use Rattle.block_store.specs.Payloads.{payload_of, payload_target}
use Rattle.block_store.specs.Places.{Extent, OwnerOf, PayloadOf}
use Rattle.never_heap.specs.Graphs.{Graph, object_of, register_of}
use Rattle.barrier_steps.specs.Rows.{object_in}
use Rattle.barrier_steps.specs.Walks.{field_at, link_at, links_to}

-- the value of a payload: where it refers to a block, the name that the block's owner word has
abbrev pub payload_value : Heap → Option Payload → Value
payload_value h None = Nil
payload_value h (Some payloads.Nil) = Nil
payload_value h (Some (payloads.Int n)) = Int n
payload_value h (Some (payloads.Block x)) = object_in (h (OwnerOf x))

-- the value of a payload word
abbrev pub value_read : Heap → ℕ → Value
value_read h word = payload_value h (payload_of word)

-- the block to which a payload word refers, or 0
abbrev pub payload_block : Option Payload → ℕ
payload_block None = 0
payload_block (Some p) = payload_target p

abbrev pub block_read : ℕ → ℕ
block_read word = payload_block (payload_of word)

-- the block to which so many links lead on the way to field i, from the first block x of an object
-- of this shape
abbrev pub walked : Extent → Heap → Shape → ℕ → ℕ → ℕ → ℕ
walked e h s i x zero = x
walked e h s i x (suc l) = block_read (h (PayloadOf (walked e h s i x l) (link_at e s i l)))

-- the word of field i
abbrev pub field_read : Extent → Heap → Shape → ℕ → ℕ → ℕ
field_read e h s i x = h (PayloadOf (walked e h s i x (links_to e s i)) (field_at e s i))

-- the values of the first n fields of that object
abbrev pub fields_read : Extent → Heap → Shape → ℕ → ℕ → List Value
fields_read e h s x zero = []
fields_read e h s x (suc n) =
    fields_read e h s x n ++ value_read h (field_read e h s n x) ∷ []

-- register r refers to an object, and these are the values of all of its fields
abbrev pub HasFields : Graph → ℕ → List Value → Type 0
HasFields g r fields = (a : Name) × (register_of g 0 r ≡ Ref a) × (fields ≡ (object_of g a).fields)

-- register r refers to no object
abbrev pub HasNoObject : Graph → ℕ → Type 0
HasNoObject g r = (a : Name) → register_of g 0 r ≡ Ref a → ⊥
