-- What is read along a path of indices from a register: in a graph, and in the words of a heap.
use Rattle.std.specs.Prelude.{ℕ, ◌^◌, nat_lt, if◌then◌else◌, Option, Some, None, Result, Ok, Err, List, [], ◌∷◌, length}
use Rattle.block_store.specs.declared.Payload.{Payload}
use Rattle.block_store.specs.declared.Payload.TheVariants as payloads
use Rattle.block_store.specs.declared.Shape.{Shape}
use Rattle.block_store.specs.declared.TheConstants.{REGISTERS}
use Rattle.block_store.specs.declared.Value.{Value}
use Rattle.block_store.specs.declared.Value.TheVariants as values
use Rattle.block_store.specs.Heaps.{Heap}
use Rattle.block_store.specs.Payloads.{payload_of}
use Rattle.block_store.specs.Places.{Extent, ShapeOf}
use Rattle.never_heap.specs.Graphs.{Graph, field_of, object_of, register_of}
use Rattle.never_heap.specs.declared.Reply.{Reply}
use Rattle.never_heap.specs.declared.Reply.TheVariants as replies
use Rattle.barrier_steps.specs.Rows.{shape_in}
use Rattle.barrier_steps.specs.Walks.{shape_length}
use Rattle.control_heap.specs.declared.faults.Fault.{Fault}
use Rattle.control_heap.specs.declared.faults.Fault.TheVariants as faults
use Rattle.control_heap.specs.Readings.{field_read, value_read}

-- what follows a result, unless it is a fault
abbrev pub and_then : {A B : Type 0} → Result A Fault → (A → Result B Fault) → Result B Fault
and_then (Ok x) next = next x
and_then (Err f) next = Err f

-- ---- in a graph

-- field i of the object to which a value refers, or why there is none
abbrev pub field_there : Graph → Value → ℕ → Result Value Fault
field_there g values.Nil i = Err faults.Null
field_there g (values.Int n) i = Err faults.Kind
field_there g (values.Ref a) i =
    if nat_lt i (length (object_of g a).fields) then Ok (field_of (object_of g a) i)
    else Err faults.Range

-- the same as `get` returns it: an index of 2^62 or more is out of bounds
abbrev pub field_peeked : Graph → Value → ℕ → Result Value Fault
field_peeked g v i = if nat_lt i (2 ^ 62) then field_there g v i else Err faults.OutOfBounds

-- the value at the end of a path of indices from a value, or the first fault on it
abbrev pub path_peeked : Graph → Value → List ℕ → Result Value Fault
path_peeked g v [] = Ok v
path_peeked g v (i ∷ is) = and_then (field_peeked g v i) (λ w. path_peeked g w is)

-- the same from a register of a heap's one thread
abbrev pub peeked : Graph → ℕ → List ℕ → Result Value Fault
peeked g s path =
    if nat_lt s REGISTERS then path_peeked g (register_of g 0 s) path else Err faults.OutOfBounds

-- a value as the reply that carries it
abbrev pub as_reply : Result Value Fault → Result Reply Fault
as_reply (Ok v) = Ok (replies.Val v)
as_reply (Err f) = Err f

-- ---- in the words of a heap

-- why there is no field i: an index of 2^62 or more is out of bounds
abbrev pub missed : ℕ → Fault → Fault
missed i f = if nat_lt i (2 ^ 62) then f else faults.OutOfBounds

-- the word of field i of the object of this shape that begins at block x
abbrev pub object_field : Extent → Heap → Shape → ℕ → ℕ → Result ℕ Fault
object_field e h s x i =
    if nat_lt i (shape_length s) then Ok (field_read e h s i x) else Err (missed i faults.Range)

-- of the object to which a payload refers
abbrev pub payload_field : Extent → Heap → Option Payload → ℕ → Result ℕ Fault
payload_field e h None i = Err (missed i faults.Null)
payload_field e h (Some payloads.Nil) i = Err (missed i faults.Null)
payload_field e h (Some (payloads.Int n)) i = Err (missed i faults.Kind)
payload_field e h (Some (payloads.Block x)) i = object_field e h (shape_in (h (ShapeOf x))) x i

abbrev pub field_found : Extent → Heap → ℕ → ℕ → Result ℕ Fault
field_found e h word i = payload_field e h (payload_of word) i

-- the value at the end of a path from a payload word, or the first fault on it
abbrev pub path_found : Extent → Heap → ℕ → List ℕ → Result Value Fault
path_found e h word [] = Ok (value_read h word)
path_found e h word (i ∷ is) = and_then (field_found e h word i) (λ w. path_found e h w is)
