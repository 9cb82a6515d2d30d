-- What the words that a command reads show of a graph, and what it will answer.
use Rattle.std.specs.Prelude.{ℕ, ◌<◌, ◌≡◌, ◌==◌, Option, Some, None, length}
use Rattle.block_store.specs.declared.Name.{Name}
use Rattle.block_store.specs.declared.Value.{Value}
use Rattle.block_store.specs.declared.Value.TheVariants.{Ref}
use Rattle.block_store.specs.WideOwners.{wide_of}
use Rattle.block_store.specs.Payloads.{payload_of, target}
use Rattle.block_store.specs.Shapes.{shape_of}
use Rattle.never_heap.specs.declared.Command.{Command}
use Rattle.never_heap.specs.declared.Reply.{Reply}
use Rattle.never_heap.specs.declared.Reply.TheVariants.{Val}
use Rattle.never_heap.specs.Graphs.{Graph, object_of, field_of, register_of}
use Rattle.never_heap.specs.Steps.{step, same_value}
use Rattle.heap_invariant.specs.graph_relation.Layouts.{kind_shape}
use Rattle.heap_invariant.specs.graph_relation.Read.{value_payload}
use Rattle.barrier_steps.specs.declared.rows.FieldRow.{FieldRow}
use Rattle.barrier_steps.specs.declared.rows.FieldRow.TheVariants.{LoadRegister, LoadShape, LoadField, LoadOwner, Shade, Store, Answered}
use Rattle.barrier_steps.specs.declared.rows.Purpose.TheVariants as wants
use Rattle.barrier_steps.specs.declared.rows.FieldStore.{FieldStore}
use Rattle.barrier_steps.specs.declared.rows.FieldStore.TheVariants.{Pending, InField, Exchanged, Compared}
use Rattle.barrier_steps.specs.Operands.{to_register, answered_register, from_register, other_register, field_index, expected_register}
use Rattle.barrier_steps.specs.Rows.{FieldState}

-- what the step of command k of thread t answers on a graph
abbrev pub answer : Graph → ℕ → Command → Reply
answer g t k = (step g t k).1

-- and the graph that it leaves
abbrev pub graph_after : Graph → ℕ → Command → Graph
graph_after g t k = (step g t k).0

-- the word is that of the value, where the first block of a name's object is head of it
abbrev pub IsWordOf : (Name → ℕ) → Value → ℕ → Type 0
IsWordOf head v w = payload_of w ≡ Some (value_payload head v)

-- register s of thread t refers to an object, whose shape word this is
pub record ShapeShown (g : Graph) (t s w : ℕ) : Type 0 where
  pub name : Name
  pub refers : register_of g t s ≡ Ref name
  pub shape : shape_of w ≡ Some (kind_shape (object_of g name).kind
      (length (object_of g name).fields))

-- register s of thread t refers to an object that has field i
pub record FieldFound (g : Graph) (t s i : ℕ) : Type 0 where
  pub name : Name
  pub refers : register_of g t s ≡ Ref name
  pub within : i < length (object_of g name).fields

-- the two registers' words, and no two objects that they refer to have one first block
pub record BothShown (head : Name → ℕ) (g : Graph) (t a b word w : ℕ) : Type 0 where
  pub first : IsWordOf head (register_of g t a) word
  pub second : IsWordOf head (register_of g t b) w
  pub apart : (x y : Name) → register_of g t a ≡ Ref x → register_of g t b ≡ Ref y → head x ≡ head y
      → x ≡ y

-- register s refers to an object, of whose field i this is the word
abbrev pub FieldShown : (Name → ℕ) → Graph → ℕ → ℕ → ℕ → ℕ → Type 0
FieldShown head g t s i w = (found : FieldFound g t s i)
    × IsWordOf head (field_of (object_of g found.name) i) w

-- what a row of thread t in command k has loaded, and the word w that it reads, are what the graph
-- says
abbrev pub ShownAt : (Name → ℕ) → Graph → ℕ → Command → FieldRow → ℕ → Type 0
ShownAt head g t k (LoadRegister wants.Object) w =
    IsWordOf head (register_of g t (from_register k)) w
ShownAt head g t k (LoadRegister (wants.Second word)) w = BothShown head g t (from_register k)
    (other_register k) word w
ShownAt head g t k (LoadRegister wants.Shown) w =
    IsWordOf head (register_of g t (from_register k)) w
ShownAt head g t k (LoadShape x) w = ShapeShown g t (from_register k) w
ShownAt head g t k (LoadField way) w = FieldShown head g t (from_register k) (field_index k) w
ShownAt head g t k (Store (InField way word)) w = FieldFound g t (from_register k) (field_index k)
ShownAt head g t k (Store (Exchanged way word)) w =
    FieldShown head g t (from_register k) (field_index k) w
ShownAt head g t k (Store (Compared way word)) w =
    (found : FieldFound g t (from_register k) (field_index k))
    × ((w == way.expected) ≡ same_value (field_of (object_of g found.name) (field_index k))
    (register_of g t (expected_register k)))
ShownAt head g t k _ w = Unit {0}

-- the value is a reference to the object whose first block the word refers to
pub record RefersTo (head : Name → ℕ) (word : ℕ) (reply : Reply) : Type 0 where
  pub name : Name
  pub says : reply ≡ Val (Ref name)
  pub block : target word ≡ head name

-- a store after the linearization point comes before this reply
abbrev pub StorePromises : FieldStore → Reply → Type 0
StorePromises (Pending word value) reply = reply ≡ Val value
StorePromises _ reply = ⊥

-- a decided row will give this reply
abbrev pub Promises : (Name → ℕ) → FieldRow → Reply → Type 0
Promises head (LoadOwner word) reply = RefersTo head word reply
Promises head (Shade r store) reply = StorePromises store reply
Promises head (Store store) reply = StorePromises store reply
Promises head (Answered given) reply = given ≡ reply
Promises head _ reply = ⊥

-- the owner word w is that of the first block of the object to which the reply refers
abbrev pub OwnerShown : (Name → ℕ) → ℕ → Reply → ℕ → Type 0
OwnerShown head word reply w =
    (a : Name) → reply ≡ Val (Ref a) → target word ≡ head a
    → wide_of w ≡ Some (record { thread = a.thread; serial = a.serial; ordinal = 0 })

-- where a decided row still reads the name of the object to which its reply refers, the word w
-- shows it
abbrev pub NameShown : (Name → ℕ) → FieldRow → Reply → ℕ → Type 0
NameShown head (LoadOwner word) reply w = OwnerShown head word reply w
NameShown head _ reply w = Unit {0}

-- where a decided row of thread t in command k still reads a name, its reply is the value of the
-- register that the word is of
abbrev pub ShowsAt : Graph → ℕ → Command → FieldRow → Reply → Type 0
ShowsAt g t k (LoadOwner word) reply = reply ≡ Val (register_of g t (answered_register k))
ShowsAt g t k _ reply = Unit {0}

-- the reply that was decided before a store: the value that the register has in the graph
abbrev pub due_before : Graph → ℕ → Command → FieldStore → Option Reply
due_before g t k (Pending word value) = Some (Val (register_of g t (to_register k)))
due_before g t k _ = None

-- the reply that was decided, also where it is not given yet: a value is the one that the register
-- has in the graph
abbrev pub due_at : Graph → ℕ → Command → FieldRow → Option Reply
due_at g t k (LoadOwner word) = Some (Val (register_of g t (answered_register k)))
due_at g t k (Shade r store) = due_before g t k store
due_at g t k (Store store) = due_before g t k store
due_at g t k (Answered reply) = Some reply
due_at g t k _ = None

-- the value that `get` or `swap` has still to store is the one that its register has in the graph
abbrev pub KnownBefore : Graph → ℕ → Command → FieldStore → Type 0
KnownBefore g t k (Pending word value) = value ≡ register_of g t (to_register k)
KnownBefore g t k _ = Unit {0}

abbrev pub KnownAt : Graph → ℕ → Command → FieldRow → Type 0
KnownAt g t k (Shade r store) = KnownBefore g t k store
KnownAt g t k (Store store) = KnownBefore g t k store
KnownAt g t k _ = Unit {0}

-- the same of the state of a part
abbrev pub Shown : (Name → ℕ) → Graph → FieldState → ℕ → Type 0
Shown head g f w = ShownAt head g f.pass.thread f.command f.row w

abbrev pub ShowsRegister : Graph → FieldState → Reply → Type 0
ShowsRegister g f reply = ShowsAt g f.pass.thread f.command f.row reply

abbrev pub reply_due : Graph → FieldState → Option Reply
reply_due g f = due_at g f.pass.thread f.command f.row

abbrev pub IsKnown : Graph → FieldState → Type 0
IsKnown g f = KnownAt g f.pass.thread f.command f.row
