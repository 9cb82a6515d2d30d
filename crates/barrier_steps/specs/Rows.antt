-- The commands that allocate nothing, as rows of one event each: what each row wants, and what it
-- becomes on the word that it read.
use Rattle.std.specs.Prelude.{ℕ, ◌+◌, ◌==◌, nat_lt, Bool, true, false, if◌then◌else◌, Option, Some, None}
use Rattle.block_store.specs.declared.WideOwner.{WideOwner}
use Rattle.block_store.specs.declared.Payload.{Payload}
use Rattle.block_store.specs.declared.Payload.TheVariants as payloads
use Rattle.block_store.specs.declared.Shape.{Shape}
use Rattle.block_store.specs.declared.Shape.TheVariants as shapes
use Rattle.block_store.specs.declared.Value.{Value}
use Rattle.block_store.specs.declared.Value.TheVariants as values
use Rattle.block_store.specs.WideOwners.{wide_of}
use Rattle.block_store.specs.Payloads.{payload_of, target}
use Rattle.block_store.specs.Places.{Extent, Place, Phase, OwnerOf, ShapeOf, PayloadOf}
use Rattle.block_store.specs.Shapes.{shape_of}
use Rattle.block_store.specs.Widths.{payloads}
use Rattle.never_heap.specs.declared.Command.{Command}
use Rattle.never_heap.specs.declared.Command.TheVariants as commands
use Rattle.never_heap.specs.declared.Reply.{Reply}
use Rattle.never_heap.specs.declared.Reply.TheVariants as replies
use Rattle.block_store.specs.Registers.{register_block, register_slot}
use Rattle.heap_machine.specs.WorkInHand.{WorkInHand, holds_nothing}
use Rattle.heap_machine.specs.Operations.{Operation, Load, Exchange, CompareExchange}
use Rattle.heap_machine.specs.declared.pass.Pass.{Pass}
use Rattle.heap_machine.specs.declared.Step.{Step}
use Rattle.heap_machine.specs.declared.Step.TheVariants.{Went, Over}
use Rattle.barrier_steps.specs.declared.rows.FieldRow.{FieldRow}
use Rattle.barrier_steps.specs.declared.rows.FieldRow.TheVariants.{LoadRegister, LoadShape, LoadLink, LoadField, LoadOwner, Shade, Store, StoreConstant, IdleLook, Answered}
use Rattle.barrier_steps.specs.declared.rows.Purpose.{Purpose}
use Rattle.barrier_steps.specs.declared.rows.Purpose.TheVariants as wants
use Rattle.barrier_steps.specs.declared.rows.TreePath.{TreePath}
use Rattle.barrier_steps.specs.declared.rows.FieldStore.{FieldStore}
use Rattle.barrier_steps.specs.declared.rows.FieldStore.TheVariants.{Moved, Pending, InField, Exchanged, Compared}
use Rattle.grey_steps.specs.declared.rows.GreyRow.{GreyRow}
use Rattle.grey_steps.specs.declared.rows.GreyRow.TheVariants.{TakeOwn}
use Rattle.grey_steps.specs.Rows as marking
use Rattle.grey_steps.specs.Rows.{grey_over, grey_in_hand}
use Rattle.barrier_steps.specs.Operands.{to_register, from_register, other_register, field_index, constant_word, expected_register}
use Rattle.barrier_steps.specs.Walks.{shape_length, links_to, link_at, field_at}

-- a thread in a command: its pass, the command, and its row
pub record FieldState : Type 0 where
  pub pass : Pass
  pub command : Command
  pub row : FieldRow

-- the place of register r of thread t
abbrev pub register_place : Extent → ℕ → ℕ → Place
register_place e t r = PayloadOf (register_block e.width t r) (register_slot e.width r)

-- what a payload word holds; nil where it is the word of no payload
abbrev pub payload_or_nil : Option Payload → Payload
payload_or_nil None = payloads.Nil
payload_or_nil (Some p) = p

abbrev pub payload_in : ℕ → Payload
payload_in w = payload_or_nil (payload_of w)

-- what a shape word says; an empty record where it is the word of no shape
abbrev pub shape_or_empty : Option Shape → Shape
shape_or_empty None = shapes.List 0
shape_or_empty (Some f) = f

abbrev pub shape_in : ℕ → Shape
shape_in w = shape_or_empty (shape_of w)

-- the object of which an owner word says that a block is part; nil where it is the word of no owner
abbrev pub object_or_nil : Option WideOwner → Value
object_or_nil None = values.Nil
object_or_nil (Some o) = values.Ref (record { thread = o.thread; serial = o.serial })

abbrev pub object_in : ℕ → Value
object_in w = object_or_nil (wide_of w)

-- the first row of a command. One that allocates has none here
abbrev pub first_row : Command → FieldRow
first_row (commands.New d f) = Answered replies.Stored
first_row (commands.Arr d e) = Answered replies.Stored
first_row (commands.Set d v) = StoreConstant
first_row (commands.Nil d) = StoreConstant
first_row (commands.Mov d s) = LoadRegister wants.Copied
first_row (commands.Get d s i) = LoadRegister wants.Object
first_row (commands.Put s i v) = LoadRegister wants.Object
first_row (commands.Len s) = LoadRegister wants.Object
first_row (commands.Same a b) = LoadRegister wants.First
first_row (commands.Say s) = LoadRegister wants.Shown
first_row (commands.Swap s i v) = LoadRegister wants.Object
first_row (commands.Cas s i a v) = LoadRegister wants.Object
first_row (commands.Idle u) = IdleLook

abbrev pub at_first_row : Pass → Command → FieldState
at_first_row p k = record { pass = p; command = k; row = first_row k }

-- what is stored
abbrev pub stored_word : FieldStore → ℕ
stored_word (Moved word) = word
stored_word (Pending word value) = word
stored_word (InField way word) = word
stored_word (Exchanged way word) = word
stored_word (Compared way word) = word

-- whether the value was taken before: it is the answer of a command that is decided
abbrev pub is_taken : FieldStore → Bool
is_taken (Pending word value) = true
is_taken _ = false

-- the block that is shaded before this word is stored, or 0: while the phase is Mark the one to
-- which the word refers
abbrev pub shaded_for : Pass → ℕ → ℕ
shaded_for p word = if p.sweep then 0 else target word

-- before a store: the write barrier, where a block is to be shaded
abbrev pub before_store : Pass → FieldStore → FieldRow
before_store p store = if shaded_for p (stored_word store) == 0 then Store store
    else Shade (TakeOwn (shaded_for p (stored_word store))) store

-- at this row of the barrier: once it is over the store follows
abbrev pub in_barrier : GreyRow → FieldStore → FieldRow
in_barrier r store = if grey_over r then Store store else Shade r store

-- which register of command k is loaded
abbrev pub register_wanted : Command → Purpose → ℕ
register_wanted k (wants.Expected way) = expected_register k
register_wanted k (wants.Stored way) = other_register k
register_wanted k (wants.Second word) = other_register k
register_wanted k _ = from_register k

-- where the field of command k is, at the end of its way
abbrev pub field_place : Extent → Command → TreePath → Place
field_place e k way = PayloadOf way.block (field_at e way.shape (field_index k))

-- the store of thread t
abbrev pub store_want : Extent → ℕ → Command → FieldStore → Operation
store_want e t k (Moved word) = Exchange (register_place e t (to_register k)) word
store_want e t k (Pending word value) = Exchange (register_place e t (to_register k)) word
store_want e t k (InField way word) = Exchange (field_place e k way) word
store_want e t k (Exchanged way word) = Exchange (field_place e k way) word
store_want e t k (Compared way word) = CompareExchange (field_place e k way) way.expected word

-- the place that a row of command k in this pass loads. A part that is over would look at the phase
-- once more
abbrev pub row_place : Extent → Pass → Command → FieldRow → Place
row_place e p k (LoadRegister wanted) = register_place e p.thread (register_wanted k wanted)
row_place e p k (LoadShape x) = ShapeOf x
row_place e p k (LoadLink way word) = PayloadOf way.block
    (link_at e way.shape (field_index k) way.level)
row_place e p k (LoadField way) = field_place e k way
row_place e p k (LoadOwner word) = OwnerOf (target word)
row_place e p k _ = Phase

-- the operation of a row
abbrev pub row_want : Extent → Pass → Command → FieldRow → Operation
row_want e p k (Shade r store) = marking.row_want p.thread p.threads p.cycle r
row_want e p k (Store store) = store_want e p.thread k store
row_want e p k StoreConstant = Exchange (register_place e p.thread (to_register k))
    (constant_word k)
row_want e p k row = Load (row_place e p k row)

-- after the register that refers to the object: nil is answered null, a number kind
abbrev pub after_object : Payload → FieldRow
after_object payloads.Nil = Answered replies.Null
after_object (payloads.Int v) = Answered replies.Kind
after_object (payloads.Block x) = LoadShape x

-- at the block of the field: `put`, `swap` and `cas` store in it the word that they have loaded,
-- `get` loads it
abbrev pub at_block : Pass → Command → TreePath → ℕ → FieldRow
at_block p (commands.Put s i v) way word = before_store p (InField way word)
at_block p (commands.Swap s i v) way word = before_store p (Exchanged way word)
at_block p (commands.Cas s i a v) way word = before_store p (Compared way word)
at_block p _ way word = LoadField way

-- the next link of the way, while there is one
abbrev pub on_way : Extent → Pass → Command → TreePath → ℕ → FieldRow
on_way e p k way word = if nat_lt way.level (links_to e way.shape (field_index k))
    then LoadLink way word else at_block p k way word

-- the way at its first block
abbrev pub way_from : Shape → ℕ → TreePath
way_from f x = record { shape = f; level = 0; block = x; expected = 0 }

-- and one link further, at block x
abbrev pub way_on : TreePath → ℕ → TreePath
way_on way x = record way { level = way.level + 1; block = x }

-- with the word with which the field is compared
abbrev pub way_with : TreePath → ℕ → TreePath
way_with way word = record way { expected = word }

-- after the object's shape: an index that is not below its length is answered range
abbrev pub after_shape : Extent → Pass → Command → ℕ → Shape → FieldRow
after_shape e p (commands.Get d s i) x f = if nat_lt i (shape_length f)
    then on_way e p (commands.Get d s i) (way_from f x) 0 else Answered replies.Range
after_shape e p (commands.Put s i v) x f = if nat_lt i (shape_length f)
    then LoadRegister (wants.Stored (way_from f x)) else Answered replies.Range
after_shape e p (commands.Swap s i v) x f = if nat_lt i (shape_length f)
    then LoadRegister (wants.Stored (way_from f x)) else Answered replies.Range
after_shape e p (commands.Cas s i a v) x f = if nat_lt i (shape_length f)
    then LoadRegister (wants.Expected (way_from f x)) else Answered replies.Range
after_shape e p _ x f = Answered (replies.Len (shape_length f))

-- after the field that `get` loads, or `swap` exchanges: its word is then stored, once its value is
-- known
abbrev pub after_field : ℕ → Payload → FieldRow
after_field word payloads.Nil = Store (Pending word values.Nil)
after_field word (payloads.Int v) = Store (Pending word (values.Int v))
after_field word (payloads.Block x) = LoadOwner word

-- after the register that `say` shows
abbrev pub after_said : ℕ → Payload → FieldRow
after_said word payloads.Nil = Answered (replies.Val values.Nil)
after_said word (payloads.Int v) = Answered (replies.Val (values.Int v))
after_said word (payloads.Block x) = LoadOwner word

-- after the owner of the block to which the word refers: `say` answers its name, and the others
-- store the word
abbrev pub after_owner : Pass → Command → ℕ → Value → FieldRow
after_owner p (commands.Say s) word value = Answered (replies.Val value)
after_owner p _ word value = before_store p (Pending word value)

-- after a register, in which w stood
abbrev pub after_register : Extent → Pass → Command → Purpose → ℕ → FieldRow
after_register e p k wants.Copied w = before_store p (Moved w)
after_register e p k wants.Object w = after_object (payload_in w)
after_register e p k (wants.Expected way) w = LoadRegister (wants.Stored (way_with way w))
after_register e p k (wants.Stored way) w = on_way e p k way w
after_register e p k wants.First w = LoadRegister (wants.Second w)
after_register e p k (wants.Second word) w =
    Answered (if word == w then replies.Yes else replies.No)
after_register e p k wants.Shown w = after_said w (payload_in w)

-- after a store in whose place w stood
abbrev pub after_store : FieldStore → ℕ → FieldRow
after_store (Pending word value) w = Answered (replies.Val value)
after_store (Exchanged way word) w = after_field w (payload_in w)
after_store (Compared way word) w =
    Answered (if w == way.expected then replies.Yes else replies.No)
after_store _ w = Answered replies.Stored

-- the row after it, where it read w
abbrev pub row_got : Extent → Pass → Command → FieldRow → ℕ → FieldRow
row_got e p k (LoadRegister wanted) w = after_register e p k wanted w
row_got e p k (LoadShape x) w = after_shape e p k x (shape_in w)
row_got e p k (LoadLink way word) w = on_way e p k (way_on way (target w)) word
row_got e p k (LoadField way) w = after_field w (payload_in w)
row_got e p k (LoadOwner word) w = after_owner p k word (object_in w)
row_got e p k (Shade r store) w =
    in_barrier (marking.row_got (payloads e.width) p.threads p.cycle r w) store
row_got e p k (Store store) w = after_store store w
row_got e p k StoreConstant w = Answered replies.Stored
row_got e p k IdleLook w = Answered replies.Idle
row_got e p k (Answered reply) w = Answered reply

abbrev pub field_want : Extent → FieldState → Operation
field_want e s = row_want e s.pass s.command s.row

abbrev pub field_got : Extent → FieldState → ℕ → FieldState
field_got e s w = record {
  pass = s.pass;
  command = s.command;
  row = row_got e s.pass s.command s.row w;
}

-- whether it is a row of the write barrier
abbrev pub shades : FieldRow → Bool
shades (Shade r store) = true
shades _ = false

-- whether it reads a word that shows nothing of the graph: one of the barrier, or the phase
abbrev pub reads_beside_graph : FieldRow → Bool
reads_beside_graph (Shade r store) = true
reads_beside_graph IdleLook = true
reads_beside_graph _ = false

-- the word that a row stores of those that it has loaded; 0, which is nil, where it stores none
abbrev pub word_stored : FieldRow → ℕ
word_stored (Store store) = stored_word store
word_stored _ = 0

-- the reply, once the part is over
abbrev pub field_reply : FieldRow → Option Reply
field_reply (Answered reply) = Some reply
field_reply _ = None

-- no row waits, and the event after which there is a reply is the last
abbrev pub step_of : Option Reply → Step
step_of None = Went
step_of (Some reply) = Over

abbrev pub field_step : Extent → FieldState → ℕ → Step
field_step e s w = step_of (field_reply (field_got e s w).row)

-- the rows after the linearization point
abbrev pub field_decided : FieldRow → Bool
field_decided (LoadOwner word) = true
field_decided (Shade r store) = is_taken store
field_decided (Store store) = is_taken store
field_decided (Answered reply) = true
field_decided _ = false

-- what the thread holds before the event of a row, where a block has this many payloads: what the
-- barrier holds, and then that the block was shaded to which a reference is stored
abbrev pub held_before_store : Pass → ℕ → WorkInHand
held_before_store p word = record holds_nothing { shaded = shaded_for p word }

abbrev pub row_in_hand : ℕ → Pass → FieldRow → WorkInHand
row_in_hand width p (Shade r store) = grey_in_hand width r
row_in_hand width p (Store store) = held_before_store p (stored_word store)
row_in_hand width p _ = holds_nothing

abbrev pub field_in_hand : Extent → FieldState → WorkInHand
field_in_hand e s = row_in_hand (payloads e.width) s.pass s.row
