-- The rows as events on a graph and its words: what a row has loaded, and which event it is.
use Rattle.std.specs.Prelude.{◌==◌, ℕ, ◌+◌, ◌≡◌, false, true, if◌then◌else◌, Option, Some, None}
use Rattle.block_store.specs.declared.Name.{Name}
use Rattle.block_store.specs.declared.Value.{Value}
use Rattle.block_store.specs.declared.Value.TheVariants as values
use Rattle.block_store.specs.Heaps.{Heap}
use Rattle.block_store.specs.Places.{Extent}
use Rattle.never_heap.specs.declared.Command.{Command}
use Rattle.never_heap.specs.declared.Command.TheVariants as commands
use Rattle.never_heap.specs.Graphs.{register_of}
use Rattle.heap_machine.specs.Operations.{place_of}
use Rattle.heap_machine.specs.declared.pass.Pass.{Pass}
use Rattle.heap_invariant.specs.graph_relation.Words.{block_words}
use Rattle.heap_invariant.specs.graph_relation.Events as events
use Rattle.heap_invariant.specs.graph_relation.Events.{ObjectLoad, ValueLoad, Loading, unloaded, GraphState, Event, apply}
use Rattle.barrier_steps.specs.declared.rows.FieldRow.{FieldRow}
use Rattle.barrier_steps.specs.declared.rows.FieldRow.TheVariants.{LoadRegister, LoadShape, LoadLink, LoadField, LoadOwner, Shade, Store, StoreConstant, IdleLook, Answered}
use Rattle.barrier_steps.specs.declared.rows.Purpose.{Purpose}
use Rattle.barrier_steps.specs.declared.rows.Purpose.TheVariants as wants
use Rattle.barrier_steps.specs.declared.rows.TreePath.{TreePath}
use Rattle.barrier_steps.specs.declared.rows.FieldStore.{FieldStore}
use Rattle.barrier_steps.specs.declared.rows.FieldStore.TheVariants.{Moved, Pending, InField, Exchanged, Compared}
use Rattle.barrier_steps.specs.Operands.{to_register, answered_register, from_register, other_register, field_index, expected_register, takes_field}
use Rattle.barrier_steps.specs.Walks.{shape_length, link_at, field_at, ordinal_at}
use Rattle.barrier_steps.specs.Rows.{FieldState, payload_in, shape_in, register_wanted, row_want}
use Rattle.barrier_steps.specs.Deciding.{refers, length_decides}

-- the object that register s refers to, at its first block
abbrev pub object_load : ℕ → ℕ → Option ObjectLoad
object_load s x = Some (record { source = s; block = x; ordinal = 0; shape = None })

-- the object of a way to field i, at the block that the links have led to
abbrev pub walk_load : Extent → ℕ → ℕ → TreePath → Option ObjectLoad
walk_load e s i way = Some (record {
  source = s;
  block = way.block;
  ordinal = ordinal_at e way.shape i way.level;
  shape = Some way.shape;
})

-- the word of register r
abbrev pub value_load : ℕ → ℕ → Option ValueLoad
value_load r word = Some (record { origin = r; word = word; pending = false })

-- the word of a field that the graph's register d has already
abbrev pub pending_load : ℕ → ℕ → Option ValueLoad
pending_load d word = Some (record { origin = d; word = word; pending = true })

-- on the way `put`, `swap` and `cas` have the word that they will store, and `get` has none
abbrev pub carried_load : Command → ℕ → Option ValueLoad
carried_load (commands.Put s i v) word = value_load v word
carried_load (commands.Swap s i v) word = value_load v word
carried_load (commands.Cas s i a v) word = value_load v word
carried_load _ word = None

-- and `cas` has the word with which it will compare the field
abbrev pub expected_load : Command → ℕ → Option ValueLoad
expected_load (commands.Cas s i a v) word = value_load a word
expected_load _ word = None

-- the object that a command has in hand on its way
abbrev pub object_on : Extent → Command → TreePath → Option ObjectLoad
object_on e k way = walk_load e (from_register k) (field_index k) way

-- what command k has loaded that it is about to store
abbrev pub store_loading : Extent → Command → FieldStore → Loading
store_loading e k (Moved word) = record unloaded { value = value_load (from_register k) word }
store_loading e k (Pending word value) = record unloaded {
  value = pending_load (to_register k) word;
}
store_loading e k (InField way word) = record {
  object = object_on e k way;
  expected = expected_load k way.expected;
  value = value_load (other_register k) word;
}
store_loading e k (Exchanged way word) = record {
  object = object_on e k way;
  expected = expected_load k way.expected;
  value = value_load (other_register k) word;
}
store_loading e k (Compared way word) = record {
  object = object_on e k way;
  expected = expected_load k way.expected;
  value = value_load (other_register k) word;
}

-- what command k has loaded that is about to load a register
abbrev pub wanted_loading : Extent → Command → Purpose → Loading
wanted_loading e k (wants.Expected way) = record unloaded { object = object_on e k way }
wanted_loading e k (wants.Stored way) = record unloaded {
  object = object_on e k way;
  expected = expected_load k way.expected;
}
wanted_loading e k (wants.Second word) = record unloaded {
  value = value_load (from_register k) word;
}
wanted_loading e k _ = unloaded

-- the word of the value that is the answer: of `get` and `swap` it is still to be stored
abbrev pub answered_load : Command → ℕ → Option ValueLoad
answered_load k word = Some (record {
  origin = answered_register k;
  word = word;
  pending = takes_field k;
})

-- what a row of command k has loaded
abbrev pub row_loading : Extent → Command → FieldRow → Loading
row_loading e k (LoadRegister wanted) = wanted_loading e k wanted
row_loading e k (LoadShape x) = record unloaded { object = object_load (from_register k) x }
row_loading e k (LoadLink way word) = record {
  object = object_on e k way;
  expected = expected_load k way.expected;
  value = carried_load k word;
}
row_loading e k (LoadField way) = record unloaded { object = object_on e k way }
row_loading e k (LoadOwner word) = record unloaded { value = answered_load k word }
row_loading e k (Shade r store) = store_loading e k store
row_loading e k (Store store) = store_loading e k store
row_loading e k _ = unloaded

-- the number that a register becomes, or nil
abbrev pub constant_set : Command → Value
constant_set (commands.Set d v) = values.Int v
constant_set _ = values.Nil

-- the event at which thread t in command k loads a register, in which w is
abbrev pub register_event : ℕ → Command → Purpose → ℕ → Option Event
register_event t k wants.Object w = if refers (payload_in w)
    then Some (events.ReadObject t (from_register k)) else None
register_event t k (wants.Expected way) w = Some (events.ReadExpected t (expected_register k))
register_event t k (wants.Second word) w = Some (events.Finish t)
register_event t k wants.Shown w = if refers (payload_in w)
    then Some (events.ReadValue t (from_register k)) else None
register_event t k wanted w = Some (events.ReadValue t (register_wanted k wanted))

-- the event of a store, where a is the object in hand
abbrev pub store_event : Extent → Name → ℕ → Command → FieldStore → ℕ → Option Event
store_event e a t k (Moved word) w = Some (events.StoreValue t (to_register k))
store_event e a t k (Pending word value) w = Some (events.StorePending t)
store_event e a t k (InField way word) w = Some
    (events.StoreField t a (field_index k) (field_at e way.shape (field_index k)))
store_event e a t k (Exchanged way word) w = Some
    (events.ExchangeField t a (field_index k) (field_at e way.shape (field_index k)))
store_event e a t k (Compared way word) w = if w == way.expected
    then Some (events.StoreField t a (field_index k) (field_at e way.shape (field_index k)))
    else Some (events.Finish t)

-- the event of a row of thread t in command k that reads w, where a is the object in hand: none
-- where graph, words and loads stay as they are
abbrev pub row_event : Extent → Name → ℕ → Command → FieldRow → ℕ → Option Event
row_event e a t k (LoadRegister wanted) w = register_event t k wanted w
row_event e a t k (LoadShape x) w = if length_decides k (shape_length (shape_in w))
    then Some (events.Finish t) else Some (events.ReadShape t (shape_in w))
row_event e a t k (LoadLink way word) w = Some
    (events.ReadLink t (link_at e way.shape (field_index k) way.level)
    (ordinal_at e way.shape (field_index k) (way.level + 1)))
row_event e a t k (LoadField way) w = Some (events.ReadField t (to_register k) a (field_index k)
    (field_at e way.shape (field_index k)))
row_event e a t k (LoadOwner word) w = if takes_field k then None else Some (events.Finish t)
row_event e a t k (Store store) w = store_event e a t k store w
row_event e a t k StoreConstant w =
    Some (events.StoreConstant t (to_register k) (constant_set k))
row_event e a t k IdleLook w = Some (events.Finish t)
row_event e a t k _ w = None

-- the state after an event, if there is one
abbrev pub after_event : Extent → GraphState → Option Event → GraphState
after_event e s None = s
after_event e s (Some event) = apply e.width s event

-- a is the name of the object in which a row loads or stores a field
abbrev pub InHandAt : GraphState → Name → ℕ → Command → FieldRow → Type 0
InHandAt s a t k (LoadField way) = register_of s.graph t (from_register k) ≡ values.Ref a
InHandAt s a t k (Store (InField way word)) =
    register_of s.graph t (from_register k) ≡ values.Ref a
InHandAt s a t k (Store (Exchanged way word)) =
    register_of s.graph t (from_register k) ≡ values.Ref a
InHandAt s a t k (Store (Compared way word)) =
    register_of s.graph t (from_register k) ≡ values.Ref a
InHandAt s a t k _ = Unit {0}

-- the words and loads of a state are those of a heap and of a row of this pass, which reads w there
pub record IsAt (e : Extent) (s : GraphState) (h : Heap) (p : Pass) (k : Command) (row : FieldRow)
    (w : ℕ) : Type 0 where
  pub words : s.words ≡ block_words h
  pub loads : s.loads p.thread ≡ row_loading e k row
  pub reads : w ≡ h (place_of (row_want e p k row))

-- the same of the state of a part
abbrev pub loading_of : Extent → FieldState → Loading
loading_of e f = row_loading e f.command f.row

abbrev pub event_of : Extent → Name → FieldState → ℕ → Option Event
event_of e a f w = row_event e a f.pass.thread f.command f.row w

abbrev pub IsInHand : GraphState → Name → FieldState → Type 0
IsInHand s a f = InHandAt s a f.pass.thread f.command f.row

abbrev pub IsAtRow : Extent → GraphState → Heap → FieldState → ℕ → Type 0
IsAtRow e s h f w = IsAt e s h f.pass f.command f.row w
