-- The object graph of a heap that never frees.
use Rattle.std.specs.Prelude.{ℕ, ◌≡◌, ◌+◌, ◌-◌, ◌==◌, ◌&&◌, nat_le, Bool, Option, Some, None, if◌then◌else◌, List, [], ◌∷◌, ◌++◌, length, replicate, slice_set, slice_index_or}
use Rattle.block_store.specs.declared.Config.{Config}
use Rattle.block_store.specs.declared.TheConstants.{REGISTERS}
use Rattle.block_store.specs.declared.Width.{Width}
use Rattle.block_store.specs.declared.Name.{Name}
use Rattle.block_store.specs.declared.Value.{Value}
use Rattle.block_store.specs.declared.Value.TheVariants.{Nil, Ref}

pub data ObjectKind : Type 0 where
  Record : ObjectKind
  Array : ObjectKind

-- an object: what it is, and the values of its fields or elements
pub record Object : Type 0 where
  pub kind : ObjectKind
  pub fields : List Value

-- what a thread has: its registers, and the objects that it allocated, the s-th at place s - 1
pub record Mutator : Type 0 where
  pub registers : List Value
  pub objects : List Object

-- The array that all threads share, and the threads. Names are dense, so an object is where its
-- name says.
pub record Graph : Type 0 where
  pub shared : Object
  pub mutators : List Mutator

-- a graph whose objects lie in blocks of this width
pub record WideGraph : Type 0 where
  pub width : Width
  pub graph : Graph

abbrev pub with_graph : WideGraph → Graph → WideGraph
with_graph w g = record w { graph = g }

abbrev pub no_object : Object
no_object = record { kind = Record; fields = [] }

abbrev pub no_mutator : Mutator
no_mutator = record { registers = []; objects = [] }

-- the name of the shared array of n threads
abbrev pub shared_name : ℕ → Name
shared_name n = record { thread = n; serial = 0 }

abbrev pub nils : ℕ → List Value
nils n = replicate n Nil

-- a new object: nothing but nils
abbrev pub nil_object : ObjectKind → ℕ → Object
nil_object kind n = record { kind = kind; fields = nils n }

-- a thread before its first command: register 0 refers to the shared array, and the others are nil
abbrev pub start_mutator : ℕ → Mutator
start_mutator n = record { registers = Ref (shared_name n) ∷ nils (REGISTERS - 1); objects = [] }

-- the opening graph: one object, the shared array, of nils
abbrev pub start_graph : Config → Graph
start_graph c = record {
  shared = nil_object Array c.shared;
  mutators = replicate c.threads (start_mutator c.threads);
}

abbrev pub mutator_at : Graph → ℕ → Mutator
mutator_at g t = slice_index_or g.mutators t no_mutator

-- how many objects thread t has allocated
abbrev pub count_of : Graph → ℕ → ℕ
count_of g t = length (mutator_at g t).objects

abbrev pub register_of : Graph → ℕ → ℕ → Value
register_of g t r = slice_index_or (mutator_at g t).registers r Nil

-- the object of a serial of a thread, counted from 1
abbrev pub object_at : Mutator → ℕ → Object
object_at m serial = slice_index_or m.objects (serial - 1) no_object

-- the object of a name; an empty record where the graph has no such name
abbrev pub object_of : Graph → Name → Object
object_of g name =
    if name.serial == 0
    then (if name.thread == length g.mutators then g.shared else no_object)
    else object_at (mutator_at g name.thread) name.serial

-- whether the graph has an object of this name
abbrev pub has_name : Graph → Name → Bool
has_name g name =
    if name.serial == 0
    then name.thread == length g.mutators
    else nat_le name.serial (count_of g name.thread)

-- whether two names are one
abbrev pub same_name : Name → Name → Bool
same_name a b = (a.thread == b.thread) && (a.serial == b.serial)

-- the object of a name, and its fields, where there is one
abbrev pub object_named : Graph → Name → Option Object
object_named g name = if has_name g name then Some (object_of g name) else None

abbrev pub fields_named : Graph → Name → Option (List Value)
fields_named g name = if has_name g name then Some (object_of g name).fields else None

abbrev pub field_of : Object → ℕ → Value
field_of o i = slice_index_or o.fields i Nil

-- thread t with this state
abbrev pub with_mutator : Graph → ℕ → Mutator → Graph
with_mutator g t m = record { shared = g.shared; mutators = slice_set g.mutators t m }

-- register r of thread t holds v
abbrev pub with_register : Graph → ℕ → ℕ → Value → Graph
with_register g t r v =
    let m = mutator_at g t in
    with_mutator g t (record { registers = slice_set m.registers r v; objects = m.objects })

-- field i of an object holds v
abbrev pub set_field : Object → ℕ → Value → Object
set_field o i v = record { kind = o.kind; fields = slice_set o.fields i v }

-- field i of the object of this name holds v
abbrev pub with_field : Graph → Name → ℕ → Value → Graph
with_field g name i v =
    if name.serial == 0
    then (if name.thread == length g.mutators
    then record { shared = set_field g.shared i v; mutators = g.mutators } else g)
    else (let m = mutator_at g name.thread in
    with_mutator g name.thread (record {
      registers = m.registers;
      objects = slice_set m.objects (name.serial - 1) (set_field (object_of g name) i v);
    }))

-- thread t has one more object
abbrev pub with_object : Graph → ℕ → Object → Graph
with_object g t o =
    let m = mutator_at g t in
    with_mutator g t (record { registers = m.registers; objects = m.objects ++ o ∷ [] })

-- the name that thread t's next allocation makes
abbrev pub next_name : Graph → ℕ → Name
next_name g t = record { thread = t; serial = count_of g t + 1 }

-- an object has the kind and the length of another
pub record SameShape (o p : Object) : Type 0 where
  pub kind : p.kind ≡ o.kind
  pub size : length p.fields ≡ length o.fields
