-- What the registers of a heap reach, as a value; and the graph that it shows.
use Rattle.std.specs.Prelude.{ℕ, ◌^◌, ◌==◌, ◌&&◌, nat_lt, nat_le, Bool, true, List, [], ◌∷◌, map, length}
use Rattle.std.specs.List.{list_all}
use Rattle.block_store.specs.declared.TheConstants.{REGISTERS}
use Rattle.block_store.specs.declared.Value.{Value}
use Rattle.block_store.specs.declared.Value.TheVariants.{Nil, Int, Ref}
use Rattle.never_heap.specs.Graphs.{Graph, Object, ObjectKind, Record, Array, nil_object}
use Rattle.saved_heap.specs.declared.heap_pictures.picture.Item.{Item}
use Rattle.saved_heap.specs.declared.heap_pictures.picture.Kind.{Kind}
use Rattle.saved_heap.specs.declared.heap_pictures.picture.Kind.TheVariants as kinds
use Rattle.saved_heap.specs.declared.heap_pictures.picture.Picture.{Picture}

pub record Content : Type 0 where
  pub registers : List Value
  pub objects : List Object

abbrev pub kind_of : Kind → ObjectKind
kind_of kinds.Record = Record
kind_of kinds.Array = Array

abbrev pub view : Item → Object
view o = record { kind = kind_of o.kind; fields = o.fields.items }

-- what a picture of the program has
abbrev pub content_of : Picture → Content
content_of p = record { registers = p.registers.items; objects = map view p.objects.items }

-- a graph of one thread with these registers, this shared array and these objects
abbrev pub lone_graph : List Value → Object → List Object → Graph
lone_graph registers shared objects =
    record { shared = shared; mutators = record { registers = registers; objects = objects } ∷ [] }

-- The graph that a picture shows. No register reaches its shared array, which is empty.
abbrev pub graph_of : Content → Graph
graph_of p = lone_graph p.registers (nil_object Array 0) p.objects

-- whether a value is nil, a number below 2^62, or the name of one of n objects
abbrev pub is_within : ℕ → Value → Bool
is_within n Nil = true
is_within n (Int v) = nat_lt v (2 ^ 62)
is_within n (Ref a) = (a.thread == 0) && nat_le 1 a.serial && nat_le a.serial n

abbrev pub are_within : ℕ → List Value → Bool
are_within n vs = list_all (is_within n) vs

-- and an object is at most 65,535 long
abbrev pub is_item : ℕ → Object → Bool
is_item n o = nat_le (length o.fields) 65535 && are_within n o.fields

-- the picture of a heap: sixteen registers, and references are the names of objects
abbrev pub is_sound : Content → Bool
is_sound p =
    (length p.registers == REGISTERS) && are_within (length p.objects) p.registers
    && list_all (is_item (length p.objects)) p.objects
