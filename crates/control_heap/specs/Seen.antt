-- What registers and fields hold, with the blocks where objects lie.
use Rattle.std.specs.Prelude.{ℕ, zero, suc, ◌<◌, ◌^◌, ◌≡◌, ◌++◌, ◌∷◌, [], true, List, map}
use Rattle.std.specs.List.{AllByRecursion}
use Rattle.block_store.specs.declared.Shape.{Shape}
use Rattle.block_store.specs.declared.Value.{Value}
use Rattle.block_store.specs.declared.Value.TheVariants.{Nil, Int, Ref}
use Rattle.block_store.specs.Heaps.{Heap}
use Rattle.block_store.specs.Places.{Extent}
use Rattle.never_heap.specs.Graphs.{Object, ObjectKind, Record, Array}
use Rattle.block_store.specs.declared.Shape.TheVariants.{List as Listed, Tree}
use Rattle.heap_system.specs.Machines.{Run}
use Rattle.control_heap.specs.Readings.{block_read, field_read, value_read}
use Rattle.control_heap.specs.declared.control.seen.Seen.{Seen}

-- A number is below 2^62. In this run the object of a reference lies in this block and those to
-- which that leads.
abbrev pub IsSeenAt : Run → Value → ℕ → Type 0
IsSeenAt r Nil x = Unit {0}
IsSeenAt r (Int n) x = n < 2 ^ 62
IsSeenAt r (Ref a) x = (r.names.kept a ≡ true) × (x ≡ r.names.at a 0)

abbrev pub IsSeen : Run → Seen → Type 0
IsSeen r s = IsSeenAt r s.value s.block

abbrev pub value_seen : Seen → Value
value_seen s = s.value

-- all fields of an object as they are seen
pub record HasSeen (r : Run) (o : Object) (fields : List Seen) : Type 0 where
  pub values : map value_seen fields ≡ o.fields
  pub seen : AllByRecursion (IsSeen r) fields

-- a word of the heap as it is seen
abbrev pub word_seen : Heap → ℕ → Seen
word_seen h word = record { value = value_read h word; block = block_read word }

-- the first n fields of the object whose first block is x
abbrev pub fields_seen : Extent → Heap → Shape → ℕ → ℕ → List Seen
fields_seen e h s x zero = []
fields_seen e h s x (suc n) =
    fields_seen e h s x n ++ word_seen h (field_read e h s n x) ∷ []

-- what an object of this shape is
abbrev pub kind_seen : Shape → ObjectKind
kind_seen (Listed n) = Record
kind_seen (Tree n) = Array
