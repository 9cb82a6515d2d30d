-- A walk over the objects of a heap: what it has found, and the numbers that it gave.
use Rattle.std.specs.Prelude.{ℕ, suc, ◌<◌, ◌≤◌, ◌≡◌, ◌==◌, ◌&&◌, nat_lt, Bool, List, [], ◌∷◌, map, length, slice_index, slice_index_or}
use Rattle.std.specs.List.{AllByRecursion}
use Rattle.block_store.specs.declared.Name.{Name}
use Rattle.block_store.specs.declared.Value.{Value}
use Rattle.block_store.specs.declared.Value.TheVariants.{Nil, Int, Ref}
use Rattle.never_heap.specs.Graphs.{Object, object_of, register_of}
use Rattle.never_heap.specs.Histories.{replay}
use Rattle.heap_system.specs.Machines.{Run}
use Rattle.control_heap.specs.Images.{HasRun, Image}
use Rattle.control_heap.specs.Seen.{HasSeen, IsSeen, IsSeenAt, value_seen}
use Rattle.control_heap.specs.declared.control.seen.Seen.{Seen}
use Rattle.saved_heap.specs.SearchOrder.{AreInTurn, AreSearched, named_after}
use Rattle.saved_heap.specs.declared.walk.Found.{Found}

-- the references that were found, in their order; and of each block the number of its object,
-- from 1, or 0
pub record State : Type 0 where
  pub found : List Seen
  pub numbers : List ℕ

abbrev pub state_of : Found → State
state_of f = record { found = f.objects.items; numbers = f.numbers.items }

abbrev pub block_seen : Seen → ℕ
block_seen s = s.block

-- the number of the object in this block
abbrev pub number_at : State → ℕ → ℕ
number_at w x = slice_index w.numbers x

-- a value where a reference has the number of its object
abbrev pub numbered_at : State → Value → ℕ → Value
numbered_at w Nil x = Nil
numbered_at w (Int n) x = Int n
numbered_at w (Ref a) x = Ref (record { thread = 0; serial = number_at w x })

abbrev pub numbered : State → Seen → Value
numbered w s = numbered_at w s.value s.block

-- where it is a reference, its object has a number
abbrev pub HasNumberAt : State → Value → ℕ → Type 0
HasNumberAt w Nil x = Unit {0}
HasNumberAt w (Int n) x = Unit {0}
HasNumberAt w (Ref a) x = 0 < number_at w x

abbrev pub HasNumber : State → Seen → Type 0
HasNumber w s = HasNumberAt w s.value s.block

-- a reference
abbrev pub IsFound : Run → Seen → Type 0
IsFound r s = (a : Name) × (s.value ≡ Ref a) × IsSeenAt r (Ref a) s.block

-- The numbers are those of the places where references were found.
pub record IsWalk (r : Run) (w : State) : Type 0 where
  pub found : AllByRecursion (IsFound r) w.found
  pub numbers : (k : ℕ) (d : Seen) → k < length w.found
      → number_at w (block_seen (slice_index_or w.found k d)) ≡ suc k
  pub places : (x k : ℕ) (d : Seen) → number_at w x ≡ suc k
      → (k < length w.found) × (block_seen (slice_index_or w.found k d) ≡ x)

-- no number is higher than that of what was found last
abbrev pub AreLow : State → Type 0
AreLow w = (x : ℕ) → number_at w x ≤ length w.found

-- these values name the objects that were found, in turn
pub record HasNamed (w v : State) (ys : List Value) : Type 0 where
  pub low : AreLow v
  pub turn : AreInTurn (length w.found) ys
  pub named : named_after (length w.found) ys ≡ length v.found

-- what was found stays, and so do its numbers
pub record Grows (w v : State) : Type 0 where
  pub longer : length w.found ≤ length v.found
  pub found : (k : ℕ) (d : Seen) → k < length w.found
      → slice_index_or v.found k d ≡ slice_index_or w.found k d
  pub numbers : (x : ℕ) → 0 < number_at w x → number_at v x ≡ number_at w x

-- the object in the block of a reference has this number
pub record HasNoted (w v : State) (s : Seen) (n : ℕ) : Type 0 where
  pub some : 0 < n
  pub number : n ≡ number_at v s.block
  pub grows : Grows w v
  pub walk : (r : Run) → IsFound r s → IsWalk r w → IsWalk r v
  pub order : AreLow w → HasNamed w v (Ref (record { thread = 0; serial = n }) ∷ [])

-- a value became this one
pub record ReadsOne (w v : State) (s : Seen) (y : Value) : Type 0 where
  pub some : HasNumber v s
  pub value : y ≡ numbered v s
  pub grows : Grows w v
  pub walk : (r : Run) → IsSeen r s → IsWalk r w → IsWalk r v
  pub order : AreLow w → HasNamed w v (y ∷ [])

-- values became these
pub record Reads (w v : State) (xs : List Seen) (ys : List Value) : Type 0 where
  pub some : AllByRecursion (HasNumber v) xs
  pub values : ys ≡ map (numbered v) xs
  pub grows : Grows w v
  pub walk : (r : Run) → AllByRecursion (IsSeen r) xs → IsWalk r w → IsWalk r v
  pub order : AreLow w → HasNamed w v ys

-- in each run of an image these are the fields of the object of a reference, and so is the kind
abbrev pub AreFieldsOf : Image → Seen → Object → List Seen → Type 0
AreFieldsOf i s o xs =
    (r : Run) (a : Name) → HasRun i r → IsSeenAt r (Ref a) s.block
    → (o.kind ≡ (object_of (replay i.config r.order) a).kind)
    × HasSeen r (object_of (replay i.config r.order) a) xs

-- an object of a picture is the object of a reference
pub record IsItem (i : Image) (v : State) (s : Seen) (o : Object) : Type 0 where
  pub fields : List Seen
  pub few : length fields ≤ 65535
  pub some : AllByRecursion (HasNumber v) fields
  pub values : o.fields ≡ map (numbered v) fields
  pub seen : AreFieldsOf i s o fields

-- the object of a reference was read
pub record ReadsItem (i : Image) (w v : State) (s : Seen) (o : Object) : Type 0 where
  pub item : IsItem i v s o
  pub grows : Grows w v
  pub walk : (r : Run) → HasRun i r → IsFound r s → IsWalk r w → IsWalk r v
  pub order : AreLow w → HasNamed w v o.fields

-- the first objects that were found were read
pub record Walks (i : Image) (w v : State) (os : List Object) : Type 0 where
  pub few : length os ≤ length v.found
  pub items : (k : ℕ) (d : Seen) (e : Object) → k < length os
      → IsItem i v (slice_index_or v.found k d) (slice_index_or os k e)
  pub grows : Grows w v
  pub walk : (r : Run) → HasRun i r → IsWalk r w → IsWalk r v
  pub order : AreLow w → AreLow v × AreSearched 0 (length w.found) os (length v.found)

-- in each run these are what the registers hold
pub record AreRegisters (i : Image) (xs : List Seen) : Type 0 where
  pub sixteen : length xs ≡ 16
  pub values : (r : Run) (q : ℕ) (d : Seen) → HasRun i r → q < 16
      → value_seen (slice_index_or xs q d) ≡ register_of (replay i.config r.order) 0 q
  pub seen : (r : Run) → HasRun i r → AllByRecursion (IsSeen r) xs

-- nothing is found yet
pub record IsEmpty (w : State) : Type 0 where
  pub found : w.found ≡ []
  pub numbers : (x : ℕ) → number_at w x ≡ 0

-- The registers of an image became these values, and the first objects that were found became
-- these objects.
pub record HasRead (i : Image) (ys : List Value) (w : State) (os : List Object) : Type 0 where
  pub run : Run
  pub has_run : HasRun i run
  pub start : State
  pub empty : IsEmpty start
  pub first : State
  pub seen : List Seen
  pub registers : AreRegisters i seen
  pub read : Reads start first seen ys
  pub walked : Walks i first w os

-- where memory ran out, there are no registers
abbrev pub IsReading : Image → List Value → State → List Object → Type 0
IsReading i [] w os = Unit {0}
IsReading i (y ∷ ys) w os = HasRead i (y ∷ ys) w os

-- the image of a heap, how many objects are read, and whether these are all
pub record Progress : Type 0 where
  pub from : Image
  pub read : ℕ
  pub is_done : Bool

-- whether all is read, where there are so many registers, n objects were read and m were found
abbrev pub is_whole : ℕ → ℕ → ℕ → Bool
is_whole registers n m = nat_lt 0 registers && n == m
