-- The bytes of a picture.
use Rattle.std.specs.Prelude.{ℕ, List, [], ◌∷◌, ◌++◌, length}
use Rattle.std.specs.List.{flat_map}
use Rattle.std.specs.Int.{w64, to_be_bytes}
use Rattle.block_store.specs.declared.Value.{Value}
use Rattle.block_store.specs.declared.Value.TheVariants.{Nil, Int, Ref}
use Rattle.never_heap.specs.Graphs.{Object, ObjectKind, Record, Array}
use Rattle.sha2.specs.Sha256.{sha256}
use Rattle.saved_heap.specs.heap_pictures.Pictures.{Content}

-- eight bytes, the high one first
abbrev pub number : ℕ → List ℕ
number n = to_be_bytes w64 n

-- nil, a number, or the number of an object
abbrev pub value_bytes : Value → List ℕ
value_bytes Nil = 0 ∷ []
value_bytes (Int n) = 1 ∷ number n
value_bytes (Ref a) = 2 ∷ number a.serial

abbrev pub values_bytes : List Value → List ℕ
values_bytes vs = number (length vs) ++ flat_map value_bytes vs

abbrev pub kind_byte : ObjectKind → ℕ
kind_byte Record = 0
kind_byte Array = 1

abbrev pub item_bytes : Object → List ℕ
item_bytes o = kind_byte o.kind ∷ values_bytes o.fields

abbrev pub body : Content → List ℕ
body p = values_bytes p.registers ++ number (length p.objects) ++ flat_map item_bytes p.objects

-- "rtheap1" and a line feed
abbrev pub magic : List ℕ
magic = 114 ∷ 116 ∷ 104 ∷ 101 ∷ 97 ∷ 112 ∷ 49 ∷ 10 ∷ []

-- what they are, the version, the length of the body, its checksum, and the body
abbrev pub with_header : List ℕ → List ℕ
with_header b = magic ++ number 1 ++ number (length b) ++ sha256 b ++ b

abbrev pub saved : Content → List ℕ
saved p = with_header (body p)
