-- Reading the bytes of a picture from left to right, with the first fault that is met.
use Rattle.std.specs.Prelude.{◌≡◌, ℕ, zero, suc, ◌+◌, List, [], ◌∷◌, length, take, drop, Result, Ok, Err, nat_lt, ◌==◌, Bool, if◌then◌else◌}
use Rattle.std.specs.Int.{w64, from_be_bytes}
use Rattle.std.specs.Str.{bytes_eq}
use Rattle.block_store.specs.declared.Value.{Value}
use Rattle.block_store.specs.declared.Value.TheVariants.{Nil, Int, Ref}
use Rattle.never_heap.specs.Graphs.{Object, ObjectKind, Record, Array}
use Rattle.sha2.specs.Sha256.{sha256}
use Rattle.saved_heap.specs.declared.heap_pictures.faults.SaveFault.{SaveFault}
use Rattle.saved_heap.specs.declared.heap_pictures.faults.SaveFault.TheVariants.{NotASave, Version, Torn, Checksum, Malformed}
use Rattle.saved_heap.specs.declared.heap_pictures.faults.ReadError.{ReadError}
use Rattle.saved_heap.specs.declared.heap_pictures.faults.ReadError.TheVariants as errors
use Rattle.saved_heap.specs.heap_pictures.Pictures.{Content, is_sound}
use Rattle.saved_heap.specs.heap_pictures.Spelling.{magic}

infixl 10 ◌>>=◌
abbrev pub ◌>>=◌ : {A B : Type 0} → Result A SaveFault → (A → Result B SaveFault) → Result B SaveFault
(Ok x) >>= f = f x
(Err e) >>= f = Err e

-- What a function returned, seen by view, is what reading gives, unless memory ran out.
abbrev pub Fails : {Y : Type 0} → ReadError → Result Y SaveFault → Type 0
Fails errors.Memory read = Unit {0}
Fails (errors.Fault f) read = read ≡ Err f

abbrev pub Gives : {X Y : Type 0} → (X → Y) → Result X ReadError → Result Y SaveFault → Type 0
Gives view (Ok x) read = read ≡ Ok (view x)
Gives view (Err e) read = Fails e read

-- A field is a value and the bytes after it; where there are too few bytes, this fault.
abbrev pub number_at : SaveFault → List ℕ → Result (ℕ × List ℕ) SaveFault
number_at short bytes =
    if nat_lt (length bytes) 8 then Err short
    else Ok (from_be_bytes w64 (take 8 bytes), drop 8 bytes)

unfoldable pub value_at : List ℕ → Result (Value × List ℕ) SaveFault
value_at [] = Err Malformed
value_at (zero ∷ rest) = Ok (Nil, rest)
value_at (suc zero ∷ rest) = do
  n ← number_at Malformed rest
  Ok (Int n.0, n.1)
value_at (suc (suc zero) ∷ rest) = do
  n ← number_at Malformed rest
  Ok (Ref (record { thread = 0; serial = n.0 }), n.1)
value_at (suc (suc (suc b)) ∷ rest) = Err Malformed

unfoldable pub some_values_at : ℕ → List ℕ → Result (List Value × List ℕ) SaveFault
some_values_at zero bytes = Ok ([], bytes)
some_values_at (suc n) bytes = do
  first ← value_at bytes
  others ← some_values_at n first.1
  Ok (first.0 ∷ others.0, others.1)

unfoldable pub values_at : List ℕ → Result (List Value × List ℕ) SaveFault
values_at bytes = do
  n ← number_at Malformed bytes
  some_values_at n.0 n.1

unfoldable pub kind_at : List ℕ → Result (ObjectKind × List ℕ) SaveFault
kind_at [] = Err Malformed
kind_at (zero ∷ rest) = Ok (Record, rest)
kind_at (suc zero ∷ rest) = Ok (Array, rest)
kind_at (suc (suc b) ∷ rest) = Err Malformed

unfoldable pub item_read : List ℕ → Result (Object × List ℕ) SaveFault
item_read bytes = do
  kind ← kind_at bytes
  fields ← values_at kind.1
  Ok (record { kind = kind.0; fields = fields.0 }, fields.1)

unfoldable pub items_at : ℕ → List ℕ → Result (List Object × List ℕ) SaveFault
items_at zero bytes = Ok ([], bytes)
items_at (suc n) bytes = do
  first ← item_read bytes
  others ← items_at n first.1
  Ok (first.0 ∷ others.0, others.1)

-- all of the bytes, which are the picture of a heap
abbrev pub sound_only : Content → List ℕ → Result Content SaveFault
sound_only p rest =
    if length rest == 0 then (if is_sound p then Ok p else Err Malformed) else Err Malformed

unfoldable pub body_at : List ℕ → Result Content SaveFault
body_at bytes = do
  registers ← values_at bytes
  n ← number_at Malformed registers.1
  objects ← items_at n.0 n.1
  sound_only (record { registers = registers.0; objects = objects.0 }) objects.1

-- the bytes after the first eight, which are those of a saved heap
abbrev pub behind_magic : List ℕ → Result (List ℕ) SaveFault
behind_magic bytes =
    if bytes_eq (take 8 bytes) magic then Ok (drop 8 bytes) else Err NotASave

abbrev pub behind_version : List ℕ → Result (List ℕ) SaveFault
behind_version bytes = number_at Torn bytes >>= λ n.
    if n.0 == 1 then Ok n.1 else Err (Version n.0)

-- a digest of 32 bytes and a body of this length
abbrev pub is_long : ℕ → List ℕ → Bool
is_long n bytes = length bytes == 32 + n

abbrev pub behind_length : List ℕ → Result (List ℕ) SaveFault
behind_length bytes = number_at Torn bytes >>= λ n.
    if is_long n.0 n.1 then Ok n.1 else Err Torn

abbrev pub behind_digest : List ℕ → Result (List ℕ) SaveFault
behind_digest bytes =
    if bytes_eq (sha256 (drop 32 bytes)) (take 32 bytes) then Ok (drop 32 bytes)
    else Err Checksum

unfoldable pub body_behind : List ℕ → Result (List ℕ) SaveFault
body_behind bytes = do
  a ← behind_magic bytes
  b ← behind_version a
  c ← behind_length b
  behind_digest c

unfoldable pub picture_at : List ℕ → Result Content SaveFault
picture_at bytes = do
  b ← body_behind bytes
  body_at b
