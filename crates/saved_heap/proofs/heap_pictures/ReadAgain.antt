-- What was written is read again.
use Rattle.std.proofs.Common.{◌≡◌, ℕ, suc, ◌+◌, ◌^◌, ◌<◌, ◌≤◌, Bool, true, false, cond, eqb, leb, ltb, List, [], ◌∷◌, ◌++◌, length, take, drop, Result, Ok, Err, refl, sym, ap, ◌∙◌, append_assoc, arith}
use Rattle.std.specs.List.{flat_map, list_all}
use Rattle.std.specs.Int.{w64, from_be_bytes}
use Rattle.std.specs.Str.{bytes_eq}
use Rattle.std.proofs.lemmas.Bool.{and_parts, eq-eqb, le-ltb, leb-true, ltb-true}
use Rattle.std.proofs.lemmas.List.{append-nil, drop_at, length-append, take_at}
use Rattle.std.proofs.lemmas.List.Concat.{flat_map-cons}
use Rattle.std.proofs.lemmas.Nat.{from_be_bytes-to_be_bytes_8}
use Rattle.std.proofs.lemmas.Slice.Eq.{bytes_eq-Decides}
use Rattle.block_store.specs.declared.Name.{Name}
use Rattle.block_store.specs.declared.Value.{Value}
use Rattle.block_store.specs.declared.Value.TheVariants.{Nil, Int, Ref}
use Rattle.never_heap.specs.Graphs.{Object, ObjectKind, Record, Array}
use Rattle.sha2.specs.Sha256.{sha256}
use Rattle.sha2.proofs.Facts256.{length-sha256}
use Rattle.std.specs.Prelude.{IfOk}
use Rattle.saved_heap.specs.declared.heap_pictures.faults.ReadError.{ReadError}
use Rattle.saved_heap.specs.declared.heap_pictures.faults.SaveFault.{SaveFault}
use Rattle.saved_heap.specs.declared.heap_pictures.picture.Picture.{Picture}
use Rattle.saved_heap.specs.declared.heap_pictures.faults.SaveFault.TheVariants.{Version, Torn, Checksum, Malformed}
use Rattle.saved_heap.specs.heap_pictures.Pictures.{Content, are_within, content_of, is_item, is_sound, is_within}
use Rattle.saved_heap.specs.heap_pictures.Reading.{◌>>=◌, Gives, behind_digest, behind_length, behind_magic, behind_version, body_at, body_behind, is_long, item_read, items_at, kind_at, number_at, picture_at, some_values_at, sound_only, value_at, values_at}
use Rattle.saved_heap.specs.heap_pictures.Spelling.{body, item_bytes, kind_byte, magic, number, saved, value_bytes, values_bytes, with_header}
use Rattle.saved_heap.proofs.heap_pictures.Building.{named_parts, sound_is}

-- ---- the body

number_front : (short : SaveFault) (front rest : List ℕ) (n : ℕ) → length front ≡ 8 → from_be_bytes w64 front ≡ n → number_at short (front ++ rest) ≡ Ok (n, rest)
number_front short front rest n long is =
    let all = length-append front rest in
    let test : ltb (length (front ++ rest)) 8 ≡ false = le-ltb (length (front ++ rest)) 8 (omega (arith, all, long)) in
    ap (λ b. cond b (Err short) (Ok (from_be_bytes w64 (take 8 (front ++ rest)), drop 8 (front ++ rest)))) test
    ∙ (λ i. Ok (from_be_bytes w64 (take_at front rest 8 long i), drop_at front rest 8 long i))
    ∙ ap (λ m. Ok (m, rest)) is

number_again : (short : SaveFault) (n : ℕ) (rest : List ℕ) → n < 2 ^ 64 → number_at short (number n ++ rest) ≡ Ok (n, rest)
number_again short n rest low = number_front short (number n) rest n refl (from_be_bytes-to_be_bytes_8 n low)

reference_is : (a : Name) → a.thread ≡ 0 → Ref (record { thread = 0; serial = a.serial }) ≡ Ref a
reference_is a zero_is = ap (λ t. Ref (record { thread = t; serial = a.serial })) (sym zero_is)

value_again : (n : ℕ) (v : Value) (rest : List ℕ) → n < 2 ^ 64 → is_within n v ≡ true → value_at (value_bytes v ++ rest) ≡ Ok (v, rest)
unfolding value_at
value_again n Nil rest few within = refl
value_again n (Int k) rest few within =
    let low = ltb-true k (2 ^ 62) within in
    ap (λ r. r >>= λ x. Ok (Int x.0, x.1)) (number_again Malformed k rest (omega (arith, low)))
value_again n (Ref a) rest few within =
    let parts = named_parts n a within in
    ap (λ r. r >>= λ x. Ok (Ref (record { thread = 0; serial = x.0 }), x.1)) (number_again Malformed a.serial rest (omega (arith, parts.2, few)))
    ∙ ap (λ v. Ok (v, rest)) (reference_is a parts.0)

flat_again : {A : Type 0} (f : A → List ℕ) (x : A) (xs : List A) (rest : List ℕ) → flat_map f (x ∷ xs) ++ rest ≡ f x ++ (flat_map f xs ++ rest)
flat_again f x xs rest = ap (λ l. l ++ rest) (flat_map-cons f x xs) ∙ append_assoc (f x) (flat_map f xs) rest

some_values_again : (n : ℕ) (vs : List Value) (rest : List ℕ) → n < 2 ^ 64 → are_within n vs ≡ true → some_values_at (length vs) (flat_map value_bytes vs ++ rest) ≡ Ok (vs, rest)
unfolding some_values_at
some_values_again n [] rest few within = refl
some_values_again n (v ∷ vs) rest few within =
    let parts = and_parts (is_within n v) (are_within n vs) within in
    ap (some_values_at (suc (length vs))) (flat_again value_bytes v vs rest)
    ∙ ap (λ r. r >>= λ first. some_values_at (length vs) first.1 >>= λ others. Ok (first.0 ∷ others.0, others.1)) (value_again n v (flat_map value_bytes vs ++ rest) few parts.0)
    ∙ ap (λ r. r >>= λ others. Ok (v ∷ others.0, others.1)) (some_values_again n vs rest few parts.1)

values_again : (n : ℕ) (vs : List Value) (rest : List ℕ) → n < 2 ^ 64 → length vs < 2 ^ 64 → are_within n vs ≡ true → values_at (values_bytes vs ++ rest) ≡ Ok (vs, rest)
unfolding values_at
values_again n vs rest few short within =
    ap values_at (append_assoc (number (length vs)) (flat_map value_bytes vs) rest)
    ∙ ap (λ r. r >>= λ x. some_values_at x.0 x.1) (number_again Malformed (length vs) (flat_map value_bytes vs ++ rest) short)
    ∙ some_values_again n vs rest few within

kind_again : (k : ObjectKind) (rest : List ℕ) → kind_at (kind_byte k ∷ rest) ≡ Ok (k, rest)
unfolding kind_at
kind_again Record rest = refl
kind_again Array rest = refl

item_again : (n : ℕ) (o : Object) (rest : List ℕ) → n < 2 ^ 64 → is_item n o ≡ true → item_read (item_bytes o ++ rest) ≡ Ok (o, rest)
unfolding item_read
item_again n o rest few is =
    let parts = and_parts (leb (length o.fields) 65535) (are_within n o.fields) is in
    let short = leb-true (length o.fields) 65535 parts.0 in
    ap (λ r. r >>= λ kind. values_at kind.1 >>= λ fields. Ok (record { kind = kind.0; fields = fields.0 }, fields.1)) (kind_again o.kind (values_bytes o.fields ++ rest))
    ∙ ap (λ r. r >>= λ fields. Ok (record { kind = o.kind; fields = fields.0 }, fields.1)) (values_again n o.fields rest few (omega (arith, short)) parts.1)

items_again : (n : ℕ) (os : List Object) (rest : List ℕ) → n < 2 ^ 64 → list_all (is_item n) os ≡ true → items_at (length os) (flat_map item_bytes os ++ rest) ≡ Ok (os, rest)
unfolding items_at
items_again n [] rest few all = refl
items_again n (o ∷ os) rest few all =
    let parts = and_parts (is_item n o) (list_all (is_item n) os) all in
    ap (items_at (suc (length os))) (flat_again item_bytes o os rest)
    ∙ ap (λ r. r >>= λ first. items_at (length os) first.1 >>= λ others. Ok (first.0 ∷ others.0, others.1)) (item_again n o (flat_map item_bytes os ++ rest) few parts.0)
    ∙ ap (λ r. r >>= λ others. Ok (o ∷ others.0, others.1)) (items_again n os rest few parts.1)

body_again : (p : Content) → is_sound p ≡ true → length p.objects < 2 ^ 64 → body_at (body p) ≡ Ok p
unfolding body_at
body_again p sound few =
    let s = sound_is p sound in
    let n = length p.objects in
    let items = flat_map item_bytes p.objects in
    let whole : items_at n items ≡ Ok (p.objects, []) = ap (items_at n) (sym (append-nil items)) ∙ items_again n p.objects [] few s.objects in
    let long = s.sixteen in
    ap body_at (append_assoc (values_bytes p.registers) (number n) items)
    ∙ ap (λ r. r >>= λ rs. number_at Malformed rs.1 >>= λ x. items_at x.0 x.1 >>= λ os. sound_only (record { registers = rs.0; objects = os.0 }) os.1)
    (values_again n p.registers (number n ++ items) few (omega (arith, long)) s.registers)
    ∙ ap (λ r. r >>= λ x. items_at x.0 x.1 >>= λ os. sound_only (record { registers = p.registers; objects = os.0 }) os.1) (number_again Malformed n items few)
    ∙ ap (λ r. r >>= λ os. sound_only (record { registers = p.registers; objects = os.0 }) os.1) whole
    ∙ ap (λ b. cond b (Ok p) (Err Malformed)) sound

-- ---- the header

magic_again : (rest : List ℕ) → behind_magic (magic ++ rest) ≡ Ok rest
magic_again rest = refl

version_again : (rest : List ℕ) → behind_version (number 1 ++ rest) ≡ Ok rest
version_again rest = ap (λ r. r >>= λ n. cond (eqb n.0 1) (Ok n.1) (Err (Version n.0))) (number_again Torn 1 rest (omega arith))

length_again : (n : ℕ) (rest : List ℕ) → n < 2 ^ 64 → length rest ≡ 32 + n → behind_length (number n ++ rest) ≡ Ok rest
length_again n rest low long =
    ap (λ r. r >>= λ x. cond (is_long x.0 x.1) (Ok x.1) (Err Torn)) (number_again Torn n rest low)
    ∙ ap (λ b. cond b (Ok rest) (Err Torn)) (eq-eqb (length rest) (32 + n) long)

digest_again : (b : List ℕ) → behind_digest (sha256 b ++ b) ≡ Ok b
digest_again b =
    let front = take_at (sha256 b) b 32 (length-sha256 b) in
    let back = drop_at (sha256 b) b 32 (length-sha256 b) in
    ap (λ f. cond (bytes_eq (sha256 (drop 32 (sha256 b ++ b))) f) (Ok (drop 32 (sha256 b ++ b))) (Err Checksum)) front
    ∙ ap (λ d. cond (bytes_eq (sha256 d) (sha256 b)) (Ok d) (Err Checksum)) back
    ∙ ap (λ t. cond t (Ok b) (Err Checksum)) ((bytes_eq-Decides (sha256 b) (sha256 b)).1 refl)

header_again : (b : List ℕ) → length b < 2 ^ 64 → body_behind (with_header b) ≡ Ok b
unfolding body_behind
header_again b short =
    let digest = sha256 b ++ b in
    let tail = number (length b) ++ digest in
    let long : length digest ≡ 32 + length b = (let all = length-append (sha256 b) b in let first = length-sha256 b in omega (arith, all, first)) in
    let regrouped : with_header b ≡ magic ++ (number 1 ++ tail) =
    append_assoc (magic ++ number 1 ++ number (length b)) (sha256 b) b
    ∙ append_assoc (magic ++ number 1) (number (length b)) digest
    ∙ append_assoc magic (number 1) tail in
    ap body_behind regrouped
    ∙ ap (λ r. r >>= λ v. behind_length v >>= λ l. behind_digest l) (version_again tail)
    ∙ ap (λ r. r >>= λ l. behind_digest l) (length_again (length b) digest short long)
    ∙ digest_again b

-- each object takes a byte at least
many_bytes : (os : List Object) → length os ≤ length (flat_map item_bytes os)
many_bytes [] = omega arith
many_bytes (o ∷ os) =
    let rest = many_bytes os in
    let both = length-append (item_bytes o) (flat_map item_bytes os) in
    let e : length (flat_map item_bytes (o ∷ os)) ≡ length (item_bytes o ++ flat_map item_bytes os) = ap length (flat_map-cons item_bytes o os) in
    let one : length (item_bytes o) ≡ suc (length (values_bytes o.fields)) = refl in
    omega (arith, rest, both, e, one)

few_objects : (p : Content) → length p.objects ≤ length (body p)
few_objects p =
    let many = many_bytes p.objects in
    let all = length-append (values_bytes p.registers ++ number (length p.objects)) (flat_map item_bytes p.objects) in
    omega (arith, many, all)

pub saved_again : (p : Content) → is_sound p ≡ true → length (saved p) < 2 ^ 64 → picture_at (saved p) ≡ Ok p
unfolding picture_at
saved_again p sound short =
    let b = body p in
    let long = length-append (magic ++ number 1 ++ number (length b) ++ sha256 b) b in
    let few = few_objects p in
    ap (λ r. r >>= λ x. body_at x) (header_again b (omega (arith, short, long)))
    ∙ body_again p sound (omega (arith, short, long, few))

-- ---- what is read is sound

abbrev done : {A : Type 0} → A → Result A SaveFault
done x = Ok x

ok_is : {A : Type 0} (x y : A) → done x ≡ done y → x ≡ y
ok_is x y e = cc

-- the value of a step that did not fail
bind_ok : {A B : Type 0} (r : Result A SaveFault) (f : A → Result B SaveFault) (y : B) → (r >>= f) ≡ Ok y → (x : A) × (f x ≡ Ok y)
bind_ok (Ok x) f y e = (x, e)
bind_ok (Err d) f y e = absurd cc

chosen : (q p : Content) (b s : Bool) → is_sound q ≡ s → cond b (cond s (Ok q) (Err Malformed)) (Err Malformed) ≡ Ok p → is_sound p ≡ true
chosen q p true true is e = ap is_sound (sym (ok_is q p e)) ∙ is
chosen q p true false is e = absurd cc
chosen q p false s is e = absurd cc

body_sound : (bytes : List ℕ) (p : Content) → body_at bytes ≡ Ok p → is_sound p ≡ true
unfolding body_at
body_sound bytes p e =
    let a = bind_ok (values_at bytes) (λ rs. number_at Malformed rs.1 >>= λ x. items_at x.0 x.1 >>= λ os. sound_only (record { registers = rs.0; objects = os.0 }) os.1) p e in
    let b = bind_ok (number_at Malformed a.0.1) (λ x. items_at x.0 x.1 >>= λ os. sound_only (record { registers = a.0.0; objects = os.0 }) os.1) p a.1 in
    let c = bind_ok (items_at b.0.0 b.0.1) (λ os. sound_only (record { registers = a.0.0; objects = os.0 }) os.1) p b.1 in
    let q : Content = record { registers = a.0.0; objects = c.0.0 } in
    chosen q p (eqb (length c.0.1) 0) (is_sound q) refl c.1

pub picture_sound : (bytes : List ℕ) (p : Content) → picture_at bytes ≡ Ok p → is_sound p ≡ true
unfolding picture_at
picture_sound bytes p e =
    let b = bind_ok (body_behind bytes) (λ x. body_at x) p e in
    body_sound b.0 p b.1

pub reads_sound : (bytes : List ℕ) (r : Result Picture ReadError) → Gives content_of r (picture_at bytes) → IfOk r (λ p. is_sound (content_of p) ≡ true)
reads_sound bytes (Ok p) gives = picture_sound bytes (content_of p) gives
reads_sound bytes (Err e) gives = tt

-- ---- a digest that is right, and one that is wrong

pub digest_ok : (bytes front back : List ℕ) (t : Bool) → front ≡ take 32 bytes → back ≡ drop 32 bytes → t ≡ bytes_eq (sha256 back) front → t ≡ true → behind_digest bytes ≡ Ok back
digest_ok bytes front back t f b is right =
    ap (λ x. cond x (Ok (drop 32 bytes)) (Err Checksum)) ((λ i. bytes_eq (sha256 (sym b i)) (sym f i)) ∙ sym is ∙ right)
    ∙ ap done (sym b)

pub digest_bad : (bytes front back : List ℕ) (t : Bool) → front ≡ take 32 bytes → back ≡ drop 32 bytes → t ≡ bytes_eq (sha256 back) front → t ≡ false → behind_digest bytes ≡ Err Checksum
digest_bad bytes front back t f b is wrong =
    ap (λ x. cond x (Ok (drop 32 bytes)) (Err Checksum)) ((λ i. bytes_eq (sha256 (sym b i)) (sym f i)) ∙ sym is ∙ wrong)
