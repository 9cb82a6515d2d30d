-- What is seen of registers and objects is what the graph has, and where its objects lie.
use Rattle.std.proofs.Common.{◌≡◌, ℕ, zero, suc, ◌<◌, ◌≤◌, true, List, ◌∷◌, ◌++◌, [], length, map, take, refl, sym, ap, ◌∙◌, subst, arith}
use Rattle.std.specs.List.{AllByRecursion}
use Rattle.std.proofs.Math.Seq.{take-length, take-suc}
use Rattle.std.proofs.lemmas.List.{map_push}
use Rattle.block_store.specs.declared.Name.{Name}
use Rattle.block_store.specs.declared.Shape.{Shape}
use Rattle.block_store.specs.declared.Value.{Value}
use Rattle.block_store.specs.declared.Value.TheVariants.{Nil, Int, Ref}
use Rattle.block_store.specs.declared.TheConstants.{REGISTERS}
use Rattle.block_store.specs.Heaps.{Heap, heap_of}
use Rattle.block_store.specs.declared.Payload.TheVariants as payload_words
use Rattle.block_store.proofs.Lemmas.{payload-code}
use Rattle.block_store.specs.Places.{PayloadOf, ShapeOf, OwnerOf, extent}
use Rattle.block_store.specs.Registers.{register_block, register_slot}
use Rattle.never_heap.specs.Graphs.{Graph, Object, ObjectKind, Record, Array, field_of, has_name, mutator_at, object_of, register_of}
use Rattle.never_heap.specs.Histories.{replay}
use Rattle.heap_invariant.specs.graph_relation.Layouts.{kind_shape}
use Rattle.heap_invariant.specs.graph_relation.GraphOfWords.{IsValueOf, heads}
use Rattle.heap_invariant.specs.graph_relation.Words.{block_words, value_word}
use Rattle.heap_invariant.proofs.Lemmas.{object_layout, owner_read}
use Rattle.barrier_steps.specs.Rows.{object_in, object_or_nil, shape_in}
use Rattle.barrier_steps.specs.Walks.{shape_length}
use Rattle.heap_system.specs.Machines.{Run}
use Rattle.control_heap.specs.Controls.{ControlOf, Stands}
use Rattle.control_heap.specs.Images.{HasRun, Image}
use Rattle.control_heap.specs.Readings.{block_read, field_read, payload_block, value_read}
use Rattle.control_heap.specs.Seen.{HasSeen, IsSeen, IsSeenAt, fields_seen, kind_seen, value_seen, word_seen}
use Rattle.control_heap.specs.declared.control.seen.Seen.{Seen}
use Rattle.control_heap.proofs.FieldsRead.{block_is, few_blocks, field_word_is, kept_value, long, register_at, shape_is, shows, value_is, word_is}

kind_is : (k : ObjectKind) (n : ℕ) → kind_seen (kind_shape k n) ≡ k
kind_is Record n = refl
kind_is Array n = refl

abbrev all_of : {A : Type 0} → (A → Type 0) → List A → Type 0
all_of P xs = AllByRecursion P xs

all_push : {A : Type 0} (P : A → Type 0) (xs : List A) (x : A) → all_of P xs → P x → all_of P (xs ++ x ∷ [])
all_push P [] x all one = (one, tt)
all_push P (y ∷ xs) x all one = (all.0, all_push P xs x all.1 one)

-- a block of the heap, or none
abbrev pub IsPlaced : ℕ → Seen → Type 0
IsPlaced m s = s.block ≤ m

module _ {M : Type 0} (s : ControlOf M) (r : Run) (st : Stands s r) where
  abbrev Kept : Name → Type 0
  Kept a = r.names.kept a ≡ true

  abbrev words : Heap
  words = heap_of (extent s.config) s.words

  abbrev shown : Graph
  shown = replay s.config r.order

  abbrev code : Value → ℕ
  code v = value_word (heads r.names.at) v

  seen_block : (v : Value) → IsValueOf Kept v → IsSeenAt r v (block_read (code v))
  seen_block Nil kept = tt
  seen_block (Int n) kept = kept
  seen_block (Ref a) kept = (kept, block_is s.config (few_blocks s r st) Kept shown r.names.at words _ (shows s r st) a kept)

  low_block : (v : Value) → IsValueOf Kept v → block_read (code v) ≤ s.config.blocks
  low_block Nil kept = let e : block_read (code Nil) ≡ 0 = ap payload_block (payload-code payload_words.Nil tt) in omega (arith, e)
  low_block (Int n) kept = let e : block_read (code (Int n)) ≡ 0 = ap payload_block (payload-code (payload_words.Int n) kept) in omega (arith, e)
  low_block (Ref a) kept =
      let e = block_is s.config (few_blocks s r st) Kept shown r.names.at words _ (shows s r st) a kept in
      let within = (shows s r st).placed.within a 0 kept (object_layout s.config.width (object_of shown a)).first in
      omega (arith, e, within)

  -- what is seen of the word of a value
  pub record Told (v : Value) (x : Seen) : Type 0 where
    pub value : x.value ≡ v
    pub seen : IsSeen r x
    pub placed : x.block ≤ s.config.blocks

  word_told : (v : Value) → IsValueOf Kept v → (word : ℕ) → word ≡ code v → Told v (word_seen words word)
  word_told v kept word is =
      let value : value_read words word ≡ v = ap (value_read words) is ∙ value_is s.config (few_blocks s r st) Kept shown r.names.at words _ (shows s r st) v kept in
      record {
        value = value;
        seen = subst (λ u. IsSeenAt r u (block_read word)) (sym value) (subst (λ w. IsSeenAt r v (block_read w)) (sym is) (seen_block v kept));
        placed = subst (λ w. block_read w ≤ s.config.blocks) (sym is) (low_block v kept);
      }

  pub register_seen : (q : ℕ) → q < REGISTERS → Told (register_of shown 0 q) (word_seen words (register_at s q))
  register_seen q ql = word_told (register_of shown 0 q) (kept_value s r st q ql) (register_at s q) (word_is s r st q ql)

  module _ (a : Name) (kept : Kept a) where
    abbrev object : Object
    object = object_of shown a

    abbrev form : Shape
    form = kind_shape object.kind (length object.fields)

    pub form_is : shape_in (words (ShapeOf (r.names.at a 0))) ≡ form
    form_is = shape_is s.config (few_blocks s r st) Kept shown r.names.at words _ (shows s r st) a kept

    form_long : shape_length form ≡ length object.fields
    form_long = long s.config (few_blocks s r st) Kept shown r.names.at words _ (shows s r st) a kept

    field_told : (i : ℕ) → i < shape_length form → Told (field_of object i) (word_seen words (field_read (extent s.config) words form i (r.names.at a 0)))
    field_told i low =
        word_told (field_of object i) ((shows s r st).closed.fields a i kept) (field_read (extent s.config) words form i (r.names.at a 0))
        (field_word_is s.config (few_blocks s r st) Kept shown r.names.at words _ (shows s r st) a kept i low)

    abbrev some : ℕ → List Seen
    some n = fields_seen (extent s.config) words form (r.names.at a 0) n

    pub record Fields (n : ℕ) (xs : List Seen) : Type 0 where
      pub values : map value_seen xs ≡ take n object.fields
      pub seen : AllByRecursion (IsSeen r) xs
      pub placed : AllByRecursion (IsPlaced s.config.blocks) xs

    some_told : (n : ℕ) → n ≤ length object.fields → Fields n (some n)
    some_told zero low = record { values = refl; seen = tt; placed = tt }
    some_told (suc n) low =
        let less : n < length object.fields = omega (arith, low) in
        let index : n < shape_length form = omega (arith, less, form_long) in
        let before = some_told n (omega (arith, low)) in
        let one = field_told n index in
        let x = word_seen words (field_read (extent s.config) words form n (r.names.at a 0)) in
        record {
          values = map_push value_seen (some n) x ∙ (λ i. before.values i ++ one.value i ∷ []) ∙ sym (take-suc object.fields n Nil less);
          seen = all_push (IsSeen r) (some n) x before.seen one.seen;
          placed = all_push (IsPlaced s.config.blocks) (some n) x before.placed one.placed;
        }

    all_told : Fields (length object.fields) (fields_seen (extent s.config) words (shape_in (words (ShapeOf (r.names.at a 0)))) (r.names.at a 0) (shape_length (shape_in (words (ShapeOf (r.names.at a 0))))))
    all_told =
        subst (λ f. Fields (length object.fields) (fields_seen (extent s.config) words f (r.names.at a 0) (shape_length f))) (sym form_is)
        (subst (λ n. Fields (length object.fields) (some n)) (sym form_long) (some_told (length object.fields) (omega arith)))

  pub fields_told : (x : ℕ) (a : Name) → IsSeenAt r (Ref a) x → (xs : List Seen)
      → xs ≡ fields_seen (extent s.config) words (shape_in (words (ShapeOf x))) x (shape_length (shape_in (words (ShapeOf x))))
      → HasSeen r (object_of shown a) xs × AllByRecursion (IsPlaced s.config.blocks) xs
  fields_told x a at xs is =
      let all = all_told a at.0 in
      let same : xs ≡ fields_seen (extent s.config) words (shape_in (words (ShapeOf (r.names.at a 0)))) (r.names.at a 0) (shape_length (shape_in (words (ShapeOf (r.names.at a 0))))) =
      is ∙ ap (λ y. fields_seen (extent s.config) words (shape_in (words (ShapeOf y))) y (shape_length (shape_in (words (ShapeOf y))))) at.1 in (
        record {
          values = ap (map value_seen) same ∙ all.values ∙ take-length (object_of shown a).fields;
          seen = subst (AllByRecursion (IsSeen r)) (sym same) all.seen;
        },
        subst (AllByRecursion (IsPlaced s.config.blocks)) (sym same) all.placed,
      )

  pub kind_told : (x : ℕ) (a : Name) → IsSeenAt r (Ref a) x → (f : Shape) → f ≡ shape_in (words (ShapeOf x)) → kind_seen f ≡ (object_of shown a).kind
  kind_told x a at f is =
      ap kind_seen (is ∙ ap (λ y. shape_in (words (ShapeOf y))) at.1 ∙ form_is a at.0)
      ∙ kind_is (object_of shown a).kind (length (object_of shown a).fields)

  named_there : (a : Name) → Kept a → object_in (words (OwnerOf (r.names.at a 0))) ≡ Ref a
  named_there a kept = ap object_or_nil (owner_read s.config.width s.config.threads s.config.blocks Kept shown r.names.at (block_words words) _ (shows s r st) a 0 kept (object_layout s.config.width (object_of shown a)).first)

  -- one block has one object, and an object that is there exists
  pub one_name : (x : ℕ) (a b : Name) → IsSeenAt r (Ref a) x → IsSeenAt r (Ref b) x → a ≡ b
  one_name x a b at bt =
      ref_is a b (sym (named_there a at.0) ∙ ap (λ y. object_in (words (OwnerOf y))) (sym at.1 ∙ bt.1) ∙ named_there b bt.0)
    where
      ref_is : (a b : Name) → Ref a ≡ Ref b → a ≡ b
      ref_is a b e = cc

  pub exists : (x : ℕ) (a : Name) → IsSeenAt r (Ref a) x → has_name shown a ≡ true
  exists x a at = (shows s r st).names a at.0

  pub some_block : (x : ℕ) (a : Name) → IsSeenAt r (Ref a) x → (0 < x) × (x ≤ s.config.blocks)
  some_block x a at =
      let first = (object_layout s.config.width (object_of shown a)).first in
      let behind = (shows s r st).placed.behind a 0 at.0 first in
      let within = (shows s r st).placed.within a 0 at.0 first in
      (omega (arith, behind, at.1), omega (arith, within, at.1))

  pub single : s.config.threads ≡ 1
  single = st.single

  pub one_thread : length shown.mutators ≡ 1
  one_thread = (shows s r st).sized.threads ∙ st.single

  pub sixteen : length (mutator_at shown 0).registers ≡ 16
  sixteen = (shows s r st).sized.sixteen 0 (let one = st.single in omega (arith, one))

-- as the calls say it, of the value of an image
abbrev pub seen_in : Image → ℕ → Seen
seen_in i q = word_seen (heap_of (extent i.config) i.words) (heap_of (extent i.config) i.words (PayloadOf (register_block i.config.width 0 q) (register_slot i.config.width q)))

abbrev pub shape_word : Image → ℕ → ℕ
shape_word i x = heap_of (extent i.config) i.words (ShapeOf x)

abbrev pub all_seen_in : Image → ℕ → List Seen
all_seen_in i x = fields_seen (extent i.config) (heap_of (extent i.config) i.words) (shape_in (shape_word i x)) x (shape_length (shape_in (shape_word i x)))

pub register_seen_now : (i now : Image) → i ≡ now → (q : ℕ) → q < REGISTERS → (x : Seen) → x ≡ seen_in i q
    → (r : Run) → HasRun now r → (x.value ≡ register_of (replay now.config r.order) 0 q) × IsSeen r x
register_seen_now i now same q ql x is r has =
    subst (λ (y : Image). x ≡ seen_in y q → (x.value ≡ register_of (replay y.config r.order) 0 q) × IsSeen r x) has.same
    (λ told. let t = register_seen has.heap r has.stands q ql in (ap value_seen told ∙ t.value, subst (IsSeen r) (sym told) t.seen))
    (is ∙ ap (λ y. seen_in y q) same)

pub fields_seen_now : (i now : Image) → i ≡ now → (x : ℕ) (xs : List Seen) → xs ≡ all_seen_in i x
    → (r : Run) (a : Name) → HasRun now r → IsSeenAt r (Ref a) x → HasSeen r (object_of (replay now.config r.order) a) xs
fields_seen_now i now same x xs is r a has at =
    subst (λ (y : Image). xs ≡ all_seen_in y x → HasSeen r (object_of (replay y.config r.order) a) xs) has.same
    (λ told. (fields_told has.heap r has.stands x a at xs told).0)
    (is ∙ ap (λ y. all_seen_in y x) same)

pub kind_seen_now : (i now : Image) → i ≡ now → (x : ℕ) (f : Shape) → f ≡ shape_in (shape_word i x)
    → (r : Run) (a : Name) → HasRun now r → IsSeenAt r (Ref a) x → kind_seen f ≡ (object_of (replay now.config r.order) a).kind
kind_seen_now i now same x f is r a has at =
    subst (λ (y : Image). f ≡ shape_in (shape_word y x) → kind_seen f ≡ (object_of (replay y.config r.order) a).kind) has.same
    (λ told. kind_told has.heap r has.stands x a at f told)
    (is ∙ ap (λ y. shape_in (shape_word y x)) same)

-- of an image
pub exists_in : (i : Image) (r : Run) (has : HasRun i r) (x : ℕ) (a : Name) → IsSeenAt r (Ref a) x → has_name (replay i.config r.order) a ≡ true
exists_in i r has x a at = subst (λ (y : Image). has_name (replay y.config r.order) a ≡ true) has.same (exists has.heap r has.stands x a at)

pub sixteen_in : (i : Image) (r : Run) → HasRun i r → length (mutator_at (replay i.config r.order) 0).registers ≡ 16
sixteen_in i r has = subst (λ (y : Image). length (mutator_at (replay y.config r.order) 0).registers ≡ 16) has.same (sixteen has.heap r has.stands)
