-- What is read along a path of indices is what the graph has there.
use Rattle.std.proofs.Common.{◌≡◌, ℕ, ◌<◌, ◌≤◌, ◌^◌, Bool, true, false, ltb, if◌then◌else◌, Option, Some, None, IfSome, Result, Ok, Err, List, ◌∷◌, [], length, refl, sym, ap, ◌∙◌, subst, arith}
use Rattle.std.proofs.lemmas.Bool.{false≢true, lt-ltb, ltb-true}
use Rattle.block_store.specs.declared.Name.{Name}
use Rattle.block_store.specs.declared.Shape.{Shape}
use Rattle.block_store.specs.declared.Value.{Value}
use Rattle.block_store.specs.declared.Value.TheVariants.{Nil, Int, Ref}
use Rattle.block_store.specs.declared.TheConstants.{REGISTERS}
use Rattle.block_store.specs.Heaps.{Heap, heap_of}
use Rattle.block_store.specs.Places.{ShapeOf, extent}
use Rattle.never_heap.specs.Graphs.{Graph, Object, field_of, object_of, register_of}
use Rattle.never_heap.specs.Histories.{replay}
use Rattle.heap_invariant.specs.graph_relation.Layouts.{kind_shape}
use Rattle.heap_invariant.specs.graph_relation.GraphOfWords.{IsValueOf, heads}
use Rattle.heap_invariant.specs.graph_relation.Words.{block_words, value_word}
use Rattle.heap_invariant.proofs.graph_relation.ObjectLayouts.{few_fields}
use Rattle.heap_invariant.proofs.graph_relation.WordReads.{value_read as word_read}
use Rattle.barrier_steps.specs.Rows.{shape_in}
use Rattle.barrier_steps.specs.Walks.{shape_length}
use Rattle.heap_system.specs.Machines.{Run}
use Rattle.control_heap.specs.declared.faults.Fault.{Fault}
use Rattle.control_heap.specs.declared.faults.Fault.TheVariants as faults
use Rattle.control_heap.specs.Controls.{ControlOf, Stands}
use Rattle.control_heap.specs.Peeks.{and_then, field_found, field_peeked, missed, object_field, path_found, path_peeked, payload_field, peeked}
use Rattle.control_heap.specs.Readings.{field_read}
use Rattle.control_heap.proofs.FieldsRead.{few_blocks, field_word_is, kept_value, long, register_at, shape_is, shows, value_is, word_is}

-- what holds of a result that is no fault
abbrev Holds : {A : Type 0} → (A → Type 0) → Result A Fault → Type 0
Holds P (Ok x) = P x
Holds P (Err f) = Unit {0}

-- a value's word in place of the value
abbrev coded : (Value → ℕ) → Result Value Fault → Result ℕ Fault
coded code (Ok v) = Ok (code v)
coded code (Err f) = Err f

missing : (code : Value → ℕ) (small : Bool) (f : Fault)
    → Err (if small then f else faults.OutOfBounds) ≡ coded code (if small then Err f else Err faults.OutOfBounds)
missing code true f = refl
missing code false f = refl

choosing : (code : Value → ℕ) (small there : Bool) (x : ℕ) (v : Value) (f : Fault) → (there ≡ true → (x ≡ code v) × (small ≡ true))
    → (if there then Ok x else Err (if small then f else faults.OutOfBounds))
    ≡ coded code (if small then (if there then Ok v else Err f) else Err faults.OutOfBounds)
choosing code true true x v f is = ap Ok (is refl).0
choosing code true false x v f is = refl
choosing code false true x v f is = absurd (false≢true (is refl).1)
choosing code false false x v f is = refl

none_holds : (P : Value → Type 0) (small : Bool) (f : Fault) → Holds P (if small then Err f else Err faults.OutOfBounds)
none_holds P true f = tt
none_holds P false f = tt

one_holds : (P : Value → Type 0) (small there : Bool) (v : Value) (f : Fault) → P v
    → Holds P (if small then (if there then Ok v else Err f) else Err faults.OutOfBounds)
one_holds P true true v f h = h
one_holds P true false v f h = tt
one_holds P false there v f h = tt

onward : (code : Value → ℕ) (P : Value → Type 0) (y : Result Value Fault) → Holds P y → (next : ℕ → Result Value Fault) (rest : Value → Result Value Fault)
    → ((w : Value) → P w → next (code w) ≡ rest w) → and_then (coded code y) next ≡ and_then y rest
onward code P (Ok w) h next rest same = same w h
onward code P (Err f) h next rest same = refl

module _ {M : Type 0} (s : ControlOf M) (r : Run) (st : Stands s r) where
  abbrev Kept : Name → Type 0
  Kept a = r.names.kept a ≡ true

  abbrev words : Heap
  words = heap_of (extent s.config) s.words

  abbrev shown : Graph
  shown = replay s.config r.order

  abbrev code : Value → ℕ
  code v = value_word (heads r.names.at) v

  module _ (a : Name) (kept : Kept a) (i : ℕ) where
    abbrev object : Object
    object = object_of shown a

    abbrev form : Shape
    form = kind_shape object.kind (length object.fields)

    abbrev word : ℕ
    word = field_read (extent s.config) words form i (r.names.at a 0)

    form_is : shape_in (words (ShapeOf (r.names.at a 0))) ≡ form
    form_is = shape_is s.config (few_blocks s r st) Kept shown r.names.at words _ (shows s r st) a kept

    form_long : shape_length form ≡ length object.fields
    form_long = long s.config (few_blocks s r st) Kept shown r.names.at words _ (shows s r st) a kept

    there_is : ltb i (length object.fields) ≡ true → (word ≡ code (field_of object i)) × (ltb i (2 ^ 62) ≡ true)
    there_is there =
        let less : i < length object.fields = ltb-true i (length object.fields) there in
        let index : i < shape_length form = omega (arith, less, form_long) in
        let few : length object.fields ≤ 65535 = few_fields s.config.width object.kind (length object.fields) ((shows s r st).numbered.ordinals a kept) in
        let small : i < 2 ^ 62 = omega (arith, less, few) in
        (field_word_is s.config (few_blocks s r st) Kept shown r.names.at words _ (shows s r st) a kept i index, lt-ltb i (2 ^ 62) small)

    pub object_is : object_field (extent s.config) words (shape_in (words (ShapeOf (r.names.at a 0)))) (r.names.at a 0) i ≡ coded code (field_peeked shown (Ref a) i)
    object_is =
        ap (λ f. object_field (extent s.config) words f (r.names.at a 0) i) form_is
        ∙ ap (λ n. if ltb i n then Ok word else Err (missed i faults.Range)) form_long
        ∙ choosing code (ltb i (2 ^ 62)) (ltb i (length object.fields)) word (field_of object i) faults.Range there_is

  found_is : (v : Value) → IsValueOf Kept v → (i : ℕ) → field_found (extent s.config) words (code v) i ≡ coded code (field_peeked shown v i)
  found_is Nil kept i =
      ap (λ p. payload_field (extent s.config) words p i) (word_read s.config.width s.config.threads s.config.blocks Kept shown r.names.at (block_words words) _ (shows s r st) Nil (few_blocks s r st) kept)
      ∙ missing code (ltb i (2 ^ 62)) faults.Null
  found_is (Int n) kept i =
      ap (λ p. payload_field (extent s.config) words p i) (word_read s.config.width s.config.threads s.config.blocks Kept shown r.names.at (block_words words) _ (shows s r st) (Int n) (few_blocks s r st) kept)
      ∙ missing code (ltb i (2 ^ 62)) faults.Kind
  found_is (Ref a) kept i =
      ap (λ p. payload_field (extent s.config) words p i) (word_read s.config.width s.config.threads s.config.blocks Kept shown r.names.at (block_words words) _ (shows s r st) (Ref a) (few_blocks s r st) kept)
      ∙ object_is a kept i

  kept_on : (v : Value) → IsValueOf Kept v → (i : ℕ) → Holds (IsValueOf Kept) (field_peeked shown v i)
  kept_on Nil kept i = none_holds (IsValueOf Kept) (ltb i (2 ^ 62)) faults.Null
  kept_on (Int n) kept i = none_holds (IsValueOf Kept) (ltb i (2 ^ 62)) faults.Kind
  kept_on (Ref a) kept i =
      one_holds (IsValueOf Kept) (ltb i (2 ^ 62)) (ltb i (length (object_of shown a).fields)) (field_of (object_of shown a) i) faults.Range ((shows s r st).closed.fields a i kept)

  path_is : (is : List ℕ) (v : Value) → IsValueOf Kept v → path_found (extent s.config) words (code v) is ≡ path_peeked shown v is
  path_is [] v kept = ap Ok (value_is s.config (few_blocks s r st) Kept shown r.names.at words _ (shows s r st) v kept)
  path_is (i ∷ is) v kept =
      ap (λ x. and_then x (λ w. path_found (extent s.config) words w is)) (found_is v kept i)
      ∙ onward code (IsValueOf Kept) (field_peeked shown v i) (kept_on v kept i) (λ w. path_found (extent s.config) words w is) (λ w. path_peeked shown w is) (λ w h. path_is is w h)

  path_told : (q : ℕ) → q < REGISTERS → (is : List ℕ) → path_found (extent s.config) words (register_at s q) is ≡ peeked shown q is
  path_told q ql is =
      ap (λ w. path_found (extent s.config) words w is) (word_is s r st q ql)
      ∙ path_is is (register_of shown 0 q) (kept_value s r st q ql)
      ∙ ap (λ b. if b then path_peeked shown (register_of shown 0 q) is else Err faults.OutOfBounds) (sym (lt-ltb q REGISTERS ql))

-- as the calls say it, of the value of the heap
pub path_now : {M : Type 0} (h now : ControlOf M) → h ≡ now → (q : ℕ) → q < REGISTERS → (is : List ℕ) (x : Result Value Fault)
    → x ≡ path_found (extent h.config) (heap_of (extent h.config) h.words) (register_at h q) is → (r : Run) → Stands now r → x ≡ peeked (replay now.config r.order) q is
path_now h now same q ql is x read r st =
    subst (λ y. (z : Stands y r) → x ≡ peeked (replay y.config r.order) q is) same (λ z. read ∙ path_told h r z q ql is) st

near_now : {M : Type 0} (h now : ControlOf M) → h ≡ now → (q : ℕ) → q < REGISTERS → (is : List ℕ) (v : Value)
    → path_found (extent h.config) (heap_of (extent h.config) h.words) (register_at h q) is ≡ Ok v → (r : Run) → Stands now r → peeked (replay now.config r.order) q is ≡ Ok v
near_now h now same q ql is v found r st =
    sym (path_now h now same q ql is (path_found (extent h.config) (heap_of (extent h.config) h.words) (register_at h q) is) refl r st) ∙ found

pub near_told : {M : Type 0} (h now : ControlOf M) → h ≡ now → (q : ℕ) → q < REGISTERS → (is : List ℕ) (o : Option Value)
    → IfSome o (λ v. path_found (extent h.config) (heap_of (extent h.config) h.words) (register_at h q) is ≡ Ok v)
    → IfSome o (λ v. (r : Run) → Stands now r → peeked (replay now.config r.order) q is ≡ Ok v)
near_told h now same q ql is None found = tt
near_told h now same q ql is (Some v) found = near_now h now same q ql is v found
