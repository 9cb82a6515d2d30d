-- What holds of each row that may follow holds of the one that follows. The part is decided after
-- its linearization point, and over once it has its reply. And what the step of a command is, where
-- the graph is what its linearization point reads.
use Rattle.std.proofs.Common.{◌≡◌, ◌≢◌, ℕ, ◌<◌, Bool, true, false, ◌||◌, not, cond, None, Some, IsSome, ltb, ltb-true, eqb, eqb-true, refl, arith, ap, length, sym, ◌∙◌, subst}
use Rattle.barrier_steps.proofs.Common.{eqb-false, Config, Payload, Shape, Extent, extent, holds_nothing, Command, Name, Value, Reply, target, Width, FieldRow, Purpose, Pass, GreyRow, grey_over, FieldStore, TreePath, shape_length, links_to, payload_in, shape_in, object_in, stored_word, shaded_for, is_taken, before_store, in_barrier, first_row, row_got, field_reply, field_decided, after_object, after_shape, after_field, after_said, after_owner, after_register, at_block, on_way, way_from, way_on, row_in_hand, refers, length_decides, register_decides, is_deciding, blocks_of, to_register, answered_register, field_index, is_get, is_put, is_swap, is_cas, is_say, goes_to_field, takes_field, answers_value, stores_in_field, TakeOwn, LoadRegister, LoadShape, LoadLink, LoadField, LoadOwner, Shade, Store, Answered, Moved, Pending, InField, Exchanged, Compared, Copied, Object, Expected, Stored, Second, Shown, New, Arr, Get, Put, Swap, Cas, Say, answer, shades, lt-ltb, Graph, ObjectKind, Record, Array, object_of, field_of, register_of, with_register, with_field, step, swapped, same_value, kind_shape, from_register, other_register, looks_at_object, expected_register, payload_or_nil, shape_or_empty, graph_after, IsWordOf, ShapeShown, constant_set, at_object, at_field, sets_constant, is_mov, is_same, is_idle, not-true, Set, Mov, Len, Same, Idle}
use Rattle.block_store.specs.declared.Payload.TheVariants as payloads
use Rattle.block_store.specs.declared.Value.TheVariants as values
use Rattle.never_heap.specs.declared.Reply.TheVariants as replies
use Rattle.never_heap.proofs.Lemmas.{makers_have_blocks}

pub both : (P : Bool → Type 0) (b : Bool) → P true → P false → P b
both P true x y = x
both P false x y = y

pub either_is : {A : Type 0} (P : A → Type 0) (b : Bool) (q r : A) → (b ≡ true → P q) → (b ≡ false → P r)
    → P (cond b q r)
either_is P true q r x y = x refl
either_is P false q r x y = y refl

pub either : {A : Type 0} (P : A → Type 0) (b : Bool) (q r : A) → P q → P r → P (cond b q r)
either P b q r x y = either_is P b q r (λ _. x) (λ _. y)

module _ (P : FieldRow → Type 0) where
  -- what holds of the store's row and of the first of its barrier
  pub before_is : (p : Pass) (store : FieldStore) → (shaded_for p (stored_word store) ≡ 0 → P (Store store))
      → (shaded_for p (stored_word store) ≢ 0
      → P (Shade (TakeOwn (shaded_for p (stored_word store))) store)) → P (before_store p store)
  before_is p store once shades =
      let y : ℕ = shaded_for p (stored_word store) in
      either_is P (eqb y 0) _ _ (λ e. once (eqb-true y 0 e)) (λ e. shades (eqb-false y 0 e))

  -- what holds of the store's row after its barrier and of row r of it
  pub barrier_is : (r : GreyRow) (store : FieldStore) → (grey_over r ≡ true → P (Store store))
      → (grey_over r ≡ false → P (Shade r store)) → P (in_barrier r store)
  barrier_is r store over shades = either_is P (grey_over r) _ _ over shades

  -- of those after a field, and after a register that is shown
  pub field_is : (w : ℕ) (q : Payload) → ((v : Value) → P (Store (Pending w v))) → P (LoadOwner w)
      → P (after_field w q)
  field_is w payloads.Nil store owner = store values.Nil
  field_is w (payloads.Int n) store owner = store (values.Int n)
  field_is w (payloads.Block x) store owner = owner

  pub said_is : (w : ℕ) (q : Payload) → ((v : Value) → P (Answered (replies.Val v))) → P (LoadOwner w)
      → P (after_said w q)
  said_is w payloads.Nil answer owner = answer values.Nil
  said_is w (payloads.Int n) answer owner = answer (values.Int n)
  said_is w (payloads.Block x) answer owner = owner

  -- of those at the block of the field, and after the object's shape
  pub at_block_is : (p : Pass) (k : Command) (way : TreePath) (word : ℕ)
      → ((goes_to_field k ≡ true → is_get k ≡ true) → P (LoadField way))
      → (is_put k ≡ true → P (before_store p (InField way word)))
      → (is_swap k ≡ true → P (before_store p (Exchanged way word)))
      → (is_cas k ≡ true → P (before_store p (Compared way word))) → P (at_block p k way word)
  at_block_is p (Put s i v) way word field put swap cas = put refl
  at_block_is p (Swap s i v) way word field put swap cas = swap refl
  at_block_is p (Cas s i a v) way word field put swap cas = cas refl
  at_block_is p _ way word field put swap cas = field (λ goes. cc)

  pub after_shape_is : (e : Extent) (p : Pass) (k : Command) (x : ℕ) (f : Shape)
      → ((reply : Reply) → P (Answered reply))
      → (field_index k < shape_length f → stores_in_field k ≡ true → P (LoadRegister (Stored (way_from f x))))
      → (field_index k < shape_length f → is_cas k ≡ true → P (LoadRegister (Expected (way_from f x))))
      → (field_index k < shape_length f → is_get k ≡ true → P (on_way e p k (way_from f x) 0))
      → P (after_shape e p k x f)
  after_shape_is e p (Get d s i) x f answer stored expected way =
      either_is P (ltb i (shape_length f)) _ _ (λ e. way (ltb-true i _ e) refl) (λ _. answer replies.Range)
  after_shape_is e p (Put s i v) x f answer stored expected way =
      either_is P (ltb i (shape_length f)) _ _ (λ e. stored (ltb-true i _ e) refl) (λ _. answer replies.Range)
  after_shape_is e p (Swap s i v) x f answer stored expected way =
      either_is P (ltb i (shape_length f)) _ _ (λ e. stored (ltb-true i _ e) refl) (λ _. answer replies.Range)
  after_shape_is e p (Cas s i a v) x f answer stored expected way =
      either_is P (ltb i (shape_length f)) _ _ (λ e. expected (ltb-true i _ e) refl) (λ _. answer replies.Range)
  after_shape_is e p _ x f answer stored expected way = answer (replies.Len (shape_length f))

  -- and after the owner of a block
  pub after_owner_is : (p : Pass) (k : Command) (word : ℕ) (value : Value)
      → (is_say k ≡ true → P (Answered (replies.Val value)))
      → ((answers_value k ≡ true → takes_field k ≡ true) → answered_register k ≡ to_register k
      → P (before_store p (Pending word value)))
      → P (after_owner p k word value)
  after_owner_is p (Say s) word value answer store = answer refl
  after_owner_is p _ word value answer store = store (λ is. cc) refl

pub decided_once : (k : Command) (row : FieldRow) (w : ℕ) → field_decided row ≡ true → is_deciding k row w ≡ false
decided_once k (Store store) w h = ap not h
decided_once k _ w h = cc

pub answered_decided : (row : FieldRow) → IsSome (field_reply row) → field_decided row ≡ true
answered_decided (Answered reply) h = refl
answered_decided _ h = absurd cc

pub first_undecided : (w : Width) (k : Command) → blocks_of w k ≡ 0 → field_decided (first_row k) ≡ false
first_undecided w (New d f) none = absurd (omega (arith, none, makers_have_blocks w (New d f) refl))
first_undecided w (Arr d e) none = absurd (omega (arith, none, makers_have_blocks w (Arr d e) refl))
first_undecided w _ none = refl

-- no command of these makes an object
abbrev MakesNone : FieldRow → Type 0
MakesNone row = (n : Name) → field_reply row ≡ Some (replies.New n) → ⊥

field_told : (w : ℕ) → (field_decided (after_field w (payload_in w)) ≡ true) × MakesNone (after_field w (payload_in w))
field_told w = field_is (λ row. (field_decided row ≡ true) × MakesNone row) w (payload_in w)
    (λ v. (refl, λ n e. cc)) (refl, λ n e. cc)

or_none : (b : Bool) → b ≡ (b || false)
or_none true = refl
or_none false = refl

module _ (m : ℕ) (p : Pass) where
  -- whether it is decided; and after the event of a row that stores no word that was loaded its
  -- thread holds nothing
  abbrev Quiet : Bool → FieldRow → Type 0
  Quiet b row = (field_decided row ≡ b) × MakesNone row × (row_in_hand m p row ≡ holds_nothing)

  before_quiet : (store : FieldStore) → Quiet (is_taken store) (before_store p store)
  before_quiet store = before_is (Quiet (is_taken store)) p store
      (λ none. (refl, λ n e. cc, ap (λ y. record holds_nothing { shaded = y }) none)) (λ _. (refl, λ n e. cc, refl))

  object_quiet : (q : Payload) → Quiet (not (refers q)) (after_object q)
  object_quiet payloads.Nil = (refl, λ n e. cc, refl)
  object_quiet _ = (refl, λ n e. cc, refl)

  range_quiet : (b : Bool) (row : FieldRow) → Quiet false row → Quiet (not b) (cond b row (Answered replies.Range))
  range_quiet true row q = q
  range_quiet false row q = (refl, λ n e. cc, refl)

  pub way_quiet : (e : Extent) (k : Command) (way : TreePath) (word : ℕ) → Quiet false (on_way e p k way word)
  way_quiet e k way word = either (Quiet false) (ltb way.level (links_to e way.shape (field_index k))) _ _
      (refl, λ n e. cc, refl) (at_block_is (Quiet false) p k way word (λ _. (refl, λ n e. cc, refl))
      (λ _. before_quiet (InField way word)) (λ _. before_quiet (Exchanged way word)) (λ _. before_quiet (Compared way word)))

  pub shape_quiet : (e : Extent) (k : Command) (x : ℕ) (f : Shape) → Quiet (length_decides k (shape_length f)) (after_shape e p k x f)
  shape_quiet e (Get d s i) x f = range_quiet (ltb i (shape_length f)) _ (way_quiet e (Get d s i) (way_from f x) 0)
  shape_quiet e (Put s i v) x f = range_quiet (ltb i (shape_length f)) _ (refl, λ n e. cc, refl)
  shape_quiet e (Swap s i v) x f = range_quiet (ltb i (shape_length f)) _ (refl, λ n e. cc, refl)
  shape_quiet e (Cas s i a v) x f = range_quiet (ltb i (shape_length f)) _ (refl, λ n e. cc, refl)
  shape_quiet e _ x f = (refl, λ n e. cc, refl)

  module _ (e : Extent) (k : Command) where
    pub register_quiet : (wanted : Purpose) (w : ℕ) → Quiet (register_decides wanted w) (after_register e p k wanted w)
    register_quiet Copied w = before_quiet (Moved w)
    register_quiet Object w = object_quiet (payload_in w)
    register_quiet (Stored way) w = way_quiet e k way w
    register_quiet (Second word) w = either (λ r. Quiet true (Answered r)) (eqb word w) replies.Yes replies.No
        (refl, λ n e. cc, refl) (refl, λ n e. cc, refl)
    register_quiet Shown w = said_is (Quiet true) w (payload_in w) (λ v. (refl, λ n e. cc, refl)) (refl, λ n e. cc, refl)
    register_quiet _ w = (refl, λ n e. cc, refl)

    pub owner_quiet : (word : ℕ) (value : Value) → Quiet true (after_owner p k word value)
    owner_quiet word value = after_owner_is (Quiet true) p k word value (λ _. (refl, λ n e. cc, refl)) (λ _ _. before_quiet (Pending word value))

    -- the same of the row after it
    pub goes_on : (row : FieldRow) (w : ℕ) → (field_decided (row_got e p k row w) ≡ (field_decided row || is_deciding k row w))
        × (field_reply row ≡ None → MakesNone (row_got e p k row w))
    goes_on (LoadRegister wanted) w = let q = register_quiet wanted w in (q.0, λ _. q.1)
    goes_on (LoadShape x) w = let q = shape_quiet e k x (shape_in w) in (q.0, λ _. q.1)
    goes_on (LoadLink way word) w = let q = way_quiet e k (way_on way (target w)) word in (q.0, λ _. q.1)
    goes_on (LoadField way) w = let q = field_told w in (q.0, λ _. q.1)
    goes_on (LoadOwner word) w = let q = owner_quiet word (object_in w) in (q.0, λ _. q.1)
    goes_on (Shade r store) w = barrier_is (λ row. (field_decided row ≡ (is_taken store || false)) × (field_reply (Shade r store) ≡ None → MakesNone row)) _ store
        (λ _. (or_none (is_taken store), λ _ n e. cc)) (λ _. (or_none (is_taken store), λ _ n e. cc))
    goes_on (Store (Exchanged way word)) w = let q = field_told w in (q.0, λ _. q.1)
    goes_on (Store (Compared way word)) w = (refl, λ _. either (λ r. MakesNone (Answered r)) (eqb w way.expected) replies.Yes replies.No (λ n e. cc) (λ n e. cc))
    goes_on _ w = (refl, λ going n e. cc)

pub makes_none : (c : Config) (p : Pass) (k : Command) (row : FieldRow) (w : ℕ)
    → field_reply row ≡ None → MakesNone (row_got (extent c) p k row w)
makes_none c p k row w = (goes_on 0 p (extent c) k row w).1

-- what a step answers, and the graph that it leaves
pub answer_is : (g : Graph) (t : ℕ) (k : Command) (x : Graph × Reply) → step g t k ≡ x → answer g t k ≡ x.1
answer_is g t k x e = ap (λ (y : Graph × Reply). y.1) e

pub graph_is : (g : Graph) (t : ℕ) (k : Command) (x : Graph × Reply) → step g t k ≡ x → graph_after g t k ≡ x.0
graph_is g t k x e = ap (λ (y : Graph × Reply). y.0) e

-- a refusal leaves the graph, and answers what the row does
abbrev pub Refused : Graph → FieldRow → Graph × Reply → Type 0
Refused g row after = (reply : Reply) × (row ≡ Answered reply) × (after ≡ (g, reply))

-- where a register shows no reference
refused_value : (head : Name → ℕ) (g : Graph) (w : ℕ) (v : Value) (x : Graph × Reply) → IsWordOf head v w
    → not (refers (payload_in w)) ≡ true → (v ≡ values.Nil → x ≡ (g, replies.Null))
    → ((m : ℕ) → v ≡ values.Int m → x ≡ (g, replies.Kind)) → Refused g (after_object (payload_in w)) x
refused_value head g w values.Nil x h n nil int = (replies.Null, ap (λ o. after_object (payload_or_nil o)) h, nil refl)
refused_value head g w (values.Int m) x h n nil int = (replies.Kind, ap (λ o. after_object (payload_or_nil o)) h, int m refl)
refused_value head g w (values.Ref a) x h n nil int = absurd (let e : false ≡ true = subst (λ o. not (refers (payload_or_nil o)) ≡ true) h n in cc)

pub object_refused : (head : Name → ℕ) (g : Graph) (t w : ℕ) (k : Command) → looks_at_object k ≡ true → IsWordOf head (register_of g t (from_register k)) w → not (refers (payload_in w)) ≡ true → Refused g (after_object (payload_in w)) (step g t k)
object_refused head g t w (Get d s i) is h n = refused_value head g w (register_of g t s) _ h n (λ e. rw e refl) (λ m e. rw e refl)
object_refused head g t w (Put s i v) is h n = refused_value head g w (register_of g t s) _ h n (λ e. rw e refl) (λ m e. rw e refl)
object_refused head g t w (Swap s i v) is h n = refused_value head g w (register_of g t s) _ h n (λ e. rw e refl) (λ m e. rw e refl)
object_refused head g t w (Cas s i a v) is h n = refused_value head g w (register_of g t s) _ h n (λ e. rw e refl) (λ m e. rw e refl)
object_refused head g t w (Len s) is h n = refused_value head g w (register_of g t s) _ h n (λ e. rw e refl) (λ m e. rw e refl)
object_refused head g t w _ is h n = absurd cc

pub kind_length : (k : ObjectKind) (n : ℕ) → shape_length (kind_shape k n) ≡ n
kind_length Record n = refl
kind_length Array n = refl

-- the length that a shape word shows
shown_length : (g : Graph) (t s w : ℕ) (h : ShapeShown g t s w) → shape_length (shape_in w) ≡ length (object_of g h.name).fields
shown_length g t s w h = ap (λ o. shape_length (shape_or_empty o)) h.shape ∙ kind_length (object_of g h.name).kind (length (object_of g h.name).fields)

-- where the object lacks the field; and `len`
range_refused : (g : Graph) (v : Value) (a : Name) (i n : ℕ) (act : Name → Graph × Reply) (row : FieldRow) → v ≡ values.Ref a → n ≡ length (object_of g a).fields → not (ltb i n) ≡ true → Refused g (cond (ltb i n) row (Answered replies.Range)) (at_field g v i act)
range_refused g v a i n act row e long out = let past : ltb i n ≡ false = not-true (ltb i n) out in (
  replies.Range,
  ap (λ b. cond b row (Answered replies.Range)) past,
  ap (λ x. at_field g x i act) e ∙ ap (λ b. cond {A = Graph × Reply} b (act a) (g, replies.Range)) (ap (ltb i) (sym long) ∙ past),
)

pub shape_refused : (c : Config) (p : Pass) (g : Graph) (t x w : ℕ) (k : Command) → looks_at_object k ≡ true → ShapeShown g t (from_register k) w → length_decides k (shape_length (shape_in w)) ≡ true → Refused g (after_shape (extent c) p k x (shape_in w)) (step g t k)
shape_refused c p g t x w (Get d s i) is h n = range_refused g (register_of g t s) h.name i (shape_length (shape_in w)) _ _ h.refers (shown_length g t s w h) n
shape_refused c p g t x w (Put s i v) is h n = range_refused g (register_of g t s) h.name i (shape_length (shape_in w)) _ _ h.refers (shown_length g t s w h) n
shape_refused c p g t x w (Swap s i v) is h n = range_refused g (register_of g t s) h.name i (shape_length (shape_in w)) _ _ h.refers (shown_length g t s w h) n
shape_refused c p g t x w (Cas s i a v) is h n = range_refused g (register_of g t s) h.name i (shape_length (shape_in w)) _ _ h.refers (shown_length g t s w h) n
shape_refused c p g t x w (Len s) is h n =
    (replies.Len (shape_length (shape_in w)), refl, ap (λ v. at_object g v (λ a. (g, replies.Len (length (object_of g a).fields)))) h.refers ∙ ap (λ l. (g, replies.Len l)) (sym (shown_length g t s w h)))
shape_refused c p g t x w _ is h n = absurd cc

-- where the object has the field
in_field : (g : Graph) (v : Value) (a : Name) (i : ℕ) (act : Name → Graph × Reply) → v ≡ values.Ref a → i < length (object_of g a).fields → at_field g v i act ≡ act a
in_field g v a i act e h = ap (λ x. at_field g x i act) e ∙ ap (λ b. cond {A = Graph × Reply} b (act a) (g, replies.Range)) (lt-ltb i (length (object_of g a).fields) h)

abbrev pub Has : Graph → ℕ → Command → Name → Type 0
Has g t k a = (register_of g t (from_register k) ≡ values.Ref a) × (field_index k < length (object_of g a).fields)

abbrev pub value_there : Graph → Command → Name → Value
value_there g k a = field_of (object_of g a) (field_index k)

pub get_is : (g : Graph) (t : ℕ) (k : Command) (a : Name) → is_get k ≡ true → Has g t k a → step g t k ≡ (with_register g t (to_register k) (value_there g k a), replies.Val (value_there g k a))
get_is g t (Get d s i) a is has = in_field g (register_of g t s) a i _ has.0 has.1
get_is g t _ a is has = absurd cc

pub put_is : (g : Graph) (t : ℕ) (k : Command) (a : Name) → is_put k ≡ true → Has g t k a → step g t k ≡ (with_field g a (field_index k) (register_of g t (other_register k)), replies.Stored)
put_is g t (Put s i v) a is has = in_field g (register_of g t s) a i _ has.0 has.1
put_is g t _ a is has = absurd cc

pub swap_is : (g : Graph) (t : ℕ) (k : Command) (a : Name) → is_swap k ≡ true → Has g t k a → step g t k ≡ (swapped g t a (field_index k) (other_register k), replies.Val (value_there g k a))
swap_is g t (Swap s i v) a is has = in_field g (register_of g t s) a i _ has.0 has.1
swap_is g t _ a is has = absurd cc

pub cas_is : (g : Graph) (t : ℕ) (k : Command) (a : Name) (b : Bool) → is_cas k ≡ true → Has g t k a → b ≡ same_value (value_there g k a) (register_of g t (expected_register k))
    → step g t k ≡ (cond b (with_field g a (field_index k) (register_of g t (other_register k))) g, cond b replies.Yes replies.No)
cas_is g t (Cas s i e v) a b is has same = in_field g (register_of g t s) a i _ has.0 has.1
    ∙ ap (λ x. cond {A = Graph × Reply} x (with_field g a i (register_of g t v), replies.Yes) (g, replies.No)) (sym same)
    ∙ either_is (λ x. x ≡ (cond b (with_field g a i (register_of g t v)) g, cond b replies.Yes replies.No)) b _ _ (λ y. rw y refl) (λ n. rw n refl)
cas_is g t _ a b is has same = absurd cc

-- the steps of the others
pub constant_is : (g : Graph) (t : ℕ) (k : Command) → sets_constant k ≡ true → step g t k ≡ (with_register g t (to_register k) (constant_set k), replies.Stored)
constant_is g t (Set d v) is = refl
constant_is g t _ is = cc

pub mov_is : (g : Graph) (t : ℕ) (k : Command) → is_mov k ≡ true → step g t k ≡ (with_register g t (to_register k) (register_of g t (from_register k)), replies.Stored)
mov_is g t (Mov d s) is = refl
mov_is g t _ is = absurd cc

pub same_step_is : (g : Graph) (t : ℕ) (k : Command) → is_same k ≡ true → step g t k ≡ (g, cond (same_value (register_of g t (from_register k)) (register_of g t (other_register k))) replies.Yes replies.No)
same_step_is g t (Same a b) is = refl
same_step_is g t _ is = absurd cc

pub say_is : (g : Graph) (t : ℕ) (k : Command) → is_say k ≡ true → step g t k ≡ (g, replies.Val (register_of g t (from_register k)))
say_is g t (Say s) is = refl
say_is g t _ is = absurd cc

pub idle_is : (g : Graph) (t : ℕ) (k : Command) → is_idle k ≡ true → step g t k ≡ (g, replies.Idle)
idle_is g t (Idle u) is = refl
idle_is g t _ is = absurd cc
