-- What a graph has after a store in a register, a store in a field, and one more object.
use Rattle.std.proofs.Common.{ℕ, ◌-◌, ◌≡◌, ◌<◌, ◌≤◌, inl, inr, Bool, true, false, cond, ◌&&◌, eqb, leb, List, length, set, get_or, refl, sym, ap, ◌∙◌, subst, arith, eq-eqb, ne_eqb}
use Rattle.std.proofs.lemmas.Bool.{cases_eq, cases_lt, eqb-true, leb-true}
use Rattle.std.proofs.lemmas.List.{get_or-set_same, get_or-set_other, length-set, get_or_past}
use Rattle.block_store.specs.declared.Name.{Name}
use Rattle.block_store.specs.declared.Value.{Value}
use Rattle.block_store.specs.declared.Value.TheVariants.{Nil}
use Rattle.never_heap.specs.Graphs.{Graph, Mutator, Object, no_mutator, no_object, mutator_at, count_of, register_of, object_of, has_name, same_name, with_mutator, with_register, with_field, set_field}

-- reading a list after a write
pub get_or_set : {X : Type 0} (xs : List X) (i k : ℕ) (v d : X) → i < length xs
    → get_or (set xs i v) k d ≡ cond (eqb i k) v (get_or xs k d)
get_or_set xs i k v d h = elim (cases_eq i k) [
  | inl e ↦ rw (eq-eqb i k e)
      (subst (λ j. get_or (set xs i v) j d ≡ v) e (get_or-set_same xs i v d h))
  | inr n ↦ rw (ne_eqb i k n) (get_or-set_other xs i k v d (λ e. n (sym e)))
]

-- where the two outcomes of a test are one
pub cond_same : {X : Type 0} (b : Bool) (x : X) → cond b x x ≡ x
cond_same true x = refl
cond_same false x = refl

-- thread u after thread t was replaced
pub mutator_with : (g : Graph) (t u : ℕ) (m : Mutator) → t < length g.mutators
    → mutator_at (with_mutator g t m) u ≡ cond (eqb t u) m (mutator_at g u)
mutator_with g t u m h = get_or_set g.mutators t u m no_mutator h

-- a thread that keeps its objects leaves all objects
pub objects_with : (g : Graph) (t u : ℕ) (m : Mutator) → t < length g.mutators
    → m.objects ≡ (mutator_at g t).objects
    → (mutator_at (with_mutator g t m) u).objects ≡ (mutator_at g u).objects
objects_with g t u m h e = elim (cases_eq t u) [
  | inl same ↦ ap (λ (x : Mutator). x.objects)
      (mutator_with g t u m h ∙ ap (λ b. cond b m (mutator_at g u)) (eq-eqb t u same)) ∙ e
      ∙ ap (λ k. (mutator_at g k).objects) same
  | inr other ↦ ap (λ (x : Mutator). x.objects)
      (mutator_with g t u m h ∙ ap (λ b. cond b m (mutator_at g u)) (ne_eqb t u other))
]

-- an object, from the shared one, the number of threads and the objects of its thread
abbrev pub object_from : Object → ℕ → List Object → Name → Object
object_from s n os a = cond (eqb a.serial 0) (cond (eqb a.thread n) s no_object)
    (get_or os (a.serial - 1) no_object)

abbrev pub name_from : ℕ → ℕ → Name → Bool
name_from n c a = cond (eqb a.serial 0) (eqb a.thread n) (leb a.serial c)

module _ (g : Graph) (t : ℕ) (m : Mutator) (h : t < length g.mutators)
    (e : m.objects ≡ (mutator_at g t).objects) where
  pub object_with_mutator : (a : Name) → object_of (with_mutator g t m) a ≡ object_of g a
  object_with_mutator a =
      ap (λ n. object_from g.shared n (mutator_at (with_mutator g t m) a.thread).objects a)
      (length-set g.mutators t m)
      ∙ ap (λ os. object_from g.shared (length g.mutators) os a) (objects_with g t a.thread m h e)

  pub has_name_with_mutator : (a : Name) → has_name (with_mutator g t m) a ≡ has_name g a
  has_name_with_mutator a =
      ap (λ n. name_from n (length (mutator_at (with_mutator g t m) a.thread).objects) a)
      (length-set g.mutators t m)
      ∙ ap (λ os. name_from (length g.mutators) (length os) a) (objects_with g t a.thread m h e)

-- registers after a register store
pub register_with_register : (g : Graph) (t r u q : ℕ) (v : Value) → t < length g.mutators
    → r < length (mutator_at g t).registers
    → register_of (with_register g t r v) u q ≡ cond (eqb t u && eqb r q) v (register_of g u q)
register_with_register g t r u q v h k =
    let m : Mutator = record {
      registers = set (mutator_at g t).registers r v;
      objects = (mutator_at g t).objects;
    } in
    elim (cases_eq t u) [
      | inl same ↦
          ap (λ (x : Mutator). get_or x.registers q Nil)
          (mutator_with g t u m h ∙ ap (λ b. cond b m (mutator_at g u)) (eq-eqb t u same))
          ∙ get_or_set (mutator_at g t).registers r q v Nil k
          ∙ ap (λ w. cond (eqb r q) v (register_of g w q)) same
          ∙ sym (ap (λ b. cond (b && eqb r q) v (register_of g u q)) (eq-eqb t u same))
      | inr other ↦
          ap (λ (x : Mutator). get_or x.registers q Nil)
          (mutator_with g t u m h ∙ ap (λ b. cond b m (mutator_at g u)) (ne_eqb t u other))
          ∙ sym (ap (λ b. cond (b && eqb r q) v (register_of g u q)) (ne_eqb t u other))
    ]

-- a thread that keeps its registers leaves all registers
pub registers_with : (g : Graph) (t u : ℕ) (m : Mutator) → t < length g.mutators
    → m.registers ≡ (mutator_at g t).registers
    → (mutator_at (with_mutator g t m) u).registers ≡ (mutator_at g u).registers
registers_with g t u m h e = elim (cases_eq t u) [
  | inl same ↦ ap (λ (x : Mutator). x.registers)
      (mutator_with g t u m h ∙ ap (λ b. cond b m (mutator_at g u)) (eq-eqb t u same)) ∙ e
      ∙ ap (λ k. (mutator_at g k).registers) same
  | inr other ↦ ap (λ (x : Mutator). x.registers)
      (mutator_with g t u m h ∙ ap (λ b. cond b m (mutator_at g u)) (ne_eqb t u other))
]

-- a store in a register keeps every object and every name
pub object_with_register : (g : Graph) (t r : ℕ) (v : Value) (a : Name) → t < length g.mutators
    → object_of (with_register g t r v) a ≡ object_of g a
object_with_register g t r v a h = object_with_mutator g t _ h refl a

pub has_name_with_register : (g : Graph) (t r : ℕ) (v : Value) (a : Name) → t < length g.mutators
    → has_name (with_register g t r v) a ≡ has_name g a
has_name_with_register g t r v a h = has_name_with_mutator g t _ h refl a

pub sixteen_with_register : (g : Graph) (t r u : ℕ) (v : Value) → t < length g.mutators
    → length (mutator_at (with_register g t r v) u).registers ≡ length (mutator_at g u).registers
sixteen_with_register g t r u v h =
    let m : Mutator = record {
      registers = set (mutator_at g t).registers r v;
      objects = (mutator_at g t).objects;
    } in
    elim (cases_eq t u) [
      | inl same ↦ ap (λ (x : Mutator). length x.registers)
          (mutator_with g t u m h ∙ ap (λ b. cond b m (mutator_at g u)) (eq-eqb t u same))
          ∙ length-set (mutator_at g t).registers r v
          ∙ ap (λ w. length (mutator_at g w).registers) same
      | inr other ↦ ap (λ (x : Mutator). length x.registers)
          (mutator_with g t u m h ∙ ap (λ b. cond b m (mutator_at g u)) (ne_eqb t u other))
    ]

-- a store in a field, by the object's name
module _ (g : Graph) (a : Name) (i : ℕ) (v : Value) where
  -- of the shared array
  pub shared_store : a.serial ≡ 0 → a.thread ≡ length g.mutators
      → with_field g a i v ≡ record { shared = set_field g.shared i v; mutators = g.mutators }
  shared_store z n = rw (eq-eqb a.serial 0 z, eq-eqb a.thread (length g.mutators) n) refl

  -- of an object that a thread allocated
  pub thread_store : (a.serial ≡ 0 → ⊥) → with_field g a i v ≡ with_mutator g a.thread (record {
    registers = (mutator_at g a.thread).registers;
    objects = set (mutator_at g a.thread).objects (a.serial - 1) (set_field (object_of g a) i v);
  })
  thread_store z = rw (ne_eqb a.serial 0 z) refl

pub same_from : (a b : Name) → a.thread ≡ b.thread → a.serial ≡ b.serial → same_name a b ≡ true
same_from a b t s = rw (eq-eqb a.thread b.thread t, eq-eqb a.serial b.serial s) refl

pub not_same : (a b : Name) → ((a.thread ≡ b.thread) → (a.serial ≡ b.serial) → ⊥)
    → same_name a b ≡ false
not_same a b f = elim (cases_eq a.thread b.thread) [
  | inl t ↦ elim (cases_eq a.serial b.serial) [
    | inl s ↦ absurd (f t s)
    | inr s ↦ rw (eq-eqb a.thread b.thread t, ne_eqb a.serial b.serial s) refl
  ]
  | inr t ↦ rw (ne_eqb a.thread b.thread t) refl
]

-- what is at a name of serial 0, and at another
pub at_zero : (s : Object) (n : ℕ) (os : List Object) (b : Name) → b.serial ≡ 0
    → object_from s n os b ≡ cond (eqb b.thread n) s no_object
at_zero s n os b z = rw (eq-eqb b.serial 0 z) refl

pub at_serial : (s : Object) (n : ℕ) (os : List Object) (b : Name) → (b.serial ≡ 0 → ⊥)
    → object_from s n os b ≡ get_or os (b.serial - 1) no_object
at_serial s n os b z = rw (ne_eqb b.serial 0 z) refl

pub name_zero : (n c : ℕ) (b : Name) → b.serial ≡ 0 → name_from n c b ≡ true → b.thread ≡ n
name_zero n c b z h = eqb-true b.thread n (rw (eq-eqb b.serial 0 z) at h)

pub name_serial : (n c : ℕ) (b : Name) → (b.serial ≡ 0 → ⊥) → name_from n c b ≡ true → b.serial ≤ c
name_serial n c b z h = leb-true b.serial c (rw (ne_eqb b.serial 0 z) at h)

-- the shared array has one name
pub name_of_shared : (g : Graph) (a : Name) → a.serial ≡ 0 → has_name g a ≡ true
    → a.thread ≡ length g.mutators
name_of_shared g a z h = name_zero (length g.mutators) (count_of g a.thread) a z h

-- a name of a thread is one of its objects
pub name_of_thread : (g : Graph) (a : Name) → (a.serial ≡ 0 → ⊥) → has_name g a ≡ true
    → a.serial ≤ count_of g a.thread
name_of_thread g a z h = name_serial (length g.mutators) (count_of g a.thread) a z h

-- no thread past the last has an object
pub count_past : (g : Graph) (t : ℕ) → length g.mutators ≤ t → count_of g t ≡ 0
count_past g t h = ap (λ (m : Mutator). length m.objects) (get_or_past g.mutators t no_mutator h)

pub thread_of_name : (g : Graph) (a : Name) → (a.serial ≡ 0 → ⊥) → has_name g a ≡ true
    → a.thread < length g.mutators
thread_of_name g a z h = elim (cases_lt a.thread (length g.mutators)) [
  | inl l ↦ l
  | inr l ↦ let e : count_of g a.thread ≡ 0 = count_past g a.thread l in
      let k : a.serial ≤ count_of g a.thread = name_of_thread g a z h in absurd (z (omega arith))
]
