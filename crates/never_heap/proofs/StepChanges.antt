-- What a step can do to a graph, by cases, and what every step leaves.
use Rattle.std.proofs.Common.{ℕ, Bool, false, ◌+◌, ◌-◌, ◌≡◌, ◌<◌, ◌≤◌, true, is_some, cond, length, ap, ◌∙◌, refl, subst, arith, inl, inr, eq-eqb, ne_eqb}
use Rattle.std.proofs.lemmas.Bool.{cases_eq, cases_lt, both_ways, le-leb}
use Rattle.std.proofs.lemmas.List.{length-set, get_or_past}
use Rattle.block_store.specs.declared.Name.{Name}
use Rattle.block_store.specs.declared.Value.{Value}
use Rattle.block_store.specs.declared.Value.TheVariants.{Ref}
use Rattle.never_heap.specs.declared.Command.{Command}
use Rattle.never_heap.specs.declared.Reply.{Reply}
use Rattle.never_heap.specs.Graphs.{Graph, Object, no_object, nils, mutator_at, count_of, register_of, object_of, has_name, field_of, with_register, with_field, with_object, next_name}
use Rattle.never_heap.specs.Steps.{step, made, swapped, makes_object}
use Rattle.never_heap.proofs.GraphMoves.{at_zero, at_serial, objects_with}
use Rattle.never_heap.proofs.FieldStores.{threads_with_field, count_with_field, count_with_object}
use Rattle.never_heap.proofs.Outcomes.{Stored, Outcome, unchanged, in_register, in_field, in_both, new_object, outcome_of}

-- a name with a field is the name of an object
pub has_field : (g : Graph) (a : Name) (i : ℕ) → i < length (object_of g a).fields
    → has_name g a ≡ true
has_field g a i h = elim (cases_eq a.serial 0) [
  | inl z ↦ elim (cases_eq a.thread (length g.mutators)) [
    | inl e ↦ rw (eq-eqb a.serial 0 z, eq-eqb a.thread (length g.mutators) e) refl
    | inr n ↦
        let none : object_of g a ≡ no_object =
        at_zero g.shared (length g.mutators) (mutator_at g a.thread).objects a z
        ∙ ap (λ b. cond b g.shared no_object) (ne_eqb a.thread (length g.mutators) n) in
        let few : length (object_of g a).fields ≡ 0 = ap (λ (o : Object). length o.fields) none in
        absurd (omega arith)
  ]
  | inr n ↦ elim (cases_lt (a.serial - 1) (count_of g a.thread)) [
    | inl l ↦ rw (ne_eqb a.serial 0 n) (le-leb a.serial (count_of g a.thread) (omega arith))
    | inr l ↦
        let none : object_of g a ≡ no_object =
        at_serial g.shared (length g.mutators) (mutator_at g a.thread).objects a n
        ∙ get_or_past (mutator_at g a.thread).objects (a.serial - 1) no_object l in
        let few : length (object_of g a).fields ≡ 0 = ap (λ (o : Object). length o.fields) none in
        absurd (omega arith)
  ]
]

-- what a step makes of a graph: nothing new, a store in a register, a store in a field, both at
-- once, or a new object in a register
pub data Change (g : Graph) (t : ℕ) (new : Bool) : Graph → Type 0 where
  none : Change g t new g
  store : (d : ℕ) (v : Value) → Stored g t v → Change g t new (with_register g t d v)
  put : (s i v : ℕ) (a : Name) → register_of g t s ≡ Ref a → i < length (object_of g a).fields
      → Change g t new (with_field g a i (register_of g t v))
  swap : (s i v : ℕ) (a : Name) → register_of g t s ≡ Ref a → i < length (object_of g a).fields
      → Change g t new (swapped g t a i v)
  make : (d : ℕ) (o : Object) (n : ℕ) → o.fields ≡ nils n → new ≡ true
      → Change g t new (with_register (with_object g t o) t d (Ref (next_name g t)))

change_from : (g : Graph) (t : ℕ) (command : Command) (p : Graph × Reply) → Outcome g t command p
    → Change g t (makes_object command) p.0
change_from g t command _ (unchanged r told makes by) = none
change_from g t command _ (in_register d v r s said to makes by) = store d v s
change_from g t command _ (in_field s i v a r e l said at makes by) = put s i v a e l
change_from g t command _ (in_both s i v a e l to at makes by) = swap s i v a e l
change_from g t command _ (new_object d kind n is to at by) = make d _ n refl (ap is_some is)

-- each step is one of these
pub change_of : (g : Graph) (t : ℕ) (command : Command)
    → Change g t (makes_object command) (step g t command).0
change_of g t command = change_from g t command _ (outcome_of g t command)

with_register_threads : (g : Graph) (t d : ℕ) (v : Value)
    → length (with_register g t d v).mutators ≡ length g.mutators
with_register_threads g t d v = length-set g.mutators t _

pub with_object_threads : (g : Graph) (t : ℕ) (o : Object)
    → length (with_object g t o).mutators ≡ length g.mutators
with_object_threads g t o = length-set g.mutators t _

-- a store in a field that there is leaves the threads
pub threads_put : (g : Graph) (a : Name) (i : ℕ) (v : Value) → i < length (object_of g a).fields
    → length (with_field g a i v).mutators ≡ length g.mutators
threads_put g a i v l = threads_with_field g a i v (has_field g a i l)

-- the threads stay
pub threads_of_change : (g : Graph) (t : ℕ) (new : Bool) (h : Graph) → Change g t new h
    → length h.mutators ≡ length g.mutators
threads_of_change g t new _ none = refl
threads_of_change g t new _ (store d v s) = with_register_threads g t d v
threads_of_change g t new _ (put s i v a e l) =
    threads_put g a i (register_of g t v) l
threads_of_change g t new _ (swap s i v a e l) =
    with_register_threads (with_field g a i (register_of g t v)) t v (field_of (object_of g a) i)
    ∙ threads_put g a i (register_of g t v) l
threads_of_change g t new _ (make d o n e y) =
    with_register_threads (with_object g t o) t d (Ref (next_name g t))
    ∙ with_object_threads g t o

count_with_register : (g : Graph) (t d u : ℕ) (v : Value) → t < length g.mutators
    → count_of (with_register g t d v) u ≡ count_of g u
count_with_register g t d u v there = ap length (objects_with g t u _ there refl)

-- a swap makes none
swapped_count : (g : Graph) (t u i v : ℕ) (a : Name) → t < length g.mutators
    → i < length (object_of g a).fields → count_of (swapped g t a i v) u ≡ count_of g u
swapped_count g t u i v a there l =
    count_with_register (with_field g a i (register_of g t v)) t v u (field_of (object_of g a) i)
    (omega (arith, threads_put g a i (register_of g t v) l))
    ∙ count_with_field g a i (register_of g t v) (has_field g a i l) u

-- a thread that makes an object has one more
pub made_count : (g : Graph) (t d : ℕ) (o : Object) → t < length g.mutators
    → count_of (made g t d o).0 t ≡ count_of g t + 1
made_count g t d o there =
    count_with_register (with_object g t o) t d t (Ref (next_name g t))
    (omega (arith, with_object_threads g t o))
    ∙ count_with_object g t o there t
    ∙ ap (λ b. cond b (count_of g t + 1) (count_of g t)) (eq-eqb t t refl)

-- the thread makes one object at most
pub count_of_change : (g : Graph) (t : ℕ) (new : Bool) (h : Graph) → t < length g.mutators
    → Change g t new h → count_of h t ≤ count_of g t + 1
count_of_change g t new _ there none = omega arith
count_of_change g t new _ there (store d v s) = omega (arith, count_with_register g t d t v there)
count_of_change g t new _ there (put s i v a e l) =
    omega (arith, count_with_field g a i (register_of g t v) (has_field g a i l) t)
count_of_change g t new _ there (swap s i v a e l) =
    omega (arith, swapped_count g t t i v a there l)
count_of_change g t new _ there (make d o n e y) = omega (arith, made_count g t d o there)

-- another thread makes none, nor does a command that makes no object
pub count_stays : (g : Graph) (t u : ℕ) (new : Bool) (h : Graph) → t < length g.mutators
    → (t ≡ u → new ≡ false) → Change g t new h → count_of h u ≡ count_of g u
count_stays g t u new _ there other none = refl
count_stays g t u new _ there other (store d v s) = count_with_register g t d u v there
count_stays g t u new _ there other (put s i v a e l) =
    count_with_field g a i (register_of g t v) (has_field g a i l) u
count_stays g t u new _ there other (swap s i v a e l) = swapped_count g t u i v a there l
count_stays g t u new _ there other (make d o n e y) =
    count_with_register (with_object g t o) t d u (Ref (next_name g t))
    (omega (arith, with_object_threads g t o))
    ∙ count_with_object g t o there u
    ∙ ap (λ b. cond b (count_of g t + 1) (count_of g u))
    (ne_eqb t u (λ same. both_ways new (other same) y))

pub count_of_other : (g : Graph) (t u : ℕ) (new : Bool) (h : Graph) → t < length g.mutators
    → (t ≡ u → ⊥) → Change g t new h → count_of h u ≡ count_of g u
count_of_other g t u new h there other = count_stays g t u new h there (λ same. absurd (other same))

-- what the program's caller needs: a step leaves the threads, and makes one object at most
pub step_threads : (g : Graph) (t : ℕ) (command : Command)
    → length (step g t command).0.mutators ≡ length g.mutators
step_threads g t command =
    threads_of_change g t (makes_object command) (step g t command).0 (change_of g t command)

pub step_count : (g : Graph) (t : ℕ) (command : Command) → t < length g.mutators
    → count_of (step g t command).0 t ≤ count_of g t + 1
step_count g t command there =
    count_of_change g t (makes_object command) (step g t command).0 there (change_of g t command)

-- and no more of any other thread
pub step_counts_one : (g : Graph) (t : ℕ) (command : Command) (u : ℕ) → t < length g.mutators
    → count_of (step g t command).0 u ≤ count_of g u + 1
step_counts_one g t command u there = elim (cases_eq t u) [
  | inl same ↦ subst (λ k. count_of (step g t command).0 k ≤ count_of g k + 1) same
      (step_count g t command there)
  | inr other ↦ omega (
    arith,
    count_of_other g t u (makes_object command) (step g t command).0 there other
        (change_of g t command),
  )
]
