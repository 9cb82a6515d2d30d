-- What stays over a step and over a replay: names, with the kind and length of their objects, and
-- what no command stored in.
use Rattle.std.proofs.Common.{ℕ, ◌+◌, ◌≡◌, ◌<◌, ◌≤◌, Bool, true, false, Option, Some, None, cond, eqb, leb, List, [], ◌∷◌, length, set, get_or, ap, sym, ◌∙◌, refl, subst, arith, inl, inr, eq-eqb, ne_eqb, ◌-◌}
use Rattle.std.proofs.lemmas.Bool.{cases_eq, cases_lt, cases_Bool, both_ways, or_right, lt-leb, eqb-false}
use Rattle.std.proofs.lemmas.List.{length-set, set_past, get_or_past, get_or-set_other}
use Rattle.block_store.specs.declared.Name.{Name}
use Rattle.block_store.specs.declared.Value.{Value}
use Rattle.block_store.specs.declared.Value.TheVariants.{Nil, Ref}
use Rattle.never_heap.specs.declared.Command.{Command}
use Rattle.never_heap.specs.declared.Reply.{Reply}
use Rattle.never_heap.specs.Graphs.{SameShape, Graph, Mutator, Object, no_mutator, mutator_at, count_of, register_of, object_of, has_name, same_name, with_mutator, with_register, with_field, with_object, set_field, field_of, next_name}
use Rattle.never_heap.specs.Histories.{HistoryItem, Started, Did, is_full, after, replay_from}
use Rattle.never_heap.specs.Signatures.{operands, destination_in}
use Rattle.never_heap.specs.Steps.{step, made, makes_object, is_register, stores_in, stored_at}
use Rattle.never_heap.proofs.GraphMoves.{mutator_with, object_with_register, has_name_with_register, sixteen_with_register}
use Rattle.never_heap.proofs.FieldStores.{object_with_field, has_name_with_field, object_with_object, has_name_with_object, registers_with_field, registers_with_object}
use Rattle.never_heap.proofs.NameLists.{one_name}
use Rattle.never_heap.proofs.Outcomes.{Outcome, unchanged, in_register, in_field, in_both, new_object, outcome_of}
use Rattle.never_heap.proofs.StepChanges.{Change, none, store, put, swap, make, change_of, has_field, with_object_threads, threads_put, count_stays, made_count, step_threads}

-- a thread that there is not changes nothing
pub past_with : (g : Graph) (t : ℕ) (m : Mutator) → length g.mutators ≤ t → with_mutator g t m ≡ g
past_with g t m l = ap (λ (ms : List Mutator). let h
    : Graph = record { shared = g.shared; mutators = ms } in h) (set_past g.mutators t m l)

pub past_register : (g : Graph) (t r : ℕ) → length g.mutators ≤ t → register_of g t r ≡ Nil
past_register g t r l = ap (λ (m : Mutator). get_or m.registers r Nil)
    (get_or_past g.mutators t no_mutator l)

pub change_past : (g : Graph) (t : ℕ) (new : Bool) (h : Graph) → length g.mutators ≤ t
    → Change g t new h → h ≡ g
change_past g t new _ l none = refl
change_past g t new _ l (store d v s) = past_with g t _ l
change_past g t new _ l (put s i v a e k) = let nil : register_of g t s ≡ Nil =
    past_register g t s l in absurd cc
change_past g t new _ l (swap s i v a e k) = let nil : register_of g t s ≡ Nil =
    past_register g t s l in absurd cc
change_past g t new _ l (make d o n e y) =
    ap (λ (k : Graph). with_register k t d (Ref (next_name g t))) (past_with g t _ l)
    ∙ past_with g t _ l

-- so a command of a thread that there is not leaves the graph
pub step_past : (g : Graph) (t : ℕ) (command : Command) → length g.mutators ≤ t
    → (step g t command).0 ≡ g
step_past g t command past =
    change_past g t (makes_object command) (step g t command).0 past (change_of g t command)

-- the next name is new
pub next_is_new : (g : Graph) (t : ℕ) → has_name g (next_name g t) ≡ false
next_is_new g t =
    ap (λ b. cond b (eqb t (length g.mutators)) (leb (count_of g t + 1) (count_of g t)))
    (ne_eqb (count_of g t + 1) 0 (λ e. absurd (omega arith)))
    ∙ lt-leb (count_of g t + 1) (count_of g t) (omega arith)

same_shape : (o p : Object) → p ≡ o → SameShape o p
same_shape o p e = record {
  kind = ap (λ (x : Object). x.kind) e;
  size = ap (λ (x : Object). length x.fields) e;
}

shape_set : (o p : Object) (i : ℕ) (v : Value) → p ≡ set_field o i v → SameShape o p
shape_set o p i v e = record {
  kind = ap (λ (x : Object). x.kind) e;
  size = ap (λ (x : Object). length x.fields) e ∙ length-set o.fields i v;
}

module _ (g : Graph) (t : ℕ) (new : Bool) (there : t < length g.mutators) where
  names_here : (h : Graph) → Change g t new h → (a : Name) → has_name g a ≡ true
      → has_name h a ≡ true
  names_here _ none a has = has
  names_here _ (store d v s) a has = has_name_with_register g t d v a there ∙ has
  names_here _ (put s i v b e l) a has =
      has_name_with_field g b i (register_of g t v) (has_field g b i l) a ∙ has
  names_here _ (swap s i v b e l) a has =
      has_name_with_register (with_field g b i (register_of g t v)) t v
      (field_of (object_of g b) i) a (omega (arith, threads_put g b i (register_of g t v) l))
      ∙ has_name_with_field g b i (register_of g t v) (has_field g b i l) a ∙ has
  names_here _ (make d o n e y) a has =
      has_name_with_register (with_object g t o) t d (Ref (next_name g t)) a
      (omega (arith, with_object_threads g t o))
      ∙ has_name_with_object g t o there a
      ∙ or_right (same_name (next_name g t) a) (has_name g a) has

  shape_put : (i : ℕ) (w : Value) (b a : Name) → i < length (object_of g b).fields
      → SameShape (object_of g a) (object_of (with_field g b i w) a)
  shape_put i w b a l = elim (cases_Bool (same_name b a)) [
    | inl y ↦ subst (λ (x : Name). SameShape (object_of g x)
        (object_of (with_field g b i w) a)) (one_name b a y)
        (shape_set (object_of g b) (object_of (with_field g b i w) a) i
        w (object_with_field g b i w (has_field g b i l) a
        ∙ ap (λ k. cond k (set_field (object_of g b) i w) (object_of g a)) y))
    | inr n ↦ same_shape (object_of g a) _
        (object_with_field g b i w (has_field g b i l) a
        ∙ ap (λ k. cond k (set_field (object_of g b) i w) (object_of g a)) n)
  ]

  shape_here : (h : Graph) → Change g t new h → (a : Name) → has_name g a ≡ true
      → SameShape (object_of g a) (object_of h a)
  shape_here _ none a has = same_shape (object_of g a) (object_of g a) refl
  shape_here _ (store d v s) a has =
      same_shape (object_of g a) _ (object_with_register g t d v a there)
  shape_here _ (put s i v b e l) a has = shape_put i (register_of g t v) b a l
  shape_here _ (swap s i v b e l) a has =
      subst (λ (p : Object). SameShape (object_of g a) p)
      (sym (object_with_register (with_field g b i (register_of g t v)) t v
      (field_of (object_of g b) i) a (omega (arith, threads_put g b i (register_of g t v) l))))
      (shape_put i (register_of g t v) b a l)
  shape_here _ (make d o n e y) a has = elim (cases_Bool (same_name (next_name g t) a)) [
    | inl same ↦ absurd (both_ways (has_name g (next_name g t)) (next_is_new g t)
        (ap (has_name g) (one_name (next_name g t) a same) ∙ has))
    | inr other ↦ same_shape (object_of g a) _
        (object_with_register (with_object g t o) t d (Ref (next_name g t)) a
        (omega (arith, with_object_threads g t o))
        ∙ object_with_object g t o there a ∙ ap (λ k. cond k o (object_of g a)) other)
  ]

-- a name stays, with the kind and length of its object
pub names_of_change : (g : Graph) (t : ℕ) (new : Bool) (h : Graph) → Change g t new h → (a : Name)
    → has_name g a ≡ true → has_name h a ≡ true
names_of_change g t new h c a has = elim (cases_lt t (length g.mutators)) [
  | inl there ↦ names_here g t new there h c a has
  | inr past ↦ ap (λ k. has_name k a) (change_past g t new h past c) ∙ has
]

pub shape_of_change : (g : Graph) (t : ℕ) (new : Bool) (h : Graph) → Change g t new h → (a : Name)
    → has_name g a ≡ true → SameShape (object_of g a) (object_of h a)
shape_of_change g t new h c a has = elim (cases_lt t (length g.mutators)) [
  | inl there ↦ shape_here g t new there h c a has
  | inr past ↦ same_shape (object_of g a) (object_of h a)
      (ap (λ k. object_of k a) (change_past g t new h past c))
]

pub step_names : (g : Graph) (t : ℕ) (command : Command) (a : Name) → has_name g a ≡ true
    → has_name (step g t command).0 a ≡ true
step_names g t command =
    names_of_change g t (makes_object command) (step g t command).0 (change_of g t command)

pub step_shape : (g : Graph) (t : ℕ) (command : Command) (a : Name) → has_name g a ≡ true
    → SameShape (object_of g a) (object_of (step g t command).0 a)
step_shape g t command =
    shape_of_change g t (makes_object command) (step g t command).0 (change_of g t command)

-- the same over an item and over a replay, by a law of steps
pub after_keeps : (P : Graph → Type 0) (g : Graph) (i : HistoryItem) → P g
    → ((t : ℕ) (command : Command) → P (step g t command).0) → P (after g i)
after_keeps P g Started p f = p
after_keeps P g (Did e) p f = elim (cases_Bool (is_full e.reply)) [
  | inl y ↦ subst (λ b. P (cond b g (step g e.thread e.command).0)) (sym y) p
  | inr n ↦ subst (λ b. P (cond b g (step g e.thread e.command).0)) (sym n) (f e.thread e.command)
]

pub replay_keeps : (P : Graph → Type 0)
    → ((g : Graph) (t : ℕ) (command : Command) → P g → P (step g t command).0)
    → (h : List HistoryItem) (g : Graph) → P g → P (replay_from g h)
replay_keeps P f [] g p = p
replay_keeps P f (i ∷ h) g p =
    replay_keeps P f h (after g i) (after_keeps P g i p (λ t command. f g t command p))

pub replay_names : (g : Graph) (h : List HistoryItem) (a : Name) → has_name g a ≡ true
    → has_name (replay_from g h) a ≡ true
replay_names g h a has =
    replay_keeps (λ k. has_name k a ≡ true) (λ k t command. step_names k t command a) h g has

record Kept (o : Object) (a : Name) (g : Graph) : Type 0 where
  has : has_name g a ≡ true
  shape : SameShape o (object_of g a)

pub replay_shape : (g : Graph) (h : List HistoryItem) (a : Name) → has_name g a ≡ true
    → SameShape (object_of g a) (object_of (replay_from g h) a)
replay_shape g h a has = (replay_keeps (Kept (object_of g a) a) (λ k t command p.
    let s = step_shape k t command a p.has in
    record {
      has = step_names k t command a p.has;
      shape = record { kind = s.kind ∙ p.shape.kind; size = s.size ∙ p.shape.size };
    }) h g (record { has = has; shape = same_shape (object_of g a) (object_of g a) refl })).shape

-- registers of other threads, and registers in which the command does not store
other_register : (g : Graph) (t d u q : ℕ) (v : Value) → (t ≡ u → eqb d q ≡ false)
    → register_of (with_register g t d v) u q ≡ register_of g u q
other_register g t d u q v f = elim (cases_lt t (length g.mutators)) [
  | inr past ↦ ap (λ k. register_of k u q) (past_with g t _ past)
  | inl there ↦
      let m : Mutator = record {
        registers = set (mutator_at g t).registers d v;
        objects = (mutator_at g t).objects;
      } in
      elim (cases_eq t u) [
        | inl same ↦
            ap (λ (x : Mutator). get_or x.registers q Nil)
            (mutator_with g t u m there
            ∙ ap (λ b. cond b m (mutator_at g u)) (eq-eqb t u same))
            ∙ get_or-set_other (mutator_at g t).registers d q v Nil
            (λ e. eqb-false d q (f same) (sym e)) ∙ ap (λ k. register_of g k q) same
        | inr other ↦ ap (λ (x : Mutator). get_or x.registers q Nil)
            (mutator_with g t u m there ∙ ap (λ b. cond b m (mutator_at g u)) (ne_eqb t u other))
      ]
]

made_register : (g : Graph) (t d u q : ℕ) (o : Object) → (t ≡ u → eqb d q ≡ false)
    → register_of (made g t d o).0 u q ≡ register_of g u q
made_register g t d u q o f =
    other_register (with_object g t o) t d u q (Ref (next_name g t)) f
    ∙ elim (cases_lt t (length g.mutators)) [
      | inl there ↦ ap (λ rs. get_or rs q Nil) (registers_with_object g t o there u)
      | inr past ↦ ap (λ k. register_of k u q) (past_with g t _ past)
    ]

-- a store in a field leaves the registers
put_register : (g : Graph) (i : ℕ) (w : Value) (a : Name) (u q : ℕ)
    → i < length (object_of g a).fields
    → register_of (with_field g a i w) u q ≡ register_of g u q
put_register g i w a u q l = ap (λ rs. get_or rs q Nil)
    (registers_with_field g a i w (has_field g a i l) u)

-- a command that stores in one register stores in no other
apart : (k : Command) (t d u q : ℕ) → destination_in (operands k) ≡ Some d
    → (t ≡ u → stores_in k q ≡ false) → t ≡ u → eqb d q ≡ false
apart k t d u q to n same = sym (ap (λ o. is_register o q) to) ∙ n same

register_after : (g : Graph) (t : ℕ) (k : Command) (p : Graph × Reply) → Outcome g t k p → (u q : ℕ)
    → (t ≡ u → stores_in k q ≡ false) → register_of p.0 u q ≡ register_of g u q
register_after g t k _ (unchanged r told makes by) u q n = refl
register_after g t k _ (in_register d v r s said to makes by) u q n =
    other_register g t d u q v (apart k t d u q to n)
register_after g t k _ (in_field s i v a r e l said at makes by) u q n =
    put_register g i (register_of g t v) a u q l
register_after g t k _ (in_both s i v a e l to at makes by) u q n =
    other_register (with_field g a i (register_of g t v)) t v u q (field_of (object_of g a) i)
    (apart k t v u q to n) ∙ put_register g i (register_of g t v) a u q l
register_after g t k _ (new_object d kind size is to at by) u q n =
    made_register g t d u q _ (apart k t d u q to n)

pub step_register : (g : Graph) (t : ℕ) (command : Command) (u q : ℕ)
    → (t ≡ u → stores_in command q ≡ false)
    → register_of (step g t command).0 u q ≡ register_of g u q
step_register g t command = register_after g t command _ (outcome_of g t command)

-- objects, but for one in which a command may store
pub register_object : (g : Graph) (t d : ℕ) (v : Value) (a : Name)
    → object_of (with_register g t d v) a ≡ object_of g a
register_object g t d v a = elim (cases_lt t (length g.mutators)) [
  | inl there ↦ object_with_register g t d v a there
  | inr past ↦ ap (λ k. object_of k a) (past_with g t _ past)
]

made_object : (g : Graph) (t d : ℕ) (o : Object) (a : Name) → has_name g a ≡ true
    → object_of (made g t d o).0 a ≡ object_of g a
made_object g t d o a has =
    register_object (with_object g t o) t d (Ref (next_name g t)) a
    ∙ elim (cases_lt t (length g.mutators)) [
      | inr past ↦ ap (λ k. object_of k a) (past_with g t _ past)
      | inl there ↦ elim (cases_Bool (same_name (next_name g t) a)) [
        | inl same ↦ absurd (both_ways (has_name g (next_name g t)) (next_is_new g t)
            (ap (has_name g) (one_name (next_name g t) a same) ∙ has))
        | inr other ↦ object_with_object g t o there a ∙ ap (λ k. cond k o (object_of g a)) other
      ]
    ]

object_after : (g : Graph) (t : ℕ) (k : Command) (p : Graph × Reply) → Outcome g t k p → (a : Name)
    → has_name g a ≡ true → stored_at k ≡ None → object_of p.0 a ≡ object_of g a
object_after g t k _ (unchanged r told makes by) a has n = refl
object_after g t k _ (in_register d v r s said to makes by) a has n = register_object g t d v a
object_after g t k _ (in_field s i v b r e l said at makes by) a has n = absurd cc
object_after g t k _ (in_both s i v b e l to at makes by) a has n = absurd cc
object_after g t k _ (new_object d kind size is to at by) a has n = made_object g t d _ a has

pub step_object : (g : Graph) (t : ℕ) (command : Command) (a : Name) → has_name g a ≡ true
    → stored_at command ≡ None → object_of (step g t command).0 a ≡ object_of g a
step_object g t command = object_after g t command _ (outcome_of g t command)

-- a store in a field leaves the objects of other names
put_object : (g : Graph) (i : ℕ) (w : Value) (b a : Name) → i < length (object_of g b).fields
    → (b ≡ a → ⊥) → object_of (with_field g b i w) a ≡ object_of g a
put_object g i w b a l n = elim (cases_Bool (same_name b a)) [
  | inl same ↦ absurd (n (one_name b a same))
  | inr other ↦ object_with_field g b i w (has_field g b i l) a
      ∙ ap (λ k. cond k (set_field (object_of g b) i w) (object_of g a)) other
]

-- and the fields of another place
other_field : (o : Object) (i j : ℕ) (v : Value) → (i ≡ j → ⊥)
    → field_of (set_field o i v) j ≡ field_of o j
other_field o i j v n = get_or-set_other o.fields i j v Nil (λ e. n (sym e))

abbrev pub field_at : Graph → Name → ℕ → Value
field_at g a i = field_of (object_of g a) i

-- a store in a field leaves those of other names and of other places
pub put_apart : (g : Graph) (i : ℕ) (w : Value) (b a : Name) (j : ℕ)
    → i < length (object_of g b).fields
    → (b ≡ a → i ≡ j → ⊥) → field_at (with_field g b i w) a j ≡ field_at g a j
put_apart g i w b a j l n = elim (cases_Bool (same_name b a)) [
  | inl same ↦
      ap (λ o. field_of o j) (object_with_field g b i w (has_field g b i l) a)
      ∙ ap (λ k. field_of (cond k (set_field (object_of g b) i w) (object_of g a)) j) same
      ∙ other_field (object_of g b) i j w (n (one_name b a same))
      ∙ ap (λ k. field_of (object_of g k) j) (one_name b a same)
  | inr other ↦
      ap (λ o. field_of o j) (object_with_field g b i w (has_field g b i l) a)
      ∙ ap (λ k. field_of (cond k (set_field (object_of g b) i w) (object_of g a)) j) other
]

-- the place in which a command stores is one
abbrev first_of : Option (ℕ × ℕ) → ℕ
first_of None = 0
first_of (Some p) = p.0

abbrev second_of : Option (ℕ × ℕ) → ℕ
second_of None = 0
second_of (Some p) = p.1

same_first : (o : Option (ℕ × ℕ)) (s i q j : ℕ) → o ≡ Some (s, i) → o ≡ Some (q, j) → s ≡ q
same_first o s i q j e f = ap first_of (sym e ∙ f)

same_second : (o : Option (ℕ × ℕ)) (s i q j : ℕ) → o ≡ Some (s, i) → o ≡ Some (q, j) → i ≡ j
same_second o s i q j e f = ap second_of (sym e ∙ f)

-- objects to which the register does not refer in whose object a command stores
other_after : (g : Graph) (t : ℕ) (k : Command) (p : Graph × Reply) → Outcome g t k p
    → (s i : ℕ) (a : Name) → stored_at k ≡ Some (s, i) → (register_of g t s ≡ Ref a → ⊥)
    → object_of p.0 a ≡ object_of g a
other_after g t k _ (unchanged r told makes by) s i a at n = refl
other_after g t k _ (in_register d v r f said to makes by) s i a at n = register_object g t d v a
other_after g t k _ (in_field q j v b r e l said place makes by) s i a at n =
    put_object g j (register_of g t v) b a l (λ same.
    n (ap (register_of g t) (same_first (stored_at k) s i q j at place) ∙ e ∙ ap Ref same))
other_after g t k _ (in_both q j v b e l to place makes by) s i a at n =
    register_object (with_field g b j (register_of g t v)) t v (field_of (object_of g b) j) a
    ∙ put_object g j (register_of g t v) b a l (λ same.
    n (ap (register_of g t) (same_first (stored_at k) s i q j at place) ∙ e ∙ ap Ref same))
other_after g t k _ (new_object d kind size is to place by) s i a at n = absurd cc

pub stored_other : (g : Graph) (t : ℕ) (command : Command) (s i : ℕ) (a : Name)
    → stored_at command ≡ Some (s, i)
    → (register_of g t s ≡ Ref a → ⊥) → object_of (step g t command).0 a ≡ object_of g a
stored_other g t command = other_after g t command _ (outcome_of g t command)

-- and the fields of other places
place_after : (g : Graph) (t : ℕ) (k : Command) (p : Graph × Reply) → Outcome g t k p
    → (s i : ℕ) (a : Name) (z : ℕ) → stored_at k ≡ Some (s, i) → (i ≡ z → ⊥)
    → field_at p.0 a z ≡ field_at g a z
place_after g t k _ (unchanged r told makes by) s i a z at n = refl
place_after g t k _ (in_register d v r f said to makes by) s i a z at n =
    ap (λ (o : Object). field_of o z) (register_object g t d v a)
place_after g t k _ (in_field q j v b r e l said place makes by) s i a z at n =
    put_apart g j (register_of g t v) b a z l
    (λ _ same. n (same_second (stored_at k) s i q j at place ∙ same))
place_after g t k _ (in_both q j v b e l to place makes by) s i a z at n =
    ap (λ (o : Object). field_of o z)
    (register_object (with_field g b j (register_of g t v)) t v (field_at g b j) a)
    ∙ put_apart g j (register_of g t v) b a z l
    (λ _ same. n (same_second (stored_at k) s i q j at place ∙ same))
place_after g t k _ (new_object d kind size is to place by) s i a z at n = absurd cc

pub stored_field : (g : Graph) (t : ℕ) (command : Command) (s i : ℕ) (a : Name) (j : ℕ)
    → stored_at command ≡ Some (s, i)
    → (i ≡ j → ⊥) → field_of (object_of (step g t command).0 a) j ≡ field_of (object_of g a) j
stored_field g t command = place_after g t command _ (outcome_of g t command)

-- how many objects a thread made
pub step_counts : (g : Graph) (t : ℕ) (command : Command) (u : ℕ)
    → (t ≡ u → makes_object command ≡ false) → count_of (step g t command).0 u ≡ count_of g u
step_counts g t command u n = elim (cases_lt t (length g.mutators)) [
  | inl there ↦ count_stays g t u (makes_object command) (step g t command).0 there n
      (change_of g t command)
  | inr past ↦ ap (λ k. count_of k u) (step_past g t command past)
]

made_after : (g : Graph) (t : ℕ) (k : Command) (p : Graph × Reply) → Outcome g t k p
    → makes_object k ≡ true → t < length g.mutators → count_of p.0 t ≡ count_of g t + 1
made_after g t k _ (unchanged r told nothing by) makes there = absurd cc
made_after g t k _ (in_register d v r s said to nothing by) makes there = absurd cc
made_after g t k _ (in_field s i v a r e l said at nothing by) makes there = absurd cc
made_after g t k _ (in_both s i v a e l to at nothing by) makes there = absurd cc
made_after g t k _ (new_object d kind size is to at by) makes there = made_count g t d _ there

pub step_made : (g : Graph) (t : ℕ) (command : Command) → makes_object command ≡ true
    → t < length g.mutators → count_of (step g t command).0 t ≡ count_of g t + 1
step_made g t command = made_after g t command _ (outcome_of g t command)

-- a thread has as many registers as before
abbrev pub registers_in : Graph → ℕ → ℕ
registers_in g u = length (mutator_at g u).registers

pub same_registers : (g : Graph) (t u : ℕ) (new : Bool) (h : Graph) → t < length g.mutators
    → Change g t new h → registers_in h u ≡ registers_in g u
same_registers g t u new _ there none = refl
same_registers g t u new _ there (store d v s) = sixteen_with_register g t d u v there
same_registers g t u new _ there (put s i v a e l) =
    ap length (registers_with_field g a i (register_of g t v) (has_field g a i l) u)
same_registers g t u new _ there (swap s i v a e l) =
    sixteen_with_register (with_field g a i (register_of g t v)) t v u
    (field_of (object_of g a) i) (omega (arith, there, threads_put g a i (register_of g t v) l))
    ∙ ap length (registers_with_field g a i (register_of g t v) (has_field g a i l) u)
same_registers g t u new _ there (make d o n e y) =
    sixteen_with_register (with_object g t o) t d u (Ref (next_name g t))
    (omega (arith, there, with_object_threads g t o))
    ∙ ap length (registers_with_object g t o there u)

pub step_registers : (g : Graph) (t : ℕ) (k : Command) (u : ℕ)
    → registers_in (step g t k).0 u ≡ registers_in g u
step_registers g t k u = elim (cases_lt t (length g.mutators)) [
  | inl there ↦ same_registers g t u (makes_object k) (step g t k).0 there (change_of g t k)
  | inr past ↦ ap (λ h. registers_in h u) (step_past g t k past)
]

-- a replay leaves the threads
pub threads_of_replay : (g : Graph) (h : List HistoryItem)
    → length (replay_from g h).mutators ≡ length g.mutators
threads_of_replay g h = replay_keeps (λ k. length k.mutators ≡ length g.mutators)
    (λ k t q e. step_threads k t q ∙ e) h g refl

-- a thread with a reference in a register is one of the heap's
pub thread_of : (g : Graph) (t d : ℕ) (a : Name) → register_of g t d ≡ Ref a
    → t < length g.mutators
thread_of g t d a e = elim (cases_lt t (length g.mutators)) [
  | inl low ↦ low
  | inr high ↦ (let none : Nil ≡ Ref a = sym (past_register g t d high) ∙ e in absurd cc)
]
