-- What can be reached after a step, and that references are to objects.
use Rattle.std.proofs.Common.{ℕ, zero, suc, ◌-◌, ◌≡◌, ◌<◌, ◌⊎◌, Bool, true, cond, List, ◌∷◌, length, set, get_or, ap, sym, ◌∙◌, refl, subst, arith, inl, inr, eq-eqb, ne_eqb}
use Rattle.std.proofs.lemmas.Bool.{cases_eq, cases_lt, cases_Bool, both_ways, or_left}
use Rattle.std.proofs.lemmas.List.{set_past, get_or_past, get_or-set_same, get_or-set_other, get_or-replicate, length-replicate}
use Rattle.block_store.specs.declared.Config.{Config}
use Rattle.block_store.specs.declared.Name.{Name}
use Rattle.block_store.specs.declared.TheConstants.{REGISTERS}
use Rattle.block_store.specs.declared.Value.{Value}
use Rattle.block_store.specs.declared.Value.TheVariants.{Nil, Ref}
use Rattle.never_heap.specs.declared.Command.{Command}
use Rattle.never_heap.specs.Graphs.{Graph, Mutator, Object, no_mutator, nils, start_graph, shared_name, mutator_at, register_of, object_of, has_name, same_name, field_of, with_register, with_field, with_object, set_field, next_name}
use Rattle.never_heap.specs.Histories.{HistoryItem, replay}
use Rattle.never_heap.specs.Reach.{reachable, IsClosed}
use Rattle.never_heap.specs.Steps.{step, makes_object}
use Rattle.never_heap.proofs.GraphMoves.{mutator_with, object_with_register, has_name_with_register}
use Rattle.never_heap.proofs.FieldStores.{object_with_field, object_with_object, has_name_with_object, registers_with_field, registers_with_object}
use Rattle.never_heap.proofs.NameLists.{one_name, same_itself}
use Rattle.never_heap.proofs.ReachableNames.{field_there, reachable_closed, reachable_least, reachable_within}
use Rattle.never_heap.proofs.StartGraph.{threads_of_start, object_of_start, has_shared, start_at}
use Rattle.never_heap.proofs.UnchangedBySteps.{step_past, next_is_new, names_of_change, replay_keeps}
use Rattle.never_heap.proofs.Outcomes.{Stored, nil, number, register, field}
use Rattle.never_heap.proofs.StepChanges.{Change, none, store, put, swap, make, change_of, has_field, with_object_threads, threads_put}

-- what is in a list after a write was written, or stood there before
set_cases : (xs : List Value) (i k : ℕ) (v : Value)
    → (get_or (set xs i v) k Nil ≡ v) ⊎ (get_or (set xs i v) k Nil ≡ get_or xs k Nil)
set_cases xs i k v = elim (cases_eq i k) [
  | inr other ↦ inr (get_or-set_other xs i k v Nil (λ e. other (sym e)))
  | inl same ↦ elim (cases_lt i (length xs)) [
    | inl l ↦ inl (ap (λ j. get_or (set xs i v) j Nil) (sym same) ∙ get_or-set_same xs i v Nil l)
    | inr l ↦ inr (ap (λ ys. get_or ys k Nil) (set_past xs i v l))
  ]
]

pub nil_of : (n i : ℕ) → get_or (nils n) i Nil ≡ Nil
nil_of n i = elim (cases_lt i n) [
  | inl l ↦ get_or-replicate n i Nil Nil l
  | inr l ↦ get_or_past (nils n) i Nil (omega (arith, length-replicate n Nil))
]

first_or_nil : (v : Value) (r : ℕ)
    → (get_or (v ∷ nils (REGISTERS - 1)) r Nil ≡ v)
    ⊎ (get_or (v ∷ nils (REGISTERS - 1)) r Nil ≡ Nil)
first_or_nil v zero = inl refl
first_or_nil v (suc r) = inr (nil_of (REGISTERS - 1) r)

register_cases : (g : Graph) (t d u q : ℕ) (v : Value) → t < length g.mutators
    → (register_of (with_register g t d v) u q ≡ v) ⊎
    (register_of (with_register g t d v) u q ≡ register_of g u q)
register_cases g t d u q v there =
    let m : Mutator = record {
      registers = set (mutator_at g t).registers d v;
      objects = (mutator_at g t).objects;
    } in
    elim (cases_eq t u) [
      | inr other ↦ inr (ap (λ (x : Mutator). get_or x.registers q Nil)
          (mutator_with g t u m there ∙ ap (λ b. cond b m (mutator_at g u)) (ne_eqb t u other)))
      | inl same ↦
          let here : register_of (with_register g t d v) u q ≡ get_or m.registers q Nil =
          ap (λ (x : Mutator). get_or x.registers q Nil)
          (mutator_with g t u m there
          ∙ ap (λ b. cond b m (mutator_at g u)) (eq-eqb t u same)) in
          elim (set_cases (mutator_at g t).registers d q v) [
            | inl new ↦ inl (here ∙ new)
            | inr old ↦ inr (here ∙ old ∙ ap (λ k. register_of g k q) same)
          ]
    ]

-- a closed set of names over a change. P holds of each name that is new in it, and of those that
-- a closed set had
module _ (g : Graph) (t : ℕ) (new : Bool) (there : t < length g.mutators) (P : Name → Type 0)
    (registers : (u r : ℕ) (a : Name) → register_of g u r ≡ Ref a → P a)
    (fields : (b a : Name) (i : ℕ) → P b → field_of (object_of g b) i ≡ Ref a → P a) where
  -- the name of the object that the change makes
  Fresh : Graph → Type 0
  Fresh h = (d : ℕ) (o : Object) → new ≡ true
      → h ≡ with_register (with_object g t o) t d (Ref (next_name g t)) → P (next_name g t)

  stored : (v : Value) (a : Name) → Stored g t v → v ≡ Ref a → P a
  stored _ a nil e = absurd cc
  stored _ a (number n) e = absurd cc
  stored _ a (register s) e = registers t s a e
  stored _ a (field s i b h l) e = fields b a i (registers t s b h) e

  registers_after : (h : Graph) → Change g t new h → Fresh h → (u r : ℕ) (a : Name)
      → register_of h u r ≡ Ref a → P a
  unfolding Fresh
  registers_after _ none fresh u r a e = registers u r a e
  registers_after _ (store d v s) fresh u r a e = elim (register_cases g t d u r v there) [
    | inl now ↦ stored v a s (sym now ∙ e)
    | inr before ↦ registers u r a (sym before ∙ e)
  ]
  registers_after _ (put s i v b h l) fresh u r a e =
      registers u r a (sym (ap (λ rs. get_or rs r Nil)
      (registers_with_field g b i (register_of g t v) (has_field g b i l) u)) ∙ e)
  registers_after _ (swap s i v b h l) fresh u r a e =
      let w : Value = register_of g t v in
      let old : Value = field_of (object_of g b) i in
      elim (register_cases (with_field g b i w) t v u r old
      (omega (arith, threads_put g b i w l))) [
        | inl now ↦ fields b a i (registers t s b h) (sym now ∙ e)
        | inr before ↦ registers u r a (sym (before ∙ ap (λ rs. get_or rs r Nil)
            (registers_with_field g b i w (has_field g b i l) u)) ∙ e)
      ]
  registers_after _ (make d o n f y) fresh u r a e =
      elim (register_cases (with_object g t o) t d u r (Ref (next_name g t))
      (omega (arith, with_object_threads g t o))) [
        | inl now ↦ let same : next_name g t ≡ a =
            (let both : Ref (next_name g t) ≡ Ref a = sym now ∙ e in cc) in
            subst P same (fresh d o y refl)
        | inr before ↦ registers u r a
            (sym (before ∙ ap (λ rs. get_or rs r Nil) (registers_with_object g t o there u)) ∙ e)
      ]

  -- a field after a store of what a register holds in a field
  field_put : (v i j : ℕ) (c b a : Name) → j < length (object_of g c).fields → P b
      → field_of (object_of (with_field g c j (register_of g t v)) b) i ≡ Ref a → P a
  field_put v i j c b a l p e =
      let w : Value = register_of g t v in
      let now : object_of (with_field g c j w) b
      ≡ cond (same_name c b) (set_field (object_of g c) j w) (object_of g b) =
      object_with_field g c j w (has_field g c j l) b in
      elim (cases_Bool (same_name c b)) [
        | inr other ↦ fields b a i p
            (sym (ap (λ (o : Object). field_of o i)
            (now ∙ ap (λ k. cond k (set_field (object_of g c) j w) (object_of g b)) other)) ∙ e)
        | inl same ↦
            let here : field_of (object_of (with_field g c j w) b) i
            ≡ get_or (set (object_of g c).fields j w) i Nil =
            ap (λ (o : Object). field_of o i)
            (now ∙ ap (λ k. cond k (set_field (object_of g c) j w) (object_of g b)) same) in
            elim (set_cases (object_of g c).fields j i w) [
              | inl put_there ↦ registers t v a (sym (here ∙ put_there) ∙ e)
              | inr before ↦ fields b a i p
                  (ap (λ (x : Name). field_of (object_of g x) i) (sym (one_name c b same))
                  ∙ sym (here ∙ before) ∙ e)
            ]
      ]

  fields_after : (h : Graph) → Change g t new h → (b a : Name) (i : ℕ) → P b
      → field_of (object_of h b) i ≡ Ref a → P a
  fields_after _ none b a i p e = fields b a i p e
  fields_after _ (store d v s) b a i p e =
      fields b a i p (sym (ap (λ (o : Object). field_of o i)
      (object_with_register g t d v b there)) ∙ e)
  fields_after _ (put s j v c h l) b a i p e = field_put v i j c b a l p e
  fields_after _ (swap s j v c h l) b a i p e =
      field_put v i j c b a l p (sym (ap (λ (o : Object). field_of o i)
      (object_with_register (with_field g c j (register_of g t v)) t v
      (field_of (object_of g c) j) b (omega (arith, threads_put g c j (register_of g t v) l)))) ∙ e)
  fields_after _ (make d o n f y) b a i p e =
      let now : object_of (with_register (with_object g t o) t d (Ref (next_name g t))) b
      ≡ cond (same_name (next_name g t) b) o (object_of g b) =
      object_with_register (with_object g t o) t d (Ref (next_name g t)) b
      (omega (arith, with_object_threads g t o)) ∙ object_with_object g t o there b in
      elim (cases_Bool (same_name (next_name g t) b)) [
        | inr other ↦ fields b a i p
            (sym (ap (λ (x : Object). field_of x i)
            (now ∙ ap (λ k. cond k o (object_of g b)) other)) ∙ e)
        | inl same ↦
            let blank : field_of (object_of
            (with_register (with_object g t o) t d (Ref (next_name g t))) b) i
            ≡ get_or (nils n) i Nil =
            ap (λ (x : Object). field_of x i) (now ∙ ap (λ k. cond k o (object_of g b)) same)
            ∙ ap (λ fs. get_or fs i Nil) f in
            let nothing : get_or (nils n) i Nil ≡ Nil = nil_of n i in
            absurd (let both : Nil ≡ Ref a = sym (blank ∙ nothing) ∙ e in cc)
      ]

-- a name that is new is in no field
old_fields : (g : Graph) (t : ℕ) (new : Bool) (b a : Name) (i : ℕ)
    → (reachable g b ≡ true) ⊎ ((new ≡ true) × (b ≡ next_name g t))
    → field_of (object_of g b) i ≡ Ref a
    → (reachable g a ≡ true) ⊎ ((new ≡ true) × (a ≡ next_name g t))
old_fields g t new b a i (inl r) e = inl ((reachable_closed g).fields b a i r e)
old_fields g t new b a i (inr p) e =
    absurd (both_ways (has_name g (next_name g t)) (next_is_new g t)
    (ap (has_name g) (sym p.1) ∙ has_field g b i (field_there g b a i e)))

-- what can be reached after a change could be reached before, or was made by it
reached_here : (g : Graph) (t : ℕ) (new : Bool) (h : Graph) → t < length g.mutators
    → Change g t new h → (a : Name) → reachable h a ≡ true
    → (reachable g a ≡ true) ⊎ ((new ≡ true) × (a ≡ next_name g t))
unfolding Fresh
reached_here g t new h there c a r =
    let P : Name → Type 0 = λ b. (reachable g b ≡ true) ⊎ ((new ≡ true) × (b ≡ next_name g t)) in
    let registers : (u q : ℕ) (b : Name) → register_of g u q ≡ Ref b → P b =
    λ u q b e. inl ((reachable_closed g).registers u q b e) in
    reachable_least h P
    (registers_after g t new there P registers (old_fields g t new) h c (λ d o y e. inr (y, refl)))
    (fields_after g t new there P registers (old_fields g t new) h c) a r

pub reached_after : (g : Graph) (t : ℕ) (command : Command) (a : Name)
    → reachable (step g t command).0 a ≡ true
    → (reachable g a ≡ true) ⊎ ((makes_object command ≡ true) × (a ≡ next_name g t))
reached_after g t command a r = elim (cases_lt t (length g.mutators)) [
  | inl there ↦ reached_here g t (makes_object command) (step g t command).0 there
      (change_of g t command) a r
  | inr past ↦ inl (ap (λ k. reachable k a) (sym (step_past g t command past)) ∙ r)
]

-- each reference, in a register or in a field, is to an object
sound_here : (g : Graph) (t : ℕ) (new : Bool) (h : Graph) → t < length g.mutators
    → Change g t new h → IsClosed g (has_name g) → IsClosed h (has_name h)
unfolding Fresh
sound_here g t new h there c sound =
    let P : Name → Type 0 = λ b. has_name h b ≡ true in
    let registers : (u q : ℕ) (b : Name) → register_of g u q ≡ Ref b → P b =
    λ u q b e. names_of_change g t new h c b (sound.registers u q b e) in
    let fields : (b a : Name) (i : ℕ) → P b → field_of (object_of g b) i ≡ Ref a → P a =
    λ b a i p e. names_of_change g t new h c a
    (sound.fields b a i (has_field g b i (field_there g b a i e)) e) in
    record {
      registers = registers_after g t new there P registers fields h c (λ d o y e.
          ap (λ (k : Graph). has_name k (next_name g t)) e
          ∙ has_name_with_register (with_object g t o) t d (Ref (next_name g t)) (next_name g t)
          (omega (arith, with_object_threads g t o))
          ∙ has_name_with_object g t o there (next_name g t)
          ∙ or_left (same_name (next_name g t) (next_name g t)) (has_name g (next_name g t))
          (same_itself (next_name g t)));
      fields = fields_after g t new there P registers fields h c;
    }

pub sound_after : (g : Graph) (t : ℕ) (command : Command) → IsClosed g (has_name g)
    → IsClosed (step g t command).0 (has_name (step g t command).0)
sound_after g t command sound = elim (cases_lt t (length g.mutators)) [
  | inl there ↦ sound_here g t (makes_object command) (step g t command).0 there
      (change_of g t command) sound
  | inr past ↦ subst (λ (k : Graph). IsClosed k (has_name k))
      (sym (step_past g t command past)) sound
]

-- so it is at the start
start_registers : (c : Config) (t r : ℕ) (a : Name) → register_of (start_graph c) t r ≡ Ref a
    → has_name (start_graph c) a ≡ true
start_registers c t r a e = elim (cases_lt t c.threads) [
  | inr past ↦ let empty : register_of (start_graph c) t r ≡ Nil =
      ap (λ (m : Mutator). get_or m.registers r Nil)
      (get_or_past (start_graph c).mutators t no_mutator (omega (arith, threads_of_start c))) in
      absurd cc
  | inl there ↦
      let here : register_of (start_graph c) t r
      ≡ get_or (Ref (shared_name c.threads) ∷ nils (REGISTERS - 1)) r Nil =
      ap (λ (m : Mutator). get_or m.registers r Nil) (start_at c t there) in
      let two = first_or_nil (Ref (shared_name c.threads)) r in
      elim two [
        | inl shared ↦ let same : shared_name c.threads ≡ a =
            (let both : Ref (shared_name c.threads) ≡ Ref a = sym (here ∙ shared) ∙ e in cc) in
            ap (has_name (start_graph c)) (sym same) ∙ has_shared c
        | inr empty ↦ absurd (let both : Nil ≡ Ref a = sym (here ∙ empty) ∙ e in cc)
      ]
]

pub sound_start : (c : Config) → IsClosed (start_graph c) (has_name (start_graph c))
sound_start c = record {
  registers = start_registers c;
  fields = λ b a i has e. absurd
      (let both : Nil ≡ Ref a = sym
      (ap (λ (o : Object). field_of o i) (object_of_start c b has) ∙ nil_of c.shared i) ∙ e in
      cc);
}

-- and after every history, and then what can be reached is the name of an object
pub sound_replay : (c : Config) (h : List HistoryItem)
    → IsClosed (replay c h) (has_name (replay c h))
sound_replay c h = replay_keeps (λ (k : Graph). IsClosed k (has_name k)) sound_after h
    (start_graph c) (sound_start c)

pub reachable_named : (c : Config) (h : List HistoryItem) (a : Name)
    → reachable (replay c h) a ≡ true → has_name (replay c h) a ≡ true
reachable_named c h a r =
    reachable_within (replay c h) (has_name (replay c h)) a (sound_replay c h) r
