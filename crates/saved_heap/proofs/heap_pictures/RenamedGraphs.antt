-- Stores and new objects in two graphs that are one up to names.
use Rattle.std.proofs.Common.{◌≡◌, ℕ, ◌<◌, Bool, true, false, inl, inr, ◌||◌, eqb, cond, List, [], ◌∷◌, length, map, get_or, zero, suc, refl, sym, ap, ◌∙◌, arith}
use Rattle.std.proofs.lemmas.Bool.{both_ways, cases_Bool, cond_both, false_from_ne_true, or_cases, or_left, or_right}
use Rattle.std.proofs.lemmas.List.{map-set}
use Rattle.block_store.specs.declared.Name.{Name}
use Rattle.block_store.specs.declared.TheConstants.{REGISTERS}
use Rattle.block_store.specs.declared.Value.{Value}
use Rattle.block_store.specs.declared.Value.TheVariants.{Nil, Int, Ref}
use Rattle.never_heap.specs.Graphs.{Graph, Object, ObjectKind, field_of, has_name, next_name, nil_object, nils, object_of, register_of, same_name, set_field, with_field, with_object, with_register}
use Rattle.never_heap.proofs.Lemmas.{get_or_set, has_name_with_field, has_name_with_object, has_name_with_register, next_is_new, nil_of, object_with_field, object_with_object, object_with_register, one_name, register_with_register, registers_with_field, registers_with_object, same_itself}
use Rattle.saved_heap.specs.heap_pictures.Following.{HasOneThread}
use Rattle.saved_heap.specs.heap_pictures.UpToNames.{AreOneUpToNames, renamed, renamed_object}

-- two graphs are one under these names, of which a set is reached
pub record AreOneUnder (R : Name → Bool) (T : Name → Name) (g z : Graph) : Type 0 where
  pub roots : (r : ℕ) (a : Name) → register_of g 0 r ≡ Ref a → R a ≡ true
  pub closed : (b a : Name) (i : ℕ) → R b ≡ true → field_of (object_of g b) i ≡ Ref a → R a ≡ true
  pub apart : (a b : Name) → R a ≡ true → R b ≡ true → T a ≡ T b → a ≡ b
  pub registers : (r : ℕ) → register_of z 0 r ≡ renamed T (register_of g 0 r)
  pub objects : (a : Name) → R a ≡ true → object_of z (T a) ≡ renamed_object T (object_of g a)
  pub here : (a : Name) → R a ≡ true → has_name g a ≡ true
  pub there : (a : Name) → R a ≡ true → has_name z (T a) ≡ true

abbrev pub under : {g z : Graph} (one : AreOneUpToNames g z) → AreOneUnder one.reached one.to g z
under one = record {
  roots = one.roots;
  closed = one.closed;
  apart = one.apart;
  registers = one.registers;
  objects = one.objects;
  here = one.here;
  there = one.there;
}

abbrev pub up_to_names : (R : Name → Bool) (T : Name → Name) {g z : Graph}
    → AreOneUnder R T g z → AreOneUpToNames g z
up_to_names R T one = record {
  reached = R;
  to = T;
  roots = one.roots;
  closed = one.closed;
  apart = one.apart;
  registers = one.registers;
  objects = one.objects;
  here = one.here;
  there = one.there;
}

-- the name in a value, if any, is of a set
abbrev pub IsNamed : (Name → Bool) → Value → Type 0
IsNamed R v = (a : Name) → v ≡ Ref a → R a ≡ true

-- two renamings that agree on a set of names
pub same_value_under : (R : Name → Bool) (T S : Name → Name) (v : Value)
    → ((a : Name) → R a ≡ true → S a ≡ T a) → IsNamed R v → renamed S v ≡ renamed T v
same_value_under R T S Nil e named = refl
same_value_under R T S (Int n) e named = refl
same_value_under R T S (Ref a) e named = ap Ref (e a (named a refl))

same_values_under : (R : Name → Bool) (T S : Name → Name) (vs : List Value)
    → ((a : Name) → R a ≡ true → S a ≡ T a)
    → ((i : ℕ) → IsNamed R (get_or vs i Nil)) → map (renamed S) vs ≡ map (renamed T) vs
same_values_under R T S [] e named = refl
same_values_under R T S (v ∷ vs) e named =
    ap (λ w. w ∷ map (renamed S) vs) (same_value_under R T S v e (named 0))
    ∙ ap (λ ws. renamed T v ∷ ws) (same_values_under R T S vs e (λ i. named (suc i)))

abbrev object_of_fields : ObjectKind → List Value → Object
object_of_fields kind vs = record { kind = kind; fields = vs }

same_object_under : (R : Name → Bool) (T S : Name → Name) (o : Object)
    → ((a : Name) → R a ≡ true → S a ≡ T a)
    → ((i : ℕ) → IsNamed R (field_of o i)) → renamed_object S o ≡ renamed_object T o
same_object_under R T S o e named =
    ap (object_of_fields o.kind) (same_values_under R T S o.fields e named)

renamed_choice : (T : Name → Name) (b : Bool) (v w : Value)
    → cond b (renamed T v) (renamed T w) ≡ renamed T (cond b v w)
renamed_choice T true v w = refl
renamed_choice T false v w = refl

renamed_store : (T : Name → Name) (b : Bool) (o p : Object) (i : ℕ) (v : Value)
    → cond b (set_field (renamed_object T o) i (renamed T v)) (renamed_object T p)
    ≡ renamed_object T (cond b (set_field o i v) p)
renamed_store T true o p i v = ap (object_of_fields o.kind) (sym (map-set (renamed T) o.fields i v))
renamed_store T false o p i v = refl

-- nil is under each name
nils_under : (T : Name → Name) (n : ℕ) → map (renamed T) (nils n) ≡ nils n
nils_under T zero = refl
nils_under T (suc n) = ap (λ vs. Nil ∷ vs) (nils_under T n)

nil_no_name : (v : Value) (a : Name) → v ≡ Nil → v ≡ Ref a → ⊥
nil_no_name v a n e = let same : Nil ≡ Ref a = sym n ∙ e in absurd cc

module _ (R : Name → Bool) (T : Name → Name) (g z : Graph) (one : AreOneUnder R T g z) where
  -- names that are reached are one where they are one in the other graph
  same_names : (a b : Name) → R a ≡ true → R b ≡ true → same_name (T a) (T b) ≡ same_name a b
  same_names a b ra rb = elim (cases_Bool (same_name a b)) [
    | inl y ↦ ap (λ c. same_name (T a) (T c)) (sym (one_name a b y)) ∙ same_itself (T a) ∙ sym y
    | inr n ↦ false_from_ne_true (same_name (T a) (T b)) (λ y.
        both_ways (same_name a b) n
        (ap (same_name a) (sym (one.apart a b ra rb (one_name (T a) (T b) y))) ∙ same_itself a))
        ∙ sym n
  ]

  -- a value is stored in a register
  module _ (lone : HasOneThread g) (also : HasOneThread z) (d : ℕ) (low : d < REGISTERS) (v : Value)
      (named : IsNamed R v) where
    some : 0 < length g.mutators
    some = omega (arith, lone.threads)

    some_there : 0 < length z.mutators
    some_there = omega (arith, also.threads)

    register_here : (r : ℕ)
        → register_of (with_register g 0 d v) 0 r ≡ cond (eqb d r) v (register_of g 0 r)
    register_here r = register_with_register g 0 d 0 r v some (omega (arith, lone.registers, low))

    register_there : (r : ℕ) → register_of (with_register z 0 d (renamed T v)) 0 r
        ≡ cond (eqb d r) (renamed T v) (register_of z 0 r)
    register_there r =
        register_with_register z 0 d 0 r (renamed T v) some_there
        (omega (arith, also.registers, low))

    pub registers_under :
        AreOneUnder R T (with_register g 0 d v) (with_register z 0 d (renamed T v))
    registers_under = record {
      roots = λ r a e. cond_both (eqb d r) v (register_of g 0 r) (λ w. w ≡ Ref a → R a ≡ true)
          (λ _. named a) (λ _. one.roots r a) (sym (register_here r) ∙ e);
      closed = λ b a i rb e. one.closed b a i rb
          (sym (ap (λ o. field_of o i) (object_with_register g 0 d v b some)) ∙ e);
      apart = one.apart;
      registers = λ r. register_there r
          ∙ ap (λ w. cond (eqb d r) (renamed T v) w) (one.registers r)
          ∙ renamed_choice T (eqb d r) v (register_of g 0 r)
          ∙ ap (renamed T) (sym (register_here r));
      objects = λ a ra. object_with_register z 0 d (renamed T v) (T a) some_there ∙ one.objects a ra
          ∙ ap (renamed_object T) (sym (object_with_register g 0 d v a some));
      here = λ a ra. has_name_with_register g 0 d v a some ∙ one.here a ra;
      there = λ a ra. has_name_with_register z 0 d (renamed T v) (T a) some_there ∙ one.there a ra;
    }

  -- a value is stored in a field
  module _ (a : Name) (ra : R a ≡ true) (i : ℕ) (low : i < length (object_of g a).fields)
      (v : Value) (named : IsNamed R v) where
    kept_here : (r : ℕ) → register_of (with_field g a i v) 0 r ≡ register_of g 0 r
    kept_here r = ap (λ vs. get_or vs r Nil) (registers_with_field g a i v (one.here a ra) 0)

    kept_there : (r : ℕ)
        → register_of (with_field z (T a) i (renamed T v)) 0 r ≡ register_of z 0 r
    kept_there r =
        ap (λ vs. get_or vs r Nil)
        (registers_with_field z (T a) i (renamed T v) (one.there a ra) 0)

    object_here : (b : Name) → object_of (with_field g a i v) b
        ≡ cond (same_name a b) (set_field (object_of g a) i v) (object_of g b)
    object_here b = object_with_field g a i v (one.here a ra) b

    object_there : (b : Name) → R b ≡ true → object_of (with_field z (T a) i (renamed T v)) (T b)
        ≡ cond (same_name a b) (set_field (renamed_object T (object_of g a)) i (renamed T v))
        (renamed_object T (object_of g b))
    object_there b rb =
        object_with_field z (T a) i (renamed T v) (one.there a ra) (T b)
        ∙ ap (λ t. cond t (set_field (object_of z (T a)) i (renamed T v)) (object_of z (T b)))
        (same_names a b ra rb)
        ∙ ap (λ o. cond (same_name a b) (set_field o i (renamed T v)) (object_of z (T b)))
        (one.objects a ra)
        ∙ ap (λ o. cond (same_name a b)
        (set_field (renamed_object T (object_of g a)) i (renamed T v)) o)
        (one.objects b rb)

    fields_named : (b c : Name) (j : ℕ) → R b ≡ true
        → field_of (object_of (with_field g a i v) b) j ≡ Ref c → R c ≡ true
    fields_named b c j rb e =
        cond_both (same_name a b) (set_field (object_of g a) i v) (object_of g b)
        (λ o. field_of o j ≡ Ref c → R c ≡ true)
        (λ _ f. cond_both (eqb i j) v (field_of (object_of g a) j) (λ w. w ≡ Ref c → R c ≡ true)
        (λ _. named c) (λ _. one.closed a c j ra)
        (sym (get_or_set (object_of g a).fields i j v Nil low) ∙ f))
        (λ _. one.closed b c j rb)
        (sym (ap (λ o. field_of o j) (object_here b)) ∙ e)

    pub fields_under : AreOneUnder R T (with_field g a i v) (with_field z (T a) i (renamed T v))
    fields_under = record {
      roots = λ r b e. one.roots r b (sym (kept_here r) ∙ e);
      closed = fields_named;
      apart = one.apart;
      registers = λ r. kept_there r ∙ one.registers r ∙ ap (renamed T) (sym (kept_here r));
      objects = λ b rb. object_there b rb
          ∙ renamed_store T (same_name a b) (object_of g a) (object_of g b) i v
          ∙ ap (renamed_object T) (sym (object_here b));
      here = λ b rb. has_name_with_field g a i v (one.here a ra) b ∙ one.here b rb;
      there = λ b rb. has_name_with_field z (T a) i (renamed T v) (one.there a ra) (T b)
          ∙ one.there b rb;
    }

-- with the name of the next object, which has the next name in the other graph
abbrev pub and_next : (Name → Bool) → Graph → Name → Bool
and_next R g b = same_name (next_name g 0) b || R b

abbrev pub to_next : (Name → Name) → Graph → Graph → Name → Name
to_next T g z b = cond (same_name (next_name g 0) b) (next_name z 0) (T b)

module _ (R : Name → Bool) (T : Name → Name) (g z : Graph) (one : AreOneUnder R T g z)
    (lone : HasOneThread g) (also : HasOneThread z) (kind : ObjectKind) (n : ℕ) where
  abbrev new : Object
  new = nil_object kind n

  next_here : 0 < length g.mutators
  next_here = omega (arith, lone.threads)

  next_there : 0 < length z.mutators
  next_there = omega (arith, also.threads)

  -- no name that is reached is the next
  pub old : (b : Name) → R b ≡ true → same_name (next_name g 0) b ≡ false
  old b rb = false_from_ne_true (same_name (next_name g 0) b) (λ y.
      both_ways (has_name g (next_name g 0)) (next_is_new g 0)
      (ap (has_name g) (one_name (next_name g 0) b y) ∙ one.here b rb))

  old_there : (b : Name) → R b ≡ true → same_name (next_name z 0) (T b) ≡ false
  old_there b rb = false_from_ne_true (same_name (next_name z 0) (T b)) (λ y.
      both_ways (has_name z (next_name z 0)) (next_is_new z 0)
      (ap (has_name z) (one_name (next_name z 0) (T b) y) ∙ one.there b rb))

  pub old_is_reached : (b : Name) → R b ≡ true → and_next R g b ≡ true
  old_is_reached b rb = or_right (same_name (next_name g 0) b) (R b) rb

  pub old_name : (b : Name) → R b ≡ true → to_next T g z b ≡ T b
  old_name b rb = ap (λ t. cond t (next_name z 0) (T b)) (old b rb)

  new_name : (b : Name) → same_name (next_name g 0) b ≡ true → to_next T g z b ≡ next_name z 0
  new_name b y = ap (λ t. cond t (next_name z 0) (T b)) y

  -- the new object, and those before
  new_object : (h : Graph) → 0 < length h.mutators → (b : Name)
      → same_name (next_name h 0) b ≡ true → object_of (with_object h 0 new) b ≡ new
  new_object h there b y =
      object_with_object h 0 new there b ∙ ap (λ t. cond t new (object_of h b)) y

  old_object : (h : Graph) → 0 < length h.mutators → (b : Name)
      → same_name (next_name h 0) b ≡ false → object_of (with_object h 0 new) b ≡ object_of h b
  old_object h there b other =
      object_with_object h 0 new there b ∙ ap (λ t. cond t new (object_of h b)) other

  rest_here : (r : ℕ) → register_of (with_object g 0 new) 0 r ≡ register_of g 0 r
  rest_here r = ap (λ vs. get_or vs r Nil) (registers_with_object g 0 new next_here 0)

  rest_there : (r : ℕ) → register_of (with_object z 0 new) 0 r ≡ register_of z 0 r
  rest_there r = ap (λ vs. get_or vs r Nil) (registers_with_object z 0 new next_there 0)

  closed_next : (b c : Name) (i : ℕ) → and_next R g b ≡ true
      → field_of (object_of (with_object g 0 new) b) i ≡ Ref c → and_next R g c ≡ true
  closed_next b c i rb e = elim (or_cases (same_name (next_name g 0) b) (R b) rb) [
    | inl y ↦ absurd (nil_no_name (field_of new i) c (nil_of n i)
        (sym (ap (λ o. field_of o i) (new_object g next_here b y)) ∙ e))
    | inr r ↦ old_is_reached c (one.closed b c i r
        (sym (ap (λ o. field_of o i) (old_object g next_here b (old b r))) ∙ e))
  ]

  not_next : (b : Name) → R b ≡ true → next_name z 0 ≡ T b → ⊥
  not_next b rb e =
      both_ways (same_name (next_name z 0) (T b)) (old_there b rb)
      (ap (same_name (next_name z 0)) (sym e) ∙ same_itself (next_name z 0))

  apart_next : (a b : Name) → and_next R g a ≡ true → and_next R g b ≡ true
      → to_next T g z a ≡ to_next T g z b → a ≡ b
  apart_next a b ra rb e = elim (or_cases (same_name (next_name g 0) a) (R a) ra) [
    | inl y ↦ elim (or_cases (same_name (next_name g 0) b) (R b) rb) [
      | inl w ↦ sym (one_name (next_name g 0) a y) ∙ one_name (next_name g 0) b w
      | inr r ↦ absurd (not_next b r (sym (new_name a y) ∙ e ∙ old_name b r))
    ]
    | inr q ↦ elim (or_cases (same_name (next_name g 0) b) (R b) rb) [
      | inl w ↦ absurd (not_next a q (sym (new_name b w) ∙ sym e ∙ old_name a q))
      | inr r ↦ one.apart a b q r (sym (old_name a q) ∙ e ∙ old_name b r)
    ]
  ]

  objects_next : (a : Name) → and_next R g a ≡ true
      → object_of (with_object z 0 new) (to_next T g z a)
      ≡ renamed_object (to_next T g z) (object_of (with_object g 0 new) a)
  objects_next a ra = elim (or_cases (same_name (next_name g 0) a) (R a) ra) [
    | inl y ↦ ap (object_of (with_object z 0 new)) (new_name a y)
        ∙ new_object z next_there (next_name z 0) (same_itself (next_name z 0))
        ∙ ap (object_of_fields kind) (sym (nils_under (to_next T g z) n))
        ∙ ap (renamed_object (to_next T g z)) (sym (new_object g next_here a y))
    | inr r ↦ ap (object_of (with_object z 0 new)) (old_name a r)
        ∙ old_object z next_there (T a) (old_there a r) ∙ one.objects a r
        ∙ sym (same_object_under R T (to_next T g z) (object_of g a) old_name
        (λ i b e. one.closed a b i r e))
        ∙ ap (renamed_object (to_next T g z)) (sym (old_object g next_here a (old a r)))
  ]

  there_next : (a : Name) → and_next R g a ≡ true
      → has_name (with_object z 0 new) (to_next T g z a) ≡ true
  there_next a ra = elim (or_cases (same_name (next_name g 0) a) (R a) ra) [
    | inl y ↦ ap (has_name (with_object z 0 new)) (new_name a y)
        ∙ has_name_with_object z 0 new next_there (next_name z 0)
        ∙ or_left (same_name (next_name z 0) (next_name z 0)) (has_name z (next_name z 0))
        (same_itself (next_name z 0))
    | inr r ↦ ap (has_name (with_object z 0 new)) (old_name a r)
        ∙ has_name_with_object z 0 new next_there (T a)
        ∙ or_right (same_name (next_name z 0) (T a)) (has_name z (T a)) (one.there a r)
  ]

  here_next : (a : Name) → and_next R g a ≡ true → has_name (with_object g 0 new) a ≡ true
  here_next a ra = has_name_with_object g 0 new next_here a
      ∙ elim (or_cases (same_name (next_name g 0) a) (R a) ra) [
        | inl y ↦ or_left (same_name (next_name g 0) a) (has_name g a) y
        | inr r ↦ or_right (same_name (next_name g 0) a) (has_name g a) (one.here a r)
      ]

  -- a new object of nils
  pub objects_under :
      AreOneUnder (and_next R g) (to_next T g z) (with_object g 0 new) (with_object z 0 new)
  objects_under = record {
    roots = λ r a e. old_is_reached a (one.roots r a (sym (rest_here r) ∙ e));
    closed = closed_next;
    apart = apart_next;
    registers = λ r. rest_there r ∙ one.registers r
        ∙ sym (same_value_under R T (to_next T g z) (register_of g 0 r) old_name (one.roots r))
        ∙ ap (renamed (to_next T g z)) (sym (rest_here r));
    objects = objects_next;
    here = here_next;
    there = there_next;
  }
