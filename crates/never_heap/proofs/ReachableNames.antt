-- Reachable names: the rounds come to an end, and give the least closed set.
use Rattle.std.proofs.Common.{ℕ, zero, suc, ◌+◌, ◌≡◌, ◌<◌, ◌≤◌, ◌⊎◌, Bool, true, false, ◌&&◌, cond, List, [], ◌∷◌, length, get_or, ap, ◌∙◌, arith, inl, inr, subst, sym}
use Rattle.std.specs.List.{list_any, count_by}
use Rattle.std.proofs.lemmas.Bool.{cases_eq, cases_lt, cases_Bool, or_cases, or_left, or_right, and_parts, and_from, both_ways}
use Rattle.std.proofs.lemmas.List.{get_or_past}
use Rattle.std.proofs.lemmas.List.Folds.{list_any_at}
use Rattle.std.proofs.lemmas.List.Sums.{count_by-le-length, sum_by-cons}
use Rattle.block_store.specs.declared.Name.{Name}
use Rattle.block_store.specs.declared.Value.TheVariants.{Nil, Ref}
use Rattle.never_heap.specs.Graphs.{Graph, Mutator, no_mutator, mutator_at, register_of, object_of, has_name, field_of}
use Rattle.never_heap.specs.Reach.{stands_in, names, in_round, reachable, IsClosed}
use Rattle.never_heap.proofs.NameLists.{any_place, stands_at, place_of_name, any_of_names}
use Rattle.never_heap.proofs.StepChanges.{has_field}

-- a test that lets more through
pub any_more : {X : Type 0} (p q : X → Bool) (xs : List X) → ((x : X) → p x ≡ true → q x ≡ true)
    → list_any p xs ≡ true → list_any q xs ≡ true
any_more p q [] f h = h
any_more p q (x ∷ xs) f h = elim (or_cases (p x) (list_any p xs) h) [
  | inl here ↦ or_left (q x) (list_any q xs) (f x here)
  | inr later ↦ or_right (q x) (list_any q xs) (any_more p q xs f later)
]

-- how many pass, with one more element
count_cons : {X : Type 0} (p : X → Bool) (x : X) (xs : List X)
    → count_by p (x ∷ xs) ≡ cond (p x) 1 0 + count_by p xs
count_cons p x xs = sum_by-cons (λ y. cond (p y) 1 0) x xs

count_yes : {X : Type 0} (p : X → Bool) (x : X) (xs : List X) → p x ≡ true
    → count_by p (x ∷ xs) ≡ 1 + count_by p xs
count_yes p x xs e = count_cons p x xs ∙ ap (λ b. cond b 1 0 + count_by p xs) e

count_no : {X : Type 0} (p : X → Bool) (x : X) (xs : List X) → p x ≡ false
    → count_by p (x ∷ xs) ≡ 0 + count_by p xs
count_no p x xs e = count_cons p x xs ∙ ap (λ b. cond b 1 0 + count_by p xs) e

any_counted : {X : Type 0} (p : X → Bool) (xs : List X) → list_any p xs ≡ true → 1 ≤ count_by p xs
any_counted p [] h = absurd (let e : false ≡ true = h in cc)
any_counted p (x ∷ xs) h = elim (cases_Bool (p x)) [
  | inl y ↦ omega (arith, count_yes p x xs y)
  | inr n ↦ elim (or_cases (p x) (list_any p xs) h) [
    | inl here ↦ absurd (both_ways (p x) n here)
    | inr later ↦ omega (arith, count_no p x xs n, any_counted p xs later)
  ]
]

count_more : {X : Type 0} (p q : X → Bool) (xs : List X) → ((x : X) → p x ≡ true → q x ≡ true)
    → count_by p xs ≤ count_by q xs
count_more p q [] f = omega arith
count_more p q (x ∷ xs) f = elim (cases_Bool (p x)) [
  | inl y ↦ omega (arith, count_yes p x xs y, count_yes q x xs (f x y), count_more p q xs f)
  | inr n ↦ elim (cases_Bool (q x)) [
    | inl y ↦ omega (arith, count_no p x xs n, count_yes q x xs y, count_more p q xs f)
    | inr m ↦ omega (arith, count_no p x xs n, count_no q x xs m, count_more p q xs f)
  ]
]

-- where a wider test counts no more elements, it lets the same through
count_same : {X : Type 0} (p q r : X → Bool) (xs : List X) → ((x : X) → p x ≡ true → q x ≡ true)
    → count_by q xs ≤ count_by p xs
    → list_any (λ x. q x && r x) xs ≡ true → list_any (λ x. p x && r x) xs ≡ true
count_same p q r [] f l h = h
count_same p q r (x ∷ xs) f l h = elim (cases_Bool (p x)) [
  | inl y ↦ elim (or_cases (q x && r x) (list_any (λ z. q z && r z) xs) h) [
    | inl here ↦ or_left _ _ (and_from (p x) (r x) y (and_parts (q x) (r x) here).1)
    | inr later ↦ or_right _ _
        (count_same p q r xs f (omega
        (arith, count_yes p x xs y, count_yes q x xs (f x y))) later)
  ]
  | inr n ↦ elim (cases_Bool (q x)) [
    | inl y ↦ absurd (omega (arith, count_no p x xs n, count_yes q x xs y, count_more p q xs f))
    | inr m ↦ elim (or_cases (q x && r x) (list_any (λ z. q z && r z) xs) h) [
      | inl here ↦ absurd (both_ways (q x) m (and_parts (q x) (r x) here).0)
      | inr later ↦ or_right _ _
          (count_same p q r xs f (omega (arith, count_no p x xs n, count_no q x xs m)) later)
    ]
  ]
]

-- a name in a round, or in a field of an object of that round
abbrev leads : Graph → ℕ → Name → Name → Bool
leads g j a b = in_round g j b && stands_in a (object_of g b).fields

module _ (g : Graph) where
  round_next : (j : ℕ) (a : Name) → in_round g j a ≡ true → in_round g (suc j) a ≡ true
  round_next j a h = or_left (in_round g j a) (list_any (leads g j a) (names g)) h

  -- nothing is new in the round after this one
  Ended : ℕ → Type 0
  Ended j = (a : Name) → in_round g (suc j) a ≡ true → in_round g j a ≡ true

  ended_from : (j : ℕ) → ((a : Name) → list_any (leads g j a) (names g) ≡ true
      → in_round g j a ≡ true) → Ended j
  unfolding Ended
  ended_from j f a h = elim
      (or_cases (in_round g j a) (list_any (leads g j a) (names g)) h) [
        | inl before ↦
            before
        | inr new ↦ f a new
      ]

  ended_next : (j : ℕ) → Ended j → Ended (suc j)
  unfolding Ended
  ended_next j ended = ended_from (suc j)
      (λ a h. or_right (in_round g j a) _ (any_more (leads g (suc j) a) (leads g j a) (names g)
      (λ b l. let parts = and_parts (in_round g (suc j) b)
      (stands_in a (object_of g b).fields) l in and_from _ _ (ended b parts.0) parts.1) h))

  -- each round has ended, or has one name more than the number of the round
  ended_or_more : (j : ℕ) → Ended j ⊎ (j + 1 ≤ count_by (in_round g j) (names g))
  ended_or_more zero = elim (cases_eq (count_by (in_round g 0) (names g)) 0) [
    | inl none ↦ inl (ended_from 0 (λ a h.
        let one : list_any (in_round g 0) (names g) ≡ true =
        any_more (leads g 0 a) (in_round g 0) (names g)
        (λ b l. (and_parts (in_round g 0 b) (stands_in a (object_of g b).fields) l).0) h in
        absurd (omega (arith, any_counted (in_round g 0) (names g) one))))
    | inr some ↦ inr (omega arith)
  ]
  ended_or_more (suc j) = elim (ended_or_more j) [
    | inl ended ↦ inl (ended_next j ended)
    | inr more ↦ elim (cases_lt (count_by (in_round g j) (names g))
        (count_by (in_round g (suc j)) (names g))) [
          | inl l ↦ inr (omega arith)
          | inr l ↦ inl (ended_from (suc j) (λ a h. or_right (in_round g j a) _
              (count_same (in_round g j) (in_round g (suc j))
              (λ b. stands_in a (object_of g b).fields) (names g) (round_next j) l h)))
        ]
  ]

  all_ended : Ended (length (names g))
  all_ended = elim (ended_or_more (length (names g))) [
    | inl ended ↦ ended
    | inr more ↦ absurd (omega
        (arith, count_by-le-length (in_round g (length (names g))) (names g)))
  ]

  pub from_registers : (j : ℕ) (a : Name) → in_round g 0 a ≡ true → in_round g j a ≡ true
  from_registers zero a h = h
  from_registers (suc j) a h = round_next j a (from_registers j a h)

  pub in_register : (t r : ℕ) (a : Name) → register_of g t r ≡ Ref a → in_round g 0 a ≡ true
  in_register t r a e = elim (cases_lt t (length g.mutators)) [
    | inl l ↦ list_any_at (λ (m : Mutator). stands_in a m.registers) g.mutators t no_mutator l
        (stands_at a (mutator_at g t).registers r e)
    | inr l ↦ let past : register_of g t r ≡ Nil =
        ap (λ (m : Mutator). get_or m.registers r Nil) (get_or_past g.mutators t no_mutator l) in
        absurd cc
  ]

  -- where a field holds a reference, the object has that field
  pub field_there : (b a : Name) (i : ℕ) → field_of (object_of g b) i ≡ Ref a
      → i < length (object_of g b).fields
  field_there b a i e = elim (cases_lt i (length (object_of g b).fields)) [
    | inl l ↦ l
    | inr l ↦ let past : field_of (object_of g b) i ≡ Nil =
        get_or_past (object_of g b).fields i Nil l in absurd cc
  ]

  -- what can be reached is closed
  pub reachable_closed : IsClosed g (reachable g)
  unfolding reachable Ended
  reachable_closed = record {
    registers = λ t r a e. from_registers (length (names g)) a (in_register t r a e);
    fields = λ b a i h e.
        let has : has_name g b ≡ true = has_field g b i (field_there b a i e) in
        let here : leads g (length (names g)) a b ≡ true =
        and_from _ _ h (stands_at a (object_of g b).fields i e) in
        all_ended a (or_right (in_round g (length (names g)) a) _
        (any_of_names g (leads g (length (names g)) a) b has here));
  }

  -- and what is closed has it
  round_least : (P : Name → Type 0) → ((t r : ℕ) (a : Name) → register_of g t r ≡ Ref a → P a)
      → ((b a : Name) (i : ℕ) → P b → field_of (object_of g b) i ≡ Ref a → P a)
      → (j : ℕ) (a : Name) → in_round g j a ≡ true → P a
  round_least P registers fields zero a h =
      let t = any_place (λ (m : Mutator). stands_in a m.registers) g.mutators no_mutator h in
      let r = place_of_name a (mutator_at g t.0).registers t.2 in
      registers t.0 r.0 a r.2
  round_least P registers fields (suc j) a h =
      elim (or_cases (in_round g j a) (list_any (leads g j a) (names g)) h) [
        | inl before ↦ round_least P registers fields j a before
        | inr new ↦
            let k = any_place (leads g j a) (names g) (record { thread = 0; serial = 0 }) new in
            let b : Name = get_or (names g) k.0 (record { thread = 0; serial = 0 }) in
            let parts = and_parts (in_round g j b) (stands_in a (object_of g b).fields) k.2 in
            let i = place_of_name a (object_of g b).fields parts.1 in
            fields b a i.0 (round_least P registers fields j b parts.0) i.2
      ]

  pub reachable_least : (P : Name → Type 0)
      → ((t r : ℕ) (a : Name) → register_of g t r ≡ Ref a → P a)
      → ((b a : Name) (i : ℕ) → P b → field_of (object_of g b) i ≡ Ref a → P a) → (a : Name)
      → reachable g a ≡ true → P a
  unfolding reachable
  reachable_least P registers fields a h = round_least P registers fields (length (names g)) a h

  pub reachable_within : (s : Name → Bool) (a : Name) → IsClosed g s → reachable g a ≡ true
      → s a ≡ true
  reachable_within s a closed h =
      reachable_least (λ b. s b ≡ true) closed.registers closed.fields a h

  -- what is in a round can be reached, and what can be reached is in the round of the number of
  -- names
  pub reached_by : (j : ℕ) (a : Name) → in_round g j a ≡ true → reachable g a ≡ true
  reached_by j a h = round_least
      (λ b. reachable g b ≡ true) reachable_closed.registers reachable_closed.fields j a h

  pub round_of_all : (j : ℕ) (a : Name) → j ≡ length (names g) → reachable g a ≡ true
      → in_round g j a ≡ true
  unfolding reachable
  round_of_all j a e h = subst (λ k. in_round g k a ≡ true) (sym e) h
