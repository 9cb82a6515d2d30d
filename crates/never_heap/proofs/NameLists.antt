-- The list of names, and names in lists of values.
use Rattle.std.proofs.Common.{ℕ, zero, suc, ◌+◌, ◌-◌, ◌≡◌, ◌<◌, ◌≤◌, Bool, true, false, eqb, List, [], ◌∷◌, ◌++◌, length, get_or, ap, sym, ◌∙◌, refl, subst, arith, inl, inr, add-one, length-append}
use Rattle.std.specs.List.{list_any}
use Rattle.std.proofs.lemmas.Bool.{cases_eq, cases_lt, or_cases, or_left, or_right, and_parts, eqb-true, cases_Bool}
use Rattle.std.proofs.lemmas.List.{get_or_default, length_push, get_or_push, get_or_append_left, get_or_past}
use Rattle.std.proofs.lemmas.List.Folds.{list_any_at, list_any-append}
use Rattle.block_store.specs.declared.Name.{Name}
use Rattle.block_store.specs.declared.Value.{Value}
use Rattle.block_store.specs.declared.Value.TheVariants.{Nil, Int, Ref}
use Rattle.never_heap.specs.Graphs.{Graph, Mutator, no_mutator, same_name, shared_name, count_of, has_name, next_name}
use Rattle.never_heap.specs.Reach.{refers, stands_in, thread_names, names_below, names}
use Rattle.never_heap.proofs.GraphMoves.{name_of_shared, name_of_thread, thread_of_name, same_from}

-- where a test passes in a list
pub any_place : {X : Type 0} (p : X → Bool) (xs : List X) (d : X) → list_any p xs ≡ true
    → (k : ℕ) × (k < length xs) × (p (get_or xs k d) ≡ true)
any_place p [] d h = absurd (let e : false ≡ true = h in cc)
any_place p (x ∷ xs) d h = elim (or_cases (p x) (list_any p xs) h) [
  | inl here ↦ (0, omega arith, here)
  | inr later ↦ let r = any_place p xs d later in (suc r.0, omega (arith, r.1), r.2)
]

-- two names of the same parts are one
pub one_name : (a b : Name) → same_name a b ≡ true → a ≡ b
one_name a b h =
    let parts = and_parts (eqb a.thread b.thread) (eqb a.serial b.serial) h in
    let t : a.thread ≡ b.thread = eqb-true a.thread b.thread parts.0 in
    let s : a.serial ≡ b.serial = eqb-true a.serial b.serial parts.1 in
    ap (λ (k : ℕ). let n : Name = record { thread = k; serial = a.serial } in n) t
    ∙ ap (λ (k : ℕ). let n : Name = record { thread = b.thread; serial = k } in n) s

pub same_itself : (a : Name) → same_name a a ≡ true
same_itself a = same_from a a refl refl

pub refers-ref : (a : Name) (v : Value) → refers a v ≡ true → v ≡ Ref a
refers-ref a Nil h = absurd (let e : false ≡ true = h in cc)
refers-ref a (Int n) h = absurd (let e : false ≡ true = h in cc)
refers-ref a (Ref b) h = ap Ref (one_name b a h)

pub ref-refers : (a : Name) (v : Value) → v ≡ Ref a → refers a v ≡ true
ref-refers a v e = subst (λ w. refers a w ≡ true) (sym e) (same_itself a)

-- a name is in a list at a place of it, and nowhere past its end
pub stands_at : (a : Name) (vs : List Value) (i : ℕ) → get_or vs i Nil ≡ Ref a
    → stands_in a vs ≡ true
stands_at a vs i e = elim (cases_lt i (length vs)) [
  | inl l ↦ list_any_at (refers a) vs i Nil l (ref-refers a (get_or vs i Nil) e)
  | inr l ↦ let past : get_or vs i Nil ≡ Nil = get_or_past vs i Nil l in absurd cc
]

pub place_of_name : (a : Name) (vs : List Value) → stands_in a vs ≡ true
    → (i : ℕ) × (i < length vs) × (get_or vs i Nil ≡ Ref a)
place_of_name a vs h = let p = any_place (refers a) vs Nil h in
    (p.0, p.1, refers-ref a (get_or vs p.0 Nil) p.2)

-- how many names a thread has
pub length_of_thread : (t k : ℕ) → length (thread_names t k) ≡ k
length_of_thread t zero = refl
length_of_thread t (suc k) =
    omega (
      arith,
      length_push (thread_names t k) (record { thread = t; serial = k + 1 }),
      length_of_thread t k,
    )

-- the names of a thread, by their places
pub name_of_place : (t k i : ℕ) (d : Name) → i < k
    → get_or (thread_names t k) i d ≡ record { thread = t; serial = i + 1 }
name_of_place t zero i d h = absurd (omega arith)
name_of_place t (suc k) i d h = elim (cases_eq i k) [
  | inl e ↦ ap (λ j. get_or (thread_names t k ++ record { thread = t; serial = k + 1 } ∷ []) j d)
      (e ∙ sym (length_of_thread t k))
      ∙ get_or_push (thread_names t k) (record { thread = t; serial = k + 1 }) d
      (length (thread_names t k)) refl
      ∙ ap (λ (j : ℕ). let n : Name = record { thread = t; serial = j + 1 } in n) (sym e)
  | inr n ↦ get_or_append_left (thread_names t k) (record { thread = t; serial = k + 1 } ∷ []) d i
      (omega (arith, length_of_thread t k)) ∙ name_of_place t k i d (omega arith)
]

-- a test that one of the first names of a thread passes, passes among them
pub any_of_thread : (p : Name → Bool) (t k s : ℕ) → s < k
    → p (record { thread = t; serial = s + 1 }) ≡ true → list_any p (thread_names t k) ≡ true
any_of_thread p t k s l h =
    list_any_at p (thread_names t k) s (record { thread = 0; serial = 0 })
    (omega (arith, length_of_thread t k))
    (subst (λ n. p n ≡ true) (sym (name_of_place t k s (record { thread = 0; serial = 0 }) l)) h)

any_shared : (g : Graph) (p : Name → Bool) (u : ℕ) → p (shared_name (length g.mutators)) ≡ true
    → list_any p (names_below g u) ≡ true
any_shared g p zero h = or_left _ _ h
any_shared g p (suc u) h =
    list_any-append p (names_below g u) (thread_names u (count_of g u))
    ∙ or_left _ _ (any_shared g p u h)

any_threads : (g : Graph) (p : Name → Bool) (u t s : ℕ) → t < u → s < count_of g t
    → p (record { thread = t; serial = s + 1 }) ≡ true → list_any p (names_below g u) ≡ true
any_threads g p zero t s l m h = absurd (omega arith)
any_threads g p (suc u) t s l m h =
    list_any-append p (names_below g u) (thread_names u (count_of g u)) ∙ elim (cases_eq t u) [
      | inl e ↦ or_right _ _ (subst (λ k. list_any p (thread_names k (count_of g k)) ≡ true) e
          (any_of_thread p t (count_of g t) s m h))
      | inr n ↦ or_left _ _ (any_threads g p u t s (omega arith) m h)
    ]

-- a test that a name of the graph passes, passes among its names
pub any_of_names : (g : Graph) (p : Name → Bool) (a : Name) → has_name g a ≡ true → p a ≡ true
    → list_any p (names g) ≡ true
any_of_names g p a has h = elim (cases_eq a.serial 0) [
  | inl z ↦
      let here : a ≡ shared_name (length g.mutators) =
      one_name a (shared_name (length g.mutators))
      (same_from a (shared_name (length g.mutators)) (name_of_shared g a z has) z) in
      any_shared g p (length g.mutators) (subst (λ n. p n ≡ true) here h)
  | inr n ↦
      let few : a.serial ≤ count_of g a.thread = name_of_thread g a n has in
      let there : a.thread < length g.mutators = thread_of_name g a n has in
      let back : a.serial ≡ (a.serial - 1) + 1 = omega arith in
      let here : a ≡ record { thread = a.thread; serial = (a.serial - 1) + 1 } =
      one_name a (record { thread = a.thread; serial = (a.serial - 1) + 1 })
      (same_from a (record { thread = a.thread; serial = (a.serial - 1) + 1 }) refl back) in
      any_threads g p (length g.mutators) a.thread (a.serial - 1) there (omega arith)
      (subst (λ n. p n ≡ true) here h)
]

-- one more name of a thread, and one more thread
pub thread_names_more : (t k : ℕ)
    → thread_names t (k + 1) ≡ thread_names t k ++ record { thread = t; serial = k + 1 } ∷ []
thread_names_more t k = ap (λ n. thread_names t n) (add-one k)

pub names_below_more : (g : Graph) (t : ℕ)
    → names_below g (t + 1) ≡ names_below g t ++ thread_names t (count_of g t)
names_below_more g t = ap (λ n. names_below g n) (add-one t)

-- the names of the next thread after those of the threads before it
pub names_step : (g : Graph) (t n : ℕ) (m : Mutator) (ms : List Mutator) (old new : List Name)
    → t < length ms → m ≡ get_or ms t m → ms ≡ g.mutators → n ≡ length m.objects
    → old ≡ names_below g t → new ≡ old ++ thread_names t n → new ≡ names_below g (t + 1)
names_step g t n m ms old new there is same count before after =
    let here : n ≡ count_of g t =
    count ∙ ap (λ (k : Mutator). length k.objects)
    (is ∙ get_or_default ms t m no_mutator there ∙ ap (λ xs. get_or xs t no_mutator) same) in
    after ∙ ap (λ xs. xs ++ thread_names t n) before
    ∙ ap (λ k. names_below g t ++ thread_names t k) here ∙ sym (names_below_more g t)

-- how many names there are with those of the next thread
pub count_step : (g : Graph) (t n : ℕ) (m : Mutator) (ms : List Mutator) → t < length ms
    → m ≡ get_or ms t m → ms ≡ g.mutators → n ≡ length m.objects
    → length (names_below g (t + 1)) ≡ length (names_below g t) + n
count_step g t n m ms there is same count =
    ap length (sym (names_step g t n m ms (names_below g t)
    (names_below g t ++ thread_names t n) there is same count refl refl))
    ∙ length-append (names_below g t) (thread_names t n)
    ∙ ap (λ k. length (names_below g t) + k) (length_of_thread t n)

-- names that are the same have the same parts
pub same_parts : (a b : Name) → same_name a b ≡ true → (a.thread ≡ b.thread) × (a.serial ≡ b.serial)
same_parts a b h = let p = and_parts (eqb a.thread b.thread) (eqb a.serial b.serial) h in
    (eqb-true _ _ p.0, eqb-true _ _ p.1)

-- a name of the graph is not the next one
pub not_next : (g : Graph) (t : ℕ) (b : Name) → has_name g b ≡ true
    → same_name (next_name g t) b ≡ false
not_next g t b h = elim (cases_Bool (same_name (next_name g t) b)) [
  | inr e ↦ e
  | inl e ↦
      let p = same_parts (next_name g t) b e in
      let few : b.serial ≤ count_of g b.thread =
      name_of_thread g b (λ z. absurd (omega (arith, p.1))) h in
      let more : count_of g b.thread ≡ count_of g t = ap (λ k. count_of g k) (sym p.0) in
      absurd (omega (arith, p.1))
]

-- a reference has one name
pub name_of_ref : Value → Name → Name
name_of_ref (Ref a) b = a
name_of_ref v b = b

pub ref_name : (a b : Name) → Ref a ≡ Ref b → a ≡ b
unfolding name_of_ref
ref_name a b e = ap (λ v. name_of_ref v a) e
