-- What a graph has after a store in a field, and after one more object.
use Rattle.std.proofs.Common.{ℕ, ◌+◌, ◌-◌, ◌≡◌, ◌<◌, ◌≤◌, inl, inr, true, cond, ◌&&◌, ◌||◌, eqb, leb, [], ◌∷◌, ◌++◌, length, set, get_or, refl, sym, ap, ◌∙◌, arith, eq-eqb, ne_eqb}
use Rattle.std.proofs.lemmas.Bool.{cases_eq, cases_lt, le-leb, lt-leb}
use Rattle.std.proofs.lemmas.List.{length-set, get_or_push, get_or_append_left, get_or_past, length_push}
use Rattle.block_store.specs.declared.Name.{Name}
use Rattle.block_store.specs.declared.Value.{Value}
use Rattle.never_heap.specs.Graphs.{Graph, Mutator, Object, no_object, mutator_at, count_of, object_of, has_name, same_name, with_mutator, with_field, with_object, set_field, next_name}
use Rattle.never_heap.proofs.GraphMoves.{get_or_set, mutator_with, registers_with, object_from, name_from, shared_store, thread_store, same_from, not_same, at_zero, at_serial, name_of_shared, name_of_thread, thread_of_name}

-- serials from 1 on are one where their places are
places_apart : (m n : ℕ) → (m ≡ 0 → ⊥) → (n ≡ 0 → ⊥) → (m ≡ n → ⊥) → m - 1 ≡ n - 1 → ⊥
places_apart m n a b ne e = ne (omega arith)

-- a bound that is one more
leb_more : (m n : ℕ) → leb m (n + 1) ≡ eqb (n + 1) m || leb m n
leb_more m n = elim (cases_eq (n + 1) m) [
  | inl e ↦ le-leb m (n + 1) (omega arith) ∙ sym (ap (λ k. k || leb m n) (eq-eqb (n + 1) m e))
  | inr ne ↦ elim (cases_lt n m) [
    | inl l ↦ lt-leb m (n + 1) (omega arith) ∙ sym (lt-leb m n (omega arith))
        ∙ sym (ap (λ k. k || leb m n) (ne_eqb (n + 1) m ne))
    | inr l ↦ le-leb m (n + 1) (omega arith) ∙ sym (le-leb m n l)
        ∙ sym (ap (λ k. k || leb m n) (ne_eqb (n + 1) m ne))
  ]
]

module _ (g : Graph) (a : Name) (i : ℕ) (v : Value) (has : has_name g a ≡ true) where
  shared_case : a.serial ≡ 0 → (b : Name)
      → object_of (with_field g a i v) b
      ≡ cond (same_name a b) (set_field (object_of g a) i v) (object_of g b)
  shared_case z b =
      let n : a.thread ≡ length g.mutators = name_of_shared g a z has in
      let own : object_of g a ≡ g.shared =
      at_zero g.shared (length g.mutators) (mutator_at g a.thread).objects a z
      ∙ ap (λ t. cond t g.shared no_object) (eq-eqb a.thread (length g.mutators) n) in
      let moved : object_of (with_field g a i v) b
      ≡ object_from (set_field g.shared i v) (length g.mutators)
      (mutator_at g b.thread).objects b =
      ap (λ (h : Graph). object_of h b) (shared_store g a i v z n) in
      elim (cases_eq b.serial 0) [
        | inl bz ↦ elim (cases_eq b.thread (length g.mutators)) [
          | inl bn ↦ moved ∙ at_zero _ _ _ b bz
              ∙ ap (λ t. cond t (set_field g.shared i v) no_object)
              (eq-eqb b.thread (length g.mutators) bn)
              ∙ sym (ap (λ t. cond t (set_field (object_of g a) i v) (object_of g b))
              (same_from a b (n ∙ sym bn) (z ∙ sym bz)) ∙ ap (λ o. set_field o i v) own)
          | inr bn ↦ moved ∙ at_zero _ _ _ b bz
              ∙ ap (λ t. cond t (set_field g.shared i v) no_object)
              (ne_eqb b.thread (length g.mutators) bn)
              ∙ sym (ap (λ t. cond t (set_field (object_of g a) i v) (object_of g b))
              (not_same a b (λ t s. bn (sym t ∙ n)))
              ∙ (at_zero g.shared (length g.mutators) (mutator_at g b.thread).objects b bz
              ∙ ap (λ t. cond t g.shared no_object) (ne_eqb b.thread (length g.mutators) bn)))
        ]
        | inr bz ↦ moved ∙ at_serial _ _ _ b bz
            ∙ sym (ap (λ t. cond t (set_field (object_of g a) i v) (object_of g b))
            (not_same a b (λ t s. bz (sym s ∙ z)))
            ∙ at_serial g.shared (length g.mutators) (mutator_at g b.thread).objects b bz)
      ]

  thread_case : (a.serial ≡ 0 → ⊥) → (b : Name)
      → object_of (with_field g a i v) b
      ≡ cond (same_name a b) (set_field (object_of g a) i v) (object_of g b)
  thread_case z b =
      let m : Mutator = record {
        registers = (mutator_at g a.thread).registers;
        objects = set (mutator_at g a.thread).objects (a.serial - 1)
            (set_field (object_of g a) i v);
      } in
      let few : a.serial ≤ count_of g a.thread = name_of_thread g a z has in
      let there : a.thread < length g.mutators = thread_of_name g a z has in
      let moved : object_of (with_field g a i v) b
      ≡ object_from g.shared (length g.mutators)
      (mutator_at (with_mutator g a.thread m) b.thread).objects b =
      ap (λ (h : Graph). object_of h b) (thread_store g a i v z)
      ∙ ap (λ n. object_from g.shared n
      (mutator_at (with_mutator g a.thread m) b.thread).objects b)
      (length-set g.mutators a.thread m) in
      elim (cases_eq b.serial 0) [
        | inl bz ↦ moved ∙ at_zero _ _ _ b bz
            ∙ sym (ap (λ t. cond t (set_field (object_of g a) i v) (object_of g b))
            (not_same a b (λ t s. z (s ∙ bz)))
            ∙ at_zero g.shared (length g.mutators) (mutator_at g b.thread).objects b bz)
        | inr bz ↦ elim (cases_eq a.thread b.thread) [
          | inl t ↦ moved ∙ at_serial _ _ _ b bz
              ∙ ap (λ (x : Mutator). get_or x.objects (b.serial - 1) no_object)
              (mutator_with g a.thread b.thread m there
              ∙ ap (λ k. cond k m (mutator_at g b.thread)) (eq-eqb a.thread b.thread t))
              ∙ get_or_set (mutator_at g a.thread).objects (a.serial - 1) (b.serial - 1)
              (set_field (object_of g a) i v) no_object (omega arith)
              ∙ elim (cases_eq a.serial b.serial) [
                | inl s ↦ ap (λ k. cond k (set_field (object_of g a) i v)
                    (get_or (mutator_at g a.thread).objects (b.serial - 1) no_object))
                    (eq-eqb (a.serial - 1) (b.serial - 1) (ap (λ k. k - 1) s))
                    ∙ sym (ap (λ k. cond k (set_field (object_of g a) i v) (object_of g b))
                    (same_from a b t s))
                | inr s ↦ ap (λ k. cond k (set_field (object_of g a) i v)
                    (get_or (mutator_at g a.thread).objects (b.serial - 1) no_object))
                    (ne_eqb (a.serial - 1) (b.serial - 1) (places_apart a.serial b.serial z bz s))
                    ∙ ap (λ k. get_or (mutator_at g k).objects (b.serial - 1) no_object) t
                    ∙ sym (ap (λ k. cond k (set_field (object_of g a) i v) (object_of g b))
                    (not_same a b (λ _ e. s e))
                    ∙ at_serial g.shared (length g.mutators)
                    (mutator_at g b.thread).objects b bz)
              ]
          | inr t ↦ moved ∙ at_serial _ _ _ b bz
              ∙ ap (λ (x : Mutator). get_or x.objects (b.serial - 1) no_object)
              (mutator_with g a.thread b.thread m there
              ∙ ap (λ k. cond k m (mutator_at g b.thread)) (ne_eqb a.thread b.thread t))
              ∙ sym (ap (λ k. cond k (set_field (object_of g a) i v) (object_of g b))
              (not_same a b (λ e _. t e))
              ∙ at_serial g.shared (length g.mutators) (mutator_at g b.thread).objects b bz)
        ]
      ]

  -- a store in a field changes the object of that name alone
  pub object_with_field : (b : Name)
      → object_of (with_field g a i v) b
      ≡ cond (same_name a b) (set_field (object_of g a) i v) (object_of g b)
  object_with_field b = elim
      (cases_eq a.serial 0) [ inl z ↦ shared_case z b | inr z ↦ thread_case z b ]

  -- a thread has as many objects as before
  lengths_with : (u : ℕ) → (a.serial ≡ 0 → ⊥)
      → length (mutator_at (with_mutator g a.thread (record {
        registers = (mutator_at g a.thread).registers;
        objects = set (mutator_at g a.thread).objects (a.serial - 1)
            (set_field (object_of g a) i v);
      })) u).objects ≡ length (mutator_at g u).objects
  lengths_with u z =
      let m : Mutator = record {
        registers = (mutator_at g a.thread).registers;
        objects = set (mutator_at g a.thread).objects (a.serial - 1)
            (set_field (object_of g a) i v);
      } in
      let there : a.thread < length g.mutators = thread_of_name g a z has in
      elim (cases_eq a.thread u) [
        | inl t ↦ ap (λ (x : Mutator). length x.objects)
            (mutator_with g a.thread u m there
            ∙ ap (λ k. cond k m (mutator_at g u)) (eq-eqb a.thread u t))
            ∙ length-set (mutator_at g a.thread).objects (a.serial - 1)
            (set_field (object_of g a) i v) ∙ ap (λ k. length (mutator_at g k).objects) t
        | inr t ↦ ap (λ (x : Mutator). length x.objects)
            (mutator_with g a.thread u m there
            ∙ ap (λ k. cond k m (mutator_at g u)) (ne_eqb a.thread u t))
      ]

  -- and leaves names, registers, threads
  pub has_name_with_field : (b : Name) → has_name (with_field g a i v) b ≡ has_name g b
  has_name_with_field b = elim (cases_eq a.serial 0) [
    | inl z ↦ ap (λ (h : Graph). has_name h b) (shared_store g a i v z (name_of_shared g a z has))
    | inr z ↦
        let m : Mutator = record {
          registers = (mutator_at g a.thread).registers;
          objects = set (mutator_at g a.thread).objects (a.serial - 1)
              (set_field (object_of g a) i v);
        } in
        ap (λ (h : Graph). has_name h b) (thread_store g a i v z)
        ∙ ap (λ n. name_from n (length
        (mutator_at (with_mutator g a.thread m) b.thread).objects) b)
        (length-set g.mutators a.thread m)
        ∙ ap (λ k. name_from (length g.mutators) k b) (lengths_with b.thread z)
  ]

  pub registers_with_field : (u : ℕ)
      → (mutator_at (with_field g a i v) u).registers ≡ (mutator_at g u).registers
  registers_with_field u = elim (cases_eq a.serial 0) [
    | inl z ↦ ap (λ (h : Graph). (mutator_at h u).registers)
        (shared_store g a i v z (name_of_shared g a z has))
    | inr z ↦ ap (λ (h : Graph). (mutator_at h u).registers) (thread_store g a i v z)
        ∙ registers_with g a.thread u
        (record {
          registers = (mutator_at g a.thread).registers;
          objects = set (mutator_at g a.thread).objects (a.serial - 1)
              (set_field (object_of g a) i v);
        }) (thread_of_name g a z has) refl
  ]

  pub threads_with_field : length (with_field g a i v).mutators ≡ length g.mutators
  threads_with_field = elim (cases_eq a.serial 0) [
    | inl z ↦ ap (λ (h : Graph). length h.mutators)
        (shared_store g a i v z (name_of_shared g a z has))
    | inr z ↦ ap (λ (h : Graph). length h.mutators) (thread_store g a i v z)
        ∙ length-set g.mutators a.thread _
  ]

  pub count_with_field : (u : ℕ) → count_of (with_field g a i v) u ≡ count_of g u
  count_with_field u = elim (cases_eq a.serial 0) [
    | inl z ↦ ap (λ (h : Graph). count_of h u) (shared_store g a i v z (name_of_shared g a z has))
    | inr z ↦ ap (λ (h : Graph). count_of h u) (thread_store g a i v z) ∙ lengths_with u z
  ]

module _ (g : Graph) (t : ℕ) (o : Object) (there : t < length g.mutators) where
  -- the thread's objects are one more
  objects_of_maker : (mutator_at (with_object g t o) t).objects ≡ (mutator_at g t).objects ++ o ∷ []
  objects_of_maker =
      ap (λ (x : Mutator). x.objects)
      (mutator_with g t t (record {
        registers = (mutator_at g t).registers;
        objects = (mutator_at g t).objects ++ o ∷ [];
      }) there
      ∙ ap (λ k. cond k (record {
        registers = (mutator_at g t).registers;
        objects = (mutator_at g t).objects ++ o ∷ [];
      }) (mutator_at g t)) (eq-eqb t t refl))

  objects_of_other : (u : ℕ) → (t ≡ u → ⊥)
      → (mutator_at (with_object g t o) u).objects ≡ (mutator_at g u).objects
  objects_of_other u n =
      ap (λ (x : Mutator). x.objects)
      (mutator_with g t u (record {
        registers = (mutator_at g t).registers;
        objects = (mutator_at g t).objects ++ o ∷ [];
      }) there
      ∙ ap (λ k. cond k (record {
        registers = (mutator_at g t).registers;
        objects = (mutator_at g t).objects ++ o ∷ [];
      }) (mutator_at g u)) (ne_eqb t u n))

  -- the new name has the new object, and every other name what it had
  pub object_with_object : (b : Name)
      → object_of (with_object g t o) b ≡ cond (same_name (next_name g t) b) o (object_of g b)
  object_with_object b =
      let moved : object_of (with_object g t o) b
      ≡ object_from g.shared (length g.mutators)
      (mutator_at (with_object g t o) b.thread).objects b =
      ap (λ n. object_from g.shared n (mutator_at (with_object g t o) b.thread).objects b)
      (length-set g.mutators t _) in
      elim (cases_eq b.serial 0) [
        | inl bz ↦ moved ∙ at_zero _ _ _ b bz
            ∙ sym (ap (λ k. cond k o (object_of g b))
            (not_same (next_name g t) b (λ _ s. absurd (omega arith)))
            ∙ at_zero g.shared (length g.mutators) (mutator_at g b.thread).objects b bz)
        | inr bz ↦ elim (cases_eq t b.thread) [
          | inr n ↦ moved ∙ at_serial _ _ _ b bz
              ∙ ap (λ os. get_or os (b.serial - 1) no_object) (objects_of_other b.thread n)
              ∙ sym (ap (λ k. cond k o (object_of g b)) (not_same (next_name g t) b (λ e _. n e))
              ∙ at_serial g.shared (length g.mutators) (mutator_at g b.thread).objects b bz)
          | inl e ↦ moved ∙ at_serial _ _ _ b bz
              ∙ ap (λ k. get_or (mutator_at (with_object g t o) k).objects
              (b.serial - 1) no_object) (sym e)
              ∙ ap (λ os. get_or os (b.serial - 1) no_object) objects_of_maker
              ∙ elim (cases_eq (count_of g t + 1) b.serial) [
                | inl s ↦ get_or_push (mutator_at g t).objects o no_object (b.serial - 1)
                    (omega arith)
                    ∙ sym (ap (λ k. cond k o (object_of g b)) (same_from (next_name g t) b e s))
                | inr s ↦ elim (cases_lt (b.serial - 1) (count_of g t)) [
                  | inl l ↦ get_or_append_left (mutator_at g t).objects (o ∷ []) no_object
                      (b.serial - 1) l
                      ∙ ap (λ k. get_or (mutator_at g k).objects (b.serial - 1) no_object) e
                      ∙ sym (ap (λ k. cond k o (object_of g b))
                      (not_same (next_name g t) b (λ _ q. s q))
                      ∙ at_serial g.shared (length g.mutators)
                      (mutator_at g b.thread).objects b bz)
                  | inr l ↦ get_or_past ((mutator_at g t).objects ++ o ∷ [])
                      (b.serial - 1) no_object (omega
                      (arith, length_push (mutator_at g t).objects o))
                      ∙ sym (get_or_past (mutator_at g t).objects (b.serial - 1) no_object
                      (omega arith))
                      ∙ ap (λ k. get_or (mutator_at g k).objects (b.serial - 1) no_object) e
                      ∙ sym (ap (λ k. cond k o (object_of g b))
                      (not_same (next_name g t) b (λ _ q. s q))
                      ∙ at_serial g.shared (length g.mutators)
                      (mutator_at g b.thread).objects b bz)
                ]
              ]
        ]
      ]

  pub count_with_object : (u : ℕ)
      → count_of (with_object g t o) u ≡ cond (eqb t u) (count_of g t + 1) (count_of g u)
  count_with_object u = elim (cases_eq t u) [
    | inl e ↦ ap (λ k. count_of (with_object g t o) k) (sym e) ∙ ap length objects_of_maker
        ∙ length_push (mutator_at g t).objects o
        ∙ sym (ap (λ k. cond k (count_of g t + 1) (count_of g u)) (eq-eqb t u e))
    | inr n ↦ ap length (objects_of_other u n)
        ∙ sym (ap (λ k. cond k (count_of g t + 1) (count_of g u)) (ne_eqb t u n))
  ]

  -- the names are the old ones and the new one
  pub has_name_with_object : (b : Name)
      → has_name (with_object g t o) b ≡ same_name (next_name g t) b || has_name g b
  has_name_with_object b =
      let moved : has_name (with_object g t o) b
      ≡ name_from (length g.mutators) (count_of (with_object g t o) b.thread) b =
      ap (λ n. name_from n (count_of (with_object g t o) b.thread) b)
      (length-set g.mutators t _) in
      elim (cases_eq b.serial 0) [
        | inl bz ↦ moved ∙ ap (λ k. cond k (eqb b.thread (length g.mutators))
            (leb b.serial (count_of (with_object g t o) b.thread))) (eq-eqb b.serial 0 bz)
            ∙ sym (ap (λ k. k || has_name g b)
            (not_same (next_name g t) b (λ _ s. absurd (omega arith)))
            ∙ ap (λ k. cond k (eqb b.thread (length g.mutators))
            (leb b.serial (count_of g b.thread))) (eq-eqb b.serial 0 bz))
        | inr bz ↦ moved ∙ ap (λ k. cond k (eqb b.thread (length g.mutators))
            (leb b.serial (count_of (with_object g t o) b.thread))) (ne_eqb b.serial 0 bz)
            ∙ ap (λ k. leb b.serial k) (count_with_object b.thread)
            ∙ elim (cases_eq t b.thread) [
              | inr n ↦ ap (λ k. leb b.serial (cond k (count_of g t + 1) (count_of g b.thread)))
                  (ne_eqb t b.thread n)
                  ∙ sym (ap (λ k. k || has_name g b) (not_same (next_name g t) b (λ e _. n e))
                  ∙ ap (λ k. cond k (eqb b.thread (length g.mutators))
                  (leb b.serial (count_of g b.thread))) (ne_eqb b.serial 0 bz))
              | inl e ↦ ap (λ k. leb b.serial (cond k (count_of g t + 1) (count_of g b.thread)))
                  (eq-eqb t b.thread e)
                  ∙ leb_more b.serial (count_of g t)
                  ∙ ap (λ k. eqb (count_of g t + 1) b.serial || leb b.serial (count_of g k)) e
                  ∙ sym (ap (λ k. (k && eqb (count_of g t + 1) b.serial) || has_name g b)
                  (eq-eqb t b.thread e)
                  ∙ ap (λ k. eqb (count_of g t + 1) b.serial || cond k
                  (eqb b.thread (length g.mutators)) (leb b.serial (count_of g b.thread)))
                  (ne_eqb b.serial 0 bz))
            ]
      ]

  pub registers_with_object : (u : ℕ)
      → (mutator_at (with_object g t o) u).registers ≡ (mutator_at g u).registers
  registers_with_object u =
      registers_with g t u (record {
        registers = (mutator_at g t).registers;
        objects = (mutator_at g t).objects ++ o ∷ [];
      }) there refl
