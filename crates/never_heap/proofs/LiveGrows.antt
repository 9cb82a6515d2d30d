-- Reachable blocks grow at allocations alone, and by at most the blocks that are made.
use Rattle.std.proofs.Common.{ℕ, zero, suc, ◌+◌, ◌≡◌, ◌<◌, ◌≤◌, Bool, true, false, cond, eqb, ltb, List, [], ◌∷◌, length, ap, sym, ◌∙◌, refl, subst, arith, inl, inr, eq-eqb, ne_eqb}
use Rattle.std.specs.List.{sum_by, All}
use Rattle.std.proofs.lemmas.Bool.{cases_eq, cases_lt, cases_Bool, both_ways, lt-ltb, le-ltb}
use Rattle.std.proofs.lemmas.List.{length-replicate}
use Rattle.std.proofs.lemmas.List.Sums.{sum_by-append, sum_by-cons}
use Rattle.block_store.specs.declared.Name.{Name}
use Rattle.block_store.specs.declared.Value.TheVariants.{Nil, Ref}
use Rattle.block_store.specs.declared.Width.{Width}
use Rattle.block_store.specs.Registers.{registers_end}
use Rattle.never_heap.specs.declared.Command.{Command}
use Rattle.never_heap.specs.declared.Command.TheVariants as commands
use Rattle.never_heap.specs.Graphs.{Graph, Object, ObjectKind, Record, Array, nil_object, object_of, has_name, count_of, shared_name, with_object, next_name}
use Rattle.never_heap.specs.LiveBlocks.{blocks_of_kind, object_blocks, live_of, live_blocks}
use Rattle.never_heap.specs.Reach.{names, names_below, thread_names, reachable}
use Rattle.never_heap.specs.Steps.{step, blocks_of, made}
use Rattle.never_heap.proofs.StepAnswers.{blocks_count, none_make}
use Rattle.never_heap.proofs.FieldStores.{object_with_object}
use Rattle.never_heap.proofs.GraphMoves.{object_with_register}
use Rattle.never_heap.proofs.NameLists.{same_itself, name_of_place, length_of_thread, thread_names_more}
use Rattle.never_heap.proofs.ReachSteps.{reached_after}
use Rattle.never_heap.proofs.UnchangedBySteps.{step_past, next_is_new, step_shape, step_counts}
use Rattle.never_heap.proofs.StepChanges.{step_threads, with_object_threads}
use Rattle.never_heap.proofs.Sums.{has_serial}

-- sums of what is no more at each element
sum_le : (f h : Name → ℕ) (xs : List Name) → All (λ a. f a ≤ h a) xs → sum_by f xs ≤ sum_by h xs
sum_le f h [] all = omega arith
sum_le f h (x ∷ xs) all =
    let here : f x ≤ h x = all 0 x (omega arith) in
    let rest = sum_le f h xs (λ k d l. all (suc k) d (omega arith)) in
    omega (arith, sum_by-cons f x xs, sum_by-cons h x xs)

-- what holds of each name of a graph holds of the names of a thread
of_thread : (P : Name → Type 0) (g : Graph) (t : ℕ) → ((a : Name) → has_name g a ≡ true → P a)
    → All P (thread_names t (count_of g t))
of_thread P g t each = λ k d l.
    let few : k < count_of g t = omega (arith, length_of_thread t (count_of g t)) in
    subst P (sym (name_of_place t (count_of g t) k d few))
    (each (record { thread = t; serial = k + 1 }) (has_serial g t k few))

-- the blocks of a new object
nil_blocks : (w : Width) (kind : ObjectKind) (n : ℕ)
    → object_blocks w (nil_object kind n) ≡ blocks_of_kind w kind n
nil_blocks w kind n = ap (blocks_of_kind w kind) (length-replicate n Nil)

made_is : (g : Graph) (t d : ℕ) (o : Object) → t < length g.mutators
    → object_of (made g t d o).0 (next_name g t) ≡ o
made_is g t d o there =
    object_with_register (with_object g t o) t d (Ref (next_name g t)) (next_name g t)
    (omega (arith, with_object_threads g t o))
    ∙ object_with_object g t o there (next_name g t)
    ∙ ap (λ b. cond b o (object_of g (next_name g t))) (same_itself (next_name g t))

-- the object that a command makes has the command's blocks
made_blocks : (w : Width) (g : Graph) (t : ℕ) (command : Command) → t < length g.mutators
    → 0 < blocks_of w command
    → object_blocks w (object_of (step g t command).0 (next_name g t)) ≡ blocks_of w command
made_blocks w g t (commands.New d f) there some =
    ap (object_blocks w) (made_is g t d (nil_object Record f) there) ∙ nil_blocks w Record f
made_blocks w g t (commands.Arr d e) there some =
    ap (object_blocks w) (made_is g t d (nil_object Array e) there) ∙ nil_blocks w Array e
made_blocks w g t _ there some = absurd (omega arith)

some_or_none : (b : Bool) (n : ℕ) → cond b n 0 ≤ n
some_or_none true n = omega arith
some_or_none false n = omega arith

-- a thread is once among the first ones
counted_once : (t u k : ℕ) → cond (ltb t u) k 0 + cond (eqb t u) k 0 ≤ cond (ltb t (suc u)) k 0
counted_once t u k = elim (cases_lt t u) [
  | inl low ↦
      let a : cond (ltb t u) k 0 ≡ k = ap (λ b. cond b k 0) (lt-ltb t u low) in
      let b : cond (eqb t u) k 0 ≡ 0 = ap (λ b. cond b k 0) (ne_eqb t u (λ e. omega arith)) in
      let c : cond (ltb t (suc u)) k 0 ≡ k =
      ap (λ b. cond b k 0) (lt-ltb t (suc u) (omega arith)) in
      omega arith
  | inr high ↦ elim (cases_eq t u) [
    | inl same ↦
        let a : cond (ltb t u) k 0 ≡ 0 = ap (λ b. cond b k 0) (le-ltb t u high) in
        let b = some_or_none (eqb t u) k in
        let c : cond (ltb t (suc u)) k 0 ≡ k =
        ap (λ b. cond b k 0) (lt-ltb t (suc u) (omega arith)) in
        omega arith
    | inr other ↦
        let a : cond (ltb t u) k 0 ≡ 0 = ap (λ b. cond b k 0) (le-ltb t u high) in
        let b : cond (eqb t u) k 0 ≡ 0 = ap (λ b. cond b k 0) (ne_eqb t u other) in
        omega arith
  ]
]

module _ (w : Width) (g : Graph) (t : ℕ) (command : Command) (there : t < length g.mutators) where
  abbrev after : Graph
  after = (step g t command).0

  -- a name that there was is live only where it was, with as many blocks
  old_live : (a : Name) → has_name g a ≡ true → live_of w after a ≤ live_of w g a
  old_live a has = elim (cases_Bool (reachable after a)) [
    | inr unreached ↦ subst (λ b. cond b (object_blocks w (object_of after a)) 0 ≤ live_of w g a)
        (sym unreached) (omega arith)
    | inl is ↦ elim (reached_after g t command a is) [
      | inr new ↦ absurd (both_ways (has_name g a)
          (ap (has_name g) new.1 ∙ next_is_new g t) has)
      | inl was ↦
          let shape = step_shape g t command a has in
          let same : object_blocks w (object_of after a) ≡ object_blocks w (object_of g a) =
          (λ i. blocks_of_kind w (shape.kind i) (shape.size i)) in
          let most = some_or_none (reachable after a) (object_blocks w (object_of after a)) in
          let is_live : live_of w g a ≡ object_blocks w (object_of g a) =
          ap (λ b. cond b (object_blocks w (object_of g a)) 0) was in
          omega arith
    ]
  ]

  new_live : 0 < blocks_of w command → live_of w after (next_name g t) ≤ blocks_of w command
  new_live some =
      let most = some_or_none (reachable after (next_name g t))
      (object_blocks w (object_of after (next_name g t))) in
      omega (arith, made_blocks w g t command there some)

  -- the names of one thread
  thread_live : (u : ℕ)
      → sum_by (live_of w after) (thread_names u (count_of after u))
      ≤ sum_by (live_of w g) (thread_names u (count_of g u)) + cond (eqb t u) (blocks_of w command) 0
  thread_live u =
      let old : sum_by (live_of w after) (thread_names u (count_of g u))
      ≤ sum_by (live_of w g) (thread_names u (count_of g u)) =
      sum_le (live_of w after) (live_of w g) (thread_names u (count_of g u))
      (of_thread (λ a. live_of w after a ≤ live_of w g a) g u old_live) in
      elim (cases_eq t u) [
        | inr other ↦
            let count : count_of after u ≡ count_of g u =
            step_counts g t command u (λ same. absurd (other same)) in
            let names : sum_by (live_of w after) (thread_names u (count_of after u))
            ≡ sum_by (live_of w after) (thread_names u (count_of g u)) =
            ap (λ n. sum_by (live_of w after) (thread_names u n)) count in
            omega arith
        | inl same ↦ elim (cases_eq (blocks_of w command) 0) [
          | inl none ↦
              let count : count_of after u ≡ count_of g u =
              step_counts g t command u (λ _. none_make w command none) in
              let names : sum_by (live_of w after) (thread_names u (count_of after u))
              ≡ sum_by (live_of w after) (thread_names u (count_of g u)) =
              ap (λ n. sum_by (live_of w after) (thread_names u n)) count in
              omega arith
          | inr blocks ↦
              let some : 0 < blocks_of w command = omega arith in
              let one : sum_by (live_of w after) (thread_names t (count_of after t))
              ≡ sum_by (live_of w after) (thread_names t (count_of g t))
              + sum_by (live_of w after) (next_name g t ∷ []) =
              ap (λ n. sum_by (live_of w after) (thread_names t n))
              (blocks_count w g t command some there)
              ∙ ap (λ (xs : List Name). sum_by (live_of w after) xs)
              (thread_names_more t (count_of g t))
              ∙ sum_by-append (live_of w after) (thread_names t (count_of g t))
              (next_name g t ∷ []) in
              let last = sum_by-cons (live_of w after) (next_name g t) [] in
              let here : cond (eqb t u) (blocks_of w command) 0 ≡ blocks_of w command =
              ap (λ b. cond b (blocks_of w command) 0) (eq-eqb t u same) in
              let mine : sum_by (live_of w after) (thread_names u (count_of after u))
              ≡ sum_by (live_of w after) (thread_names t (count_of after t)) =
              ap (λ k. sum_by (live_of w after) (thread_names k (count_of after k))) (sym same) in
              let before : sum_by (live_of w after) (thread_names u (count_of g u))
              ≡ sum_by (live_of w after) (thread_names t (count_of g t)) =
              ap (λ k. sum_by (live_of w after) (thread_names k (count_of g k))) (sym same) in
              let new = new_live some in
              omega arith
        ]
      ]

  -- the names of the shared array and of the first threads
  below_live : (u : ℕ)
      → sum_by (live_of w after) (names_below after u)
      ≤ sum_by (live_of w g) (names_below g u) + cond (ltb t u) (blocks_of w command) 0
  below_live zero =
      let name : Name = shared_name (length g.mutators) in
      let shared : sum_by (live_of w after) (names_below after zero)
      ≡ sum_by (live_of w after) (name ∷ []) =
      ap (λ n. sum_by (live_of w after) (shared_name n ∷ [])) (step_threads g t command) in
      let low = old_live name (eq-eqb (length g.mutators) (length g.mutators) refl) in
      omega (arith, sum_by-cons (live_of w after) name [], sum_by-cons (live_of w g) name [])
  below_live (suc u) =
      let first = below_live u in
      let next = thread_live u in
      let front = sum_by-append (live_of w after) (names_below after u)
      (thread_names u (count_of after u)) in
      let back = sum_by-append (live_of w g) (names_below g u) (thread_names u (count_of g u)) in
      let once = counted_once t u (blocks_of w command) in
      omega arith

  grows_there : live_blocks w after ≤ live_blocks w g + blocks_of w command
  unfolding live_blocks
  grows_there =
      let all = below_live (length g.mutators) in
      let once = some_or_none (ltb t (length g.mutators)) (blocks_of w command) in
      let threads : registers_end w (length after.mutators) ≡ registers_end w (length g.mutators) =
      ap (registers_end w) (step_threads g t command) in
      let names : sum_by (live_of w after) (names after)
      ≡ sum_by (live_of w after) (names_below after (length g.mutators)) =
      ap (λ n. sum_by (live_of w after) (names_below after n)) (step_threads g t command) in
      omega arith

pub grows : (w : Width) (g : Graph) (t : ℕ) (command : Command)
    → live_blocks w (step g t command).0 ≤ live_blocks w g + blocks_of w command
grows w g t command = elim (cases_lt t (length g.mutators)) [
  | inl there ↦ grows_there w g t command there
  | inr past ↦
      let same : live_blocks w (step g t command).0 ≡ live_blocks w g =
      ap (live_blocks w) (step_past g t command past) in
      omega arith
]
