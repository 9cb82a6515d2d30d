-- The names that a history makes, and their blocks.
use Rattle.std.proofs.Common.{◌≡◌, ℕ, ◌+◌, ◌-◌, ◌≤◌, ◌<◌, Bool, true, false, cond, refl, arith, ap, sym, ◌∙◌, subst, List, [], ◌∷◌, ◌++◌, length, inl, inr, eq-eqb, ne_eqb}
use Rattle.std.specs.List.{list_any, sum_by}
use Rattle.std.proofs.lemmas.Bool.{cases_eq, cases_Bool, or_cases, or_left, or_right, both_ways}
use Rattle.std.proofs.lemmas.List.{length-replicate}
use Rattle.std.proofs.lemmas.List.Sums.{sum_by-cons}
use Rattle.std.proofs.lemmas.List.Folds.{list_any-append}
use Rattle.block_store.specs.declared.Name.{Name}
use Rattle.block_store.specs.declared.Value.TheVariants.{Ref}
use Rattle.block_store.specs.declared.Value.TheVariants as values
use Rattle.block_store.specs.declared.Width.{Width}
use Rattle.object_lists.specs.Records.{record_blocks}
use Rattle.array_trees.specs.Trees.{array_blocks}
use Rattle.never_heap.specs.declared.Command.{Command}
use Rattle.never_heap.specs.declared.Command.TheVariants as commands
use Rattle.never_heap.specs.declared.Entry.{Entry}
use Rattle.never_heap.specs.Graphs.{Graph, Object, Record, Array, SameShape, object_of, has_name, same_name, next_name, nils, with_object}
use Rattle.never_heap.specs.Histories.{HistoryItem, Started, Did, is_full, after, replay_from, starts_in, IsAnswered, LegalFrom}
use Rattle.never_heap.specs.Cycles.{before_start, after_start}
use Rattle.never_heap.specs.LiveBlocks.{blocks_of_kind, object_blocks}
use Rattle.never_heap.specs.Taken.{taken_by, taken_in, blocks_if_new}
use Rattle.never_heap.specs.Steps.{step, made, makes_object, blocks_of}
use Rattle.never_heap.proofs.Lemmas.{Change, change_of, has_field, has_name_with_field, has_name_with_object, has_name_with_register, make, none, object_with_object, object_with_register, one_name, put, replay_shape, same_itself, store, swap, threads_of_replay, threads_put, with_object_threads}
use Rattle.heap_invariant.specs.cycle_tally.Entries.{InThreads}

-- the names that an entry makes, and those that a history makes
abbrev pub made_by : Graph → Entry → List Name
made_by g e =
    cond (is_full e.reply) [] (cond (makes_object e.command) (next_name g e.thread ∷ []) [])

abbrev pub made_from : Graph → List HistoryItem → List Name
made_from g [] = []
made_from g (Started ∷ h) = made_from g h
made_from g (Did e ∷ h) = made_by g e ++ made_from (after g (Did e)) h

same_threads : (g : Graph) (e : Entry) (h : List HistoryItem) → InThreads (length g.mutators) h
    → InThreads (length (after g (Did e)).mutators) h
same_threads g e h t =
    subst (λ n. InThreads n h) (sym (threads_of_replay g (Did e ∷ []))) t

-- a name that is new after a step is the one that the step makes
new_name : (g : Graph) (t : ℕ) (new : Bool) (k : Graph) → t < length g.mutators
    → Change g t new k → (a : Name) → has_name k a ≡ true → has_name g a ≡ false
    → (new ≡ true) × (a ≡ next_name g t)
new_name g t new _ there none a y n = absurd (both_ways (has_name g a) n y)
new_name g t new _ there (store d v s) a y n =
    absurd (both_ways (has_name g a) n (sym (has_name_with_register g t d v a there) ∙ y))
new_name g t new _ there (put s i v b e l) a y n =
    let same = has_name_with_field g b i (Rattle.never_heap.specs.Graphs.register_of g t v)
    (has_field g b i l) a in
    absurd (both_ways (has_name g a) n (sym same ∙ y))
new_name g t new _ there (swap s i v b e l) a y n =
    let w = Rattle.never_heap.specs.Graphs.register_of g t v in
    let named = has_name_with_field g b i w (has_field g b i l) a in
    let same = has_name_with_register (Rattle.never_heap.specs.Graphs.with_field g b i w) t v
    (Rattle.never_heap.specs.Graphs.field_of (Rattle.never_heap.specs.Graphs.object_of g b) i) a
    (omega (arith, threads_put g b i w l)) in
    absurd (both_ways (has_name g a) n (sym named ∙ sym same ∙ y))
new_name g t new _ there (make d o m f is) a y n =
    let moved = has_name_with_register (with_object g t o) t d (Ref (next_name g t)) a
    (omega (arith, with_object_threads g t o)) ∙ has_name_with_object g t o there a in (
      is,
      elim (or_cases (same_name (next_name g t) a) (has_name g a) (sym moved ∙ y)) [
        | inl same ↦ sym (one_name (next_name g t) a same)
        | inr old ↦ absurd (both_ways (has_name g a) n old)
      ],
    )

stands_made : (full makes : Bool) (a b : Name) → full ≡ false → makes ≡ true → a ≡ b
    → list_any (same_name a) (cond full [] (cond makes (b ∷ []) [])) ≡ true
stands_made true makes a b n y e = absurd cc
stands_made false true a b n y e =
    or_left (same_name a b) false (subst (λ d. same_name a d ≡ true) e (same_itself a))
stands_made false false a b n y e = absurd cc

new_made : (g : Graph) (e : Entry) (a : Name) → e.thread < length g.mutators
    → has_name (after g (Did e)) a ≡ true → has_name g a ≡ false
    → list_any (same_name a) (made_by g e) ≡ true
new_made g e a there y n = elim (cases_Bool (is_full e.reply)) [
  | inl f ↦
      let same = ap (λ b. has_name (cond b g (step g e.thread e.command).0) a) f in
      absurd (both_ways (has_name g a) n (sym same ∙ y))
  | inr f ↦
      let same = ap (λ b. has_name (cond b g (step g e.thread e.command).0) a) f in
      let new = new_name g e.thread (makes_object e.command) (step g e.thread e.command).0 there
      (change_of g e.thread e.command) a (sym same ∙ y) n in
      stands_made (is_full e.reply) (makes_object e.command) a (next_name g e.thread) f new.0 new.1
]

-- a name that is new after a history is one that it makes
pub in_made : (g : Graph) (h : List HistoryItem) (a : Name) → InThreads (length g.mutators) h
    → has_name (replay_from g h) a ≡ true → has_name g a ≡ false
    → list_any (same_name a) (made_from g h) ≡ true
in_made g [] a t y n = absurd (both_ways (has_name g a) n y)
in_made g (Started ∷ h) a t y n = in_made g h a t y n
in_made g (Did e ∷ h) a t y n =
    list_any-append (same_name a) (made_by g e) (made_from (after g (Did e)) h)
    ∙ elim (cases_Bool (has_name (after g (Did e)) a)) [
      | inl now ↦ or_left (list_any (same_name a) (made_by g e)) _ (new_made g e a t.0 now n)
      | inr no_name ↦ or_right (list_any (same_name a) (made_by g e)) _
          (in_made (after g (Did e)) h a (same_threads g e h t.1) y no_name)
    ]

pub legal_rest : (g : Graph) (h : List HistoryItem) (z : ℕ) → 1 ≤ z → z ≤ starts_in h
    → LegalFrom g h → LegalFrom (replay_from g (before_start z h)) (after_start z h)
legal_rest g [] z l m r = absurd (omega arith)
legal_rest g (Started ∷ h) z l m r = elim (cases_eq z 1) [
  | inl e ↦ rw (eq-eqb z 1 e) r.1
  | inr ne ↦ rw (ne_eqb z 1 ne) (legal_rest g h (z - 1) (omega arith) (omega arith) r.1)
]
legal_rest g (Did e ∷ h) z l m r = legal_rest (after g (Did e)) h z l m r.1

pub threads_rest : (n : ℕ) (h : List HistoryItem) (z : ℕ) → InThreads n h
    → InThreads n (after_start z h)
threads_rest n [] z t = tt
threads_rest n (Started ∷ h) z t = elim (cases_eq z 1) [
  | inl e ↦ rw (eq-eqb z 1 e) t
  | inr ne ↦ rw (ne_eqb z 1 ne) (threads_rest n h (z - 1) t)
]
threads_rest n (Did e ∷ h) z t = threads_rest n h z t.1

pub starts_rest : (h : List HistoryItem) (z : ℕ) → 1 ≤ z → z ≤ starts_in h
    → starts_in (after_start z h) + z ≡ starts_in h
starts_rest [] z l m = absurd (omega arith)
starts_rest (Started ∷ h) z l m = elim (cases_eq z 1) [
  | inl e ↦ rw (eq-eqb z 1 e) (omega arith)
  | inr ne ↦ rw (ne_eqb z 1 ne)
      (omega (arith, starts_rest h (z - 1) (omega arith) (omega arith)))
]
starts_rest (Did e ∷ h) z l m = starts_rest h z l m

made_object : (g : Graph) (t d : ℕ) (o : Object) → t < length g.mutators
    → (has_name (made g t d o).0 (next_name g t) ≡ true)
    × (object_of (made g t d o).0 (next_name g t) ≡ o)
made_object g t d o there =
    let a : Name = next_name g t in
    let within : t < length (with_object g t o).mutators =
    omega (arith, with_object_threads g t o) in (
      has_name_with_register (with_object g t o) t d (Ref a) a within
          ∙ has_name_with_object g t o there a
          ∙ or_left (same_name a a) (has_name g a) (same_itself a),
      object_with_register (with_object g t o) t d (Ref a) a within
          ∙ object_with_object g t o there a
          ∙ ap (λ b. cond b o (object_of g a)) (same_itself a),
    )

module _ (w : Width) where
  pub taken_first : (h : List HistoryItem) → starts_in h ≡ 0
      → taken_in w (before_start 1 h) ≡ taken_in w h
  taken_first [] e = refl
  taken_first (Started ∷ h) e = absurd (omega arith)
  taken_first (Did x ∷ h) e = ap (λ k. taken_by w x + k) (taken_first h e)

  pub same_blocks : (o p : Object) → SameShape o p → object_blocks w p ≡ object_blocks w o
  same_blocks o p s = ap (λ k. blocks_of_kind w k (length p.fields)) s.kind
      ∙ ap (λ n. blocks_of_kind w o.kind n) s.size

  made_blocks : (g : Graph) (t : ℕ) (k : Command) → t < length g.mutators
      → makes_object k ≡ true
      → (has_name (step g t k).0 (next_name g t) ≡ true)
      × (object_blocks w (object_of (step g t k).0 (next_name g t)) ≡ blocks_of w k)
      × (blocks_if_new (step g t k).1 (blocks_of w k) ≡ blocks_of w k)
  made_blocks g t (commands.New d f) there e =
      let m = made_object g t d (record { kind = Record; fields = nils f }) there in
      (m.0, ap (object_blocks w) m.1 ∙ ap (record_blocks w) (length-replicate f values.Nil), refl)
  made_blocks g t (commands.Arr d f) there e =
      let m = made_object g t d (record { kind = Array; fields = nils f }) there in
      (m.0, ap (object_blocks w) m.1 ∙ ap (array_blocks w) (length-replicate f values.Nil), refl)
  made_blocks g t _ there e = absurd cc

  -- the blocks of a name after an entry and the items after it
  abbrev sizes : Graph → Entry → List HistoryItem → Name → ℕ
  sizes g e h a = object_blocks w (object_of (replay_from (after g (Did e)) h) a)

  -- the blocks of the names that the items after an entry make
  abbrev rest_sum : Graph → Entry → List HistoryItem → ℕ
  rest_sum g e h = sum_by (sizes g e h) (made_from (after g (Did e)) h)

  abbrev whole_sum : Graph → Entry → List HistoryItem → List Name → ℕ
  whole_sum g e h xs = sum_by (sizes g e h) (xs ++ made_from (after g (Did e)) h)

  no_entry : (g : Graph) (e : Entry) (h : List HistoryItem) → rest_sum g e h ≤ taken_in w h
      → made_by g e ≡ [] → whole_sum g e h (made_by g e) ≤ taken_in w (Did e ∷ h)
  no_entry g e h rest nothing =
      let all : whole_sum g e h (made_by g e) ≡ rest_sum g e h = ap (whole_sum g e h) nothing in
      omega (arith, rest)

  -- the blocks of an object that an entry makes, and that it took
  made_size : (g : Graph) (e : Entry) (h : List HistoryItem) → IsAnswered g (Did e)
      → e.thread < length g.mutators → is_full e.reply ≡ false → makes_object e.command ≡ true
      → sizes g e h (next_name g e.thread) ≡ taken_by w e
  made_size g e h l t n makes =
      let a : Name = next_name g e.thread in
      let stepped : after g (Did e) ≡ (step g e.thread e.command).0 =
      ap (λ b. cond b g (step g e.thread e.command).0) n in
      let m = made_blocks g e.thread e.command t makes in
      let there : has_name (after g (Did e)) a ≡ true = ap (λ k. has_name k a) stepped ∙ m.0 in
      let size : object_blocks w (object_of (after g (Did e)) a) ≡ blocks_of w e.command =
      ap (λ k. object_blocks w (object_of k a)) stepped ∙ m.1 in
      let reply : taken_by w e ≡ blocks_of w e.command = elim l [
        | inl same ↦ ap (λ r. blocks_if_new r (blocks_of w e.command)) same ∙ m.2
        | inr full ↦ absurd (both_ways (is_full e.reply) n full.0)
      ] in
      same_blocks _ _ (replay_shape (after g (Did e)) h a there) ∙ size ∙ sym reply

  made_entry : (g : Graph) (e : Entry) (h : List HistoryItem) → IsAnswered g (Did e)
      → e.thread < length g.mutators → rest_sum g e h ≤ taken_in w h
      → whole_sum g e h (made_by g e) ≤ taken_in w (Did e ∷ h)
  made_entry g e h l t rest =
      let news : List Name = next_name g e.thread ∷ [] in
      elim (cases_Bool (is_full e.reply)) [
        | inl y ↦ no_entry g e h rest (ap (λ b. cond b []
            (cond (makes_object e.command) news [])) y)
        | inr n ↦
            let first = ap (λ b. cond b [] (cond (makes_object e.command) news [])) n in
            elim (cases_Bool (makes_object e.command)) [
              | inr no_object ↦ no_entry g e h rest (first ∙ ap (λ b. cond b news []) no_object)
              | inl makes ↦
                  let all : whole_sum g e h (made_by g e)
                  ≡ sizes g e h (next_name g e.thread) + rest_sum g e h
                  = ap (whole_sum g e h) (first ∙ ap (λ b. cond b news []) makes)
                  ∙ sum_by-cons (sizes g e h) (next_name g e.thread)
                  (made_from (after g (Did e)) h) in
                  omega (arith, rest, made_size g e h l t n makes)
            ]
      ]

  -- the blocks of the names that a history makes are among those that it takes
  pub made_taken : (g : Graph) (h : List HistoryItem) → LegalFrom g h
      → InThreads (length g.mutators) h
      → sum_by (λ (a : Name). object_blocks w (object_of (replay_from g h) a)) (made_from g h)
      ≤ taken_in w h
  made_taken g [] l t = omega arith
  made_taken g (Started ∷ h) l t = made_taken g h l.1 t
  made_taken g (Did e ∷ h) l t =
      made_entry g e h l.0 t.0 (made_taken (after g (Did e)) h l.1 (same_threads g e h t.1))
