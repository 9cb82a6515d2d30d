-- A graph has at most as many live blocks as one that it is up to names.
use Rattle.std.proofs.Common.{◌≡◌, ℕ, ◌+◌, ◌≤◌, zero, suc, inl, inr, Bool, true, false, cond, List, [], ◌∷◌, length, map, get_or, refl, sym, ap, ◌∙◌, subst, arith}
use Rattle.std.specs.List.{list_any, sum_by}
use Rattle.std.proofs.lemmas.Bool.{or_cases, or_left, or_right}
use Rattle.std.proofs.lemmas.List.{get_or_past, length-map}
use Rattle.std.proofs.lemmas.List.Sums.{sum_by-cons}
use Rattle.block_store.specs.declared.Name.{Name}
use Rattle.block_store.specs.declared.Width.{Width}
use Rattle.block_store.specs.declared.Value.{Value}
use Rattle.block_store.specs.declared.Value.TheVariants.{Nil, Int, Ref}
use Rattle.block_store.specs.Registers.{registers_end}
use Rattle.never_heap.specs.Graphs.{Graph, Mutator, field_of, no_mutator, object_of, register_of, same_name}
use Rattle.never_heap.specs.LiveBlocks.{blocks_of_kind, live_blocks, live_of, object_blocks}
use Rattle.never_heap.specs.Reach.{is_among, names, reachable}
use Rattle.never_heap.proofs.Lemmas.{any_of_names, one_name, reachable_closed, reachable_within, ref_name, same_itself, within}
use Rattle.saved_heap.specs.heap_pictures.Following.{HasOneThread}
use Rattle.saved_heap.specs.heap_pictures.UpToNames.{AreOneUpToNames, renamed}

-- a reference that is renamed was one
ref_of : (T : Name → Name) (v : Value) (b : Name) → renamed T v ≡ Ref b
    → (a : Name) × (v ≡ Ref a) × (Ref (T a) ≡ Ref b)
ref_of T Nil b e = absurd cc
ref_of T (Int n) b e = absurd cc
ref_of T (Ref a) b e = (a, refl, e)

-- no other thread has a register
other_register : (g : Graph) (t r : ℕ) (a : Name) → HasOneThread g → register_of g (suc t) r ≡ Ref a
    → ⊥
other_register g t r a lone e =
    let past : register_of g (suc t) r ≡ Nil =
    ap (λ (m : Mutator). get_or m.registers r Nil)
    (get_or_past g.mutators (suc t) no_mutator (omega (arith, lone.threads))) in
    absurd cc

-- the names of objects that are reachable, as they are in another graph
abbrev kept_if : Bool → Name → List Name → List Name
kept_if b a list = cond b (a ∷ list) list

abbrev live_names : (Name → Name) → Graph → List Name → List Name
live_names T g [] = []
live_names T g (a ∷ list) = kept_if (reachable g a) (T a) (live_names T g list)

module _ (T : Name → Name) (g : Graph) where
  -- each is there
  kept_head : (b : Bool) (a c : Name) (list : List Name) → b ≡ true → same_name a c ≡ true
      → is_among (kept_if b c list) a ≡ true
  kept_head true a c list y same = or_left (same_name a c) (is_among list a) same
  kept_head false a c list y same = absurd cc

  kept_rest : (b : Bool) (a c : Name) (list : List Name) → is_among list a ≡ true
      → is_among (kept_if b c list) a ≡ true
  kept_rest true a c list there = or_right (same_name a c) (is_among list a) there
  kept_rest false a c list there = there

  is_live_name : (a : Name) (list : List Name) → reachable g a ≡ true
      → list_any (same_name a) list ≡ true → is_among (live_names T g list) (T a) ≡ true
  is_live_name a [] live there = absurd (let e : false ≡ true = there in cc)
  is_live_name a (c ∷ list) live there =
      elim (or_cases (same_name a c) (list_any (same_name a) list) there) [
        | inl y ↦ kept_head (reachable g c) (T a) (T c) (live_names T g list)
            (subst (λ x. reachable g x ≡ true) (one_name a c y) live)
            (subst (λ x. same_name (T a) (T x) ≡ true) (one_name a c y) (same_itself (T a)))
        | inr later ↦ kept_rest (reachable g c) (T a) (T c) (live_names T g list)
            (is_live_name a list live later)
      ]

  -- and nothing else
  Origin : Name → Type 0
  Origin b = (a : Name) × (reachable g a ≡ true) × (b ≡ T a)

  origin_kept : (live : Bool) (b c : Name) (list : List Name) → reachable g c ≡ live
      → (is_among list b ≡ true → Origin b) → is_among (kept_if live (T c) list) b ≡ true
      → Origin b
  unfolding Origin
  origin_kept true b c list is rest there =
      elim (or_cases (same_name b (T c)) (is_among list b) there) [
        | inl y ↦ (c, is, one_name b (T c) y)
        | inr later ↦ rest later
      ]
  origin_kept false b c list is rest there = rest there

  origin_of : (b : Name) (list : List Name) → is_among (live_names T g list) b ≡ true → Origin b
  origin_of b [] there = absurd (let e : false ≡ true = there in cc)
  origin_of b (c ∷ list) there =
      origin_kept (reachable g c) b c (live_names T g list) refl (origin_of b list) there

  -- their weights are those of the objects that are reachable
  kept_weight : (live : Bool) (v w : Name → ℕ) (c : Name) (list : List Name)
      → (live ≡ true → w (T c) ≡ v c)
      → sum_by w (kept_if live (T c) list) ≡ cond live (v c) 0 + sum_by w list
  kept_weight true v w c list same =
      sum_by-cons w (T c) list ∙ ap (λ n. n + sum_by w list) (same refl)
  kept_weight false v w c list same = omega arith

  live_weights : (v w : Name → ℕ) (list : List Name)
      → ((a : Name) → reachable g a ≡ true → w (T a) ≡ v a)
      → sum_by w (live_names T g list) ≡ sum_by (λ a. cond (reachable g a) (v a) 0) list
  live_weights v w [] same = refl
  live_weights v w (c ∷ list) same =
      kept_weight (reachable g c) v w c (live_names T g list) (same c)
      ∙ ap (λ n. cond (reachable g c) (v c) 0 + n) (live_weights v w list same)
      ∙ sym (sum_by-cons (λ a. cond (reachable g a) (v a) 0) c list)

module _ (g z : Graph) (lone : HasOneThread g) (also : HasOneThread z) (one : AreOneUpToNames g z)
  where
    abbrev live : List Name
    live = live_names one.to g (names g)

    reached_registers : (t r : ℕ) (a : Name) → register_of g t r ≡ Ref a → one.reached a ≡ true
    reached_registers zero r a e = one.roots r a e
    reached_registers (suc t) r a e = absurd (other_register g t r a lone e)

    -- what is reachable is reached
    is_reached : (a : Name) → reachable g a ≡ true → one.reached a ≡ true
    is_reached a is =
        reachable_within g one.reached a
        (record { registers = reached_registers; fields = one.closed })
        is

    live_there : (a : Name) → reachable g a ≡ true → is_among live (one.to a) ≡ true
    live_there a is =
        is_live_name one.to g a (names g) is
        (any_of_names g (same_name a) a (one.here a (is_reached a is)) (same_itself a))

    -- a register or field of z refers to the name of one that is reachable
    renamed_live : (v : Value) (b : Name) → ((a : Name) → v ≡ Ref a → reachable g a ≡ true)
        → renamed one.to v ≡ Ref b → is_among live b ≡ true
    renamed_live v b named e =
        let from = ref_of one.to v b e in
        subst (λ c. is_among live c ≡ true) (ref_name (one.to from.0) b from.2)
        (live_there from.0 (named from.0 from.1))

    live_registers : (t r : ℕ) (b : Name) → register_of z t r ≡ Ref b → is_among live b ≡ true
    live_registers zero r b e =
        renamed_live (register_of g 0 r) b ((reachable_closed g).registers 0 r)
        (sym (one.registers r) ∙ e)
    live_registers (suc t) r b e = absurd (other_register z t r b also e)

    live_fields : (b c : Name) (i : ℕ) → is_among live b ≡ true
        → field_of (object_of z b) i ≡ Ref c → is_among live c ≡ true
    unfolding Origin
    live_fields b c i there e =
        let from = origin_of one.to g b (names g) there in
        renamed_live (field_of (object_of g from.0) i) c
        (λ a is. (reachable_closed g).fields from.0 a i from.1 is)
        (sym (field_there from.0 i (is_reached from.0 from.1))
        ∙ ap (λ x. field_of (object_of z x) i) (sym from.2) ∙ e)
      where
        field_under : (vs : List Value) (i : ℕ)
            → get_or (map (renamed one.to) vs) i Nil ≡ renamed one.to (get_or vs i Nil)
        field_under [] i = refl
        field_under (v ∷ vs) zero = refl
        field_under (v ∷ vs) (suc i) = field_under vs i

        field_there : (a : Name) (i : ℕ) → one.reached a ≡ true
            → field_of (object_of z (one.to a)) i ≡ renamed one.to (field_of (object_of g a) i)
        field_there a i ra =
            ap (λ o. field_of o i) (one.objects a ra) ∙ field_under (object_of g a).fields i

    same_blocks : (w : Width) (a : Name) → reachable g a ≡ true
        → object_blocks w (object_of z (one.to a)) ≡ object_blocks w (object_of g a)
    same_blocks w a is =
        ap (object_blocks w) (one.objects a (is_reached a is))
        ∙ ap (blocks_of_kind w (object_of g a).kind)
        (length-map (object_of g a).fields (renamed one.to))

    pub live_stays : (w : Width) → live_blocks w z ≤ live_blocks w g
    unfolding live_blocks
    live_stays w =
        let few : live_blocks w z ≤ registers_end w (length z.mutators)
        + sum_by (λ a. object_blocks w (object_of z a)) live =
        within w z live (record { registers = live_registers; fields = live_fields }) in
        let same : sum_by (λ a. object_blocks w (object_of z a)) live
        ≡ sum_by (live_of w g) (names g) =
        live_weights one.to g (λ a. object_blocks w (object_of g a))
        (λ a. object_blocks w (object_of z a)) (names g) (same_blocks w) in
        let threads : registers_end w (length z.mutators) ≡ registers_end w (length g.mutators) =
        ap (registers_end w) (also.threads ∙ sym lone.threads) in
        omega (arith, few, same, threads)
