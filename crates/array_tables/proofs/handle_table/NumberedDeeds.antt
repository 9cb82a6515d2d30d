-- The deeds of scripts: of whom they are, how they are numbered and come after their makes, and
-- which commands they have.
use Rattle.std.proofs.Common.{◌≡◌, ◌≢◌, ℕ, zero, suc, ◌+◌, ◌-◌, ◌<◌, ◌≤◌, ◌==◌, ◌&&◌, inl, inr, cond, true, Option, Some, None, List, [], ◌∷◌, ◌++◌, length, map, slice_index_or, sym, refl, ap, ◌∙◌, subst, arith}
use Rattle.std.specs.Prelude.{flat_map}
use Rattle.std.specs.List.{AllByRecursion}
use Rattle.std.proofs.lemmas.Bool.{cases_eq}
use Rattle.never_heap.specs.declared.Command.{Command}
use Rattle.array_tables.specs.operations.Linearizations.{Call}
use Rattle.array_tables.proofs.operations.CallsOfThread.{ops_of, ops_here, ops_there}
use Rattle.array_tables.specs.declared.handle_table.operation.Operation.{Operation}
use Rattle.array_tables.specs.declared.handle_table.operation.Operation.TheVariants as said
use Rattle.array_tables.specs.handle_table.Handles.{Deed, Make, See, Drop, Take, Evict, Answer, last_after, AreNumbered, numbered, deeds_of, all_deeds, slot_by, slot_behind, slot_of, AreInTurn, rows_of, command_at, commands_of, commands_from, sizes_of}

-- the slot after one operation more
pub slot_more : (h : ℕ) (slot : Option ℕ) (before : List Operation) (op : Operation)
    → slot_behind h slot (before ++ op ∷ []) ≡ slot_by h (slot_behind h slot before) op
slot_more h slot [] op = refl
slot_more h slot (b ∷ before) op = slot_more h (slot_by h slot b) before op

-- the slot of make j of thread t
abbrev pub made_in : ℕ → ℕ → Option ℕ → Deed → Option ℕ
made_in t j slot (Make u l h i x) = cond ((u == t) && (l == j)) (Some i) slot
made_in t j slot _ = slot

-- where this is the slot of make j of thread t, or there was none: it is made once, and what is
-- about it comes after its make and at its slot
abbrev pub Stands : ℕ → ℕ → Option ℕ → Deed → Type 0
Stands t j slot (Make u l h i x) = (u == t) && (l == j) ≡ true → slot ≡ None
Stands t j slot (See u l h i) = (u == t) && (l == j) ≡ true → slot ≡ Some i
Stands t j slot (Drop u l h i) = (u == t) && (l == j) ≡ true → slot ≡ Some i
Stands t j slot _ = Unit {0}

abbrev pub AllStand : ℕ → ℕ → Option ℕ → List Deed → Type 0
AllStand t j slot [] = Unit {0}
AllStand t j slot (op ∷ ops) = Stands t j slot op × AllStand t j (made_in t j slot op) ops

-- a deed of thread w, which has fewer than m makes
abbrev pub IsOwn : ℕ → ℕ → ℕ → Deed → Type 0
IsOwn slots m w (Make u l h i x) = (u ≡ w) × (l < m) × (i < slots)
IsOwn slots m w (See u l h i) = (u ≡ w) × (i < slots)
IsOwn slots m w (Drop u l h i) = (u ≡ w) × (i < slots)
IsOwn slots m w (Take i) = i < slots
IsOwn slots m w (Evict i) = i < slots

pub same_both : (t j : ℕ) → (t == t) && (j == j) ≡ true
same_both t j = grind arith

-- ---- after n makes, of which the last of each h is known

module _ (slots m t j : ℕ) where
  abbrev pub Numbered : ℕ → (ℕ → ℕ) → Option ℕ → List Deed → Type 0
  Numbered n last slot ops = AreNumbered slots t n last ops × AllStand t j slot ops
      × AllByRecursion (IsOwn slots m t) ops

  -- each h with a slot has a make, and the slot of make j is known after it
  record Knows (n : ℕ) (last : ℕ → ℕ) (slot : Option ℕ) (before : List Operation) : Type 0 where
    early : n ≤ j → slot ≡ None
    known : (h i : ℕ) → slot_of h before ≡ Some i
        → (0 < last h) × (last h ≤ n) × (last h ≡ j + 1 → slot ≡ Some i)

  still : (n : ℕ) (last : ℕ → ℕ) (slot : Option ℕ) (before : List Operation) (op : Operation)
      → ((h : ℕ) (o : Option ℕ) → slot_by h o op ≡ o) → Knows n last slot before
      → Knows n last slot (before ++ op ∷ [])
  still n last slot before op quiet k = record {
    early = k.early;
    known = λ h i e.
        k.known h i (sym (quiet h (slot_of h before)) ∙ sym (slot_more h None before op) ∙ e);
  }

  made_early : (n i : ℕ) (slot : Option ℕ) → (n ≤ j → slot ≡ None) → n + 1 ≤ j
      → cond ((t == t) && (n == j)) (Some i) slot ≡ None
  made_early n i slot early low = grind arith

  made_known : (n g h i k l : ℕ) (was slot : Option ℕ)
      → (was ≡ Some k → (0 < l) × (l ≤ n) × (l ≡ j + 1 → slot ≡ Some k))
      → cond (g == h) (Some i) was ≡ Some k
      → (0 < cond (g == h) (n + 1) l) × (cond (g == h) (n + 1) l ≤ n + 1)
      × (cond (g == h) (n + 1) l ≡ j + 1 → cond ((t == t) && (n == j)) (Some i) slot ≡ Some k)
  made_known n g h i k l was slot old e = grind arith

  made : (n g i x : ℕ) (last : ℕ → ℕ) (slot : Option ℕ) (before : List Operation)
      → Knows n last slot before
      → Knows (n + 1) (last_after last g (n + 1)) (made_in t j slot (Make t n g i x))
      (before ++ said.Make g i x ∷ [])
  made n g i x last slot before k = record {
    early = made_early n i slot k.early;
    known = λ h q e. made_known n g h i q (last h) (slot_of h before) slot (k.known h q)
        (sym (slot_more h None before (said.Make g i x)) ∙ e);
  }

  is_next : (n : ℕ) → (t == t) && (n == j) ≡ true → n ≤ j
  is_next n e = grind arith

  is_last : (l : ℕ) → 0 < l → (t == t) && (l - 1 == j) ≡ true → l ≡ j + 1
  is_last l some e = grind arith

  numbered_so : (n : ℕ) (last : ℕ → ℕ) (slot : Option ℕ) (before ops : List Operation)
      → Knows n last slot before → n + length ops ≤ m → AreInTurn slots before ops
      → Numbered n last slot (numbered t n last ops)
  numbered_so n last slot before [] k few s = (tt, tt, tt)
  numbered_so n last slot before (said.Make h i x ∷ ops) k few s =
      let more = numbered_so (n + 1) (last_after last h (n + 1)) (made_in t j slot (Make t n h i x))
      (before ++ said.Make h i x ∷ []) ops (made n h i x last slot before k)
      (omega (arith, few)) s.1 in (
        ((refl, refl, s.0.0, s.0.1), more.0),
        (λ e. k.early (is_next n e), more.1),
        ((refl, omega (arith, few), s.0.1), more.2),
      )
  numbered_so n last slot before (said.See h i ∷ ops) k few s =
      let more = numbered_so n last slot (before ++ said.See h i ∷ []) ops
      (still n last slot before (said.See h i) (λ g o. refl) k) (omega (arith, few)) s.1 in
      let own = k.known h i s.0.2 in (
        ((refl, omega (arith, own.0), s.0.0, s.0.1), more.0),
        (λ e. own.2 (is_last (last h) own.0 e), more.1),
        ((refl, s.0.1), more.2),
      )
  numbered_so n last slot before (said.Drop h i ∷ ops) k few s =
      let more = numbered_so n last slot (before ++ said.Drop h i ∷ []) ops
      (still n last slot before (said.Drop h i) (λ g o. refl) k) (omega (arith, few)) s.1 in
      let own = k.known h i s.0.2 in (
        ((refl, omega (arith, own.0), s.0.0, s.0.1), more.0),
        (λ e. own.2 (is_last (last h) own.0 e), more.1),
        ((refl, s.0.1), more.2),
      )
  numbered_so n last slot before (op ∷ ops) k few s =
      let more = numbered_so n last slot (before ++ op ∷ []) ops
      (still n last slot before op (λ g o. refl) k) (omega (arith, few)) s.1 in
      ((s.0, more.0), (tt, more.1), (s.0, more.2))

  -- the deeds of a script
  pub so_numbered : (ops : List Operation) → length ops ≤ m → AreInTurn slots [] ops
      → Numbered 0 (λ h. 0) None (deeds_of t ops)
  so_numbered ops few s = numbered_so 0 (λ h. 0) None [] ops
      (record { early = λ e. refl; known = λ h i e. absurd (none i e) }) (omega (arith, few)) s
    where
      none : (i : ℕ) → None ≡ Some i → ⊥
      none i e = cc

-- ---- an order, of which each thread's calls are its own

abbrev pub deeds_in : List (Call Deed Answer) → List Deed
deeds_in ds = map (λ (d : Call Deed Answer). d.operation) ds

abbrev pub IsOwnCall : ℕ → ℕ → Call Deed Answer → Type 0
IsOwnCall slots m d = IsOwn slots m d.thread d.operation

module _ (t j slots m : ℕ) where
  others : (w : ℕ) (op : Deed) (slot : Option ℕ) → IsOwn slots m w op → w ≢ t
      → Stands t j slot op × (made_in t j slot op ≡ slot)
  others w op slot own ne = grind arith

  -- what is in the thread is in the order
  pub all_stand : (ds : List (Call Deed Answer)) (slot : Option ℕ)
      → AllByRecursion (IsOwnCall slots m) ds → AllStand t j slot (ops_of t ds)
      → AllStand t j slot (deeds_in ds)
  all_stand [] slot own s = tt
  all_stand (d ∷ ds) slot own s = elim (cases_eq d.thread t) [
    | inl e ↦ (let here = subst (AllStand t j slot) (ops_here d ds t e) s in
        (here.0, all_stand ds (made_in t j slot d.operation) own.1 here.1))
    | inr ne ↦ (let away = others d.thread d.operation slot own.0 ne in (
      away.0,
      subst (λ (o : Option ℕ). AllStand t j o (deeds_in ds)) (sym away.1)
          (all_stand ds slot own.1 (subst (AllStand t j slot) (ops_there d ds t ne) s)),
    ))
  ]

-- ---- the deeds of all threads

pub deeds_at : (u : ℕ) (scripts : List (List Operation)) (t : ℕ)
    → slice_index_or (all_deeds u scripts) t [] ≡ deeds_of (u + t) (slice_index_or scripts t [])
deeds_at u [] t = refl
deeds_at u (ops ∷ scripts) zero = ap (λ (k : ℕ). deeds_of k ops) (omega arith)
deeds_at u (ops ∷ scripts) (suc t) =
    deeds_at (u + 1) scripts t
    ∙ ap (λ (k : ℕ). deeds_of k (slice_index_or scripts t [])) (omega arith)

pub deeds_of_thread : (scripts : List (List Operation)) (t : ℕ)
    → slice_index_or (all_deeds 0 scripts) t [] ≡ deeds_of t (slice_index_or scripts t [])
deeds_of_thread scripts t =
    deeds_at 0 scripts t ∙ ap (λ (k : ℕ). deeds_of k (slice_index_or scripts t [])) (omega arith)

pub deeds_count : (u : ℕ) (scripts : List (List Operation))
    → length (all_deeds u scripts) ≡ length scripts
deeds_count u [] = refl
deeds_count u (ops ∷ scripts) = ap (λ (k : ℕ). suc k) (deeds_count (u + 1) scripts)

pub all_numbered : (slots : ℕ) (scripts : List (List Operation))
    → ((t : ℕ) → AreInTurn slots [] (slice_index_or scripts t [])) → (t : ℕ)
    → AreNumbered slots t 0 (λ h. 0) (slice_index_or (all_deeds 0 scripts) t [])
all_numbered slots scripts inside t =
    subst (AreNumbered slots t 0 (λ h. 0)) (sym (deeds_of_thread scripts t))
    (so_numbered slots (length (slice_index_or scripts t [])) t 0 (slice_index_or scripts t [])
    (omega arith) (inside t)).0

-- ---- their commands

pub commands_are : (t n : ℕ) (last : ℕ → ℕ) (ops : List Operation)
    → map command_at (flat_map rows_of (numbered t n last ops)) ≡ commands_from t n ops
commands_are t n last [] = refl
commands_are t n last (said.Make h i x ∷ ops) =
    ap (λ (l : List Command). commands_of t n (said.Make h i x) ++ l)
    (commands_are t (n + 1) (last_after last h (n + 1)) ops)
commands_are t n last (op ∷ ops) =
    ap (λ (l : List Command). commands_of t n op ++ l)
    (commands_are t n last ops ∙ ap (λ (k : ℕ). commands_from t k ops) (omega arith))

-- and how many these are
pub sizes_are : (t n : ℕ) (last : ℕ → ℕ) (ops : List Operation)
    → length (flat_map rows_of (numbered t n last ops)) ≡ sizes_of ops
sizes_are t n last [] = refl
sizes_are t n last (said.Make h i x ∷ ops) =
    omega (arith, sizes_are t (n + 1) (last_after last h (n + 1)) ops)
sizes_are t n last (op ∷ ops) = omega (arith, sizes_are t n last ops)
