-- What is shown was made.
use Rattle.std.proofs.Common.{◌≡◌, ℕ, ◌+◌, ◌<◌, ◌≤◌, ◌^◌, ◌/◌, ◌%◌, ◌==◌, ◌&&◌, ◌⊎◌, inl, inr, cond, Bool, true, false, Some, None, List, [], ◌∷◌, ◌++◌, length, sym, refl, ap, ◌∙◌, subst, append_assoc, append-nil, arith}
use Rattle.std.specs.Prelude.{slice_set}
use Rattle.std.specs.List.{AllByRecursion}
use Rattle.std.proofs.lemmas.Bool.{and_parts, eqb-true}
use Rattle.std.proofs.lemmas.List.{length-replicate}
use Rattle.std.proofs.lemmas.Nat.{div-mul-add, mod-mul-add}
use Rattle.array_tables.specs.declared.handle_table.told.Outcome.TheVariants as outcomes
use Rattle.array_tables.specs.handle_table.Handles.{Deed, Make, See, Drop, Take, Evict, Slot, Answer, Matched, id, is_free, holds, shown, slot_at, answer, slots_after, empty_slots, shown_as, outcome_of}
use Rattle.array_tables.specs.handle_table.Fates.{IsMadeBy}
use Rattle.array_tables.proofs.handle_table.NumberedDeeds.{IsOwn, IsOwnCall}
use Rattle.array_tables.proofs.handle_table.SlotsByFate.{set_if, none_at}
use Rattle.array_tables.specs.operations.Linearizations.{Call, AreAnswered}

module _ (n m : ℕ) where
  -- what slots hold was made
  abbrev Made : List (Call Deed Answer) → ℕ → ℕ × ℕ × ℕ → Type 0
  Made past i c = IsMadeBy past i c.0 c.1 c.2 × (c.1 < m)

  abbrev AllMade : List (Call Deed Answer) → List Slot → Type 0
  AllMade past slots = (length slots ≡ n)
      × ((i : ℕ) (c : ℕ × ℕ × ℕ) → slot_at slots i ≡ Some c → Made past i c)

  module _ (past : List (Call Deed Answer)) (d : Call Deed Answer) (slots : List Slot)
      (all : AllMade past slots) where
    later : (i : ℕ) (c : ℕ × ℕ × ℕ) → slot_at slots i ≡ Some c → Made (past ++ d ∷ []) i c
    later i c e =
        let m = (all.1 i c e).0 in
        let more : IsMadeBy (past ++ d ∷ []) i c.0 c.1 c.2 = record {
          before = m.before;
          make = m.make;
          since = m.since ++ d ∷ [];
          order = ap (λ l. l ++ d ∷ []) m.order ∙ append_assoc m.before (m.make ∷ m.since) (d ∷ []);
          h = m.h;
          is_make = m.is_make;
          made = m.made;
        } in (more, (all.1 i c e).1)

    sets : (z : Bool) (i : ℕ) (s : Slot) → i < n
        → (z ≡ true → (c : ℕ × ℕ × ℕ) → s ≡ Some c → Made (past ++ d ∷ []) i c)
        → AllMade (past ++ d ∷ []) (cond z (slice_set slots i s) slots)
    sets z i s low new =
        let set = set_if z slots n i s all.0 low in
        (set.0, λ b c e. which b c (z && (i == b)) refl (sym (set.1 b) ∙ e))
      where
        which : (b : ℕ) (c : ℕ × ℕ × ℕ) (y : Bool) → z && (i == b) ≡ y
            → cond y s (slot_at slots b) ≡ Some c → Made (past ++ d ∷ []) b c
        which b c false is e = later b c e
        which b c true is e =
            let p = and_parts z (i == b) is in
            subst (λ (k : ℕ). Made (past ++ d ∷ []) k c) (eqb-true i b p.1) (new p.0 c e)

    goes_on : (op : Deed) → d.operation ≡ op → d.answer ≡ answer op slots → IsOwn n m d.thread op
        → AllMade (past ++ d ∷ []) (slots_after op slots)
    goes_on (See u l h i) is said own = (all.0, later)
    goes_on (Take i) is said own = (all.0, later)
    goes_on (Evict i) is said own = sets true i None own (λ z c e. absurd cc)
    goes_on (Drop u l h i) is said own =
        sets (holds (slot_at slots i) u l) i None own.1 (λ z c e. absurd cc)
    goes_on (Make u l h i x) is said own =
        sets (is_free (slot_at slots i)) i (Some (u, l, x)) own.2 (λ z c e.
        let here : IsMadeBy (past ++ d ∷ []) i u l x = record {
          before = past;
          make = d;
          since = [];
          order = refl;
          h = h;
          is_make = is;
          made = said ∙ ap Matched z;
        } in
        let same : (u, l, x) ≡ c = cc in subst (Made (past ++ d ∷ []) i) same (here, own.1))

  -- what a take or an evict shows is of a make that filled the slot before
  pub shown_made : (few : m ≤ 14000) (past before since whole : List (Call Deed Answer))
      (d : Call Deed Answer) (slots : List Slot) (i t k x : ℕ) → past ++ before ≡ whole
      → AllMade past slots → AreAnswered answer slots_after slots (before ++ d ∷ since)
      → AllByRecursion (IsOwnCall n m) (before ++ d ∷ since)
      → (d.operation ≡ Take i) ⊎ (d.operation ≡ Evict i)
      → outcome_of d.operation d.answer ≡ outcomes.Shown t k x
      → (j : ℕ) × (k ≡ j + 1) × IsMadeBy whole i t j x
  shown_made few past (y ∷ before) since whole d slots i t k x e all answered own op shows =
      shown_made few (past ++ y ∷ []) before since whole d (slots_after y.operation slots) i t k x
      (append_assoc past (y ∷ []) before ∙ e)
      (goes_on past y slots all y.operation refl answered.0 own.0) answered.1 own.1 op shows
  shown_made few past [] since whole d slots i t k x e all answered own op shows =
      by_slot (slot_at slots i) refl (sym (is_shown op) ∙ shows)
    where
      is_shown : (d.operation ≡ Take i) ⊎ (d.operation ≡ Evict i)
          → outcome_of d.operation d.answer ≡ shown_as (shown (slot_at slots i))
      is_shown (inl is) = λ q. outcome_of (is q) ((answered.0 ∙ ap (λ o. answer o slots) is) q)
      is_shown (inr is) = λ q. outcome_of (is q) ((answered.0 ∙ ap (λ o. answer o slots) is) q)

      by_slot : (s : Slot) → slot_at slots i ≡ s → shown_as (shown s) ≡ outcomes.Shown t k x
          → (j : ℕ) × (k ≡ j + 1) × IsMadeBy whole i t j x
      by_slot None there f = absurd cc
      by_slot (Some c) there f =
          let made = all.1 i c there in
          let thread : id c.0 c.1 / 2 ^ 20 ≡ t = cc in
          let number : id c.0 c.1 % 2 ^ 20 ≡ k = cc in
          let item : c.2 ≡ x = cc in
          let low : c.1 + 1 < 2 ^ 20 = omega (arith, few, made.1) in
          let u = sym (div-mul-add c.0 (2 ^ 20) (c.1 + 1) low) ∙ thread in (
            c.1,
            sym number ∙ mod-mul-add c.0 (2 ^ 20) (c.1 + 1) low,
            subst (λ l. IsMadeBy l i t c.1 x) (sym (append-nil past) ∙ e)
                (subst (λ (y : ℕ). IsMadeBy past i y c.1 x) u
                (subst (IsMadeBy past i c.0 c.1) item made.0)),
          )

  pub none_made : AllMade [] (empty_slots n)
  none_made = (
    length-replicate {A = Slot} n None,
    λ i c e. let bad : None ≡ Some c = sym (none_at n i) ∙ e in absurd cc,
  )
