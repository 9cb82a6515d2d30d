-- A slot holds a handle exactly where the handle's fate says that it is kept there.
use Rattle.std.proofs.Common.{◌≡◌, ℕ, ◌<◌, ◌==◌, ◌&&◌, ◌⊎◌, inl, inr, cond, Bool, true, false, Option, Some, None, List, [], ◌∷◌, ◌++◌, length, eq-eqb, sym, refl, ap, ◌∙◌, subst, arith}
use Rattle.std.specs.Prelude.{slice_set}
use Rattle.std.specs.List.{AllByRecursion}
use Rattle.std.proofs.lemmas.Bool.{cases_lt}
use Rattle.std.proofs.lemmas.List.{length-set, length-replicate, get_or_past, get_or-replicate}
use Rattle.never_heap.proofs.Lemmas.{get_or_set}
use Rattle.array_tables.specs.operations.Linearizations.{Call, AreAnswered}
use Rattle.array_tables.proofs.operations.CallsOfThread.{ops_of}
use Rattle.array_tables.specs.handle_table.Handles.{Deed, Make, See, Drop, Take, Evict, Slot, Answer, Matched, is_free, holds, slot_at, answer, slots_after, empty_slots}
use Rattle.array_tables.specs.handle_table.Fates.{Fate, Unmade, Refused, Kept, Gone, evicted, fate_by, fate_after, AnswersFor}
use Rattle.array_tables.proofs.handle_table.NumberedDeeds.{IsOwn, IsOwnCall, made_in, Stands, AllStand, deeds_in, all_stand, same_both}

-- slot i of n is set, or none is
pub set_if : (z : Bool) (slots : List Slot) (n i : ℕ) (s : Slot) → length slots ≡ n → i < n
    → (length (cond z (slice_set slots i s) slots) ≡ n)
    × ((b : ℕ) → slot_at (cond z (slice_set slots i s) slots) b
    ≡ cond (z && (i == b)) s (slot_at slots b))
set_if true slots n i s long low =
    (length-set slots i s ∙ long, λ b. get_or_set slots i b s None (omega arith))
set_if false slots n i s long low = (long, λ b. refl)

pub none_at : (n i : ℕ) → slot_at (empty_slots n) i ≡ None
none_at n i = elim (cases_lt i n) [
  | inl low ↦ get_or-replicate n i None None low
  | inr high ↦ get_or_past (empty_slots n) i None
      (omega (arith, length-replicate {A = Slot} n None))
]

abbrev is_kept : Fate → ℕ → Bool
is_kept (Kept k) i = k == i
is_kept _ i = false

-- a fate knows the slot of its make
abbrev IsAt : Fate → Option ℕ → Type 0
IsAt Unmade slot = slot ≡ None
IsAt (Kept k) slot = slot ≡ Some k
IsAt _ slot = (i : ℕ) × (slot ≡ Some i)

answers_for : (f : Fate) (slot : Option ℕ) (i : ℕ) (a : Answer) → IsAt f slot → slot ≡ Some i
    → a ≡ Matched (is_kept f i) → AnswersFor f a
answers_for Unmade slot i a at is e = let bad : None ≡ Some i = sym at ∙ is in absurd cc
answers_for Refused slot i a at is e = e
answers_for Gone slot i a at is e = e
answers_for (Kept k) slot i a at is e = e ∙ ap Matched (eq-eqb k i (grind arith))

-- a fate is unmade before its make
unmade : (f : Fate) (slot : Option ℕ) → IsAt f slot → slot ≡ None → f ≡ Unmade
unmade f slot at none = grind arith

-- ---- slot b, where slot i is set; r is what slot i held

make_held : (t j u l x i b : ℕ) (s r : Slot) (f : Fate) → (i ≡ b → r ≡ s)
    → ((u == t) && (l == j) ≡ true → f ≡ Unmade) → holds s t j ≡ is_kept f b
    → holds r t j ≡ is_kept f i
    → holds (cond (is_free r && (i == b)) (Some (u, l, x)) s) t j
    ≡ is_kept (cond ((u == t) && (l == j)) (cond (is_free r) (Kept i) Refused) f) b
make_held t j u l x i b s r f same first was is = grind arith

drop_held : (t j u l i b : ℕ) (s r : Slot) (f : Fate) → (i ≡ b → r ≡ s)
    → holds s t j ≡ is_kept f b → holds r t j ≡ is_kept f i
    → holds (cond (holds r u l && (i == b)) None s) t j
    ≡ is_kept (cond ((u == t) && (l == j)) (cond (holds r u l) Gone f) f) b
drop_held t j u l i b s r f same was is = grind arith

evict_held : (t j i b : ℕ) (s : Slot) (f : Fate) → holds s t j ≡ is_kept f b
    → holds (cond (i == b) None s) t j ≡ is_kept (evicted f i) b
evict_held t j i b s f was = grind arith

-- ---- the fate and its slot

make_at : (f : Fate) (slot : Option ℕ) (i : ℕ) (z free : Bool) → IsAt f slot
    → IsAt (cond z (cond free (Kept i) Refused) f) (cond z (Some i) slot)
make_at f slot i true true at = refl
make_at f slot i true false at = (i, refl)
make_at f slot i false free at = at

drop_at : (f : Fate) (slot : Option ℕ) (i : ℕ) (z held : Bool) → (z ≡ true → slot ≡ Some i)
    → IsAt f slot → IsAt (cond z (cond held Gone f) f) slot
drop_at f slot i true true is at = (i, is refl)
drop_at f slot i true false is at = at
drop_at f slot i false held is at = at

evict_at : (f : Fate) (slot : Option ℕ) (i : ℕ) → IsAt f slot → IsAt (evicted f i) slot
evict_at (Kept k) slot i at = drop_at (Kept k) slot k true (k == i) (λ e. at) at
evict_at Unmade slot i at = at
evict_at Refused slot i at = at
evict_at Gone slot i at = at

module _ (t j n m : ℕ) where
  -- the slots agree with the fate of make j of thread t, and so does the slot of this make
  record Agrees (slots : List Slot) (f : Fate) (slot : Option ℕ) : Type 0 where
    long : length slots ≡ n
    held : (b : ℕ) → holds (slot_at slots b) t j ≡ is_kept f b
    at : IsAt f slot

  sets : (z : Bool) (i : ℕ) (s : Slot) (slots : List Slot) (f g : Fate) (new : Option ℕ)
      → length slots ≡ n → i < n
      → ((b : ℕ) → holds (cond (z && (i == b)) s (slot_at slots b)) t j ≡ is_kept g b)
      → IsAt g new → Agrees (cond z (slice_set slots i s) slots) g new
  sets z i s slots f g new long low held at =
      let set = set_if z slots n i s long low in
      record { long = set.0; held = λ b. ap (λ s. holds s t j) (set.1 b) ∙ held b; at = at }

  -- one call
  goes_on : (op : Deed) (w : ℕ) (slots : List Slot) (f : Fate) (slot : Option ℕ)
      → Agrees slots f slot → IsOwn n m w op → Stands t j slot op
      → Agrees (slots_after op slots) (fate_by t j f op (answer op slots)) (made_in t j slot op)
  goes_on (See u l h i) w slots f slot a own stands = a
  goes_on (Take i) w slots f slot a own stands = a
  goes_on (Evict i) w slots f slot a own stands =
      sets true i None slots f (evicted f i) slot a.long own
      (λ b. evict_held t j i b (slot_at slots b) f (a.held b)) (evict_at f slot i a.at)
  goes_on (Drop u l h i) w slots f slot a own stands =
      let b : Bool = holds (slot_at slots i) u l in
      let mine : Bool = (u == t) && (l == j) in
      sets b i None slots f (cond mine (cond b Gone f) f) slot a.long own.1
      (λ q. drop_held t j u l i q (slot_at slots q) (slot_at slots i) f (ap (slot_at slots))
      (a.held q) (a.held i)) (drop_at f slot i mine b stands a.at)
  goes_on (Make u l h i x) w slots f slot a own stands =
      let b : Bool = is_free (slot_at slots i) in
      let mine : Bool = (u == t) && (l == j) in
      sets b i (Some (u, l, x)) slots f (cond mine (cond b (Kept i) Refused) f)
      (cond mine (Some i) slot) a.long own.2
      (λ q. make_held t j u l x i q (slot_at slots q) (slot_at slots i) f (ap (slot_at slots))
      (λ e. unmade f slot a.at (stands e)) (a.held q) (a.held i)) (make_at f slot i mine b a.at)

  -- a see and a drop are answered by the fate of their handle
  told : (before since : List (Call Deed Answer)) (d : Call Deed Answer) (h i : ℕ)
      (slots : List Slot) (f : Fate) (slot : Option ℕ) → Agrees slots f slot
      → AreAnswered answer slots_after slots (before ++ d ∷ since)
      → AllByRecursion (IsOwnCall n m) (before ++ d ∷ since)
      → AllStand t j slot (deeds_in (before ++ d ∷ since))
      → (d.operation ≡ See t j h i) ⊎ (d.operation ≡ Drop t j h i)
      → AnswersFor (fate_after t j f before) d.answer
  told [] since d h i slots f slot a answered own stands is =
      let p = asks is in
      answers_for f slot i d.answer a.at p.0 (answered.0 ∙ p.1 ∙ ap Matched (a.held i))
    where
      asks : (d.operation ≡ See t j h i) ⊎ (d.operation ≡ Drop t j h i)
          → (slot ≡ Some i) × (answer d.operation slots ≡ Matched (holds (slot_at slots i) t j))
      asks (inl e) =
          (subst (Stands t j slot) e stands.0 (same_both t j), ap (λ o. answer o slots) e)
      asks (inr e) =
          (subst (Stands t j slot) e stands.0 (same_both t j), ap (λ o. answer o slots) e)
  told (x ∷ before) since d h i slots f slot a answered own stands is =
      let now : List Slot = slots_after x.operation slots in
      let new : Option ℕ = made_in t j slot x.operation in
      told before since d h i now (fate_by t j f x.operation x.answer) new
      (subst (λ (y : Answer). Agrees now (fate_by t j f x.operation y) new) (sym answered.0)
      (goes_on x.operation x.thread slots f slot a own.0 stands.0)) answered.1 own.1 stands.1 is

  pub fate_told : (order before since : List (Call Deed Answer)) (d : Call Deed Answer) (h i : ℕ)
      → AreAnswered answer slots_after (empty_slots n) order → AllByRecursion (IsOwnCall n m) order
      → AllStand t j None (ops_of t order) → order ≡ before ++ d ∷ since
      → (d.operation ≡ See t j h i) ⊎ (d.operation ≡ Drop t j h i)
      → AnswersFor (fate_after t j Unmade before) d.answer
  fate_told order before since d h i answered own stands is =
      told before since d h i (empty_slots n) Unmade None (record {
        long = length-replicate {A = Slot} n None;
        held = λ b. ap (λ (s : Slot). holds s t j) (none_at n b);
        at = refl;
      }) (subst (AreAnswered answer slots_after (empty_slots n)) is answered)
      (subst (AllByRecursion (IsOwnCall n m)) is own)
      (subst (λ (l : List (Call Deed Answer)). AllStand t j None (deeds_in l)) is
      (all_stand t j n m order None own stands))
