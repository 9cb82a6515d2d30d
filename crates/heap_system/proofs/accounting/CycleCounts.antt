-- How often each block was scanned and passed in each cycle, over plain counts: an event of the
-- cycle adds at most one to one of them, and a start ends the cycle.
use Rattle.std.proofs.Common.{◌≡◌, ℕ, suc, ◌+◌, ◌-◌, ◌<◌, ◌≤◌, Bool, true, false, ◌&&◌, eqb, eq-eqb, ne_eqb, refl, sym, ap, ◌∙◌, subst, arith, inl, inr}
use Rattle.std.proofs.lemmas.Bool.{cases_eq, and_right}
use Rattle.block_store.specs.Counts.{total}
use Rattle.block_store.specs.Phases.{bit}
use Rattle.block_store.proofs.Lemmas.{funext, total_same}
use Rattle.never_heap.specs.Histories.{starts_in}
use Rattle.heap_system.specs.Machines.{starts_by}
use Rattle.heap_system.specs.Naming.{Naming, Begun}
use Rattle.heap_system.proofs.accounting.TallyLaw.{more_if, in_cycle, past_by}

-- what cycle z took of m blocks
abbrev pub taken_of : ℕ → (ℕ → ℕ → ℕ) → (ℕ → ℕ → ℕ) → ℕ → ℕ
taken_of m scans passes z = total m (λ x. scans z (suc x)) + total m (λ x. passes z (suc x))

-- The counts of this cycle are those of a tally, and none is later. In the cycles before no block
-- was scanned or passed twice, each was passed, and all were as many as are past.
pub record IsTaken (m cycle : ℕ) (scanned passed : ℕ → ℕ) (past : ℕ) (scans passes : ℕ → ℕ → ℕ) : Type 0 where
  pub scans_now : (x : ℕ) → scanned x ≡ scans cycle x
  pub passes_now : (x : ℕ) → passed x ≡ passes cycle x
  pub scans_before : (z x : ℕ) → z < cycle → scans z x ≤ 1
  pub passes_before : (z x : ℕ) → z < cycle → 0 < x → passes z x ≤ 1
  pub ended : (z x : ℕ) → 0 < z → z < cycle → 0 < x → x ≤ m → passes z x ≡ 1
  pub later : (z x : ℕ) → cycle < z → (scans z x ≡ 0) × (passes z x ≡ 0)
  pub sums : past ≡ total (cycle - 1) (λ z. taken_of m scans passes (suc z))

pub same_taken : (m cycle : ℕ) (scanned passed : ℕ → ℕ) (past : ℕ) (s p f g : ℕ → ℕ → ℕ) → ((z x : ℕ) → s z x ≡ f z x) → ((z x : ℕ) → p z x ≡ g z x) → IsTaken m cycle scanned passed past s p → IsTaken m cycle scanned passed past f g
same_taken m cycle scanned passed past s p f g a b k =
    subst (λ h. IsTaken m cycle scanned passed past h g) (funext s f (λ z. funext (s z) (f z) (a z)))
    (subst (λ h. IsTaken m cycle scanned passed past s h) (funext p g (λ z. funext (p z) (g z) (b z))) k)

-- counts with one more in this cycle of each block that is taken now
abbrev pub more_in : ℕ → (ℕ → Bool) → (ℕ → ℕ → ℕ) → ℕ → ℕ → ℕ
more_in cycle is f z x = f z x + bit (is x && eqb cycle z)

more_else : (cycle : ℕ) (is : ℕ → Bool) (f : ℕ → ℕ → ℕ) (z x : ℕ) → (cycle ≡ z → ⊥) → more_in cycle is f z x ≡ f z x
more_else cycle is f z x ne = (let none : bit (is x && eqb cycle z) ≡ 0 = ap bit (and_right (is x) (eqb cycle z) (ne_eqb cycle z ne)) in omega (arith, none))

more_here : (cycle : ℕ) (is : ℕ → Bool) (f : ℕ → ℕ → ℕ) (x : ℕ) → more_in cycle is f cycle x ≡ more_if (is x) (f cycle x)
more_here cycle is f x = rw (eq-eqb cycle cycle refl) (by (is x))
  where
    by : (b : Bool) → f cycle x + bit (b && true) ≡ more_if b (f cycle x)
    by true = refl
    by false = omega arith

more_none : (cycle : ℕ) (is : ℕ → Bool) (f : ℕ → ℕ → ℕ) (z x : ℕ) → is x ≡ false → f z x ≡ more_in cycle is f z x
more_none cycle is f z x none = (let no : bit (is x && eqb cycle z) ≡ 0 = ap (λ b. bit (b && eqb cycle z)) none in omega (arith, no))

module _ (m cycle : ℕ) (scanned passed : ℕ → ℕ) (past : ℕ) (scans passes : ℕ → ℕ → ℕ) (k : IsTaken m cycle scanned passed past scans passes) where
  -- an event of this cycle
  pub goes_on : (a b new_scanned new_passed : ℕ → _) → ((x : ℕ) → new_scanned x ≡ more_if (a x) (scanned x)) → ((x : ℕ) → new_passed x ≡ more_if (b x) (passed x))
      → IsTaken m cycle new_scanned new_passed past (more_in cycle a scans) (more_in cycle b passes)
  goes_on a b new_scanned new_passed s p = record {
    scans_now = λ x. s x ∙ ap (more_if (a x)) (k.scans_now x) ∙ sym (more_here cycle a scans x);
    passes_now = λ x. p x ∙ ap (more_if (b x)) (k.passes_now x) ∙ sym (more_here cycle b passes x);
    scans_before = λ z x low. (let e = more_else cycle a scans z x (λ e. omega arith) in omega (arith, e, k.scans_before z x low));
    passes_before = λ z x low some. (let e = more_else cycle b passes z x (λ e. omega arith) in omega (arith, e, k.passes_before z x low some));
    ended = λ z x begun low some there. more_else cycle b passes z x (λ e. omega arith) ∙ k.ended z x begun low some there;
    later = λ z x high. (more_else cycle a scans z x (λ e. omega arith) ∙ (k.later z x high).0, more_else cycle b passes z x (λ e. omega arith) ∙ (k.later z x high).1);
    sums = k.sums ∙ total_same (cycle - 1) _ _ (λ z low. before (suc z) (λ e. omega arith));
  }
    where
      before : (z : ℕ) → (cycle ≡ z → ⊥) → taken_of m scans passes z ≡ taken_of m (more_in cycle a scans) (more_in cycle b passes) z
      before z ne = (let s_ = total_same m (λ x. scans z (suc x)) (λ x. more_in cycle a scans z (suc x)) (λ x low. sym (more_else cycle a scans z (suc x) ne)) in
          let p_ = total_same m (λ x. passes z (suc x)) (λ x. more_in cycle b passes z (suc x)) (λ x low. sym (more_else cycle b passes z (suc x) ne)) in omega (arith, s_, p_))

  -- the start of the next one
  pub starts : 1 ≤ cycle → ((x : ℕ) → scanned x ≤ 1) → ((x : ℕ) → 0 < x → passed x ≤ 1) → ((x : ℕ) → 0 < x → x ≤ m → passed x ≡ 1) → (new_scanned new_passed : ℕ → ℕ) (new_past : ℕ)
      → ((x : ℕ) → new_scanned x ≡ 0) → ((x : ℕ) → new_passed x ≡ 0) → new_past ≡ past + (total m (λ x. scanned (suc x)) + total m (λ x. passed (suc x))) → IsTaken m (cycle + 1) new_scanned new_passed new_past scans passes
  starts some few_scans few_passes all new_scanned new_passed new_past s p sum = record {
    scans_now = λ x. s x ∙ sym (k.later (cycle + 1) x (omega arith)).0;
    passes_now = λ x. p x ∙ sym (k.later (cycle + 1) x (omega arith)).1;
    scans_before = λ z x low. elim (cases_eq cycle z) [ inl e ↦ subst (λ y. scans y x ≤ 1) e (omega (arith, k.scans_now x, few_scans x)) | inr ne ↦ k.scans_before z x (omega arith) ];
    passes_before = λ z x low there. elim (cases_eq cycle z) [ inl e ↦ subst (λ y. passes y x ≤ 1) e (omega (arith, k.passes_now x, few_passes x there)) | inr ne ↦ k.passes_before z x (omega arith) there ];
    ended = λ z x begun low there in_. elim (cases_eq cycle z) [ inl e ↦ subst (λ y. passes y x ≡ 1) e (sym (k.passes_now x) ∙ all x there in_) | inr ne ↦ k.ended z x begun (omega arith) there in_ ];
    later = λ z x high. k.later z x (omega arith);
    sums = summed;
  }
    where
      summed : new_past ≡ total (cycle + 1 - 1) (λ z. taken_of m scans passes (suc z))
      summed =
          let s_ = total_same m (λ x. scanned (suc x)) (λ x. scans cycle (suc x)) (λ x low. k.scans_now (suc x)) in
          let p_ = total_same m (λ x. passed (suc x)) (λ x. passes cycle (suc x)) (λ x low. k.passes_now (suc x)) in
          let one : suc (cycle - 1) ≡ cycle = omega arith in
          let n : cycle + 1 - 1 ≡ suc (cycle - 1) = omega arith in
          let last : taken_of m scans passes (suc (cycle - 1)) ≡ taken_of m scans passes cycle = ap (taken_of m scans passes) one in
          let all : total (cycle + 1 - 1) (λ z. taken_of m scans passes (suc z)) ≡ total (cycle - 1) (λ z. taken_of m scans passes (suc z)) + taken_of m scans passes (suc (cycle - 1)) = ap (λ y. total y (λ z. taken_of m scans passes (suc z))) n in
          omega (arith, sum, k.sums, s_, p_, last, all)

  -- either
  pub turn_taken : (n : Naming) (a b : ℕ → Bool) (new_cycle : ℕ) (new_scanned new_passed : ℕ → ℕ) (new_past : ℕ) → 1 ≤ cycle → ((x : ℕ) → scanned x ≤ 1) → ((x : ℕ) → 0 < x → passed x ≤ 1)
      → (n ≡ Begun → ((x : ℕ) → a x ≡ false) × ((x : ℕ) → b x ≡ false) × ((x : ℕ) → 0 < x → x ≤ m → passed x ≡ 1))
      → new_cycle ≡ cycle + starts_in (starts_by n) → ((x : ℕ) → new_scanned x ≡ in_cycle n (more_if (a x) (scanned x))) → ((x : ℕ) → new_passed x ≡ in_cycle n (more_if (b x) (passed x)))
      → new_past ≡ past_by n (total m (λ x. scanned (suc x)) + total m (λ x. passed (suc x))) past
      → IsTaken m new_cycle new_scanned new_passed new_past (more_in cycle a scans) (more_in cycle b passes)
  turn_taken Begun a b new_cycle new_scanned new_passed new_past some few_scans few_passes begun is s p sum = subst (λ z. IsTaken m z new_scanned new_passed new_past (more_in cycle a scans) (more_in cycle b passes)) (sym is)
      (same_taken m (cycle + 1) new_scanned new_passed new_past scans passes _ _ (λ z x. more_none cycle a scans z x ((begun refl).0 x)) (λ z x. more_none cycle b passes z x ((begun refl).1 x))
      (starts some few_scans few_passes (begun refl).2 new_scanned new_passed new_past s p sum))
  turn_taken _ a b new_cycle new_scanned new_passed new_past some few_scans few_passes begun is s p sum =
      let same : cycle ≡ new_cycle = omega (arith, is) in
      subst (λ z. IsTaken m z new_scanned new_passed new_past (more_in cycle a scans) (more_in cycle b passes)) same
      (subst (λ y. IsTaken m cycle new_scanned new_passed y (more_in cycle a scans) (more_in cycle b passes)) (sym sum) (goes_on a b new_scanned new_passed s p))
