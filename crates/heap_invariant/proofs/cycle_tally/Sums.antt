-- Sums over the threads and the blocks, and what an event of one thread makes of them.
use Rattle.std.proofs.Common.{◌≡◌, ℕ, zero, suc, ◌+◌, ◌*◌, ◌≤◌, ◌<◌, false, leb, refl, arith, ap, ◌∙◌, inl, inr, eq-eqb, ne_eqb, lt-ltb}
use Rattle.std.proofs.lemmas.Bool.{cases_eq, cases_lt, le-leb, lt-leb, le-ltb, and_right}
use Rattle.block_store.specs.Phases.{bit}
use Rattle.block_store.specs.Counts.{changed, total}
use Rattle.work_account.specs.Accounts.{IsSound, units_in, given_in}
use Rattle.heap_invariant.specs.cycle_tally.Tallies.{Spending, claims, made_of, due_of, with_made}
use Rattle.heap_invariant.specs.cycle_tally.TallyInvariant.{IsRequested}
use Rattle.work_account.proofs.Balances.{unit_sound, idle_sound}

-- a count of blocks, from 1 on, that rises at one of them
rises_above : (n : ℕ) (f : ℕ → ℕ) (y v : ℕ) → n < y
    → total n (λ x. changed f y v (suc x)) ≡ total n (λ x. f (suc x))
rises_above zero f y v h = refl
rises_above (suc n) f y v h =
    let e = rises_above n f y v (omega arith) in
    let ne : y ≡ suc n → ⊥ = λ q. omega arith in
    rw (ne_eqb y (suc n) ne) (omega arith)

pub rises : (n : ℕ) (f : ℕ → ℕ) (y : ℕ) → 0 < y → y ≤ n
    → total n (λ x. changed f y (f y + 1) (suc x)) ≡ total n (λ x. f (suc x)) + 1
rises zero f y pos low = absurd (omega arith)
rises (suc n) f y pos low = elim (cases_eq y (suc n)) [
  | inl e ↦
      let above = rises_above n f y (f y + 1) (omega arith) in
      let same : f y ≡ f (suc n) = ap f e in
      rw (eq-eqb y (suc n) e) (omega arith)
  | inr ne ↦
      let below = rises n f y pos (omega arith) in
      rw (ne_eqb y (suc n) ne) (omega arith)
]

-- a unit more for the command in hand
pub made_more : (w : Spending) → made_of (with_made w) ≡ made_of w + 1
made_more w = elim (cases_eq w.requested 0) [
  | inl e ↦ rw (eq-eqb w.requested 0 e) (omega arith)
  | inr ne ↦ rw (ne_eqb w.requested 0 ne) (omega arith)
]

pub made_cycle : (w : Spending) → (with_made w).balance.cycle ≡ w.balance.cycle
made_cycle w = elim (cases_eq w.requested 0) [
  | inl e ↦ rw (eq-eqb w.requested 0 e) refl
  | inr ne ↦ rw (ne_eqb w.requested 0 ne) refl
]

pub made_units : (z : ℕ) (w : Spending) → w.balance.cycle ≡ z
    → units_in z (with_made w).balance ≡ units_in z w.balance + 1
made_units z w here = elim (cases_eq w.requested 0) [
  | inl e ↦ rw (eq-eqb w.requested 0 e) (rw (eq-eqb w.balance.cycle z here) refl)
  | inr ne ↦ rw (ne_eqb w.requested 0 ne) (rw (eq-eqb w.balance.cycle z here) refl)
]

pub made_given : (z : ℕ) (w : Spending)
    → given_in z (with_made w).balance ≡ given_in z w.balance
made_given z w = elim (cases_eq w.requested 0) [
  | inl e ↦ rw (eq-eqb w.requested 0 e) refl
  | inr ne ↦ rw (ne_eqb w.requested 0 ne) refl
]

-- a told command has made units outside the account, and another none
pub made_told : (w : Spending) → IsRequested w.asked w.requested w.idled
    → IsRequested w.asked w.requested (with_made w).idled
made_told w k = elim (cases_eq w.requested 0) [
  | inl e ↦ rw (eq-eqb w.requested 0 e) k
  | inr ne ↦ rw (ne_eqb w.requested 0 ne)
      (record { apart = k.apart; none = λ e. absurd (ne e); few = k.few })
]

pub made_sound : (rate object : ℕ) (w : Spending) → IsRequested w.asked w.requested w.idled
    → made_of w < due_of rate w → rate * w.asked ≤ rate * object
    → IsSound rate object w.balance → IsSound rate object (with_made w).balance
made_sound rate object w k less few sound = elim (cases_eq w.requested 0) [
  | inl e ↦ rw (eq-eqb w.requested 0 e) (unit_sound rate object w.balance (omega arith) sound)
  | inr ne ↦ rw (ne_eqb w.requested 0 ne) (idle_sound rate object w.balance sound)
]

pub made_within : (rate : ℕ) (w : Spending) → IsRequested w.asked w.requested w.idled
    → made_of w < due_of rate w → w.balance.paid ≤ rate * w.asked
    → (with_made w).balance.paid ≤ rate * w.asked
made_within rate w k less low = elim (cases_eq w.requested 0) [
  | inl e ↦ rw (eq-eqb w.requested 0 e) (omega arith)
  | inr ne ↦ rw (ne_eqb w.requested 0 ne) low
]

-- an allocation that has paid all makes no unit more
pub full_is_full : (rate : ℕ) (w : Spending) → IsRequested w.asked w.requested w.idled
    → (w.reserved ≡ 0 → ⊥) → w.reserved ≡ w.asked → w.balance.paid ≡ rate * w.asked
    → made_of w < due_of rate w → ⊥
full_is_full rate w k some is paid less = elim k.apart [
  | inl untold ↦ omega arith
  | inr unasked ↦ some (is ∙ unasked)
]

-- how many claims there are on a block where one thread's claim changes
pub no_claims : (x : ℕ) (w : Spending) → w.high ≤ w.low → claims x w ≡ 0
no_claims x w none = elim (cases_lt x w.low) [
  | inl l ↦ rw (lt-leb w.low x l) refl
  | inr g ↦ rw (le-leb w.low x g, le-ltb x w.high (omega arith)) refl
]

pub claims_within : (x : ℕ) (w : Spending) → w.low ≤ x → x < w.high → claims x w ≡ 1
claims_within x w a b = rw (le-leb w.low x a, lt-ltb x w.high b) refl

pub claims_below : (x : ℕ) (w : Spending) → x < w.low → claims x w ≡ 0
claims_below x w a = rw (lt-leb w.low x a) refl

pub claims_above : (x : ℕ) (w : Spending) → w.high ≤ x → claims x w ≡ 0
claims_above x w a = rw (le-ltb x w.high a) (ap bit (and_right (leb w.low x) false refl))
