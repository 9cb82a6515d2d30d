-- Each call keeps an account sound, and the sum over the accounts of a cycle.
use Rattle.std.proofs.Common.{◌≡◌, ℕ, zero, suc, ◌+◌, ◌-◌, ◌*◌, ◌/◌, ◌%◌, ◌≤◌, ◌<◌, arith, ap, inl, inr, eq-eqb, ne_eqb, lt-ltb, refl}
use Rattle.std.proofs.lemmas.Bool.{cases_eq, cases_lt, le-ltb}
use Rattle.std.proofs.lemmas.Nat.{div-add-mod', le-div}
use Rattle.block_store.specs.Counts.{total}
use Rattle.work_account.specs.Accounts.{Balance, opened, entered, with_unit, with_idle, published, refused, IsSound, units_in, given_in}

pub opened_sound : (rate object : ℕ) → IsSound rate object opened
opened_sound rate object = record { covered = omega arith; within = omega arith }

pub entered_sound : (rate object c : ℕ) (a : Balance) → IsSound rate object a
    → IsSound rate object (entered c a)
entered_sound rate object c a s = elim (cases_lt a.cycle c) [
  | inl l ↦ rw (lt-ltb a.cycle c l)
      (record { covered = omega (arith, s.within); within = s.within })
  | inr g ↦ rw (le-ltb a.cycle c g) s
]

pub unit_sound : (rate object : ℕ) (a : Balance) → a.paid < rate * object
    → IsSound rate object a → IsSound rate object (with_unit a)
unit_sound rate object a l s = record { covered = omega (arith, s.covered); within = omega arith }

pub idle_sound : (rate object : ℕ) (a : Balance) → IsSound rate object a
    → IsSound rate object (with_idle a)
idle_sound rate object a s = record { covered = omega (arith, s.covered); within = s.within }

pub published_sound : (rate object k : ℕ) (a : Balance) → a.paid ≡ rate * k
    → IsSound rate object a → IsSound rate object (published k a)
published_sound rate object k a e s =
    record { covered = omega (arith, s.covered); within = omega arith }

pub refused_sound : (rate object : ℕ) (a : Balance) → IsSound rate object a
    → IsSound rate object (refused a)
refused_sound rate object a s =
    record { covered = omega (arith, s.covered); within = omega arith }

-- what whole blocks are paid
pub whole_paid : (rate paid : ℕ) → rate * (paid / rate) ≤ paid
whole_paid rate paid =
    let e : paid / rate * rate + paid % rate ≡ paid = div-add-mod' paid rate in
    omega arith

-- one account in one cycle
counts : (rate object c : ℕ) (a : Balance) → IsSound rate object a
    → rate * (given_in c a + a.paid / rate) ≤ units_in c a + rate * object
counts rate object c a s =
    let whole : rate * (a.paid / rate) ≤ a.paid = whole_paid rate a.paid in
    elim (cases_eq a.cycle c) [
      | inl e ↦ rw (eq-eqb a.cycle c e) (omega (arith, s.covered))
      | inr ne ↦ rw (ne_eqb a.cycle c ne) (omega (arith, s.within))
    ]

-- what n threads were given in a cycle, and the whole blocks that they have paid for
abbrev given_and_paid : ℕ → ℕ → ℕ → (ℕ → Balance) → ℕ
given_and_paid n rate c as' =
    total n (λ t. given_in c (as' t)) + total n (λ t. (as' t).paid / rate)

all_count : (n rate object c : ℕ) (as' : ℕ → Balance)
    → ((t : ℕ) → t < n → IsSound rate object (as' t))
    → rate * given_and_paid n rate c as'
    ≤ total n (λ t. units_in c (as' t)) + n * (rate * object)
all_count zero rate object c as' s = omega arith
all_count (suc n) rate object c as' s =
    let rest = all_count n rate object c as' (λ t l. s t (omega arith)) in
    let last = counts rate object c (as' n) (s n (omega arith)) in
    omega arith

-- a product with the rate that is at most u and a multiple of the rate
quotient : (rate x u k : ℕ) → 0 < rate → rate * x ≤ u + k * rate → x ≤ u / rate + k
quotient rate x u k some h = elim (cases_lt x k) [
  | inl l ↦ omega arith
  | inr g ↦
      let e : x - k + k ≡ x = omega arith in
      let split : (x - k + k) * rate ≡ x * rate = ap (λ z. z * rate) e in
      let q : x - k ≤ u / rate = le-div (x - k) u rate some (omega arith) in
      omega arith
]

pub all_given : (n rate object c most : ℕ) (as' : ℕ → Balance) → 0 < rate
    → ((t : ℕ) → t < n → IsSound rate object (as' t))
    → total n (λ t. units_in c (as' t)) ≤ most
    → total n (λ t. given_in c (as' t)) + total n (λ t. (as' t).paid / rate)
    ≤ most / rate + n * object
all_given n rate object c most as' some s few =
    let all : rate * given_and_paid n rate c as'
    ≤ total n (λ t. units_in c (as' t)) + n * (rate * object)
    = all_count n rate object c as' s in
    quotient rate (given_and_paid n rate c as') most (n * object) some (omega arith)

-- what the calls of an account make of its counts in the cycle z
pub paid_entered : (z : ℕ) (a : Balance) → (entered z a).paid ≡ a.paid
paid_entered z a = elim (cases_lt a.cycle z) [
  | inl l ↦ rw (lt-ltb a.cycle z l) refl
  | inr g ↦ rw (le-ltb a.cycle z g) refl
]

pub cycle_entered : (z : ℕ) (a : Balance) → a.cycle ≤ z → (entered z a).cycle ≡ z
cycle_entered z a low = elim (cases_lt a.cycle z) [
  | inl l ↦ rw (lt-ltb a.cycle z l) refl
  | inr g ↦ rw (le-ltb a.cycle z g) (omega arith)
]

pub units_entered : (z : ℕ) (a : Balance) → a.cycle ≤ z → units_in z (entered z a) ≡ units_in z a
units_entered z a low = elim (cases_lt a.cycle z) [
  | inl l ↦ rw (lt-ltb a.cycle z l, eq-eqb z z refl, ne_eqb a.cycle z (λ e. omega arith)) refl
  | inr g ↦ rw (le-ltb a.cycle z g) refl
]

pub given_entered : (z : ℕ) (a : Balance) → a.cycle ≤ z → given_in z (entered z a) ≡ given_in z a
given_entered z a low = elim (cases_lt a.cycle z) [
  | inl l ↦ rw (lt-ltb a.cycle z l, eq-eqb z z refl, ne_eqb a.cycle z (λ e. omega arith)) refl
  | inr g ↦ rw (le-ltb a.cycle z g) refl
]

pub units_more : (z : ℕ) (a : Balance) → a.cycle ≡ z → units_in z (with_unit a) ≡ units_in z a + 1
units_more z a e = rw (eq-eqb a.cycle z e) refl

pub given_more_in : (z k : ℕ) (a : Balance) → a.cycle ≡ z
    → given_in z (published k a) ≡ given_in z a + k
given_more_in z k a e = rw (eq-eqb a.cycle z e) refl

pub units_later : (z : ℕ) (a : Balance) → a.cycle ≤ z → units_in (z + 1) a ≡ 0
units_later z a l = rw (ne_eqb a.cycle (z + 1) (λ e. omega arith)) refl

pub given_later : (z : ℕ) (a : Balance) → a.cycle ≤ z → given_in (z + 1) a ≡ 0
given_later z a l = rw (ne_eqb a.cycle (z + 1) (λ e. omega arith)) refl
