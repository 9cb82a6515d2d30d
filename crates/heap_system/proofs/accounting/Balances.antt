-- What an event makes of a thread's balance.
use Rattle.std.proofs.Common.{◌≡◌, ℕ, ◌+◌, ◌*◌, ◌≤◌, Bool, true, false, Option, None, Some, refl, sym, ap, ◌∙◌, arith, inl, inr, lt-ltb, cond, eqb, eq-eqb, ne_eqb}
use Rattle.std.proofs.lemmas.Bool.{cases_eq, cases_lt, le-ltb}
use Rattle.block_store.specs.declared.Config.{Config}
use Rattle.block_store.specs.declared.PhaseWord.{PhaseWord}
use Rattle.never_heap.specs.declared.Reply.{Reply}
use Rattle.never_heap.specs.declared.Reply.TheVariants as replies
use Rattle.work_account.specs.Accounts.{Balance, IsSound, entered}
use Rattle.work_account.proofs.Balances.{entered_sound, unit_sound, idle_sound, published_sound, refused_sound, paid_entered}
use Rattle.heap_system.specs.Parts.{Part, Access, Build}
use Rattle.heap_system.specs.Locals.{balance_in, balance_made, balance_on, balance_over, balance_paid, spent_got, paid_part, idle_part, effect, IsAllMade}
use Rattle.heap_system.proofs.invariant.SeenAndKept.{IsSettled}

-- what is paid after it
made_paid : (requested spent : ℕ) (b : Balance) → b.paid ≡ paid_part requested spent
    → (balance_made requested b).paid ≡ paid_part requested (spent + 1)
made_paid requested spent b is = elim (cases_eq requested 0) [
  | inl e ↦ rw (eq-eqb requested 0 e) (ap (λ n. n + 1) (is ∙ ap (λ x. cond x spent 0) (eq-eqb requested 0 e)))
  | inr ne ↦ rw (ne_eqb requested 0 ne) (is ∙ ap (λ x. cond x spent 0) (ne_eqb requested 0 ne))
]

pub none_spent : (requested : ℕ) → paid_part requested 0 ≡ 0
none_spent requested = elim (cases_eq requested 0) [
  | inl e ↦ rw (eq-eqb requested 0 e) refl
  | inr ne ↦ rw (ne_eqb requested 0 ne) refl
]

pub paid_after : (o : Option Reply) (unit : Bool) (requested k spent : ℕ) (b : Balance) → b.paid ≡ paid_part requested spent
    → (balance_paid o unit requested k b).paid ≡ paid_part requested (spent_got o unit spent)
paid_after None true requested k spent b is = made_paid requested spent b is
paid_after None false requested k spent b is = is
paid_after (Some (replies.New a)) unit requested k spent b is = sym (none_spent requested)
paid_after (Some _) unit requested k spent b is = sym (none_spent requested)

-- after a reply nothing is paid, whatever the next command is
pub paid_over : (r : Reply) (next k : ℕ) (b : Balance) → (balance_over r k b).paid ≡ paid_part next 0
paid_over (replies.New a) next k b = sym (none_spent next)
paid_over _ next k b = sym (none_spent next)

-- a command with blocks has paid all that was made for it
pub all_paid : (requested spent paid : ℕ) → paid ≡ paid_part requested spent → requested ≡ 0 → paid ≡ spent
all_paid requested spent paid is e = is ∙ ap (λ x. cond x spent 0) (eq-eqb requested 0 e)

pub part_low : (requested spent paid : ℕ) → paid ≡ paid_part requested spent → paid ≤ spent
part_low requested spent paid is = elim (cases_eq requested 0) [
  | inl e ↦ omega (arith, all_paid requested spent paid is e)
  | inr ne ↦ (let none : paid ≡ 0 = is ∙ ap (λ x. cond x spent 0) (ne_eqb requested 0 ne) in omega arith)
]

-- where all that a command is told to make is made nothing is paid
pub all_made : (requested spent : ℕ) → spent ≡ requested → paid_part requested spent ≡ 0
all_made requested spent is = elim (cases_eq requested 0) [
  | inl e ↦ rw (eq-eqb requested 0 e) (is ∙ e)
  | inr ne ↦ rw (ne_eqb requested 0 ne) refl
]

-- and for a command that is told of none nothing is made outside the account
pub no_idle : (requested spent : ℕ) → requested ≡ 0 → idle_part requested spent ≡ 0
no_idle requested spent e = ap (λ x. cond x 0 spent) (eq-eqb requested 0 e)

pub none_idled : (requested : ℕ) → idle_part requested 0 ≡ 0
none_idled requested = elim (cases_eq requested 0) [
  | inl e ↦ rw (eq-eqb requested 0 e) refl
  | inr ne ↦ rw (ne_eqb requested 0 ne) refl
]

pub idle_more : (requested spent told_here idled : ℕ) → told_here ≡ requested → idled ≡ idle_part requested spent
    → cond (eqb told_here 0) idled (idled + 1) ≡ idle_part requested (spent + 1)
idle_more requested spent told_here idled is made = elim (cases_eq requested 0) [
  | inl e ↦ rw (eq-eqb told_here 0 (is ∙ e), eq-eqb requested 0 e) (made ∙ ap (λ x. cond x 0 spent) (eq-eqb requested 0 e))
  | inr ne ↦ rw (ne_eqb told_here 0 (λ z. ne (sym is ∙ z)), ne_eqb requested 0 ne) (ap (λ n. n + 1) (made ∙ ap (λ x. cond x 0 spent) (ne_eqb requested 0 ne)))
]

-- what is paid and what is made for an idle are all that was made
pub both_parts : (requested spent : ℕ) → paid_part requested spent + idle_part requested spent ≡ spent
both_parts requested spent = elim (cases_eq requested 0) [
  | inl e ↦ rw (eq-eqb requested 0 e) (omega arith)
  | inr ne ↦ rw (ne_eqb requested 0 ne) (omega arith)
]

pub paid_in : (i : Option PhaseWord) (b : Balance) → (balance_in i b).paid ≡ b.paid
paid_in None b = refl
paid_in (Some p) b = paid_entered p.cycle b

pub got_paid : (i : Option PhaseWord) (o : Option Reply) (unit : Bool) (requested k spent : ℕ) (b : Balance) → b.paid ≡ paid_part requested spent
    → (balance_paid o unit requested k (balance_in i b)).paid ≡ paid_part requested (spent_got o unit spent)
got_paid i o unit requested k spent b is = paid_after o unit requested k spent (balance_in i b) (paid_in i b ∙ is)

-- its units are among these, or paid
pub units_entered : (z n : ℕ) (b : Balance) → b.units ≤ n → (entered z b).units ≤ n
units_entered z n b few = elim (cases_lt b.cycle z) [
  | inl l ↦ rw (lt-ltb b.cycle z l) (omega arith)
  | inr g ↦ rw (le-ltb b.cycle z g) few
]

pub units_in : (i : Option PhaseWord) (n : ℕ) (b : Balance) → b.units ≤ n
    → (balance_in i b).units ≤ n
units_in None n b few = few
units_in (Some p) n b few = units_entered p.cycle n b few

pub made_units : (requested : ℕ) (b : Balance) → (balance_made requested b).units ≡ b.units + 1
made_units requested b = elim (cases_eq requested 0) [
  | inl e ↦ rw (eq-eqb requested 0 e) refl
  | inr ne ↦ rw (ne_eqb requested 0 ne) refl
]

pub made_cycle : (requested : ℕ) (b : Balance) → (balance_made requested b).cycle ≡ b.cycle
made_cycle requested b = elim (cases_eq requested 0) [
  | inl e ↦ rw (eq-eqb requested 0 e) refl
  | inr ne ↦ rw (ne_eqb requested 0 ne) refl
]

pub made_given : (requested : ℕ) (b : Balance) → (balance_made requested b).given ≡ b.given
made_given requested b = elim (cases_eq requested 0) [
  | inl e ↦ rw (eq-eqb requested 0 e) refl
  | inr ne ↦ rw (ne_eqb requested 0 ne) refl
]

pub units_on : (unit : Bool) (requested n spent : ℕ) (b : Balance) → b.units ≤ n + spent
    → (balance_on unit requested b).units ≤ n + spent_got None unit spent
units_on true requested n spent b few = omega (arith, made_units requested b)
units_on false requested n spent b few = few

pub units_over : (r : Reply) (k : ℕ) (b : Balance) → (balance_over r k b).units ≡ b.units
units_over (replies.New a) k b = refl
units_over _ k b = refl

-- and it stays sound
pub sound_in : (rate object : ℕ) (i : Option PhaseWord) (b : Balance) → IsSound rate object b
    → IsSound rate object (balance_in i b)
sound_in rate object None b s = s
sound_in rate object (Some p) b s = entered_sound rate object p.cycle b s

-- of a command of k blocks, or told of so many units, that owes more than was made
pub sound_on : (rate object : ℕ) (unit : Bool) (requested k spent : ℕ) (b : Balance)
    → b.paid ≡ paid_part requested spent → rate * k ≤ rate * object
    → spent_got None unit spent ≤ rate * k + requested → IsSound rate object b
    → IsSound rate object (balance_on unit requested b)
sound_on rate object true requested k spent b is few low s = elim (cases_eq requested 0) [
  | inl e ↦ rw (eq-eqb requested 0 e) (unit_sound rate object b (omega (arith, all_paid requested spent b.paid is e)) s)
  | inr ne ↦ rw (ne_eqb requested 0 ne) (idle_sound rate object b s)
]
sound_on rate object false requested k spent b is few low s = s

pub sound_over : (rate object : ℕ) (r : Reply) (k : ℕ) (b : Balance) → b.paid ≡ rate * k
    → IsSound rate object b → IsSound rate object (balance_over r k b)
sound_over rate object (replies.New a) k b all s = published_sound rate object k b all s
sound_over rate object _ k b all s = refused_sound rate object b s

-- where a thread does its command it has made all
pub is_made : (due spent : ℕ) (p : Part) → IsSettled due spent p → IsAllMade due spent p
is_made due spent (Access f) all = all
is_made due spent (Build b) all = all
is_made due spent _ all = tt

-- and so it has at its reply
pub replied_made : (c : Config) (due spent : ℕ) (p : Part) (w : ℕ) (r : Reply)
    → IsAllMade due spent p → (effect c p w).reply ≡ Some r → spent ≡ due
replied_made c due spent (Access f) w r all e = all
replied_made c due spent (Build b) w r all e = all
replied_made c due spent _ w r all e = absurd cc

-- a reply to a command that gives and pays nothing
pub nothing_paid : (r : Reply) (k : ℕ) (b : Balance) → k ≡ 0 → b.paid ≡ 0 → balance_over r k b ≡ b
nothing_paid (replies.New a) k b none zero =
    let same : b.given + k ≡ b.given = omega arith in
    λ i. record b { paid = sym zero i; given = same i }
nothing_paid _ k b none zero = λ i. record b { paid = sym zero i }
