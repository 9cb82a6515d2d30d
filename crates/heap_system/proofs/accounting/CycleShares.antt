-- What a thread's balance has of the cycle that it entered last is its share of that cycle.
use Rattle.std.proofs.Common.{◌≡◌, ℕ, ◌+◌, ◌-◌, ◌<◌, ◌≤◌, Bool, true, false, eqb, eq-eqb, ne_eqb, lt-ltb, le-ltb, Option, None, Some, List, [], ◌∷◌, ◌++◌, append-nil, append_assoc, refl, sym, ap, ◌∙◌, subst, arith, inl, inr}
use Rattle.std.proofs.lemmas.Bool.{cases_Bool, cases_eq, cases_lt}
use Rattle.block_store.specs.declared.Config.{Config}
use Rattle.block_store.specs.declared.PhaseWord.{PhaseWord}
use Rattle.block_store.specs.declared.Width.{Width}
use Rattle.block_store.specs.Phases.{bit}
use Rattle.never_heap.specs.declared.Command.{Command}
use Rattle.never_heap.specs.declared.Entry.{Entry}
use Rattle.never_heap.specs.declared.Reply.{Reply}
use Rattle.never_heap.specs.declared.Reply.TheVariants as replies
use Rattle.never_heap.specs.Cycles.{before_start, after_start}
use Rattle.never_heap.specs.Graphs.{Graph}
use Rattle.never_heap.specs.Histories.{HistoryItem, Started, Did, part, starts_in}
use Rattle.never_heap.specs.Steps.{blocks_of}
use Rattle.never_heap.proofs.Lemmas.{after_more, after_nought, part_append, starts_append, taken_none}
use Rattle.work_account.specs.Accounts.{Balance, entered}
use Rattle.heap_machine.specs.declared.pass.Pass.{Pass}
use Rattle.heap_system.specs.Parts.{Part, Access}
use Rattle.heap_system.specs.Locals.{balance_in, balance_paid, entries_of}
use Rattle.heap_system.specs.Machines.{starts_by}
use Rattle.heap_system.specs.Naming.{Naming, Begun}
use Rattle.heap_system.specs.Pictures.{waiting}
use Rattle.heap_system.specs.Shares.{blocks_given, given_in}
use Rattle.heap_system.proofs.accounting.Balances.{units_over, made_cycle, made_units, made_given}
use Rattle.heap_system.proofs.invariant.SeenAndKept.{PartKept}

-- the blocks that thread t was given in an order since the start of cycle z
abbrev pub given_since : Width → ℕ → List HistoryItem → ℕ → ℕ
given_since w t order z = blocks_given w (part t (after_start z order))

-- a number that a balance has of its cycle, of those that f tells of each, and none is of a later
-- cycle
pub record IsShare (n : ℕ) (b : Balance) (f : ℕ → ℕ) : Type 0 where
  pub here : n ≡ f b.cycle
  pub later : (z : ℕ) → b.cycle < z → f z ≡ 0

pub share_same : (n : ℕ) (b : Balance) (f g : ℕ → ℕ) → IsShare n b f → ((z : ℕ) → g z ≡ f z)
    → IsShare n b g
share_same n b f g s same = record {
  here = s.here ∙ sym (same b.cycle);
  later = λ z l. same z ∙ s.later z l;
}

-- an event that adds d in the present cycle, which is the balance's where it adds any
pub share_more : (n d now : ℕ) (b new : Balance) (f g : ℕ → ℕ) → new.cycle ≡ b.cycle
    → IsShare n b f → (d ≡ 0 → (z : ℕ) → g z ≡ f z)
    → (0 < d → (b.cycle ≡ now) × (g now ≡ f now + d) × ((z : ℕ) → now < z → g z ≡ f z))
    → IsShare (n + d) new g
share_more n d now b new f g same s none some = elim (cases_eq d 0) [
  | inl zero ↦ record {
    here = omega (arith, s.here, none zero b.cycle) ∙ ap g (sym same);
    later = λ z l. none zero z ∙ s.later z (omega (arith, same));
  }
  | inr more ↦
      let at = some (omega arith) in
      record {
        here = omega (arith, s.here, at.1, ap f at.0) ∙ ap g (sym (same ∙ at.0));
        later = λ z l. at.2 z (omega (arith, same, at.0)) ∙ s.later z (omega (arith, same));
      }
]

-- a balance that enters a cycle
units_begin : (z : ℕ) (b : Balance) (f : ℕ → ℕ) → IsShare b.units b f
    → IsShare (entered z b).units (entered z b) f
units_begin z b f s = elim (cases_lt b.cycle z) [
  | inl l ↦ rw (lt-ltb b.cycle z l)
      (record { here = sym (s.later z l); later = λ y more. s.later y (omega (arith, l)) })
  | inr g ↦ rw (le-ltb b.cycle z g) s
]

given_begins : (z : ℕ) (b : Balance) (f : ℕ → ℕ) → IsShare b.given b f
    → IsShare (entered z b).given (entered z b) f
given_begins z b f s = elim (cases_lt b.cycle z) [
  | inl l ↦ rw (lt-ltb b.cycle z l)
      (record { here = sym (s.later z l); later = λ y more. s.later y (omega (arith, l)) })
  | inr g ↦ rw (le-ltb b.cycle z g) s
]

pub units_went_in : (i : Option PhaseWord) (b : Balance) (f : ℕ → ℕ) → IsShare b.units b f
    → IsShare (balance_in i b).units (balance_in i b) f
units_went_in None b f s = s
units_went_in (Some p) b f s = units_begin p.cycle b f s

pub given_went_in : (i : Option PhaseWord) (b : Balance) (f : ℕ → ℕ) → IsShare b.given b f
    → IsShare (balance_in i b).given (balance_in i b) f
given_went_in None b f s = s
given_went_in (Some p) b f s = given_begins p.cycle b f s

-- what an event makes of a balance, once its thread is in
pub cycle_stays : (o : Option Reply) (unit : Bool) (requested k : ℕ) (b : Balance)
    → (balance_paid o unit requested k b).cycle ≡ b.cycle
cycle_stays None true requested k b = made_cycle requested b
cycle_stays None false requested k b = refl
cycle_stays (Some (replies.New a)) unit requested k b = refl
cycle_stays (Some _) unit requested k b = refl

pub units_grow : (o : Option Reply) (unit : Bool) (requested k : ℕ) (b : Balance)
    → ((r : Reply) → o ≡ Some r → unit ≡ false)
    → (balance_paid o unit requested k b).units ≡ b.units + bit unit
units_grow None true requested k b none = made_units requested b
units_grow None false requested k b none = omega arith
units_grow (Some (replies.New a)) unit requested k b none =
    let no : bit unit ≡ 0 = ap bit (none (replies.New a) refl) in omega (arith, no)
units_grow (Some r) unit requested k b none =
    let no : bit unit ≡ 0 = ap bit (none r refl) in
    let same : (balance_paid (Some r) unit requested k b).units ≡ b.units = units_over r k b in
    omega (arith, no, same)

pub given_grows : (w : Width) (o : Option Reply) (unit : Bool) (requested t work : ℕ) (k : Command) (b : Balance)
    → (balance_paid o unit requested (blocks_of w k) b).given
    ≡ b.given + blocks_given w (entries_of t k work o)
given_grows w None true requested t work k b = omega (arith, made_given requested b)
given_grows w None false requested t work k b = omega arith
given_grows w (Some (replies.New a)) unit requested t work k b = omega arith
given_grows w (Some _) unit requested t work k b = omega arith

-- only a reply gives blocks
pub reply_gives : (w : Width) (t work : ℕ) (k : Command) (o : Option Reply)
    → 0 < blocks_given w (entries_of t k work o) → (r : Reply) × (o ≡ Some r)
reply_gives w t work k None some = absurd (omega arith)
reply_gives w t work k (Some r) some = (r, refl)

pub given_append : (w : Width) (es fs : List Entry)
    → blocks_given w (es ++ fs) ≡ blocks_given w es + blocks_given w fs
given_append w [] fs = omega arith
given_append w (e ∷ es) fs = omega (arith, given_append w es fs)

waits_none : (w : Width) (t work : ℕ) (k : Command) (o : Option Reply) → blocks_of w k ≡ 0
    → blocks_given w (entries_of t k work o) ≡ 0
waits_none w t work k None e = refl
waits_none w t work k (Some r) e = omega (arith, taken_none r (blocks_of w k) e)

pub waiting_gives_none : (c : Config) (g now : Graph) (t : ℕ) (q : Pass) (k : Command) (p : Part)
    (work : ℕ) → PartKept c g t q k p
    → blocks_given c.width (entries_of t k work (waiting now p)) ≡ 0
waiting_gives_none c g now t q k (Access f) work kept =
    waits_none c.width t work k (waiting now (Access f)) kept.serves
waiting_gives_none c g now t q k _ work kept = refl

-- what a thread was given, up to the next start and from there on
given_parts : (w : Width) (t : ℕ) (h : List HistoryItem)
    → blocks_given w (part t (before_start 1 h)) + blocks_given w (part t (after_start 1 h))
    ≡ blocks_given w (part t h)
given_parts w t [] = refl
given_parts w t (Started ∷ h) = omega arith
given_parts w t (Did e ∷ h) = elim (cases_Bool (eqb e.thread t)) [
  | inl is ↦ rw is (omega (arith, given_parts w t h))
  | inr is ↦ rw is (given_parts w t h)
]

next_start : (z : ℕ) (h : List HistoryItem) → 1 ≤ z
    → after_start 1 (after_start z h) ≡ after_start (z + 1) h
next_start z [] some = refl
next_start z (Started ∷ h) some =
    let other : eqb (z + 1) 1 ≡ false = ne_eqb (z + 1) 1 (λ e. omega (arith, e, some)) in
    elim (cases_eq z 1) [
      | inl one ↦
          let same : z + 1 - 1 ≡ 1 = omega (arith, one) in
          rw (eq-eqb z 1 one) (rw other (ap (λ n. after_start n h) (sym same)))
      | inr n ↦
          let same : z - 1 + 1 ≡ z + 1 - 1 = omega (arith, some) in
          rw (ne_eqb z 1 n) (rw other (next_start (z - 1) h (omega (arith, some, n))
          ∙ ap (λ n. after_start n h) same))
    ]
next_start z (Did e ∷ h) some = next_start z h some

given_cut : (w : Width) (t : ℕ) (h : List HistoryItem) (z : ℕ) → 1 ≤ z
    → given_in w t h z + given_since w t h (z + 1) ≡ given_since w t h z
given_cut w t h z some =
    ap (λ x. given_in w t h z + blocks_given w (part t x)) (sym (next_start z h some))
    ∙ given_parts w t (after_start z h)

-- what comes after a start that there is not
after_none : (z : ℕ) (h : List HistoryItem) → starts_in h < z → after_start z h ≡ []
after_none z [] l = refl
after_none z (Started ∷ h) l = elim (cases_eq z 1) [
  | inl one ↦ absurd (omega (arith, one, l))
  | inr n ↦ rw (ne_eqb z 1 n) (after_none (z - 1) h (omega (arith, l)))
]
after_none z (Did e ∷ h) l = after_none z h l

after_last : (z : ℕ) (h : List HistoryItem) → starts_in h < z → after_start z (h ++ Started ∷ []) ≡ []
after_last z [] l = elim (cases_eq z 1) [
  | inl one ↦ rw (eq-eqb z 1 one) refl
  | inr n ↦ rw (ne_eqb z 1 n) refl
]
after_last z (Started ∷ h) l = elim (cases_eq z 1) [
  | inl one ↦ absurd (omega (arith, one, l))
  | inr n ↦ rw (ne_eqb z 1 n) (after_last (z - 1) h (omega (arith, l)))
]
after_last z (Did e ∷ h) l = after_last z h l

after_late : (z : ℕ) (h es : List HistoryItem) (n : Naming) → starts_in h < z → starts_in es ≡ 0
    → after_start z (h ++ (es ++ starts_by n)) ≡ []
after_late z h es n l none = by n
  where
    few : starts_in (h ++ es) < z
    few = omega (arith, starts_append h es, none, l)

    by : (m : Naming) → after_start z (h ++ (es ++ starts_by m)) ≡ []
    by Begun = ap (after_start z) (sym (append_assoc h es (Started ∷ []))) ∙ after_last z (h ++ es) few
    by _ = ap (λ x. after_start z (h ++ x)) (append-nil es) ∙ after_none z (h ++ es) few

-- what a thread's balance has of its own cycle it was given in that cycle, and in no later one
pub given_here : (w : Width) (t : ℕ) (h : List HistoryItem) (b : Balance)
    → IsShare b.given b (given_since w t h) → b.given ≡ given_in w t h b.cycle
given_here w t h b s = elim (cases_eq b.cycle 0) [
  | inl nought ↦
      let none : blocks_given w (part t (after_start 0 h)) ≡ 0 =
      ap (λ x. blocks_given w (part t x)) (after_nought h) in
      s.here ∙ subst (λ z. given_since w t h z ≡ given_in w t h z) (sym nought)
      (none ∙ sym (ap (λ x. blocks_given w (part t (before_start 1 x))) (after_nought h)))
  | inr some ↦ omega (arith, s.here, given_cut w t h b.cycle (omega (arith, some)), s.later (b.cycle + 1) (omega arith))
]

pub given_later : (w : Width) (t : ℕ) (h : List HistoryItem) (b : Balance)
    → IsShare b.given b (given_since w t h) → (z : ℕ) → b.cycle < z → given_in w t h z ≡ 0
given_later w t h b s z l =
    omega (arith, given_cut w t h z (omega (arith, l)), s.later z l)

-- what a thread was given since a start, after entries of some thread, of which these are its own,
-- and maybe a start
module _ (w : Width) (u : ℕ) (h es : List HistoryItem) (n : Naming) (none : starts_in es ≡ 0) where
  pub since_more : (z : ℕ) → 1 ≤ z → z ≤ starts_in h
      → given_since w u (h ++ (es ++ starts_by n)) z
      ≡ given_since w u h z + blocks_given w (part u (es ++ starts_by n))
  since_more z some low =
      ap (λ x. blocks_given w (part u x)) (after_more z h (es ++ starts_by n) some low)
      ∙ ap (blocks_given w) (part_append u (after_start z h) (es ++ starts_by n))
      ∙ given_append w (part u (after_start z h)) (part u (es ++ starts_by n))

  pub since_late : (z : ℕ) → starts_in h < z
      → given_since w u (h ++ (es ++ starts_by n)) z ≡ given_since w u h z
  since_late z l =
      ap (λ x. blocks_given w (part u x)) (after_late z h es n l none ∙ sym (after_none z h l))

  -- at each start where none is added
  pub since_same : blocks_given w (part u (es ++ starts_by n)) ≡ 0 → (z : ℕ)
      → given_since w u (h ++ (es ++ starts_by n)) z ≡ given_since w u h z
  since_same none_more z = elim (cases_lt (starts_in h) z) [
    | inl l ↦ since_late z l
    | inr low ↦ elim (cases_eq z 0) [
      | inl nought ↦
          subst (λ y. given_since w u (h ++ (es ++ starts_by n)) y ≡ given_since w u h y) (sym nought)
          (ap (λ x. blocks_given w (part u x)) (after_nought (h ++ (es ++ starts_by n)) ∙ sym (after_nought h)))
      | inr some ↦ omega (arith, since_more z (omega arith) low, none_more)
    ]
  ]
