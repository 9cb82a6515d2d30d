-- The units that a thread has made are its turns that make a grey block black or pass a block.
use Rattle.std.proofs.Common.{◌≡◌, ℕ, ◌+◌, ◌<◌, ◌⊎◌, Bool, true, false, not, ◌&&◌, cond, eqb, eq-eqb, ne_eqb, lt-ltb, le-ltb, List, [], ◌∷◌, ◌++◌, append-nil, refl, sym, ap, ◌∙◌, subst, arith, inl, inr}
use Rattle.std.proofs.lemmas.Bool.{cases_Bool, cases_eq, cases_lt, cond-false, cond-true}
use Rattle.block_store.specs.declared.Config.{Config}
use Rattle.block_store.specs.Phases.{bit}
use Rattle.never_heap.specs.declared.Command.{Command}
use Rattle.never_heap.specs.Histories.{part, replay}
use Rattle.heap_system.specs.Parts.{Part, Sweep}
use Rattle.heap_system.specs.Locals.{LocalState, Verdict, Open, AsStep, Refused, is_decided, owed, command_of, is_done, effect, part_want, makes_unit, spent_got, works}
use Rattle.heap_system.specs.Machines.{Run, IsJob, IsRunOf, local_at, word_read, next_effect, items_by, event_done, has_event, next, after_turns, opened, heap_in}
use Rattle.heap_system.specs.Naming.{renamed}
use Rattle.heap_system.specs.Units.{passes, is_unit, turn_blackens, turn_passes, units_made, made_by, decides, blacks_made, passes_made, blackens}
use Rattle.heap_system.proofs.history.OrderGrowth.{part_grows, part_stays}
use Rattle.heap_system.proofs.invariant.Invariant.{Kept}
use Rattle.heap_system.proofs.step_rows.LawsOfParts.{laws_of}
use Rattle.heap_system.proofs.accounting.OwedAndPaid.{works_append}
use Rattle.heap_system.proofs.invariant.SeenAndKept.{told_by, IsDecided}
use Rattle.heap_system.proofs.invariant.InvariantByTurns.{seen, at_part, local_new, paid_new, word_is, word_here, new_run, next_is, event}
use Rattle.heap_system.proofs.invariant.InvariantHolds.{here, opening_kept, turn_kept}

-- the events that pass a block are units
passes_unit : (c : Config) (p : Part) (w : ℕ) → (passes c p w ≡ makes_unit c p w) ⊎ (passes c p w ≡ false)
passes_unit c (Sweep s) w = inl refl
passes_unit c _ w = inr refl

split : (u p : Bool) → (p ≡ u) ⊎ (p ≡ false) → bit u ≡ bit (u && not p) + bit p
split true p (inl e) = rw e refl
split false p (inl e) = rw e refl
split true p (inr e) = rw e refl
split false p (inr e) = rw e refl

decided_is : (v : Verdict) → is_decided v ≡ true → IsDecided v
decided_is Open is = absurd cc
decided_is AsStep is = tt
decided_is (Refused reply) is = tt

-- a turn without an event changes nothing
pub idle_next : (c : Config) (u : ℕ) (r : Run) → has_event c u r.state ≡ false → next c u r ≡ r
idle_next c u r none =
    ap (λ b. let x : Run = record {
      state = cond b (event_done c u r.state) r.state;
      order = r.order ++ cond b (items_by c u (command_of (local_at c r.state u)) (local_at c r.state u).spent r.order (next_effect c r.state u)) [];
      names = cond b (renamed u (replay c r.order) (heap_in c r.state) (next_effect c r.state u).naming r.names) r.names;
    } in x) none
    ∙ ap (λ o. let x : Run = record { state = r.state; order = o; names = r.names } in x) (append-nil r.order)

module _ (c : Config) (traces : List (List Command)) (job : IsJob c traces) (r : Run) (kept : Kept c traces r) (u : ℕ) (ul : u < c.threads) (going : is_done (local_at c r.state u) ≡ false) where
  abbrev after : Run
  after = new_run c traces (laws_of c) job.bounds.config job.plan r kept u ul

  abbrev word : ℕ
  word = word_here c traces (laws_of c) job.bounds.config job.plan r kept u ul

  own_makes : made_by c u after ≡ made_by c u r + bit (makes_unit c (local_at c r.state u).part word)
  own_makes =
      let l = local_at c r.state u in
      let e = effect c l.part word in
      let parts : works (part u after.order) ≡ works (part u r.order) + works (told_by (replay c r.order) u (command_of l) l.spent e.verdict) =
      ap works (part_grows c r.order u (command_of l) l.spent e.verdict e.naming) ∙ works_append (part u r.order) (told_by (replay c r.order) u (command_of l) l.spent e.verdict) in
      let paid : (local_at c after.state u).spent ≡ spent_got e.reply e.unit l.spent =
      ap (λ (x : LocalState). x.spent) (local_new c traces (laws_of c) job.bounds.config job.plan r kept u ul going u ∙ cond-true _ _ _ (eq-eqb u u refl)) ∙ paid_new c traces (laws_of c) job.bounds.config job.plan r kept u ul in
      omega (arith, parts, paid, (event c traces (laws_of c) job.bounds.config job.plan r kept u ul going).counted, (laws_of c l.part).units u (command_of l) l.spent word)

  other_makes : (t : ℕ) → (u ≡ t → ⊥) → made_by c t after ≡ made_by c t r
  other_makes t n =
      let l = local_at c r.state u in
      let e = effect c l.part word in
      let parts : works (part t after.order) ≡ works (part t r.order) = ap works (part_stays c r.order u (command_of l) l.spent e.verdict e.naming t n) in
      let paid : (local_at c after.state t).spent ≡ (local_at c r.state t).spent = ap (λ (x : LocalState). x.spent) (local_new c traces (laws_of c) job.bounds.config job.plan r kept u ul going t ∙ cond-false _ _ _ (ne_eqb u t n)) in
      omega (arith, parts, paid)

  event_makes : (t : ℕ) → made_by c t (next c u r) ≡ made_by c t r + cond (eqb u t) (bit (is_unit c t r.state)) 0
  event_makes t =
      let some : has_event c u r.state ≡ true = rw (lt-ltb u c.threads ul, going) refl in
      ap (made_by c t) (next_is c traces (laws_of c) job.bounds.config job.plan r kept u ul going) ∙ elim (cases_eq u t) [
        | inl e ↦ rw (eq-eqb u t e) (subst (λ v. made_by c v after ≡ made_by c v r + bit (is_unit c v r.state)) e
            (own_makes ∙ ap (λ w. made_by c u r + bit (makes_unit c (local_at c r.state u).part w)) (sym (word_is c traces (laws_of c) job.bounds.config job.plan r kept u ul))
            ∙ ap (λ b. made_by c u r + bit (cond b (makes_unit c (local_at c r.state u).part (word_read c r.state (local_at c r.state u))) false)) (sym some)))
        | inr n ↦ rw (ne_eqb u t n) (omega (arith, other_makes t n))
      ]

-- a turn without an event
idle_makes : (c : Config) (t u : ℕ) (r : Run) → has_event c u r.state ≡ false → made_by c t (next c u r) ≡ made_by c t r + cond (eqb u t) (bit (is_unit c t r.state)) 0
idle_makes c t u r none = ap (made_by c t) (idle_next c u r none) ∙ elim (cases_eq u t) [
  | inl e ↦
      let no_unit : bit (is_unit c t r.state) ≡ 0 = ap (λ b. bit (cond b (makes_unit c (local_at c r.state t).part (word_read c r.state (local_at c r.state t))) false)) (sym (ap (λ v. has_event c v r.state) e) ∙ none) in
      rw (eq-eqb u t e) (omega (arith, no_unit))
  | inr n ↦ rw (ne_eqb u t n) (omega arith)
]

module _ (c : Config) (traces : List (List Command)) (job : IsJob c traces) where
  pub turn_makes : (r : Run) → Kept c traces r → (t u : ℕ) → made_by c t (next c u r) ≡ made_by c t r + cond (eqb u t) (bit (is_unit c t r.state)) 0
  turn_makes r kept t u = elim (cases_lt u c.threads) [
    | inl ul ↦ elim (cases_Bool (is_done (local_at c r.state u))) [
      | inl done ↦ idle_makes c t u r (rw (lt-ltb u c.threads ul, done) refl)
      | inr going ↦ event_makes c traces job r kept u ul going t
    ]
    | inr out ↦ idle_makes c t u r (rw (le-ltb u c.threads out) refl)
  ]

  turns_make : (ts : List ℕ) (r : Run) → Kept c traces r → (t : ℕ) → made_by c t (after_turns c r ts) ≡ made_by c t r + units_made c t r ts
  turns_make [] r kept t = omega arith
  turns_make (u ∷ ts) r kept t = omega (arith, turns_make ts (next c u r) (turn_kept c traces (laws_of c) job r kept u) t, turn_makes r kept t u)

  -- every run
  pub run_makes : (ts : List ℕ) (r : Run) (is : IsRunOf c traces ts r) (t : ℕ) → t < c.threads → works (part t r.order) + (local_at c r.state t).spent ≡ units_made c t (opened c is.first) ts
  run_makes ts r is t tl =
      let start : (local_at c is.first t).spent ≡ 0 = ap (λ (l : LocalState). l.spent) (here c traces job is.first is.opening t tl) in
      ap (made_by c t) is.turns ∙ turns_make ts (opened c is.first) (opening_kept c traces job is.first is.opening) t ∙ omega (arith, start)

  -- a turn is a unit where it makes a grey block black or passes a block, and not both
  unit_is : (r : Run) → Kept c traces r → (t : ℕ) → t < c.threads → bit (is_unit c t r.state) ≡ bit (turn_blackens c t r.state) + bit (turn_passes c t r.state)
  unit_is r kept t tl = elim (cases_Bool (has_event c t r.state)) [
    | inl some ↦
        let p = (local_at c r.state t).part in
        let w = word_here c traces (laws_of c) job.bounds.config job.plan r kept t tl in
        let read : word_read c r.state (local_at c r.state t) ≡ w = word_is c traces (laws_of c) job.bounds.config job.plan r kept t tl in
        let black : bit (blackens (heap_in c r.state) (part_want c p)) ≡ bit (makes_unit c p w && not (passes c p w)) = ap bit ((laws_of c p).black (seen c traces (laws_of c) job.bounds.config job.plan r kept t tl) (at_part c traces (laws_of c) job.bounds.config job.plan r kept t tl)) in
        rw some (rw read (split (makes_unit c p w) (passes c p w) (passes_unit c p w) ∙ ap (λ n. n + bit (passes c p w)) (sym black)))
    | inr none ↦ rw none refl
  ]

  turns_are : (ts : List ℕ) (r : Run) → Kept c traces r → (t : ℕ) → t < c.threads → units_made c t r ts ≡ blacks_made c t r ts + passes_made c t r ts
  turns_are [] r kept t tl = refl
  turns_are (u ∷ ts) r kept t tl =
      let rest = turns_are ts (next c u r) (turn_kept c traces (laws_of c) job r kept u) t tl in
      let one = unit_is r kept t tl in
      elim (cases_Bool (eqb u t)) [
        | inl e ↦ rw e (omega (arith, rest, one))
        | inr e ↦ rw e (omega (arith, rest))
      ]

  pub run_units : (ts : List ℕ) (r : Run) (is : IsRunOf c traces ts r) (t : ℕ) → t < c.threads → units_made c t (opened c is.first) ts ≡ blacks_made c t (opened c is.first) ts + passes_made c t (opened c is.first) ts
  run_units ts r is t tl = turns_are ts (opened c is.first) (opening_kept c traces job is.first is.opening) t tl

-- a turn decides a command only where all that it owes was made
pub decided_owed : (c : Config) (traces : List (List Command)) → IsJob c traces → (r : Run) → Kept c traces r → (t : ℕ) → t < c.threads → decides c t r.state ≡ true → (local_at c r.state t).spent ≡ owed (local_at c r.state t)
decided_owed c traces job r kept t tl decided = elim (cases_Bool (is_done (local_at c r.state t))) [
  | inl done ↦ absurd (let none : decides c t r.state ≡ false = rw (lt-ltb t c.threads tl, done) refl in cc)
  | inr going ↦
      let l = local_at c r.state t in
      let w = word_here c traces (laws_of c) job.bounds.config job.plan r kept t tl in
      let some : has_event c t r.state ≡ true = rw (lt-ltb t c.threads tl, going) refl in
      let is : is_decided (effect c l.part w).verdict ≡ true =
      sym (ap (λ x. is_decided (effect c l.part x).verdict) (word_is c traces (laws_of c) job.bounds.config job.plan r kept t tl))
      ∙ sym (ap (λ b. cond b (is_decided (next_effect c r.state t).verdict) false) some) ∙ decided in
      (event c traces (laws_of c) job.bounds.config job.plan r kept t tl going).exact (decided_is (effect c l.part w).verdict is)
]
