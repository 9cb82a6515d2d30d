-- Every run is counted by a tally that is kept.
use Rattle.std.proofs.Common.{◌≡◌, ℕ, Bool, ◌+◌, ◌*◌, ◌<◌, ◌≤◌, false, cond, Option, Some, None, List, [], ◌∷◌, ◌++◌, length, get_or, append-nil, lt-ltb, le-ltb, eq-eqb, ne_eqb, refl, sym, ap, ◌∙◌, subst, arith, inl, inr}
use Rattle.std.proofs.lemmas.Bool.{cases_Bool, cases_eq, cases_lt}
use Rattle.std.specs.List.{AllByRecursion}
use Rattle.block_store.specs.declared.Config.{Config}
use Rattle.block_store.specs.declared.PhaseWord.{PhaseWord}
use Rattle.block_store.specs.Colours.{black_word}
use Rattle.block_store.specs.Phases.{is_sweep, cycle_of}
use Rattle.block_store.specs.Places.{Phase, Cursor, FreeCount, ColourOf}
use Rattle.block_store.proofs.Lemmas.{cycle-code, sweep-code}
use Rattle.rate_plan.specs.Rates.{IsRate}
use Rattle.rate_plan.proofs.Rates.{one_rate}
use Rattle.never_heap.specs.declared.Command.{Command}
use Rattle.never_heap.specs.declared.Command.TheVariants as commands
use Rattle.never_heap.specs.declared.Reply.{Reply}
use Rattle.never_heap.specs.Bounds.{IsCommandInBounds}
use Rattle.never_heap.specs.Histories.{replay}
use Rattle.never_heap.specs.RightWork.{requested_units}
use Rattle.never_heap.specs.Steps.{blocks_of}
use Rattle.never_heap.proofs.Lemmas.{blocks_low, bounds_at, opening_live, told_low}
use Rattle.work_account.specs.Accounts as accounts
use Rattle.heap_invariant.specs.cycle_tally.TallyInvariant.{TallyKept}
use Rattle.heap_invariant.specs.cycle_tally.InitialHeaps.{opening_tally}
use Rattle.heap_invariant.specs.cycle_tally.Tallies.{Spending, Tally, made_of}
use Rattle.work_account.specs.Accounts.{Balance}
use Rattle.heap_invariant.proofs.cycle_tally.Laws as tallies
use Rattle.heap_invariant.proofs.Lemmas.{opens}
use Rattle.heap_system.specs.Parts.{Part}
use Rattle.heap_system.specs.Locals.{LocalState, command_of, owed, is_done, paid_part, spent_got, entries_of}
use Rattle.heap_system.specs.Machines.{State, Run, local_at, event_done, has_event, next_effect, items_by, heap_in, next, after_turns, IsOpening, IsJob, IsRunOf, opened}
use Rattle.heap_system.specs.Naming.{renamed}
use Rattle.heap_system.specs.InitialHeaps.{opening_phase}
use Rattle.heap_system.proofs.invariant.InvariantHolds.{here, opening_kept, turn_kept}
use Rattle.heap_system.proofs.history.OrderGrowth.{items_are}
use Rattle.heap_system.proofs.invariant.Invariant.{Kept}
use Rattle.heap_system.proofs.step_rows.PartLaws.{PartLaws}
use Rattle.heap_system.proofs.accounting.OwedAndPaid.{told_apart}
use Rattle.heap_system.proofs.accounting.Balances.{none_idled, both_parts}
use Rattle.heap_system.proofs.accounting.TallyLaw.{Asking, asking, IsNext, IsSpending, IsTallyOf, TallyLaw, TallyEvent, Counted, asked_got}
use Rattle.heap_system.proofs.invariant.InvariantByTurns.{seen, at_part, new_run, new_heap, new_local, effect_here, heap_new, local_new, next_is}

-- what a thread asks for
abbrev pub asked_by : Config → LocalState → Asking
asked_by c l = asking c (command_of l) l.spent

-- A tally of a run, which is kept: of its heap and its order, and each thread where it is, with
-- its balance.
pub record RunTallied (c : Config) (rate : ℕ) (r : Run) : Type 0 where
  pub tally : Tally
  pub kept : TallyKept c rate black_word tally
  pub of : IsTallyOf (heap_in c r.state) r.order tally
  pub threads : (t : ℕ) → t < c.threads → IsSpending c (local_at c r.state t).part (local_at c r.state t).balance (asked_by c (local_at c r.state t)) (tally.threads t)

-- what the tally says that a thread made is what it made
pub spent_is : (c : Config) (l : LocalState) (w : Spending) → IsSpending c l.part l.balance (asked_by c l) w → l.balance.paid ≡ paid_part (requested_units (command_of l)) l.spent → made_of w ≡ l.spent
spent_is c l w own account =
    let paid : w.balance.paid ≡ paid_part (requested_units (command_of l)) l.spent = ap (λ (b : Balance). b.paid) own.account ∙ account in
    omega (arith, paid, own.idled, both_parts (requested_units (command_of l)) l.spent)

-- the command after an event: the one in hand, or with a reply the next
asks_on : (c : Config) (trace : List Command) (log : List _) (t : ℕ) (k : Command) (paid : ℕ) (unit : Bool) (o : Option Reply) → k ≡ get_or trace (length log) (commands.Nil 0)
    → asked_got o (asking c k (spent_got o unit paid)) (asking c (get_or trace (length (log ++ entries_of t k paid o)) (commands.Nil 0)) 0) ≡ asking c (get_or trace (length (log ++ entries_of t k paid o)) (commands.Nil 0)) (spent_got o unit paid)
asks_on c trace log t k paid unit None is = ap (λ x. asking c x (spent_got None unit paid)) (is ∙ ap (λ xs. get_or trace (length xs) (commands.Nil 0)) (sym (append-nil log)))
asks_on c trace log t k paid unit (Some r) is = refl

module _ (c : Config) (traces : List (List Command)) (job : IsJob c traces) (rate : ℕ) (planned : IsRate c rate) where
  -- each command of a thread asks for no more than one object may take
  pub commands_at : (r : Run) → Kept c traces r → (t i : ℕ) → t < c.threads → blocks_of c.width (get_or (local_at c r.state t).trace i (commands.Nil 0)) ≤ c.object
  commands_at r kept t i tl = blocks_low c _ (bounds_at c (local_at c r.state t).trace i (subst (λ x. AllByRecursion (IsCommandInBounds x) (local_at c r.state t).trace) (kept.locals t tl).config (kept.locals t tl).fits.trace.commands))

  pub in_bounds_at : (r : Run) → Kept c traces r → (t i : ℕ) → t < c.threads → IsCommandInBounds c (get_or (local_at c r.state t).trace i (commands.Nil 0))
  in_bounds_at r kept t i tl = bounds_at c (local_at c r.state t).trace i (subst (λ x. AllByRecursion (IsCommandInBounds x) (local_at c r.state t).trace) (kept.locals t tl).config (kept.locals t tl).fits.trace.commands)

  asks_next : (k : Command) → IsCommandInBounds c k → IsNext c (asking c k 0)
  asks_next k fits = record { blocks = blocks_low c k fits; apart = told_apart c.width k; few = told_low c k fits; none = none_idled (requested_units k) }

  module _ (s : State) (start : IsOpening c traces s) where
    -- the opening
    abbrev pub opening_tallied : RunTallied c rate (opened c s)
    opening_tallied =
        let code : PhaseWord = record { inside = 0; sweep = false; closed = false; cycle = 1 } in
        let phase : heap_in c s Phase ≡ opening_phase = start.words Phase refl in
        record {
          tally = opening_tally c (λ x. heap_in c s (ColourOf x)) (λ t. (asked_by c (local_at c s t)).blocks) (λ t. (asked_by c (local_at c s t)).requested);
          kept = tallies.opening_kept c rate black_word planned.some _ (opens c (λ x. heap_in c s (ColourOf x)) (λ t. (asked_by c (local_at c s t)).blocks) (λ t. (asked_by c (local_at c s t)).requested) (opening_live c job.bounds.config) (omega (arith, job.plan.opens, job.plan.room)) (λ t tl. commands_at (opened c s) (opening_kept c traces job s start) t _ tl) (λ t tl. record { apart = told_apart c.width (command_of (local_at c s t)); none = λ e. refl; few = told_low c (command_of (local_at c s t)) (in_bounds_at (opened c s) (opening_kept c traces job s start) t _ tl) }));
          of = record {
            cycle = sym (ap cycle_of phase ∙ cycle-code code (omega arith));
            sweep = sym (ap is_sweep phase ∙ sweep-code code (omega arith));
            cursor = sym (start.words Cursor refl);
            free = sym (start.words FreeCount refl);
            colour = λ x. refl;
            order = refl;
          };
          threads = λ t tl. subst (λ (l : LocalState). IsSpending c l.part l.balance (asked_by c l) (record { inside = false; balance = accounts.opened; asked = (asked_by c l).blocks; requested = (asked_by c l).requested; idled = 0; low = 0; high = 0; reserved = 0 })) (sym (here c traces job s start t tl))
              (record { inside = refl; account = refl; asked = refl; requested = refl; idled = sym (none_idled (requested_units (get_or (get_or traces t []) 0 (commands.Nil 0)))); low = refl; high = refl; reserved = refl });
        }

  -- a turn that has no event
  turn_idle : (r : Run) (t : ℕ) → RunTallied c rate r → has_event c t r.state ≡ false → RunTallied c rate (next c t r)
  turn_idle r t counts none = subst (λ x. RunTallied c rate (record {
    state = cond x (event_done c t r.state) r.state;
    order = r.order ++ cond x (items_by c t (command_of (local_at c r.state t)) (local_at c r.state t).spent r.order (next_effect c r.state t)) [];
    names = cond x (renamed t (replay c r.order) (heap_in c r.state) (next_effect c r.state t).naming r.names) r.names;
  })) (sym none)
      (subst (λ o. RunTallied c rate (record { state = r.state; order = o; names = r.names })) (sym (append-nil r.order)) (record { tally = counts.tally; kept = counts.kept; of = counts.of; threads = counts.threads }))

  module _ (laws : (p : Part) → PartLaws c p) (tally_laws : (p : Part) → TallyLaw c p) (r : Run) (kept : Kept c traces r) (counts : RunTallied c rate r) (t : ℕ) (tl : t < c.threads) where
    abbrev me : LocalState
    me = local_at c r.state t

    -- what its command owes
    due_is : owed me ≡ rate * blocks_of c.width (command_of me) + requested_units (command_of me)
    due_is =
        let own = kept.locals t tl in
        let same : me.rate ≡ rate = one_rate c me.rate rate (subst (λ x. IsRate x me.rate) own.config own.fits.rate) planned in
        ap (λ (x : Config). me.rate * blocks_of x.width (command_of me) + requested_units (command_of me)) own.config ∙ ap (λ n. n * blocks_of c.width (command_of me) + requested_units (command_of me)) same

    pub counted : Counted c rate (seen c traces laws job.bounds.config job.plan r kept t tl) me.part counts.tally
    counted = record {
      some = planned.some;
      plan = planned.enough;
      due = due_is;
      kept = counts.kept;
      of = counts.of;
      own = counts.threads t tl;
      inside = λ u ul. (counts.threads u ul).inside;
    }

    -- what the thread asks for next
    abbrev later : LocalState
    later = new_local c traces laws job.bounds.config job.plan r kept t tl

    module _ (going : is_done me ≡ false) where
      pub after : TallyEvent c rate (seen c traces laws job.bounds.config job.plan r kept t tl) (new_heap c traces laws job.bounds.config job.plan r kept t tl) (effect_here c traces laws job.bounds.config job.plan r kept t tl) later.part (asking c (command_of later) 0) counts.tally
      after = tally_laws me.part rate (seen c traces laws job.bounds.config job.plan r kept t tl) (at_part c traces laws job.bounds.config job.plan r kept t tl) (asking c (command_of later) 0) (asks_next (command_of later) (in_bounds_at r kept t (length later.log) tl)) counts.tally counted

      -- the thread, and the others
      pub each : (u : ℕ) → u < c.threads → IsSpending c (local_at c (event_done c t r.state) u).part (local_at c (event_done c t r.state) u).balance (asked_by c (local_at c (event_done c t r.state) u)) (after.tally.threads u)
      each u ul = subst (λ (l : LocalState). IsSpending c l.part l.balance (asked_by c l) (after.tally.threads u)) (sym (local_new c traces laws job.bounds.config job.plan r kept t tl going u))
          (elim (cases_eq t u) [
            | inl e ↦ rw (eq-eqb t u e) (subst (λ v. IsSpending c later.part later.balance (asked_by c later) (after.tally.threads v)) e
                (subst (λ n. IsSpending c later.part later.balance n (after.tally.threads t)) (asks_on c me.trace me.log t (command_of me) me.spent (effect_here c traces laws job.bounds.config job.plan r kept t tl).unit (effect_here c traces laws job.bounds.config job.plan r kept t tl).reply refl) after.own))
            | inr n ↦ rw (ne_eqb t u n) (subst (λ w. IsSpending c (local_at c r.state u).part (local_at c r.state u).balance (asked_by c (local_at c r.state u)) w) (sym (after.others u n)) (counts.threads u ul))
          ])

      abbrev pub event_tallied : RunTallied c rate (new_run c traces laws job.bounds.config job.plan r kept t tl)
      event_tallied = record {
        tally = after.tally;
        kept = after.kept;
        of = subst (λ h. IsTallyOf h (new_run c traces laws job.bounds.config job.plan r kept t tl).order after.tally) (sym (heap_new c traces laws job.bounds.config job.plan r kept t tl going))
            (subst (λ xs. IsTallyOf (new_heap c traces laws job.bounds.config job.plan r kept t tl) (r.order ++ xs) after.tally) (items_are c r.order t (command_of me) me.spent (effect_here c traces laws job.bounds.config job.plan r kept t tl).verdict (effect_here c traces laws job.bounds.config job.plan r kept t tl).naming) after.of);
        threads = each;
      }

    -- a turn of a thread
    tallied_next : RunTallied c rate (next c t r)
    tallied_next = elim (cases_Bool (is_done me)) [
      | inl done ↦
          let none : has_event c t r.state ≡ false = rw (lt-ltb t c.threads tl, done) refl in
          turn_idle r t counts none
      | inr going ↦ subst (λ x. RunTallied c rate x) (sym (next_is c traces laws job.bounds.config job.plan r kept t tl going)) (event_tallied going)
    ]

  module _ (laws : (p : Part) → PartLaws c p) (tally_laws : (p : Part) → TallyLaw c p) where
    pub turn_tallied : (r : Run) → Kept c traces r → RunTallied c rate r → (t : ℕ) → RunTallied c rate (next c t r)
    turn_tallied r kept counts t = elim (cases_lt t c.threads) [
      | inl tl ↦ tallied_next laws tally_laws r kept counts t tl
      | inr out ↦ turn_idle r t counts (rw (le-ltb t c.threads out) refl)
    ]

    turns_tallied : (ts : List ℕ) (r : Run) → Kept c traces r → RunTallied c rate r → RunTallied c rate (after_turns c r ts)
    turns_tallied [] r kept counts = counts
    turns_tallied (t ∷ ts) r kept counts = turns_tallied ts (next c t r) (turn_kept c traces laws job r kept t) (turn_tallied r kept counts t)

    -- every run
    pub run_tallied : (ts : List ℕ) (r : Run) → IsRunOf c traces ts r → RunTallied c rate r
    run_tallied ts r is = subst (λ x. RunTallied c rate x) (sym is.turns) (turns_tallied ts (opened c is.first) (opening_kept c traces job is.first is.opening) (opening_tallied is.first is.opening))
