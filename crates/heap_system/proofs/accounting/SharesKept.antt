-- Every list of turns keeps each thread's share of the cycle that it entered last.
use Rattle.std.proofs.Common.{◌≡◌, ℕ, ◌+◌, ◌<◌, Bool, true, false, ◌&&◌, cond, eqb, eq-eqb, ne_eqb, lt-ltb, le-ltb, List, [], ◌∷◌, ◌++◌, append-nil, refl, sym, ap, ◌∙◌, subst, arith, inl, inr}
use Rattle.std.proofs.lemmas.Bool.{cases_Bool, cases_eq, cases_lt, cond-false, cond-true}
use Rattle.block_store.specs.declared.Config.{Config}
use Rattle.block_store.specs.Phases.{bit, cycle_of}
use Rattle.block_store.specs.Places.{Phase}
use Rattle.block_store.proofs.Lemmas.{bit_one}
use Rattle.rate_plan.specs.Rates.{IsRate}
use Rattle.never_heap.specs.declared.Command.{Command}
use Rattle.never_heap.specs.Histories.{HistoryItem, Started, part, replay, starts_in}
use Rattle.never_heap.specs.RightWork.{requested_units}
use Rattle.never_heap.specs.Steps.{blocks_of}
use Rattle.never_heap.proofs.Lemmas.{part_append}
use Rattle.work_account.specs.Accounts.{Balance}
use Rattle.heap_machine.specs.Gating.{is_inside}
use Rattle.heap_system.specs.Locals.{LocalState, Effect, Verdict, command_of, is_done, effect, makes_unit, spent_got, balance_in, balance_got, entries_of}
use Rattle.heap_system.specs.Machines.{Run, IsJob, IsRunOf, local_at, word_read, heap_in, has_event, entries_by, starts_by, next, after_turns, opened}
use Rattle.heap_system.specs.Naming.{Naming}
use Rattle.heap_system.specs.Pictures.{stand_of, waiting}
use Rattle.heap_system.specs.Shares.{is_unit_in, blocks_given}
use Rattle.heap_system.specs.Units.{is_unit, turns_that}
use Rattle.heap_system.proofs.invariant.InvariantHolds.{here, opening_kept, turn_kept}
use Rattle.heap_system.proofs.history.OrderGrowth.{part_starts, entries_told, entries_away, entries_start_none}
use Rattle.heap_system.proofs.invariant.Invariant.{Kept}
use Rattle.heap_system.proofs.step_rows.LawsOfParts.{laws_of}
use Rattle.heap_system.proofs.accounting.UnitsOfTurns.{idle_next}
use Rattle.heap_system.proofs.invariant.SeenAndKept.{told_by}
use Rattle.heap_system.proofs.accounting.CycleShares.{IsShare, given_since, share_same, share_more, units_went_in, given_went_in, cycle_stays, units_grow, given_grows, reply_gives, given_append, waiting_gives_none, since_more, since_late, since_same}
use Rattle.heap_system.proofs.accounting.RunTally.{RunTallied, opening_tallied, turn_tallied}
use Rattle.heap_system.proofs.accounting.TalliesOfParts.{tallies_of}
use Rattle.heap_system.proofs.invariant.InvariantByTurns.{word_is, word_here, new_run, new_part, new_pass, new_graph, next_is, event, local_new}
use Rattle.heap_system.proofs.step_rows.Effects.{unit_inside, reply_inside, reply_no_unit, inside_is_in}

-- thread t of a run, where f tells how many units it made in each cycle
pub record Shares (c : Config) (r : Run) (t : ℕ) (f : ℕ → ℕ) : Type 0 where
  pub units : IsShare (local_at c r.state t).balance.units (local_at c r.state t).balance f
  pub given : IsShare (local_at c r.state t).balance.given (local_at c r.state t).balance
      (given_since c.width t r.order)

shares_same : (c : Config) (r : Run) (t : ℕ) (f g : ℕ → ℕ) → Shares c r t f
    → ((z : ℕ) → g z ≡ f z) → Shares c r t g
shares_same c r t f g s same = record { units = share_same _ _ f g s.units same; given = s.given }

-- what a turn of thread u adds to the units of thread t in a cycle
abbrev added : Config → ℕ → ℕ → Run → ℕ → ℕ
added c t u r z = cond (eqb u t) (bit (is_unit_in c z t r.state)) 0

idle_adds : (c : Config) (t u : ℕ) (r : Run) → has_event c u r.state ≡ false → (z : ℕ)
    → added c t u r z ≡ 0
idle_adds c t u r none z = elim (cases_eq u t) [
  | inl e ↦
      let no : has_event c t r.state ≡ false = sym (ap (λ v. has_event c v r.state) e) ∙ none in
      rw (eq-eqb u t e) (rw no refl)
  | inr n ↦ rw (ne_eqb u t n) refl
]

-- a turn that has no event
shares_idle : (c : Config) (t u : ℕ) (r : Run) (f : ℕ → ℕ) → has_event c u r.state ≡ false
    → Shares c r t f → Shares c (next c u r) t (λ z. f z + added c t u r z)
shares_idle c t u r f none s =
    subst (λ x. Shares c x t (λ z. f z + added c t u r z)) (sym (idle_next c u r none))
    (shares_same c r t f (λ z. f z + added c t u r z) s
    (λ z. omega (arith, idle_adds c t u r none z)))

and_at : (a : Bool) (x z : ℕ) → bit (a && eqb x z) ≡ cond (eqb x z) (bit a) 0
and_at true x z = elim (cases_Bool (eqb x z)) [ inl e ↦ rw e refl | inr e ↦ rw e refl ]
and_at false x z = elim (cases_Bool (eqb x z)) [ inl e ↦ rw e refl | inr e ↦ rw e refl ]

cond_zero : (b : Bool) (n : ℕ) → n ≡ 0 → cond b n 0 ≡ 0
cond_zero true n e = e
cond_zero false n e = refl

-- the entries of the thread whose event it is
own_items : (c : Config) (order : List HistoryItem) (t : ℕ) (k : Command) (work : ℕ) (v : Verdict)
    (n : Naming) → part t (entries_by c t k work order v ++ starts_by n)
    ≡ told_by (replay c order) t k work v
own_items c order t k work v n =
    part_append t (entries_by c t k work order v) (starts_by n)
    ∙ ap (λ xs. part t (entries_by c t k work order v) ++ xs) (part_starts t n)
    ∙ append-nil (part t (entries_by c t k work order v)) ∙ entries_told c order t k work v

module _ (c : Config) (traces : List (List Command)) (job : IsJob c traces) (rate : ℕ) (planned : IsRate c rate) where
  module _ (r : Run) (kept : Kept c traces r) (counts : RunTallied c rate r) (u : ℕ) (ul : u < c.threads) (going : is_done (local_at c r.state u) ≡ false) where
    abbrev me : LocalState
    me = local_at c r.state u

    abbrev word : ℕ
    word = word_here c traces (laws_of c) job.bounds.config job.plan r kept u ul

    abbrev e : Effect
    e = effect c me.part word

    abbrev now : ℕ
    now = cycle_of (heap_in c r.state Phase)

    abbrev after : Run
    after = new_run c traces (laws_of c) job.bounds.config job.plan r kept u ul

    abbrev entries : List HistoryItem
    entries = entries_by c u (command_of me) me.spent r.order e.verdict

    started : starts_in r.order ≡ now
    started = kept.names.ordered.started

    -- where it is inside its balance is of the present cycle, and it does not go in
    present : is_inside (stand_of c me.part) ≡ true → (balance_in e.entered me.balance).cycle ≡ now
    present is =
        let own = counts.threads u ul in
        ap (λ i. (balance_in i me.balance).cycle) (inside_is_in c me.part word is)
        ∙ ap (λ (b : Balance). b.cycle) (sym own.account)
        ∙ (counts.kept.each u ul).present (own.inside ∙ is) ∙ counts.of.cycle

    has : has_event c u r.state ≡ true
    has = rw (lt-ltb u c.threads ul, going) refl

    adds : (z : ℕ) → bit (is_unit_in c z u r.state) ≡ cond (eqb now z) (bit e.unit) 0
    adds z =
        let unit : is_unit c u r.state ≡ e.unit =
        ap (λ b. cond b (makes_unit c me.part (word_read c r.state me)) false) has
        ∙ ap (makes_unit c me.part) (word_is c traces (laws_of c) job.bounds.config job.plan r kept u ul) in
        ap (λ b. bit (b && eqb now z)) unit ∙ and_at e.unit now z

    abbrev balance_then : Balance
    balance_then = balance_got e (requested_units (command_of me)) (blocks_of c.width (command_of me)) me.balance

    -- its units
    own_units : (f : ℕ → ℕ) → IsShare me.balance.units me.balance f
        → IsShare balance_then.units balance_then (λ z. f z + bit (is_unit_in c z u r.state))
    own_units f s =
        let k : ℕ = blocks_of c.width (command_of me) in
        let b : Balance = balance_in e.entered me.balance in
        subst (λ n. IsShare n balance_then (λ z. f z + bit (is_unit_in c z u r.state)))
        (sym (units_grow e.reply e.unit (requested_units (command_of me)) k b (reply_no_unit c me.part word)))
        (share_more b.units (bit e.unit) now b balance_then f (λ z. f z + bit (is_unit_in c z u r.state))
        (cycle_stays e.reply e.unit (requested_units (command_of me)) k b) (units_went_in e.entered me.balance f s)
        (λ zero z. let no : cond (eqb now z) (bit e.unit) 0 ≡ 0 = cond_zero (eqb now z) (bit e.unit) zero in omega (arith, adds z, no))
        (λ some. (
          present (unit_inside c me.part word (bit_one e.unit (omega (arith, some)))),
          (let one : cond (eqb now now) (bit e.unit) 0 ≡ bit e.unit = cond-true _ _ _ (eq-eqb now now refl) in omega (arith, adds now, one)),
          λ z l. (let no : cond (eqb now z) (bit e.unit) 0 ≡ 0 = cond-false _ _ _ (ne_eqb now z (λ q. omega (arith, q, l))) in omega (arith, adds z, no)),
        )))

    -- what it was given: the blocks of the entry that the order gets and those of its reply
    told_gives : blocks_given c.width (told_by (replay c r.order) u (command_of me) me.spent e.verdict)
        ≡ blocks_given c.width (entries_of u (command_of me) me.spent e.reply)
    told_gives =
        let did = event c traces (laws_of c) job.bounds.config job.plan r kept u ul going in
        let part = new_part c traces (laws_of c) job.bounds.config job.plan r kept u ul in
        let before = entries_of u (command_of me) me.spent (waiting (replay c r.order) me.part) in
        let told = told_by (replay c r.order) u (command_of me) me.spent e.verdict in
        let reply = entries_of u (command_of me) me.spent e.reply in
        let graph = new_graph c traces (laws_of c) job.bounds.config job.plan r kept u ul in
        let pass = new_pass c traces (laws_of c) job.bounds.config job.plan r kept u ul in
        let paid = spent_got e.reply e.unit me.spent in
        let behind = entries_of u (command_of me) paid (waiting graph part) in
        let both : blocks_given c.width (before ++ told) ≡ blocks_given c.width (reply ++ behind) = ap (blocks_given c.width) did.told in
        omega (
          arith,
          both,
          given_append c.width before told,
          given_append c.width reply behind,
          waiting_gives_none c (replay c r.order) (replay c r.order) u me.pass (command_of me) me.part me.spent (kept.locals u ul).stands,
          waiting_gives_none c graph graph u pass (command_of me) part paid did.part,
        )

    own_entries : blocks_given c.width (part u (entries ++ starts_by e.naming))
        ≡ blocks_given c.width (entries_of u (command_of me) me.spent e.reply)
    own_entries =
        ap (blocks_given c.width) (own_items c r.order u (command_of me) me.spent e.verdict e.naming)
        ∙ told_gives

    own_given : IsShare me.balance.given me.balance (given_since c.width u r.order)
        → IsShare balance_then.given balance_then (given_since c.width u after.order)
    own_given s =
        let k : ℕ = blocks_of c.width (command_of me) in
        let b : Balance = balance_in e.entered me.balance in
        let d : ℕ = blocks_given c.width (entries_of u (command_of me) me.spent e.reply) in
        let none = entries_start_none c u (command_of me) me.spent r.order e.verdict in
        subst (λ n. IsShare n balance_then (given_since c.width u after.order))
        (sym (given_grows c.width e.reply e.unit (requested_units (command_of me)) u me.spent (command_of me) b))
        (share_more b.given d now b balance_then (given_since c.width u r.order) (given_since c.width u after.order)
        (cycle_stays e.reply e.unit (requested_units (command_of me)) k b) (given_went_in e.entered me.balance (given_since c.width u r.order) s)
        (λ zero. since_same c.width u r.order entries e.naming none (own_entries ∙ zero))
        (λ some. (
          (let had = reply_gives c.width u me.spent (command_of me) e.reply some in
              present (reply_inside c me.part word had.0 had.1)),
          subst (λ z. given_since c.width u after.order z ≡ given_since c.width u r.order z + d) started
              (since_more c.width u r.order entries e.naming none (starts_in r.order) (omega (arith, started, kept.names.ordered.some)) (omega arith)
              ∙ ap (λ n. given_since c.width u r.order (starts_in r.order) + n) own_entries),
          λ z l. since_late c.width u r.order entries e.naming none z (omega (arith, started, l)),
        )))

    pub own_moves : (f : ℕ → ℕ) → Shares c r u f
        → Shares c after u (λ z. f z + bit (is_unit_in c z u r.state))
    own_moves f s =
        let is : (local_at c after.state u).balance ≡ balance_then =
        ap (λ (l : LocalState). l.balance)
        (local_new c traces (laws_of c) job.bounds.config job.plan r kept u ul going u
        ∙ cond-true _ _ _ (eq-eqb u u refl)) in
        record {
          units = subst (λ (b : Balance). IsShare b.units b (λ z. f z + bit (is_unit_in c z u r.state)))
              (sym is) (own_units f s.units);
          given = subst (λ (b : Balance). IsShare b.given b (given_since c.width u after.order)) (sym is)
              (own_given s.given);
        }

    -- another thread's stay
    pub other_stays : (t : ℕ) → (u ≡ t → ⊥) → (f : ℕ → ℕ) → Shares c r t f → Shares c after t f
    other_stays t ne f s =
        let same : local_at c after.state t ≡ local_at c r.state t =
        local_new c traces (laws_of c) job.bounds.config job.plan r kept u ul going t
        ∙ cond-false _ _ _ (ne_eqb u t ne) in
        let items : part t (entries ++ starts_by e.naming) ≡ [] =
        part_append t entries (starts_by e.naming)
        ∙ ap (λ xs. xs ++ part t (starts_by e.naming)) (entries_away c r.order u (command_of me) me.spent e.verdict t ne)
        ∙ part_starts t e.naming in
        let given = since_same c.width t r.order entries e.naming (entries_start_none c u (command_of me) me.spent r.order e.verdict) (ap (blocks_given c.width) items) in
        record {
          units = subst (λ (l : LocalState). IsShare l.balance.units l.balance f) (sym same) s.units;
          given = subst (λ (l : LocalState). IsShare l.balance.given l.balance (given_since c.width t after.order)) (sym same)
              (share_same _ _ (given_since c.width t r.order) (given_since c.width t after.order) s.given given);
        }

    pub event_shares : (t : ℕ) (f : ℕ → ℕ) → Shares c r t f → Shares c (next c u r) t (λ z. f z + added c t u r z)
    event_shares t f s =
        subst (λ x. Shares c x t (λ z. f z + added c t u r z))
        (sym (next_is c traces (laws_of c) job.bounds.config job.plan r kept u ul going))
        (elim (cases_eq u t) [
          | inl same ↦ subst (λ v. Shares c after v (λ z. f z + added c v u r z)) same
              (shares_same c after u (λ z. f z + bit (is_unit_in c z u r.state)) (λ z. f z + added c u u r z)
              (own_moves f (subst (λ v. Shares c r v f) (sym same) s))
              (λ z. ap (λ n. f z + n) (cond-true _ _ _ (eq-eqb u u refl))))
          | inr ne ↦ shares_same c after t f (λ z. f z + added c t u r z) (other_stays t ne f s)
              (λ z. (let no : added c t u r z ≡ 0 = cond-false _ _ _ (ne_eqb u t ne) in omega (arith, no)))
        ])

  turn_shares : (r : Run) → Kept c traces r → RunTallied c rate r → (t u : ℕ) (f : ℕ → ℕ)
      → Shares c r t f → Shares c (next c u r) t (λ z. f z + added c t u r z)
  turn_shares r kept counts t u f s = elim (cases_lt u c.threads) [
    | inl ul ↦ elim (cases_Bool (is_done (local_at c r.state u))) [
      | inl done ↦ shares_idle c t u r f (rw (lt-ltb u c.threads ul, done) refl) s
      | inr going ↦ event_shares r kept counts u ul going t f s
    ]
    | inr out ↦ shares_idle c t u r f (rw (le-ltb u c.threads out) refl) s
  ]

  turns_share : (ts : List ℕ) (r : Run) → Kept c traces r → RunTallied c rate r → (t : ℕ) (f : ℕ → ℕ)
      → Shares c r t f
      → Shares c (after_turns c r ts) t (λ z. f z + turns_that (is_unit_in c z) c t r ts)
  turns_share [] r kept counts t f s =
      shares_same c r t f (λ z. f z + 0) s (λ z. omega arith)
  turns_share (u ∷ ts) r kept counts t f s =
      shares_same c (after_turns c (next c u r) ts) t
      (λ z. f z + added c t u r z + turns_that (is_unit_in c z) c t (next c u r) ts)
      (λ z. f z + (added c t u r z + turns_that (is_unit_in c z) c t (next c u r) ts))
      (turns_share ts (next c u r) (turn_kept c traces (laws_of c) job r kept u)
      (turn_tallied c traces job rate planned (laws_of c) (tallies_of c) r kept counts u) t
      (λ z. f z + added c t u r z) (turn_shares r kept counts t u f s))
      (λ z. omega arith)

  -- every run
  pub run_shares : (ts : List ℕ) (r : Run) (is : IsRunOf c traces ts r) (t : ℕ) → t < c.threads
      → Shares c r t (λ z. turns_that (is_unit_in c z) c t (opened c is.first) ts)
  run_shares ts r is t tl =
      let start = here c traces job is.first is.opening t tl in
      let none : (z : ℕ) → given_since c.width t (Started ∷ []) z ≡ 0 = λ z. elim (cases_Bool (eqb z 1)) [ inl e ↦ rw e refl | inr e ↦ rw e refl ] in
      subst (λ x. Shares c x t (λ z. turns_that (is_unit_in c z) c t (opened c is.first) ts)) (sym is.turns)
      (shares_same _ _ _ (λ z. 0 + turns_that (is_unit_in c z) c t (opened c is.first) ts) _
      (turns_share ts (opened c is.first) (opening_kept c traces job is.first is.opening)
      (opening_tallied c traces job rate planned is.first is.opening) t (λ z. 0)
      (subst (λ (l : LocalState). IsShare l.balance.units l.balance (λ z. 0)
      × IsShare l.balance.given l.balance (given_since c.width t (Started ∷ []))
      → Shares c (opened c is.first) t (λ z. 0)) start (λ both. record { units = both.0; given = both.1 })
      (record { here = refl; later = λ z l. refl }, record { here = sym (none 1); later = λ z l. none z })))
      (λ z. omega arith))
