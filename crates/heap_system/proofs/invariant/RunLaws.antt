-- The laws, from what every run keeps.
use Rattle.std.proofs.Common.{◌≤◌, ◌≡◌, ℕ, ◌<◌, ◌*◌, true, false, cond, inl, inr, ne_eqb, List, ◌++◌, ◌∷◌, [], append-nil, ap, ◌∙◌, subst, sym, arith, length}
use Rattle.std.proofs.lemmas.Bool.{cases_eq}
use Rattle.block_store.specs.declared.Width.{Width}
use Rattle.block_store.specs.declared.Config.{Config}
use Rattle.never_heap.specs.declared.Command.{Command}
use Rattle.never_heap.specs.declared.Command.TheVariants as commands
use Rattle.never_heap.specs.declared.Reply.{Reply}
use Rattle.never_heap.specs.Histories.{replay, part}
use Rattle.never_heap.specs.Steps.{blocks_of}
use Rattle.never_heap.proofs.Lemmas.{owes_told}
use Rattle.build_steps.proofs.Parts.{has_blocks}
use Rattle.rate_plan.specs.Rates.{IsRate}
use Rattle.rate_plan.proofs.Rates.{one_rate}
use Rattle.heap_machine.specs.WorkInHand.{holds_nothing}
use Rattle.barrier_steps.specs.Rows.{FieldState, field_decided}
use Rattle.barrier_steps.proofs.RepliesDue.{none_due, some_due}
use Rattle.build_steps.specs.Rows.{BuildState}
use Rattle.heap_invariant.specs.name_invariant.Pictures.{no_task}
use Rattle.heap_system.specs.Parts.{Part, Rest, Access, Build, Leave}
use Rattle.never_heap.specs.RightWork.{requested_units, units_owed}
use Rattle.barrier_steps.specs.Operands.{is_idle}
use Rattle.heap_system.proofs.accounting.Balances.{none_spent, all_paid}
use Rattle.heap_system.proofs.accounting.OwedAndPaid.{price_paid}
use Rattle.heap_system.proofs.step_rows.IdleLook.{decided_untold}
use Rattle.heap_system.specs.Locals.{PartFits, task, is_rest, command_of, owed, paid_part, entry_of, entries_of}
use Rattle.heap_system.specs.Machines.{Run, local_at, IsAfterTurns}
use Rattle.heap_system.specs.Units.{IsRight}
use Rattle.heap_system.specs.Pictures.{work_in_hand, waiting}
use Rattle.heap_system.proofs.invariant.Invariant.{Kept}
use Rattle.heap_system.proofs.work.TurnFacts.{rest_is}
use Rattle.heap_system.proofs.invariant.SeenAndKept.{PartKept, RowKept, BuildKept, IsSettled}
use Rattle.heap_system.proofs.invariant.InvariantHolds.{run_kept}
use Rattle.heap_system.proofs.step_rows.LawsOfParts.{laws_of}

-- what is paid for a command of which so many units are made: all of them, but for an idle
paid_but_idle : (w : Width) (rate : ℕ) (k : Command) (spent paid : ℕ) → paid ≡ paid_part (requested_units k) spent
    → spent ≤ units_owed w rate k → paid ≡ cond (is_idle k) 0 spent
paid_but_idle w rate (commands.Idle u) spent paid is low = elim (cases_eq u 0) [
  | inl e ↦ (let all : paid ≡ spent = all_paid u spent paid is e in omega (arith, low))
  | inr ne ↦ is ∙ ap (λ x. cond x spent 0) (ne_eqb u 0 ne)
]
paid_but_idle w rate _ spent paid is low = is

module _ (c : Config) (traces : List (List Command)) (r : Run) (k : Kept c traces r) (t : ℕ) (tl : t < c.threads) where
  -- what is kept of a thread that is at p
  kept_at : (p : Part) → (local_at c r.state t).part ≡ p → PartKept c (replay c r.order) t (local_at c r.state t).pass (command_of (local_at c r.state t)) p
  kept_at p is = subst (λ x. PartKept c (replay c r.order) t (local_at c r.state t).pass (command_of (local_at c r.state t)) x) is (k.locals t tl).stands

  settled_at : (p : Part) → (local_at c r.state t).part ≡ p → IsSettled (owed (local_at c r.state t)) (local_at c r.state t).spent p
  settled_at p is = subst (λ x. IsSettled (owed (local_at c r.state t)) (local_at c r.state t).spent x) is (k.locals t tl).settled

  -- the part of the order
  told_at : (p : Part) → (local_at c r.state t).part ≡ p → part t r.order ≡ (local_at c r.state t).log ++ entries_of t (command_of (local_at c r.state t)) (local_at c r.state t).spent (waiting (replay c r.order) p)
  told_at p is =
      (k.locals t tl).told ∙ ap (λ u. (local_at c r.state t).log ++ entries_of u (command_of (local_at c r.state t)) (local_at c r.state t).spent (waiting (replay c r.order) (local_at c r.state t).part)) (k.locals t tl).thread
      ∙ ap (λ x. (local_at c r.state t).log ++ entries_of t (command_of (local_at c r.state t)) (local_at c r.state t).spent (waiting (replay c r.order) x)) is

  pub rest_told : is_rest (local_at c r.state t).part ≡ true → (part t r.order ≡ (local_at c r.state t).log) × (task c (local_at c r.state t).part ≡ no_task) × (work_in_hand c (local_at c r.state t).part ≡ holds_nothing)
  rest_told e = let is = rest_is (local_at c r.state t).part e in (told_at Rest is ∙ append-nil (local_at c r.state t).log, ap (task c) is, ap (work_in_hand c) is)

  -- a command that has no blocks owes what it is told to make
  owes_none : blocks_of c.width (command_of (local_at c r.state t)) ≡ 0 → owed (local_at c r.state t) ≡ requested_units (command_of (local_at c r.state t))
  owes_none none = owes_told (local_at c r.state t).config.width (local_at c r.state t).rate (command_of (local_at c r.state t)) (ap (λ (x : Config). blocks_of x.width (command_of (local_at c r.state t))) (k.locals t tl).config ∙ none)

  -- a command that is decided and has no reply yet is told of no units, and has made none
  unpaid : (f : FieldState) → (local_at c r.state t).part ≡ Access f → field_decided f.row ≡ true → (local_at c r.state t).spent ≡ 0
  unpaid f is e =
      let row : RowKept c (replay c r.order) t (local_at c r.state t).pass (command_of (local_at c r.state t)) f = kept_at (Access f) is in
      let fits = subst (λ p. PartFits (local_at c r.state t).config (length (local_at c r.state t).log) (length (local_at c r.state t).trace) (local_at c r.state t).pass p) is (k.locals t tl).fits.part in
      let untold : requested_units (command_of (local_at c r.state t)) ≡ 0 = ap requested_units (sym row.command) ∙ decided_untold (local_at c r.state t).config f.pass f.command f.row fits.0.belongs e row.going in
      omega (arith, (k.locals t tl).fits.paid, owes_none row.serves, untold)

  pub decided_told : (f : FieldState) → (local_at c r.state t).part ≡ Access f → field_decided f.row ≡ true → (y : Reply) × (part t r.order ≡ (local_at c r.state t).log ++ entry_of t (command_of (local_at c r.state t)) 0 y ∷ [])
  decided_told f is e =
      let y = some_due (replay c r.order) f.pass.thread f.command f.row e in
      (y.0, told_at (Access f) is ∙ ap (λ o. (local_at c r.state t).log ++ entries_of t (command_of (local_at c r.state t)) (local_at c r.state t).spent o) y.1 ∙ ap (λ n. (local_at c r.state t).log ++ entry_of t (command_of (local_at c r.state t)) n y.0 ∷ []) (unpaid f is e))

  pub undecided_told : (f : FieldState) → (local_at c r.state t).part ≡ Access f → field_decided f.row ≡ false → part t r.order ≡ (local_at c r.state t).log
  undecided_told f is e =
      told_at (Access f) is ∙ ap (λ o. (local_at c r.state t).log ++ entries_of t (command_of (local_at c r.state t)) (local_at c r.state t).spent o) (none_due (replay c r.order) f.pass.thread f.command f.row e).0 ∙ append-nil (local_at c r.state t).log

  pub building_told : (b : BuildState) → (local_at c r.state t).part ≡ Build b → part t r.order ≡ (local_at c r.state t).log
  building_told b is = told_at (Build b) is ∙ append-nil (local_at c r.state t).log

  -- what is said of the units
  pub paid_low : (local_at c r.state t).spent ≤ owed (local_at c r.state t)
  paid_low = omega (arith, (k.locals t tl).fits.paid)

  -- where nothing is made nothing is paid
  abbrev Settled : Type 0
  Settled = ((local_at c r.state t).spent ≡ 0) × ((local_at c r.state t).balance.paid ≡ 0)

  none_paid : (local_at c r.state t).spent ≡ 0 → Settled
  none_paid none = (none, (k.locals t tl).fits.account ∙ ap (paid_part (requested_units (command_of (local_at c r.state t)))) none ∙ none_spent (requested_units (command_of (local_at c r.state t))))

  pub rest_settled : is_rest (local_at c r.state t).part ≡ true → Settled
  rest_settled e = none_paid (settled_at Rest (rest_is (local_at c r.state t).part e))

  pub leave_settled : (local_at c r.state t).part ≡ Leave → Settled
  leave_settled is = none_paid (settled_at Leave is)

  -- what is made is paid, but for an idle
  pub paid_made : (local_at c r.state t).balance.paid ≡ cond (is_idle (command_of (local_at c r.state t))) 0 (local_at c r.state t).spent
  paid_made = paid_but_idle (local_at c r.state t).config.width (local_at c r.state t).rate (command_of (local_at c r.state t)) (local_at c r.state t).spent (local_at c r.state t).balance.paid (k.locals t tl).fits.account paid_low

  pub rate_is : IsRate c (local_at c r.state t).rate
  rate_is = subst (λ x. IsRate x (local_at c r.state t).rate) (k.locals t tl).config (k.locals t tl).fits.rate

  pub build_settled : (b : BuildState) → (local_at c r.state t).part ≡ Build b → (rate : ℕ) → IsRate c rate
      → (0 < blocks_of c.width (command_of (local_at c r.state t)))
      × ((local_at c r.state t).balance.paid ≡ rate * blocks_of c.width (command_of (local_at c r.state t)))
      × ((local_at c r.state t).spent ≡ owed (local_at c r.state t))
  build_settled b is rate planned =
      let row : BuildKept c (replay c r.order) t (local_at c r.state t).pass (command_of (local_at c r.state t)) b = kept_at (Build b) is in
      let fits = subst (λ p. PartFits (local_at c r.state t).config (length (local_at c r.state t).log) (length (local_at c r.state t).trace) (local_at c r.state t).pass p) is (k.locals t tl).fits.part in
      let some : 1 ≤ blocks_of (local_at c r.state t).config.width b.command = has_blocks (local_at c r.state t).config b fits.0 in
      let all : (local_at c r.state t).spent ≡ owed (local_at c r.state t) = settled_at (Build b) is in (
        subst (λ n. 0 < n) (λ i. blocks_of ((k.locals t tl).config i).width (row.command i)) some,
        price_paid (local_at c r.state t) (k.locals t tl).fits all ∙ (λ i. one_rate c (local_at c r.state t).rate rate rate_is planned i * blocks_of ((k.locals t tl).config i).width (command_of (local_at c r.state t))),
        all,
      )

  -- a command that makes no object is done where it has made what it is told of
  pub serve_settled : (f : FieldState) → (local_at c r.state t).part ≡ Access f
      → (blocks_of c.width (command_of (local_at c r.state t)) ≡ 0)
      × ((local_at c r.state t).spent ≡ requested_units (command_of (local_at c r.state t)))
  serve_settled f is =
      let row : RowKept c (replay c r.order) t (local_at c r.state t).pass (command_of (local_at c r.state t)) f = kept_at (Access f) is in
      let all : (local_at c r.state t).spent ≡ owed (local_at c r.state t) = settled_at (Access f) is in
      (row.serves, all ∙ owes_none row.serves)

  pub entries_right : (rate : ℕ) → IsRate c rate → IsRight c.width rate (part t r.order)
  entries_right rate is = subst (λ n. IsRight c.width n (part t r.order)) (one_rate c (local_at c r.state t).rate rate rate_is is) (k.locals t tl).right

-- what is kept of a run that some list of turns makes
pub kept_of : (c : Config) (r : Run) (is : IsAfterTurns c r) → Kept c is.traces r
kept_of c r is = run_kept c is.traces (laws_of c) is.job is.turns r is.by_turns
