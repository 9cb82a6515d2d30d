-- A thread in a command that allocates nothing.
use Rattle.std.proofs.Common.{◌⊎◌, ◌≡◌, ℕ, ◌+◌, ◌*◌, ◌-◌, ◌<◌, Bool, true, false, cond, eqb, Option, Some, None, is_some, List, [], ◌∷◌, ◌++◌, append-nil, length, refl, sym, ap, ◌∙◌, subst, arith, inl, inr, ne_eqb}
use Rattle.std.proofs.lemmas.Bool.{cases_Bool}
use Rattle.block_store.specs.Widths.{payloads}
use Rattle.block_store.specs.declared.Config.{Config}
use Rattle.block_store.specs.declared.Width.{Width}
use Rattle.block_store.specs.Colours.{is_grey, black_word}
use Rattle.block_store.specs.Counts.{changed}
use Rattle.block_store.specs.Heaps.{Heap}
use Rattle.block_store.specs.Phases.{is_closed, is_sweep, cycle_of}
use Rattle.block_store.specs.Places.{Place, extent, Phase, Cursor, ColourOf}
use Rattle.block_store.proofs.Lemmas.{not_grey_black}
use Rattle.never_heap.specs.declared.Command.{Command}
use Rattle.never_heap.specs.declared.Reply.{Reply}
use Rattle.never_heap.specs.declared.Reply.TheVariants as replies
use Rattle.never_heap.specs.Graphs.{Graph, register_of, count_of}
use Rattle.never_heap.specs.Histories.{HistoryItem, Did}
use Rattle.never_heap.specs.Steps.{step, blocks_of}
use Rattle.never_heap.proofs.Lemmas.{none_make, owes_told, step_counts}
use Rattle.heap_machine.specs.Gating.{Gating, GateOf, is_outside}
use Rattle.heap_machine.specs.WorkInHand.{WorkInHand}
use Rattle.heap_machine.specs.Operations.{place_of, heap_after}
use Rattle.heap_machine.specs.PhaseKept.{PhaseKept}
use Rattle.heap_machine.specs.Sweeping.{SweepInHand}
use Rattle.heap_machine.specs.declared.pass.Pass.{Pass}
use Rattle.heap_machine.proofs.Lemmas.{gate_stays}
use Rattle.heap_invariant.specs.name_invariant.Invariant.{Invariant}
use Rattle.heap_invariant.specs.name_invariant.Pictures.{picture}
use Rattle.heap_invariant.specs.name_invariant.States.{KeptState}
use Rattle.heap_invariant.specs.graph_relation.Events.{Loading, unloaded}
use Rattle.barrier_steps.specs.declared.rows.FieldRow.{FieldRow}
use Rattle.barrier_steps.specs.declared.rows.FieldRow.TheVariants as rows
use Rattle.barrier_steps.specs.declared.rows.FieldStore.{FieldStore}
use Rattle.barrier_steps.specs.declared.rows.FieldStore.TheVariants as stores
use Rattle.barrier_steps.specs.Decided.{field_task, graph_on, order_on}
use Rattle.barrier_steps.specs.Deciding.{is_deciding}
use Rattle.barrier_steps.specs.Fits.{FieldFits, FieldReads}
use Rattle.never_heap.specs.RightWork.{requested_units}
use Rattle.heap_system.proofs.step_rows.IdleLook.{Looks, looks}
use Rattle.barrier_steps.specs.Operands.{to_register, answered_register}
use Rattle.barrier_steps.specs.Projection.{row_loading, loading_of}
use Rattle.barrier_steps.specs.Replies.{due_before, due_at, reply_due, IsKnown, KnownBefore, KnownAt}
use Rattle.barrier_steps.specs.Rows.{FieldState, field_want, field_got, field_reply, field_decided, field_in_hand, field_step, step_of}
use Rattle.barrier_steps.proofs.Decisions.{decided_once, makes_none}
use Rattle.barrier_steps.proofs.RepliesDue.{none_due}
use Rattle.barrier_steps.proofs.FieldRows.{sum_at, field_fits}
use Rattle.barrier_steps.proofs.PhaseRulesKept.{keeps_phase, keeps_words, over_nothing}
use Rattle.barrier_steps.proofs.PhaseRulesKept.{field_phase, field_cursor, row_grey, row_found, row_claims}
use Rattle.barrier_steps.proofs.NameRulesKept.{keeps_names, loaded_solid, due_on, reads_on}
use Rattle.sweep_steps.specs.SweepUnits.{unpassed}
use Rattle.heap_system.specs.Parts.{Part, Access, Leave}
use Rattle.heap_system.specs.declared.Turn.TheVariants as turns
use Rattle.heap_system.specs.Locals.{Verdict, Effect, plain, task, made_got, if_replied, if_decides, turn_of, entry_of, entries_of, works}
use Rattle.heap_system.specs.Pictures.{gating, work_in_hand}
use Rattle.heap_system.specs.Units.{blackens, turns_black}
use Rattle.heap_system.proofs.step_rows.GatePassage.{inside_open}
use Rattle.heap_system.proofs.step_rows.PartLaws.{AtPart, PartLaws}
use Rattle.heap_system.proofs.invariant.SeenAndKept.{stage, stage_of, lead, Seen, EventKept, graph_decided, told_by, items_told}
use Rattle.heap_system.proofs.accounting.OwedAndPaid.{replied_sum}

-- the other threads' rows say the same of a graph in which their registers are the same
store_stays : (g new : Graph) (u : ℕ) (k : Command) (store : FieldStore) → ((q : ℕ) → register_of new u q ≡ register_of g u q) → (KnownBefore g u k store → KnownBefore new u k store) × (due_before new u k store ≡ due_before g u k store)
store_stays g new u k (stores.Pending word value) same = (let s : register_of new u (to_register k) ≡ register_of g u (to_register k) = same (to_register k) in (λ x. x ∙ sym s, rw s refl))
store_stays g new u k _ same = (λ x. x, refl)

row_stays : (g new : Graph) (u : ℕ) (k : Command) (r : FieldRow) → ((q : ℕ) → register_of new u q ≡ register_of g u q) → (KnownAt g u k r → KnownAt new u k r) × (due_at new u k r ≡ due_at g u k r)
row_stays g new u k (rows.LoadOwner word) same = (λ x. x, rw (same (answered_register k)) refl)
row_stays g new u k (rows.Shade r store) same = store_stays g new u k store same
row_stays g new u k (rows.Store store) same = store_stays g new u k store same
row_stays g new u k _ same = (λ x. x, refl)

field_stays : (g new : Graph) (u : ℕ) (f : FieldState) → f.pass.thread ≡ u → ((q : ℕ) → register_of new u q ≡ register_of g u q) → (IsKnown g f → IsKnown new f) × (reply_due new f ≡ reply_due g f)
field_stays g new u f e same = row_stays g new f.pass.thread f.command f.row (subst (λ v. (q : ℕ) → register_of new v q ≡ register_of g v q) (sym e) same)

-- a grey block does not become black
turns_none : (cycle : ℕ) (p : Place) (before after : ℕ) → ((x : ℕ) → p ≡ ColourOf x → is_grey before ≡ true → after ≡ before) → turns_black cycle p before after ≡ false
turns_none cycle (ColourOf x) before after same = elim (cases_Bool (is_grey before)) [
  | inl grey ↦
      let away : eqb after (black_word cycle) ≡ false = ne_eqb after (black_word cycle) (λ e. (let z : true ≡ false = sym grey ∙ ap is_grey (sym (same x refl grey) ∙ e) ∙ not_grey_black cycle in cc)) in
      rw (grey, away) refl
  | inr none ↦ rw none refl
]
turns_none cycle _ before after same = refl

field_blackens : (c : Config) (h : Heap) (f : FieldState) → FieldFits c f → blackens h (field_want (extent c) f) ≡ false
field_blackens c h f fits =
    turns_none (cycle_of (h Phase)) (place_of (field_want (extent c) f)) (h (place_of (field_want (extent c) f))) (heap_after h (field_want (extent c) f) (place_of (field_want (extent c) f)))
    (λ x e grey. subst (λ p. is_grey (h p) ≡ true → heap_after h (field_want (extent c) f) p ≡ h p) (sym e) (row_grey c h x f.pass f.command f.row fits) grey)

-- a row with a reply has nothing loaded, and that reply is due
row_unloads : (c : Config) (k : Command) (r : FieldRow) (y : Reply) → field_reply r ≡ Some y → row_loading (extent c) k r ≡ unloaded
row_unloads c k (rows.Answered reply) y e = refl
row_unloads c k _ y e = absurd cc

row_waits : (g : Graph) (t : ℕ) (k : Command) (r : FieldRow) (y : Reply) → field_reply r ≡ Some y → due_at g t k r ≡ Some y
row_waits g t k (rows.Answered reply) y e = e
row_waits g t k _ y e = absurd cc

-- a deciding row was not decided
undecided : (k : Command) (r : FieldRow) (w : ℕ) → is_deciding k r w ≡ true → field_decided r ≡ false
undecided k r w e = elim (cases_Bool (field_decided r)) [
  | inl d ↦ absurd (let z : true ≡ false = sym e ∙ decided_once k r w d in cc)
  | inr u ↦ u
]

-- the graph and the order after an event that decides as the step answers, or does not
decided_graph : (g : Graph) (t : ℕ) (k : Command) (b : Bool) → cond b (step g t k).0 g ≡ graph_decided g t k (if_decides b)
decided_graph g t k true = refl
decided_graph g t k false = refl

decided_order : (g : Graph) (order : List HistoryItem) (t : ℕ) (k : Command) (paid : ℕ) (b : Bool) → paid ≡ requested_units k → cond b (order ++ Did (entry_of t k (requested_units k) (step g t k).1) ∷ []) order ≡ order ++ (items_told g t k paid (if_decides b) ++ [])
decided_order g order t k paid true none = ap (λ x. order ++ Did (entry_of t k x (step g t k).1) ∷ []) (sym none)
decided_order g order t k paid false none = sym (append-nil order)

-- what is decided is told once
tell : (g : Graph) (t : ℕ) (k : Command) (paid : ℕ) (before : Option Reply) (b : Bool) → (b ≡ true → before ≡ None)
    → entries_of t k paid before ++ told_by g t k paid (if_decides b) ≡ entries_of t k paid (cond b (Some (step g t k).1) before)
tell g t k paid before true none = ap (λ o. entries_of t k paid o ++ entry_of t k paid (step g t k).1 ∷ []) (none refl)
tell g t k paid before false none = append-nil (entries_of t k paid before)

no_works : (g : Graph) (t : ℕ) (k : Command) (paid : ℕ) (b : Bool) → paid ≡ 0 → works (told_by g t k paid (if_decides b)) ≡ 0
no_works g t k paid true z = omega (arith, z)
no_works g t k paid false z = refl

no_work : (t : ℕ) (k : Command) (paid : ℕ) (o : Option Reply) → paid ≡ 0 → works (entries_of t k paid o) ≡ 0
no_work t k paid None z = refl
no_work t k paid (Some r) z = omega (arith, z)

-- nor is any of an entry that is added and logged at once
both_works : (g : Graph) (t : ℕ) (k : Command) (paid : ℕ) (b : Bool) (o : Option Reply) (r : Reply) → b ≡ true → o ≡ Some r → works (told_by g t k paid (if_decides b)) ≡ works (entries_of t k paid o)
both_works g t k paid true (Some y) r decides replies = refl
both_works g t k paid true None r decides replies = absurd cc
both_works g t k paid false o r decides replies = absurd cc

-- a command that makes no object leaves how many there are
counts_on : (w : Width) (g : Graph) (t : ℕ) (k : Command) (b : Bool) → blocks_of w k ≡ 0 → count_of (graph_decided g t k (if_decides b)) t ≡ count_of g t
counts_on w g t k true none = step_counts g t k t (λ _. none_make w k none)
counts_on w g t k false none = refl

made_on : (k : Command) (o : Option Reply) (made : ℕ) → ((n : _) → o ≡ Some (replies.New n) → ⊥) → made_got k o made ≡ made
made_on k (Some (replies.New name)) made never = absurd (never name refl)
made_on k _ made never = refl

turns_in : (o : Option Reply) → turn_of (step_of o) ≡ turns.Went
turns_in None = refl
turns_in (Some r) = refl

module _ (c : Config) (s : Seen c) (f : FieldState) (at : AtPart c s (Access f)) where
  abbrev w : ℕ
  w = s.heap (place_of (field_want (extent c) f))

  abbrev new : Heap
  new = heap_after s.heap (field_want (extent c) f)

  abbrev next : FieldState
  next = field_got (extent c) f w

  abbrev decides : Bool
  decides = is_deciding f.command f.row w

  abbrev verdict : Verdict
  verdict = if_decides decides

  fits : FieldFits c f
  fits = at.fits.0

  task_is : s.tasks f.pass.thread ≡ field_task (extent c) f
  task_is = ap s.tasks at.part.thread ∙ at.task ∙ ap (λ x. record { loading = loading_of (extent c) f; build = None; scan = x }) (row_found c f.pass f.command f.row fits)

  holds_is : s.holds f.pass.thread ≡ field_in_hand (extent c) f
  holds_is = ap s.holds at.part.thread ∙ at.holds

  -- the heap is in the cycle and phase of the pass
  passes : (cycle_of (s.heap Phase) ≡ f.pass.cycle) × (is_sweep (s.heap Phase) ≡ f.pass.sweep)
  passes =
      let word = s.gate.passes s.thread s.low (ap (λ (x : Gating). is_outside x.stand) at.gating) in (
        sym word.0 ∙ ap (λ (x : Gating). x.cycle) at.gating ∙ sym (ap (λ (x : Pass). x.cycle) at.part.passes),
        sym word.1 ∙ ap (λ (x : Gating). x.sweep) at.gating ∙ sym (ap (λ (x : Pass). x.sweep) at.part.passes),
      )

  pub reads : FieldReads c f w
  reads = reads_on c s.graph s.order s.heap s.names s.tasks f fits task_is s.kept s.held at.part.going

  due_is : (reply_due (graph_on s.graph f w) next ≡ cond decides (Some (step s.graph f.pass.thread f.command).1) (reply_due s.graph f)) × IsKnown (graph_on s.graph f w) next
  due_is = due_on c s.graph s.order s.heap s.names s.tasks f fits task_is s.kept at.part.known

  -- all that it is told to make is made
  told_made : s.spent ≡ requested_units s.command
  told_made = at.settled ∙ s.owes ∙ owes_told c.width s.rate s.command at.part.serves

  -- and it is told of none, or looks
  told_or_looks : (s.spent ≡ 0) ⊎ Looks (extent c) f.pass f.command f.row w
  told_or_looks = elim (looks c f.pass f.command f.row w fits.belongs at.part.going) [
    | inl none ↦ inl (told_made ∙ ap requested_units (sym at.part.command) ∙ none)
    | inr look ↦ inr look
  ]

  graph_is : graph_on s.graph f w ≡ graph_decided s.graph s.thread s.command verdict
  graph_is =
      ap (λ t. cond decides (step s.graph t f.command).0 s.graph) at.part.thread
      ∙ ap (λ k. cond decides (step s.graph s.thread k).0 s.graph) at.part.command
      ∙ decided_graph s.graph s.thread s.command decides

  order_is : order_on s.graph s.order f w ≡ s.order ++ (items_told s.graph s.thread s.command s.spent verdict ++ [])
  order_is =
      ap (λ t. cond decides (s.order ++ Did (entry_of t f.command (requested_units f.command) (step s.graph t f.command).1) ∷ []) s.order) at.part.thread
      ∙ ap (λ k. cond decides (s.order ++ Did (entry_of s.thread k (requested_units k) (step s.graph s.thread k).1) ∷ []) s.order) at.part.command
      ∙ decided_order s.graph s.order s.thread s.command s.spent decides told_made

  known_is : IsKnown (graph_decided s.graph s.thread s.command verdict) next
  known_is = subst (λ (g : Graph). IsKnown g next) graph_is due_is.1

  told_is : entries_of s.thread s.command s.spent (reply_due s.graph f) ++ told_by s.graph s.thread s.command s.spent verdict
      ≡ entries_of s.thread s.command s.spent (reply_due (graph_decided s.graph s.thread s.command verdict) next)
  told_is =
      tell s.graph s.thread s.command s.spent (reply_due s.graph f) decides (λ e. (none_due s.graph f.pass.thread f.command f.row (undecided f.command f.row w e)).0)
      ∙ ap (λ k. entries_of s.thread s.command s.spent (cond decides (Some (step s.graph s.thread k).1) (reply_due s.graph f))) (sym at.part.command)
      ∙ ap (λ t. entries_of s.thread s.command s.spent (cond decides (Some (step s.graph t f.command).1) (reply_due s.graph f))) (sym at.part.thread)
      ∙ ap (entries_of s.thread s.command s.spent) (sym due_is.0)
      ∙ ap (λ g. entries_of s.thread s.command s.spent (reply_due g next)) graph_is

  phase_is : new Phase ≡ s.heap Phase
  phase_is = field_phase c s.heap f

  cursor_is : new Cursor ≡ s.heap Cursor
  cursor_is = field_cursor c s.heap f

  stage_is : stage_of new ≡ stage_of s.heap
  stage_is = ap (λ v. stage (cycle_of v) (is_sweep v)) phase_is

  lead_is : lead c new ≡ lead c s.heap
  lead_is = λ i. (cycle_of (phase_is i) - 1) * c.blocks + cond (is_sweep (phase_is i)) (cursor_is i - 1) 0

  none_claimed : unpassed (s.holds s.thread) ≡ 0
  none_claimed = ap unpassed at.holds ∙ ap (λ (x : SweepInHand). x.high - x.low) (row_claims (payloads c.width) f.pass f.row)

  next_fits : FieldFits c next
  next_fits = field_fits c f w fits reads

  names_are : (p : Part) → field_task (extent c) next ≡ task c p
      → Invariant c (picture (graph_decided s.graph s.thread s.command verdict) (s.order ++ (items_told s.graph s.thread s.command s.spent verdict ++ [])) new s.names (changed s.tasks s.thread (task c p)))
  names_are p same = subst (λ (x : KeptState). Invariant c x)
      (λ i. picture (graph_is i) (order_is i) new s.names (changed s.tasks (at.part.thread i) (same i)))
      (keeps_names c s.graph s.order s.heap s.names s.tasks f fits at.part.going passes.1 passes.0 task_is s.kept)

  rules_are : (p : Part) → field_in_hand (extent c) next ≡ work_in_hand c p → PhaseKept (extent c) new (changed s.holds s.thread (work_in_hand c p))
  rules_are p same = subst (λ (hs : ℕ → WorkInHand). PhaseKept (extent c) new hs) (λ i. changed s.holds (at.part.thread i) (same i))
      (keeps_phase c s.heap s.holds f fits reads passes.1 passes.0 (loaded_solid c s.graph s.order s.heap s.names s.tasks f fits task_is s.kept) s.rules holds_is)

  gate_is : GateOf c.threads (new Phase) (changed s.gatings s.thread (gating c s.pass (Access f)))
  gate_is = subst (λ v. GateOf c.threads v (changed s.gatings s.thread (gating c s.pass (Access f)))) (sym phase_is)
      (gate_stays c.threads (s.heap Phase) s.gatings s.gate s.thread s.low (gating c s.pass (Access f)) (sym (ap (λ (x : Gating). x.stand) at.gating))
      (λ out. (sym (ap (λ (x : Gating). x.cycle) at.gating), sym (ap (λ (x : Gating). x.sweep) at.gating))))

  there : s.thread < length s.graph.mutators
  there = subst (λ n. s.thread < n) (sym s.kept.follows.shows.sized.threads) s.low

  -- what is the same whether the command goes on or is over
  module _ (p : Part) (o : Option Reply) (is : field_reply next.row ≡ o) where
    counted_is : works (told_by s.graph s.thread s.command s.spent verdict) ≡ works (entries_of s.thread s.command s.spent o)
    counted_is = elim told_or_looks [
      | inl none ↦ no_works s.graph s.thread s.command s.spent decides none ∙ sym (no_work s.thread s.command s.spent o none)
      | inr look ↦ both_works s.graph s.thread s.command s.spent decides o look.reply look.decides (sym is ∙ look.replied)
    ]

    counts_is : made_got s.command o s.made ≡ count_of (graph_decided s.graph s.thread s.command verdict) s.thread
    counts_is = made_on s.command o s.made (λ n e. makes_none c f.pass f.command f.row w at.part.going n (is ∙ e)) ∙ s.count ∙ sym (counts_on c.width s.graph s.thread s.command decides at.part.serves)

  abbrev effect_at : Option Reply → Effect
  effect_at o = record (plain (field_step (extent c) f w)) { reply = o; verdict = verdict }

  -- the command goes on
  goes_event : field_reply next.row ≡ None → EventKept c s new (effect_at None) (reply_due s.graph f) (Access next)
  goes_event is = record {
    gate = gate_is;
    held = keeps_words c s.heap f fits s.held;
    rules = rules_are (Access next) refl;
    kept = names_are (Access next) (ap (λ x. record { loading = loading_of (extent c) next; build = None; scan = x }) (sym (row_found c next.pass next.command next.row next_fits)));
    unshaded = λ sweep opened. s.unshaded (sym (ap is_sweep phase_is) ∙ sweep) (sym (ap is_closed phase_is) ∙ opened);
    forward = record { stages = omega (arith, stage_is); cursor = λ e sweep. omega (arith, cursor_is) };
    behind = omega (arith, stage_is, s.behind);
    leads =
        let after : unpassed (work_in_hand c (Access next)) ≡ 0 = ap (λ (x : SweepInHand). x.high - x.low) (row_claims (payloads c.width) next.pass next.row) in
        omega (arith, lead_is, none_claimed, after);
    part = record { serves = at.part.serves; passes = at.part.passes; thread = at.part.thread; command = at.part.command; known = known_is; going = is };
    knows = tt;
    fits = (next_fits, at.fits.1);
    roomy = tt;
    over = λ r e. absurd cc;
    told = told_is;
    low = omega (arith, at.settled);
    settled = at.settled;
    exact = λ is. at.settled;
    counted = counted_is (Access next) None is;
    counts = counts_is (Access next) None is;
  }

  -- or is over
  over_event : (r : Reply) → field_reply next.row ≡ Some r → EventKept c s new (effect_at (Some r)) (reply_due s.graph f) Leave
  over_event r is = record {
    gate = gate_is;
    held = keeps_words c s.heap f fits s.held;
    rules = rules_are Leave (over_nothing (payloads c.width) next.pass next.row (ap is_some is));
    kept = names_are Leave (ap (λ (l : Loading). record { loading = l; build = None; scan = 0 }) (row_unloads c f.command next.row r is));
    unshaded = λ sweep opened. s.unshaded (sym (ap is_sweep phase_is) ∙ sweep) (sym (ap is_closed phase_is) ∙ opened);
    forward = record { stages = omega (arith, stage_is); cursor = λ e sweep. omega (arith, cursor_is) };
    behind = omega (arith, stage_is, s.behind);
    leads = omega (arith, lead_is, none_claimed);
    part = tt;
    knows = tt;
    fits = tt;
    roomy = tt;
    over = λ y e. refl;
    told = told_is ∙ ap (entries_of s.thread s.command s.spent) (row_waits (graph_decided s.graph s.thread s.command verdict) f.pass.thread f.command next.row r is);
    low = omega arith;
    settled = refl;
    exact = λ is. at.settled;
    counted = counted_is Leave (Some r) is;
    counts = counts_is Leave (Some r) is;
  }

  pub serve_event : (o : Option Reply) → field_reply next.row ≡ o
      → EventKept c s new (effect_at o) (reply_due s.graph f) (if_replied o (Access next))
  serve_event None is = goes_event is
  serve_event (Some r) is = over_event r is

pub serve_laws : (c : Config) (f : FieldState) → PartLaws c (Access f)
serve_laws c f = record {
  reads = λ s at. reads c s f at;
  sum = λ s at. sum_at c f.pass f.command f.row (s.heap (place_of (field_want (extent c) f)));
  event = λ s at low. serve_event c s f at (field_reply (field_got (extent c) f (s.heap (place_of (field_want (extent c) f)))).row) refl;
  stays = λ g new u pass k kept same count. (let s = field_stays g new u f kept.thread same in (record { serves = kept.serves; passes = kept.passes; thread = kept.thread; command = kept.command; known = s.0 kept.known; going = kept.going }, s.1));
  knows = λ h new ns later pass on cursor behind still is. tt;
  rests = λ s at closed out. absurd (inside_open c s (ap (λ (x : Gating). x.stand) at.gating) closed);
  idle = λ out. absurd cc;
  empty = λ out. absurd cc;
  builds = λ done all pass fits. tt;
  low = λ done all w pass r fits e. fits.1;
  turn = λ w. turns_in (field_reply (field_got (extent c) f w).row);
  black = λ s at. field_blackens c s.heap f at.fits.0;
  units = λ t k paid w. replied_sum t k paid (field_reply (field_got (extent c) f w).row);
}
