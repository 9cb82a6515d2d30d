-- A thread that builds an object.
use Rattle.std.proofs.Common.{
  ◌≡◌,
  ℕ,
  ◌+◌,
  ◌-◌,
  ◌*◌,
  ◌<◌,
  ◌≤◌,
  ◌&&◌,
  ◌||◌,
  Bool,
  true,
  false,
  cond,
  eqb,
  ltb,
  eqb-true,
  Option,
  Some,
  None,
  List,
  [],
  ◌∷◌,
  ◌++◌,
  length,
  append-nil,
  refl,
  sym,
  ap,
  ◌∙◌,
  subst,
  arith,
  inl,
  inr,
}
use Rattle.std.proofs.lemmas.Bool.{cases_Bool}
use Rattle.block_store.specs.declared.Config.{Config}
use Rattle.block_store.specs.declared.Width.{Width}
use Rattle.block_store.specs.Colours.{is_free, is_grey, black_word}
use Rattle.block_store.specs.Counts.{changed}
use Rattle.block_store.specs.Heaps.{Heap}
use Rattle.block_store.specs.Phases.{is_closed, is_sweep, cycle_of}
use Rattle.block_store.specs.Places.{Phase, Cursor, FreeCount, ColourOf, extent}
use Rattle.block_store.proofs.Lemmas.{free_not_grey, not_grey_black}
use Rattle.never_heap.specs.declared.Reply.{Reply}
use Rattle.never_heap.specs.declared.Reply.TheVariants as replies
use Rattle.never_heap.specs.Graphs.{count_of, next_name}
use Rattle.never_heap.specs.Histories.{Did}
use Rattle.never_heap.specs.Steps.{step, blocks_of}
use Rattle.never_heap.proofs.Lemmas.{blocks_answer, blocks_count}
use Rattle.heap_invariant.specs.graph_relation.Events.{unloaded}
use Rattle.heap_invariant.specs.name_invariant.Building.{Build as Builder}
use Rattle.heap_invariant.specs.name_invariant.Invariant.{Invariant}
use Rattle.heap_invariant.specs.name_invariant.Pictures.{Names, Task, no_task, picture}
use Rattle.heap_machine.specs.Gating.{Gating, GateOf, Inside, is_outside}
use Rattle.heap_machine.specs.WorkInHand.{WorkInHand, holds_nothing}
use Rattle.heap_machine.specs.Operations.{place_of, heap_after}
use Rattle.heap_machine.specs.PhaseKept.{PhaseKept}
use Rattle.heap_machine.specs.Readings.{IsHeld}
use Rattle.heap_machine.proofs.Lemmas.{gate_stays, held_after}
use Rattle.sweep_steps.specs.SweepUnits.{unpassed}
use Rattle.build_steps.specs.declared.rows.BuildRow.{BuildRow}
use Rattle.build_steps.specs.declared.rows.BuildRow.TheVariants.{
  ReadCount,
  Reserve,
  TakeFree,
  Collect,
  PutRest,
  WriteOwner,
  WriteShape,
  WritePayload,
  WriteColour,
  Publish,
  Built,
  Refused,
}
use Rattle.build_steps.specs.LinearizationPoints.{is_counting, is_publishing, is_built, is_refused, decides}
use Rattle.build_steps.specs.Fits.{RowFits, BuildReads}
use Rattle.build_steps.specs.Naming.{IsPictured, build_of, names_made, with_task_build}
use Rattle.build_steps.specs.Rows.{
  BuildState,
  build_got,
  build_in_hand,
  build_over,
  build_reply,
  build_step,
  build_want,
  built_at,
  full_cycle,
  row_in_hand,
  row_reply,
  row_step,
  row_want,
}
use Rattle.build_steps.specs.Standing.{Stands, left_of}
use Rattle.build_steps.proofs.BuildOfState.{holds_build, pictured_stands}
use Rattle.build_steps.proofs.DecidingEvent.{full, published, replies as step_replies}
use Rattle.build_steps.proofs.LinearizationPoints.{decided_after, full_is, refused_after}
use Rattle.build_steps.proofs.ReuseRulesKept.{over_holds_none}
use Rattle.build_steps.proofs.NameRulesKept.{goes_on}
use Rattle.build_steps.proofs.DistinctHeldBlocks.{left_free}
use Rattle.build_steps.proofs.RowsFit.{fits_next}
use Rattle.build_steps.proofs.Parts.{has_blocks}
use Rattle.build_steps.proofs.AllRules.{keeps_phase, phase_stays}
use Rattle.build_steps.proofs.WantedPlaces.{place_fits, stores_held, sum_fits}
use Rattle.heap_system.specs.Parts.{Build}
use Rattle.heap_system.specs.declared.Turn.TheVariants as turns
use Rattle.heap_system.specs.Locals.{
  Verdict,
  Open,
  AsStep,
  Refused as RefusedWith,
  build_verdict,
  build_waits,
  entries_of,
  entry_of,
  if_replied,
  made_got,
  spent_got,
  plain,
  turn_of,
  works,
}
use Rattle.heap_system.specs.Machines.{starts_by}
use Rattle.heap_system.specs.Naming.{Naming, Same, Made, renamed}
use Rattle.heap_system.specs.Pictures.{gating}
use Rattle.heap_system.specs.Units.{turns_black}
use Rattle.heap_system.proofs.accounting.OwedAndPaid.{blocks_object, replied_sum}
use Rattle.heap_system.proofs.step_rows.PartLaws.{AtPart, PartEvent, PartLaws}
use Rattle.heap_system.proofs.step_rows.GatePassage.{inside_open}
use Rattle.heap_system.proofs.invariant.SeenAndKept.{
  EventKept,
  Forward,
  Seen,
  graph_decided,
  items_told,
  lead,
  stage,
  stage_of,
  told_by,
}

-- a builder claims no block of the sweep, and scans none
row_claims : (k : ℕ) (held : List ℕ) (r : BuildRow)
    → ((row_in_hand k held r).found ≡ 0) × (unpassed (row_in_hand k held r) ≡ 0)
row_claims k held (TakeFree u) = (refl, refl)
row_claims k held (Collect a u) = (refl, refl)
row_claims k held (PutRest a) = (refl, refl)
row_claims k held (WriteOwner o) = (refl, refl)
row_claims k held (WriteShape o) = (refl, refl)
row_claims k held (WritePayload o j) = (refl, refl)
row_claims k held (WriteColour o) = (refl, refl)
row_claims k held _ = (refl, refl)

claims : (b : BuildState) → ((build_in_hand b).found ≡ 0) × (unpassed (build_in_hand b) ≡ 0)
claims b = row_claims b.blocks b.held b.row

-- it does not write the cursor
row_cursor : (W : Width) (h : Heap) (b : BuildState) (r : BuildRow)
    → heap_after h (row_want W b r) Cursor ≡ h Cursor
row_cursor W h b (Reserve seen) = elim (cases_Bool (eqb (h FreeCount) seen)) [
  | inl won ↦ rw won refl
  | inr lost ↦ rw lost refl
]
row_cursor W h b ReadCount = refl
row_cursor W h b (TakeFree u) = refl
row_cursor W h b (Collect a u) = refl
row_cursor W h b (PutRest a) = refl
row_cursor W h b (WriteOwner o) = refl
row_cursor W h b (WriteShape o) = refl
row_cursor W h b (WritePayload o j) = refl
row_cursor W h b (WriteColour o) = refl
row_cursor W h b Publish = refl
row_cursor W h b Built = refl
row_cursor W h b Refused = refl

grey_not_black : (v n : ℕ) → (is_grey v && eqb v (black_word n)) ≡ false
grey_not_black v n = elim (cases_Bool (is_grey v)) [
  | inl grey ↦ elim (cases_Bool (eqb v (black_word n))) [
    | inl is ↦ absurd (let z : true ≡ false =
        sym grey ∙ ap is_grey (eqb-true v (black_word n) is) ∙ not_grey_black n in cc)
    | inr other ↦ rw (grey, other) refl
  ]
  | inr other ↦ rw other refl
]

row_blackens : (c : Config) (h : Heap) (b : BuildState) (r : BuildRow)
    → RowFits c b.blocks b.held r
    → ((o : ℕ) → o < length b.held → o < left_of b.blocks r
    → is_free (h (ColourOf (built_at b o))) ≡ true)
    → turns_black (cycle_of (h Phase)) (place_of (row_want c.width b r))
    (h (place_of (row_want c.width b r)))
    (heap_after h (row_want c.width b r) (place_of (row_want c.width b r)))
    ≡ false
row_blackens c h b (WriteColour o) fits free =
    ap (λ g. g && eqb (heap_after h (row_want c.width b (WriteColour o)) (ColourOf (built_at b o)))
    (black_word (cycle_of (h Phase))))
    (free_not_grey (h (ColourOf (built_at b o))) (free o (omega (arith, fits.0, fits.1)) (omega arith)))
row_blackens c h b (Collect a u) fits free =
    grey_not_black (h (ColourOf a)) (cycle_of (h Phase))
row_blackens c h b ReadCount fits free = refl
row_blackens c h b (Reserve seen) fits free = refl
row_blackens c h b (TakeFree u) fits free = refl
row_blackens c h b (PutRest a) fits free = refl
row_blackens c h b (WriteOwner o) fits free = refl
row_blackens c h b (WriteShape o) fits free = refl
row_blackens c h b (WritePayload o j) fits free = refl
row_blackens c h b Publish fits free = refl
row_blackens c h b Built fits free = refl
row_blackens c h b Refused fits free = refl

-- a turn waits where the reservation was lost, and where the last list was empty
row_turn : (b : BuildState) (r : BuildRow) (w : ℕ)
    → turn_of (row_step b r w) ≡ cond (build_waits b.threads r w) turns.Waited turns.Went
row_turn b ReadCount w = elim (cases_Bool (ltb w b.blocks)) [
  | inl is ↦ rw is refl
  | inr is ↦ rw is refl
]
row_turn b (Reserve seen) w = elim (cases_Bool (eqb w seen)) [
  | inl is ↦ rw is refl
  | inr is ↦ rw is refl
]
row_turn b (TakeFree u) w = elim (cases_Bool (eqb w 0)) [
  | inl none ↦ elim (cases_Bool (ltb (u + 1) b.threads)) [
    | inl more ↦ rw (none, more) refl
    | inr last ↦ rw (none, last) refl
  ]
  | inr some ↦ rw some refl
]
row_turn b (Collect a u) w = refl
row_turn b (PutRest a) w = refl
row_turn b (WriteOwner o) w = refl
row_turn b (WriteShape o) w = refl
row_turn b (WritePayload o j) w = refl
row_turn b (WriteColour o) w = refl
row_turn b Publish w = refl
row_turn b Built w = refl
row_turn b Refused w = refl

row_not_built : (r : BuildRow) → build_over r ≡ false → is_built r ≡ false
row_not_built Built e = absurd (let z : true ≡ false = e in cc)
row_not_built _ e = refl

row_not_counting : (r : BuildRow) → is_publishing r ≡ true → is_counting r ≡ false
row_not_counting ReadCount e = absurd (let z : false ≡ true = e in cc)
row_not_counting _ e = refl

either_true : (x : Bool) → (x || true) ≡ true
either_true true = refl
either_true false = refl

pub row_no_reply : (b : BuildState) (r : BuildRow) → build_over r ≡ false → row_reply b r ≡ None
row_no_reply b Built e = absurd (let z : true ≡ false = e in cc)
row_no_reply b Refused e = absurd (let z : true ≡ false = e in cc)
row_no_reply b _ e = refl

module _ (c : Config) (s : Seen c) (b : BuildState) (at : AtPart c s (Build b)) where
  abbrev word : ℕ
  word = s.heap (place_of (build_want (extent c) b))

  abbrev new : Heap
  new = heap_after s.heap (build_want (extent c) b)

  abbrev later : BuildState
  later = build_got (extent c) b word

  pub some : 1 ≤ blocks_of c.width s.command
  some = subst (λ k. 1 ≤ blocks_of c.width k) at.part.command (has_blocks c b at.fits.0)

  pub inside : (s.gatings s.thread).stand ≡ Inside
  inside = ap (λ (x : Gating). x.stand) at.gating

  phase : new Phase ≡ s.heap Phase
  phase = phase_stays c s.heap b

  cursor : new Cursor ≡ s.heap Cursor
  cursor = row_cursor c.width s.heap b b.row

  cycle : cycle_of (s.heap Phase) ≡ b.cycle
  cycle =
      let out : is_outside (s.gatings s.thread).stand ≡ false = ap is_outside inside in
      sym (s.gate.passes s.thread s.low out).0 ∙ ap (λ (x : Gating). x.cycle) at.gating
      ∙ sym at.part.cycle

  own_in_hand : s.holds b.thread ≡ build_in_hand b
  own_in_hand = ap s.holds at.part.thread ∙ at.holds

  pictured : IsPictured c s.graph s.order s.heap s.names s.tasks s.holds b
  pictured = record {
    fits = at.fits.0;
    cycle = cycle;
    reuse = s.rules.reuse;
    work_in_hand = own_in_hand;
    kept = s.kept;
    builds = s.builders;
    build = ap (λ u. (s.tasks u).build) at.part.thread ∙ ap (λ (x : Task). x.build) at.task;
    loading = ap (λ u. (s.tasks u).loading) at.part.thread ∙ ap (λ (x : Task). x.loading) at.task;
    title = λ i. record {
      thread = b.thread;
      serial = (ap (λ u. count_of s.graph u + 1) at.part.thread ∙ sym at.part.serial) i;
    };
  }

  stands : Stands c.width s.heap b
  stands =
      pictured_stands c s.graph s.order s.heap s.names s.tasks s.holds b pictured
      (row_not_built b.row at.part.going)

  pub reads : BuildReads c b word
  reads = s.held (place_of (build_want (extent c) b)) (place_fits c b at.fits.0)

  gate_kept : GateOf c.threads (new Phase)
      (changed s.gatings s.thread (gating c s.pass (Build b)))
  gate_kept =
      subst (λ p. GateOf c.threads p (changed s.gatings s.thread (gating c s.pass (Build b))))
      (sym phase)
      (gate_stays c.threads (s.heap Phase) s.gatings s.gate s.thread s.low
      (gating c s.pass (Build b)) (sym inside) (λ _. (
        sym (ap (λ (x : Gating). x.cycle) at.gating),
        sym (ap (λ (x : Gating). x.sweep) at.gating),
      )))

  words_kept : IsHeld c new
  words_kept = held_after c s.heap (build_want (extent c) b) (stores_held c b at.fits.0) s.held

  rules_kept : (w : WorkInHand) → build_in_hand later ≡ w
      → PhaseKept (extent c) new (changed s.holds s.thread w)
  rules_kept w is =
      subst (λ t. PhaseKept (extent c) new (changed s.holds t w)) at.part.thread
      (subst (λ x. PhaseKept (extent c) new (changed s.holds b.thread x)) is
      (keeps_phase c s.heap s.holds b at.fits.0 cycle stands s.rules own_in_hand))

  -- the thread is then at this build, and scans nothing
  tasks_with : (o : Option Builder) (x : ℕ) → x ≡ 0
      → ◌≡◌ {A = ℕ → Task} (with_task_build s.tasks b.thread o)
      (changed s.tasks s.thread (record { loading = unloaded; build = o; scan = x }))
  tasks_with o x none =
      ap (λ t. with_task_build s.tasks t o) at.part.thread
      ∙ ap (λ (k : Task). changed s.tasks s.thread (record k { build = o })) at.task
      ∙ ap (λ n. changed s.tasks s.thread (record { loading = unloaded; build = o; scan = n }))
      ((claims b).0 ∙ sym none)

  stages_stay : stage_of s.heap ≡ stage_of new
  stages_stay = ap (λ p. stage (cycle_of p) (is_sweep p)) (sym phase)

  forward : Forward s.heap new
  forward = record {
    stages = omega (arith, stages_stay);
    cursor = λ _ _. omega (arith, cursor);
  }

  behind : stage s.pass.cycle s.pass.sweep ≤ stage_of new
  behind = omega (arith, s.behind, stages_stay)

  lead_stays : lead c new ≡ lead c s.heap
  lead_stays = λ i. (cycle_of (phase i) - 1) * c.blocks
      + cond (is_sweep (phase i)) (cursor i - 1) 0

  claims_none : unpassed (s.holds s.thread) ≡ 0
  claims_none = ap unpassed at.holds ∙ (claims b).1

  unshaded_still : (ns : Names) → ns.shaded ≡ s.names.shaded → is_sweep (new Phase) ≡ true
      → is_closed (new Phase) ≡ false → (t : ℕ) → t < c.threads → ns.shaded t ≡ false
  unshaded_still ns same sweep opened t low =
      ap (λ (f : ℕ → Bool). f t) same
      ∙ s.unshaded (ap is_sweep (sym phase) ∙ sweep) (ap is_closed (sym phase) ∙ opened) t low

  -- what its event keeps, by the reply, the verdict and what it changes of the names
  abbrev Event : Option Reply → Verdict → Naming → Type 0
  Event o v m = EventKept c s new
      (record (plain (build_step b word)) { reply = o; verdict = v; naming = m }) None
      (if_replied o (Build later))

  going_on : build_over later.row ≡ false → decides b word ≡ false → Event None Open Same
  going_on going undecided =
      let kept = goes_on c s.bounds s.graph s.order s.heap s.names s.tasks s.holds b pictured
      undecided in
      record {
        gate = gate_kept;
        held = words_kept;
        rules = rules_kept (build_in_hand later) refl;
        kept = subst (λ k. Invariant c k)
            (λ i. picture s.graph (sym (append-nil s.order) i) new s.names
            (tasks_with (build_of c.width later) (build_in_hand later).found (claims later).0 i))
            kept;
        unshaded = unshaded_still s.names refl;
        forward = forward;
        behind = behind;
        leads = omega (arith, lead_stays, claims_none, (claims later).1);
        part = record {
          thread = at.part.thread;
          threads = at.part.threads;
          cycle = at.part.cycle;
          serial = at.part.serial;
          command = at.part.command;
          going = going;
        };
        knows = tt;
        fits = (fits_next c b word at.fits.0 reads, at.fits.1);
        roomy = at.roomy;
        over = λ r e. absurd cc;
        told = refl;
        low = omega (arith, at.pays);
        settled = at.settled;
        exact = λ none. absurd none;
        counted = refl;
        counts = s.count;
      }

  -- with its reply the command is over
  answered : (r : Reply) (v : Verdict) (m : Naming) → build_over later.row ≡ true
      → Invariant c (picture (graph_decided s.graph s.thread s.command v)
      (s.order ++ (items_told s.graph s.thread s.command s.spent v ++ starts_by m)) new
      (renamed s.thread s.graph s.heap m s.names) (changed s.tasks s.thread no_task))
      → (renamed s.thread s.graph s.heap m s.names).shaded ≡ s.names.shaded
      → told_by s.graph s.thread s.command s.spent v
      ≡ entry_of s.thread s.command s.spent r ∷ []
      → made_got s.command (Some r) s.made ≡ count_of (graph_decided s.graph s.thread s.command v) s.thread
      → Event (Some r) v m
  answered r v m over kept shaded told counts = record {
    gate = gate_kept;
    held = words_kept;
    rules = rules_kept holds_nothing (over_holds_none later over);
    kept = kept;
    unshaded = unshaded_still (renamed s.thread s.graph s.heap m s.names) shaded;
    forward = forward;
    behind = behind;
    leads = omega (arith, lead_stays, claims_none);
    part = tt;
    knows = tt;
    fits = tt;
    roomy = tt;
    over = λ r e. refl;
    told = told;
    low = omega arith;
    settled = refl;
    exact = λ _. at.settled;
    counted = ap works told;
    counts = counts;
  }

  -- fewer blocks are Free than it takes
  refused : build_over later.row ≡ true → (is_counting b.row && ltb word b.blocks) ≡ true
      → Event (Some (replies.Full (full_cycle b.cycle)))
      (RefusedWith (replies.Full (full_cycle b.cycle))) Same
  refused over few =
      let r = replies.Full (full_cycle b.cycle) in
      answered r (RefusedWith r) Same over
      (subst (λ k. Invariant c k) (λ i. picture s.graph
      (s.order ++ Did (entry_of (at.part.thread i) (at.part.command i) s.spent r) ∷ []) new s.names
      (tasks_with None 0 refl i))
      (full c s.graph s.order s.heap s.names s.tasks s.holds b pictured s.bounds s.spent few))
      refl refl s.count

  -- the object is published
  made : build_over later.row ≡ true → is_publishing b.row ≡ true
      → Event (Some (step s.graph s.thread s.command).1) AsStep (Made (built_at b))
  made over publishing =
      let there : s.thread < length s.graph.mutators =
      omega (arith, s.kept.follows.shows.sized.threads, s.low) in
      answered (step s.graph s.thread s.command).1 AsStep (Made (built_at b)) over
      (subst (λ k. Invariant c k) (λ i. picture (step s.graph (at.part.thread i) (at.part.command i)).0
      (s.order ++ Did (entry_of (at.part.thread i) (at.part.command i) s.spent
      (step s.graph (at.part.thread i) (at.part.command i)).1) ∷ []) new
      (names_made s.names (next_name s.graph (at.part.thread i)) (built_at b))
      (tasks_with None 0 refl i))
      (published c s.graph s.order s.heap s.names s.tasks s.holds b pictured s.bounds s.spent
      publishing))
      refl refl
      (ap (λ r. made_got s.command (Some r) s.made) (blocks_answer c.width s.graph s.thread s.command some)
      ∙ ap (λ n. s.made + n) (blocks_object c.width s.command some)
      ∙ ap (λ n. n + 1) s.count
      ∙ sym (blocks_count c.width s.graph s.thread s.command some there))

  -- these are the reply of its event, its verdict and what it changes of the names
  event_by : (o : Option Reply) (v : Verdict) (m : Naming) → o ≡ build_reply later
      → v ≡ build_verdict b word → m ≡ cond (is_publishing b.row) (Made (built_at b)) Same
      → Event o v m → PartEvent c s (Build b)
  event_by o v m reply verdict names event =
      subst (λ x. Event (build_reply later) (build_verdict b word) x) names
      (subst (λ x. Event (build_reply later) x m) verdict
      (subst (λ x. Event x v m) reply event))

  over_then : build_over later.row ≡ decides b word
  over_then = decided_after (extent c) b word ∙ ap (λ x. x || decides b word) at.part.going

  if_not_publishing : is_publishing b.row ≡ false → PartEvent c s (Build b)
  if_not_publishing other = elim (cases_Bool (is_counting b.row && ltb word b.blocks)) [
    | inl few ↦
        let r = replies.Full (full_cycle b.cycle) in
        let ends : build_over later.row ≡ true = over_then ∙ rw (other, few) refl in
        event_by (Some r) (RefusedWith r) Same
        (sym (full_is later (refused_after (extent c) b word ∙ ap (λ x. is_refused b.row || x) few
        ∙ either_true (is_refused b.row))))
        (rw few refl) (rw other refl) (refused ends few)
    | inr enough ↦
        let undecided : decides b word ≡ false = rw (other, enough) refl in
        let going : build_over later.row ≡ false = over_then ∙ undecided in
        event_by None Open Same (sym (row_no_reply later later.row going)) (rw (enough, other) refl)
        (rw other refl) (going_on going undecided)
  ]

  if_publishing : is_publishing b.row ≡ true → PartEvent c s (Build b)
  if_publishing publishing =
      let reply = step_replies c s.graph s.order s.heap s.names s.tasks s.holds b pictured word
      publishing in
      let ends : build_over later.row ≡ true = over_then ∙ rw publishing refl in
      event_by (Some (step s.graph s.thread s.command).1) AsStep (Made (built_at b))
      (sym (reply.0
      ∙ (λ i. Some (step s.graph (at.part.thread i) (at.part.command i)).1)))
      (rw (row_not_counting b.row publishing, publishing) refl) (rw publishing refl)
      (made ends publishing)

  pub build_event : PartEvent c s (Build b)
  build_event = elim (cases_Bool (is_publishing b.row)) [
    | inl publishing ↦ if_publishing publishing
    | inr other ↦ if_not_publishing other
  ]

  pub free_still : (o : ℕ) → o < length b.held → o < left_of b.blocks b.row
      → is_free (s.heap (ColourOf (built_at b o))) ≡ true
  free_still o low left =
      left_free c s.heap s.holds b o at.fits.0 s.rules.reuse own_in_hand low left

pub build_laws : (c : Config) (b : BuildState) → PartLaws c (Build b)
build_laws c b = record {
  reads = λ s at. reads c s b at;
  sum = λ s at. sum_fits c b (s.heap (place_of (build_want (extent c) b)));
  event = λ s at some. build_event c s b at;
  stays = λ g new u pass k kept registers count. (
    record {
      thread = kept.thread;
      threads = kept.threads;
      cycle = kept.cycle;
      serial = kept.serial ∙ ap (λ n. n + 1) (sym count);
      command = kept.command;
      going = kept.going;
    },
    refl,
  );
  knows = λ h new ns later pass forward cursor behind rests knows. tt;
  rests = λ s at closed other. absurd (inside_open c s (inside c s b at) closed);
  idle = λ out. absurd (let z : true ≡ false = out in cc);
  empty = λ out. absurd (let z : false ≡ true = out in cc);
  builds = λ done all pass fits. holds_build c b fits.0;
  low = λ done all w pass r fits e. fits.1;
  turn = λ w. row_turn b b.row w;
  black = λ s at. row_blackens c s.heap b b.row at.fits.0.row (free_still c s b at);
  units = λ t k paid w. replied_sum t k paid (build_reply (build_got (extent c) b w));
}
