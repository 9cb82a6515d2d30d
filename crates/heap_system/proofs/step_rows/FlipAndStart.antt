-- What every list of turns keeps of marking, sweeping and the change between them.
use Rattle.std.proofs.Common.{◌≡◌, ◌≢◌, ℕ, ◌+◌, ◌-◌, ◌<◌, ◌⊎◌, ◌&&◌, true, false, cond, eqb, eqb-true, lt-ltb, List, length, refl, sym, ap, ◌∙◌, subst, arith, inl, inr}
use Rattle.std.proofs.lemmas.Bool.{cases_Bool}
use Rattle.block_store.specs.declared.Config.{Config}
use Rattle.block_store.specs.Colours.{is_free, is_grey, black_word, white_word}
use Rattle.block_store.specs.Phases.{inside_of, is_closed, is_sweep, cycle_of}
use Rattle.block_store.specs.Places.{Phase, GreyList, FreeList, ColourOf}
use Rattle.block_store.specs.Widths.{payloads}
use Rattle.never_heap.specs.declared.Command.{Command}
use Rattle.never_heap.specs.Graphs.{Graph}
use Rattle.never_heap.specs.Histories.{replay}
use Rattle.heap_machine.specs.Gates.{gate_want}
use Rattle.heap_machine.specs.Gating.{Gating, Inside, is_closing, open_word}
use Rattle.heap_machine.specs.Operations.{Exchange, heap_after}
use Rattle.heap_machine.specs.ChangingPhase.{changing_gating}
use Rattle.heap_machine.specs.declared.gate.GateRow.{GateRow}
use Rattle.heap_machine.specs.declared.gate.GateRow.TheVariants as gates
use Rattle.heap_machine.specs.declared.pass.Pass.{Pass}
use Rattle.heap_machine.proofs.Lemmas.{closed_phase, empty_gate, entered_phase, left_phase, none_at_flip, open_parts}
use Rattle.grey_steps.specs.Rows as marking
use Rattle.grey_steps.specs.MarkUnits.{is_putting}
use Rattle.grey_steps.specs.declared.rows.GreyRow.{GreyRow}
use Rattle.grey_steps.specs.declared.rows.GreyRow.TheVariants as greys
use Rattle.grey_steps.proofs.Reuses.{leaves_phase}
use Rattle.barrier_steps.specs.declared.rows.FieldRow.{FieldRow}
use Rattle.barrier_steps.specs.declared.rows.FieldRow.TheVariants as fields
use Rattle.barrier_steps.proofs.PhaseRulesKept.{field_phase}
use Rattle.sweep_steps.specs.Rows as sweeping
use Rattle.sweep_steps.specs.SweepUnits as sweep_ends
use Rattle.sweep_steps.specs.declared.rows.SweepRow.{SweepRow}
use Rattle.sweep_steps.specs.declared.rows.SweepRow.TheVariants as sweeps
use Rattle.sweep_steps.proofs.FreedBlocks.{leaves_others}
use Rattle.build_steps.specs.Rows as building
use Rattle.build_steps.specs.declared.rows.BuildRow.{BuildRow}
use Rattle.build_steps.specs.declared.rows.BuildRow.TheVariants as builds
use Rattle.build_steps.proofs.AllRules.{phase_stays}
use Rattle.heap_invariant.specs.name_invariant.Colouring.{IsShadedRoot}
use Rattle.heap_invariant.specs.name_invariant.Reached.{IsReachedBlock}
use Rattle.heap_invariant.proofs.Lemmas.{flipped_black, started_black}
use Rattle.heap_system.specs.Parts.{Part, Rest, Enter, Access, Mark, Sweep, Build, Retry, LeaveToChangePhase, PhaseChange, Leave}
use Rattle.build_steps.specs.Rows.{BuildState}
use Rattle.heap_system.specs.Locals.{part_want, is_rest, is_done, command_of}
use Rattle.heap_system.specs.Machines.{Run, IsJob, local_at, heap_in, has_event, event_done, turned}
use Rattle.heap_system.specs.Pictures.{work_in_hand, gates_in, work_in_hand_of, kept_state}
use Rattle.heap_system.specs.Rounds.{puts_grey, puts_free, puts_rest, puts_shaded, puts_roots, flips_or_starts, turns_phase}
use Rattle.heap_system.proofs.invariant.Invariant.{Kept}
use Rattle.heap_system.proofs.step_rows.LawsOfParts.{laws_of}
use Rattle.heap_system.proofs.step_rows.PartLaws.{AtPart}
use Rattle.heap_system.proofs.invariant.SeenAndKept.{IsEntering, IsChangingPhase, PartKept, Seen}
use Rattle.heap_system.proofs.invariant.InvariantByTurns.{seen, at_part, heap_new}
use Rattle.heap_system.proofs.parts.ClosedGate.{shut, in_phase, alone, turning, own_cycle, sweep, no_white, all_shaded}

-- Where a thread puts its private list in its own grey list, it knows the list to be empty.
abbrev PutsGrey : Config → ℕ → Part → Type 0
PutsGrey c t p = (part_want c p ≡ Exchange (GreyList t) (work_in_hand c p).list) × ((work_in_hand c p).emptied ≡ true)

grey_row : (w t u n y : ℕ) (r : GreyRow) → u ≡ t → is_putting r ≡ true
    → (marking.row_want u n y r ≡ Exchange (GreyList t) (marking.grey_in_hand w r).list) × ((marking.grey_in_hand w r).emptied ≡ true)
grey_row w t u n y (greys.Put list) own e = (ap (λ v. Exchange (GreyList v) list) own, refl)
grey_row w t u n y (greys.PutOwn x list) own e = (ap (λ v. Exchange (GreyList v) list) own, refl)
grey_row w t u n y _ own e = absurd cc

field_row : (c : Config) (t : ℕ) (p : Pass) (k : Command) (r : FieldRow) → p.thread ≡ t → puts_shaded r ≡ true → PutsGrey c t (Access (record { pass = p; command = k; row = r }))
field_row c t p k (fields.Shade r store) own e = grey_row (payloads c.width) t p.thread p.threads p.cycle r own e
field_row c t p k _ own e = absurd cc

gate_row : (c : Config) (t : ℕ) (q : Pass) (g : GateRow) → IsChangingPhase q g → q.thread ≡ t → puts_roots g ≡ true → PutsGrey c t (PhaseChange g)
gate_row c t q (gates.PutRoots p list) kept own e = (ap (λ v. Exchange (GreyList v) list) (ap (λ (x : Pass). x.thread) kept.0 ∙ own), refl)
gate_row c t q _ kept own e = absurd cc

puts_on_grey : (c : Config) (g : Graph) (t : ℕ) (q : Pass) (k : Command) (p : Part) → PartKept c g t q k p → puts_grey p ≡ true → PutsGrey c t p
puts_on_grey c g t q k (Access f) kept e = field_row c t f.pass f.command f.row kept.thread e
puts_on_grey c g t q k (Mark m) kept e = grey_row (payloads c.width) t m.pass.thread m.pass.threads m.pass.cycle m.row kept.thread e
puts_on_grey c g t q k (PhaseChange a) kept e = gate_row c t q a kept.0 kept.1 e
puts_on_grey c g t q k _ kept e = absurd cc

-- And where it puts its private list in its own free list.
abbrev PutsFree : Config → ℕ → Part → Type 0
PutsFree c t p = (part_want c p ≡ Exchange (FreeList t) (work_in_hand c p).free_list) × ((work_in_hand c p).free_emptied ≡ true)

sweep_row : (t u y : ℕ) (r : SweepRow) → u ≡ t → sweep_ends.is_putting r ≡ true → (sweeping.row_want u y r ≡ Exchange (FreeList t) (sweeping.sweep_in_hand r).free_list) × ((sweeping.sweep_in_hand r).free_emptied ≡ true)
sweep_row t u y (sweeps.PutFree list passed freed) own e = (ap (λ v. Exchange (FreeList v) list) own, refl)
sweep_row t u y _ own e = absurd cc

build_row : (c : Config) (t : ℕ) (b : BuildState) (r : BuildRow) → b.thread ≡ t → puts_rest r ≡ true
    → (building.row_want c.width b r ≡ Exchange (FreeList t) (building.row_in_hand b.blocks b.held r).free_list) × ((building.row_in_hand b.blocks b.held r).free_emptied ≡ true)
build_row c t b (builds.PutRest list) own e = (ap (λ v. Exchange (FreeList v) list) own, refl)
build_row c t b _ own e = absurd cc

puts_on_free : (c : Config) (g : Graph) (t : ℕ) (q : Pass) (k : Command) (p : Part) → PartKept c g t q k p → puts_free p ≡ true → PutsFree c t p
puts_on_free c g t q k (Sweep s) kept e = sweep_row t s.thread s.cycle s.row kept.thread e
puts_on_free c g t q k (Build b) kept e = build_row c t b b.row kept.thread e
puts_on_free c g t q k _ kept e = absurd cc

-- An event that neither flips nor starts leaves the phase and the cycle.
abbrev StaysIn : ℕ → ℕ → Type 0
StaysIn v w = (cycle_of v ≡ cycle_of w) × (is_sweep v ≡ is_sweep w)

same_in : (v w : ℕ) → v ≡ w → StaysIn v w
same_in v w e = (ap cycle_of e, ap is_sweep e)

module _ (c : Config) (s : Seen c) where
  less : (s.gatings s.thread).stand ≡ Inside → StaysIn (s.heap Phase - 1) (s.heap Phase)
  less is = left_phase c.threads (s.heap Phase) s.gatings s.gate s.thread s.low is

  enters : (seen : ℕ) → StaysIn (heap_after s.heap (gate_want c.width (gates.Enter seen)) Phase) (s.heap Phase)
  enters seen = elim (cases_Bool (eqb (s.heap Phase) seen)) [
    | inl e ↦ rw e (subst (λ v. StaysIn (v + 1) (s.heap Phase)) (eqb-true (s.heap Phase) seen e) (entered_phase c.threads (s.heap Phase) s.gatings s.gate (omega (arith, s.bounds.threads))))
    | inr e ↦ rw e (refl, refl)
  ]

  closes : (p : Pass) (seen : ℕ) → AtPart c s (PhaseChange (gates.Close p seen)) → StaysIn (heap_after s.heap (gate_want c.width (gates.Close p seen)) Phase) (s.heap Phase)
  closes p seen at = elim (cases_Bool (eqb (s.heap Phase) seen)) [
    | inl e ↦ rw e (
        let same : s.heap Phase ≡ seen = eqb-true (s.heap Phase) seen e in
        let parts = closed_phase seen (empty_gate seen at.fits.0.1.empty).1 in
        (parts.0 ∙ sym (ap cycle_of same), parts.1 ∙ sym (ap is_sweep same)))
    | inr e ↦ rw e (refl, refl)
  ]

  opens : (p : Pass) → AtPart c s (PhaseChange (gates.Reopen p)) → StaysIn (open_word p.cycle false) (s.heap Phase)
  opens p at =
      let phase = in_phase c s (gates.Reopen p) at refl in
      let parts = open_parts p.cycle false in
      (parts.3 ∙ ap (λ (r : Pass). r.cycle) at.part.0.0 ∙ phase.0, parts.1 ∙ sym at.part.0.1 ∙ phase.1)

  changing_stays : (g : GateRow) → AtPart c s (PhaseChange g) → flips_or_starts g ≡ false → StaysIn (heap_after s.heap (part_want c (PhaseChange g)) Phase) (s.heap Phase)
  changing_stays (gates.CloseLook p) at e = (refl, refl)
  changing_stays (gates.Close p seen) at e = closes p seen at
  changing_stays (gates.CheckList p u) at e = (refl, refl)
  changing_stays (gates.SetCursor p) at e = (refl, refl)
  changing_stays (gates.Reopen p) at e = opens p at
  changing_stays (gates.ShadeRoot p u list) at e = (refl, refl)
  changing_stays (gates.PutRoots p list) at e = (refl, refl)
  changing_stays (gates.Flip p) at e = absurd cc
  changing_stays (gates.Start p) at e = absurd cc
  changing_stays _ at e = absurd at.part.0

  entering_stays : (g : GateRow) → IsEntering g → StaysIn (heap_after s.heap (part_want c (Enter g)) Phase) (s.heap Phase)
  entering_stays gates.Look kept = (refl, refl)
  entering_stays (gates.Enter seen) kept = enters seen
  entering_stays _ kept = absurd kept

  pub part_stays : (p : Part) → AtPart c s p → turns_phase p ≡ false → StaysIn (heap_after s.heap (part_want c p) Phase) (s.heap Phase)
  part_stays Rest at e = (refl, refl)
  part_stays (Enter g) at e = entering_stays g at.part
  part_stays (Access f) at e = same_in _ _ (field_phase c s.heap f)
  part_stays (Mark m) at e = same_in _ _ (leaves_phase s.heap m.pass.thread m.pass.threads m.pass.cycle m.row)
  part_stays (Sweep p) at e = same_in _ _ (leaves_others s.heap p Phase refl)
  part_stays (Build b) at e = same_in _ _ (phase_stays c s.heap b)
  part_stays Retry at e = less (ap (λ (x : Gating). x.stand) at.gating)
  part_stays LeaveToChangePhase at e = less (ap (λ (x : Gating). x.stand) at.gating)
  part_stays (PhaseChange g) at e = changing_stays g at e
  part_stays Leave at e = less (ap (λ (x : Gating). x.stand) at.gating)

module _ (c : Config) (traces : List (List Command)) (job : IsJob c traces) (r : Run) (k : Kept c traces r) (t : ℕ) (tl : t < c.threads) where
  abbrev here : Seen c
  here = seen c traces (laws_of c) job.bounds.config job.plan r k t tl

  -- the thread at its part
  at : (p : Part) → (local_at c r.state t).part ≡ p → AtPart c here p
  at p is = subst (λ x. AtPart c here x) is (at_part c traces (laws_of c) job.bounds.config job.plan r k t tl)

  pub grey_put : puts_grey (local_at c r.state t).part ≡ true
      → (part_want c (local_at c r.state t).part ≡ Exchange (GreyList t) (work_in_hand c (local_at c r.state t).part).list) × (heap_in c r.state (GreyList t) ≡ 0)
  grey_put e = (let p = puts_on_grey c (replay c r.order) t (local_at c r.state t).pass (command_of (local_at c r.state t)) (local_at c r.state t).part (k.locals t tl).stands e in (p.0, k.rules.grey.emptied t tl p.1))

  pub free_put : puts_free (local_at c r.state t).part ≡ true
      → (part_want c (local_at c r.state t).part ≡ Exchange (FreeList t) (work_in_hand c (local_at c r.state t).part).free_list) × (heap_in c r.state (FreeList t) ≡ 0)
  free_put e = (let p = puts_on_free c (replay c r.order) t (local_at c r.state t).pass (command_of (local_at c r.state t)) (local_at c r.state t).part (k.locals t tl).stands e in (p.0, k.rules.reuse.free.emptied t tl p.1))

  -- the heap after its turn
  turned_heap : is_done (local_at c r.state t) ≡ false → heap_in c (turned c t r.state) ≡ heap_after (heap_in c r.state) (part_want c (local_at c r.state t).part)
  turned_heap going =
      let some : has_event c t r.state ≡ true = rw (lt-ltb t c.threads tl, going) refl in
      ap (λ b. heap_in c (cond b (event_done c t r.state) r.state)) some ∙ heap_new c traces (laws_of c) job.bounds.config job.plan r k t tl going

  pub phase_same : turns_phase (local_at c r.state t).part ≡ false
      → (cycle_of (heap_in c (turned c t r.state) Phase) ≡ cycle_of (heap_in c r.state Phase)) × (is_sweep (heap_in c (turned c t r.state) Phase) ≡ is_sweep (heap_in c r.state Phase))
  phase_same e = elim (cases_Bool (is_done (local_at c r.state t))) [
    | inl done ↦
        let none : has_event c t r.state ≡ false = rw (lt-ltb t c.threads tl, done) refl in
        same_in _ _ (ap (λ b. heap_in c (cond b (event_done c t r.state) r.state) Phase) none)
    | inr going ↦ subst (λ h. StaysIn (h Phase) (heap_in c r.state Phase)) (sym (turned_heap going)) (part_stays c here (local_at c r.state t).part (at (local_at c r.state t).part refl) e)
  ]

  -- one that changes the phase
  module _ (g : GateRow) (is : (local_at c r.state t).part ≡ PhaseChange g) where
    turned_over : heap_in c (turned c t r.state) ≡ heap_after (heap_in c r.state) (gate_want c.width g)
    turned_over = turned_heap (ap (λ p. is_rest p && eqb (length (local_at c r.state t).log) (length (local_at c r.state t).trace)) is) ∙ ap (λ p. heap_after (heap_in c r.state) (part_want c p)) is

    pub nobody_inside : is_closing (changing_gating g).stand ≡ true → (is_closed (heap_in c r.state Phase) ≡ true) × (inside_of (heap_in c r.state Phase) ≡ 0)
    nobody_inside closing = (let s = shut c here g (at (PhaseChange g) is) closing in (s.0, s.1))

  module _ (p : Pass) (is : (local_at c r.state t).part ≡ PhaseChange (gates.Flip p)) where
    flips_at : AtPart c here (PhaseChange (gates.Flip p))
    flips_at = at (PhaseChange (gates.Flip p)) is

    phase_at : ((local_at c r.state t).pass.cycle ≡ cycle_of (heap_in c r.state Phase)) × ((local_at c r.state t).pass.sweep ≡ is_sweep (heap_in c r.state Phase))
    phase_at = in_phase c here (gates.Flip p) flips_at refl

    pub flip_mark : is_sweep (heap_in c r.state Phase) ≡ false
    flip_mark = sym phase_at.1 ∙ flips_at.part.0.1

    pub flip_word : heap_in c (turned c t r.state) Phase ≡ open_word (cycle_of (heap_in c r.state Phase)) true
    flip_word = ap (λ h. h Phase) (turned_over (gates.Flip p) is) ∙ ap (λ y. open_word y true) (ap (λ (q : Pass). q.cycle) flips_at.part.0.0 ∙ phase_at.0)

    pub flip_grey : (x : ℕ) → is_grey (heap_in c r.state (ColourOf x)) ≡ false
    flip_grey = none_at_flip c (heap_in c r.state) (gates_in c r.state) (work_in_hand_of c r.state) t k.rules p (turning c here (gates.Flip p) flips_at)

    pub flip_black : (x : ℕ) → IsReachedBlock c (kept_state c r) x → heap_in c r.state (ColourOf x) ≡ black_word (cycle_of (heap_in c r.state Phase))
    flip_black x reached = flipped_black c (kept_state c r) k.names x (flip_mark, alone c here (gates.Flip p) flips_at refl, flip_grey, λ y j black jl. (k.rules.tricolour flip_mark).black y j black jl) reached

  module _ (p : Pass) (is : (local_at c r.state t).part ≡ PhaseChange (gates.Start p)) where
    starts_at : AtPart c here (PhaseChange (gates.Start p))
    starts_at = at (PhaseChange (gates.Start p)) is

    pub start_sweep : is_sweep (heap_in c r.state Phase) ≡ true
    start_sweep = sweep c here p starts_at

    pub start_word : heap_in c (turned c t r.state) Phase ≡ open_word (cycle_of (heap_in c r.state Phase) + 1) false
    start_word = ap (λ h. h Phase) (turned_over (gates.Start p) is) ∙ ap (λ y. open_word (y + 1) false) (own_cycle c here p starts_at)

    pub start_white : (x : ℕ) → heap_in c r.state (ColourOf x) ≢ white_word (cycle_of (heap_in c r.state Phase))
    start_white = no_white c here p starts_at

    pub start_black : (x : ℕ) → is_free (heap_in c r.state (ColourOf x)) ≡ false → (heap_in c r.state (ColourOf x) ≡ black_word (cycle_of (heap_in c r.state Phase))) ⊎ IsShadedRoot c.width c.threads r.names.shaded x
    start_black x solid = started_black c (kept_state c r) k.names x (start_sweep, alone c here (gates.Start p) starts_at refl, start_white, all_shaded c here p starts_at) solid

  changing_alone : (g : GateRow) → (local_at c r.state t).part ≡ PhaseChange g → flips_or_starts g ≡ true → (is_closed (heap_in c r.state Phase) ≡ true) × (inside_of (heap_in c r.state Phase) ≡ 0)
  changing_alone (gates.Flip p) is e = nobody_inside (gates.Flip p) is refl
  changing_alone (gates.Start p) is e = nobody_inside (gates.Start p) is refl
  changing_alone _ is e = absurd cc

  pub turns_alone : turns_phase (local_at c r.state t).part ≡ true → (is_closed (heap_in c r.state Phase) ≡ true) × (inside_of (heap_in c r.state Phase) ≡ 0)
  turns_alone e = by (local_at c r.state t).part refl e
    where
      by : (p : Part) → (local_at c r.state t).part ≡ p → turns_phase p ≡ true → (is_closed (heap_in c r.state Phase) ≡ true) × (inside_of (heap_in c r.state Phase) ≡ 0)
      by (PhaseChange g) is e = changing_alone g is e
      by _ is e = absurd cc
