-- A thread on its way in.
use Rattle.std.proofs.Common.{◌≡◌, ℕ, ◌+◌, ◌-◌, ◌≤◌, ◌<◌, Bool, true, false, cond, eqb, ltb, eqb-true, ltb-true, ltb-false, lt-ltb, Some, None, refl, sym, ap, ◌∙◌, subst, arith, inl, inr}
use Rattle.std.proofs.lemmas.Bool.{cases_Bool, cases_lt}
use Rattle.block_store.specs.declared.Config.{Config}
use Rattle.block_store.specs.declared.PhaseWord.{PhaseWord}
use Rattle.block_store.specs.Counts.{changed}
use Rattle.block_store.specs.Heaps.{Heap, put_at}
use Rattle.block_store.specs.Phases.{phase_of, inside_of, is_closed, is_sweep, cycle_of}
use Rattle.block_store.specs.Places.{Phase, extent}
use Rattle.block_store.proofs.Lemmas.{phase-more}
use Rattle.never_heap.specs.declared.Command.{Command}
use Rattle.never_heap.specs.declared.Command.TheVariants as commands
use Rattle.never_heap.specs.Steps.{blocks_of}
use Rattle.never_heap.proofs.CommandBounds as ranges
use Rattle.never_heap.proofs.Lemmas.{blocks_low}
use Rattle.heap_invariant.specs.graph_relation.Events.{unloaded}
use Rattle.heap_machine.specs.Gates.{gate_step, is_of_pass, is_empty, is_going_in, GateFits, SeenOpen}
use Rattle.heap_machine.specs.Gating.{Gating, GateOf, Outside, Inside}
use Rattle.heap_machine.specs.WorkInHand.{WorkInHand, holds_nothing}
use Rattle.heap_machine.specs.Operations.{Fits, place_of, heap_after}
use Rattle.heap_machine.specs.declared.Step.TheVariants as steps
use Rattle.heap_machine.specs.declared.gate.GateRow.{GateRow}
use Rattle.heap_machine.specs.declared.gate.GateRow.TheVariants as gates
use Rattle.heap_machine.specs.declared.pass.Pass.{Pass}
use Rattle.heap_machine.proofs.Lemmas.{gate_enters, gate_stays, inside_most}
use Rattle.grey_steps.specs.Rows.{scanning}
use Rattle.grey_steps.proofs.RowsFit.{scan_fits}
use Rattle.barrier_steps.specs.Rows.{at_first_row, field_decided, first_row, field_reply, field_in_hand}
use Rattle.barrier_steps.specs.Fits.{IsThread}
use Rattle.barrier_steps.specs.Projection.{loading_of}
use Rattle.barrier_steps.specs.declared.rows.FieldRow.{FieldRow}
use Rattle.barrier_steps.specs.declared.rows.FieldRow.TheVariants as rows
use Rattle.barrier_steps.proofs.Decisions.{first_undecided}
use Rattle.barrier_steps.proofs.RepliesDue.{none_due}
use Rattle.barrier_steps.proofs.FieldRows.{first_fits}
use Rattle.sweep_steps.specs.Rows.{sweeping}
use Rattle.sweep_steps.proofs.RowsFit as sweeping_ranges
use Rattle.build_steps.specs.Rows.{building}
use Rattle.build_steps.proofs.RowsFit as building_ranges
use Rattle.heap_invariant.specs.name_invariant.Pictures.{no_task}
use Rattle.heap_system.specs.Parts.{Part, Enter, Access, Mark, Sweep, Build}
use Rattle.heap_system.specs.declared.Turn.TheVariants as turns
use Rattle.heap_system.specs.Locals.{part_want, plain, pass_by, first_part, task, turn_of, gate_waits, PartFits, PartReads, IsPassAt}
use Rattle.heap_system.specs.Pictures.{gating}
use Rattle.heap_system.specs.Units.{blackens}
use Rattle.heap_system.proofs.step_rows.PartLaws.{AtPart, PartEvent, PartLaws, word_at}
use Rattle.heap_system.proofs.step_rows.GatePassage.{Comes, phase_is, began, look_event, gate_event, is_thread}
use Rattle.heap_system.proofs.accounting.OwedAndPaid.{blocks_object}
use Rattle.heap_system.proofs.invariant.SeenAndKept.{IsEntering, Knows, Seen, EventKept, errand}

-- at the first row of a command nothing is loaded or held
first_unloaded : (c : Config) (q : Pass) (k : Command) → loading_of (extent c) (at_first_row q k) ≡ unloaded
first_unloaded c q (commands.New d f) = refl
first_unloaded c q _ = refl

first_empty : (c : Config) (q : Pass) (k : Command) → field_in_hand (extent c) (at_first_row q k) ≡ holds_nothing
first_empty c q (commands.New d f) = refl
first_empty c q _ = refl

not_over : (r : FieldRow) → field_decided r ≡ false → field_reply r ≡ None
not_over (rows.Answered reply) e = absurd cc
not_over _ e = refl

-- the part of a thread that has entered
pub record Entered (c : Config) (s : Seen c) (q : Pass) (p : Part) : Type 0 where
  pub gates : gating c q p ≡ record { stand = Inside; cycle = q.cycle; sweep = q.sweep }
  pub comes : Comes c s q p
  pub knows : (h : Heap) → Knows c h s.names q p

module _ (c : Config) (s : Seen c) (q : Pass) (own : q.thread ≡ s.thread) (is : IsPassAt c q) (low : s.done < s.all) (pays : s.spent ≤ s.due) where
  sweeps : q.sweep ≡ true → s.spent < s.due → Entered c s q (Sweep (sweeping q.thread q.cycle c.blocks (s.due - s.spent)))
  sweeps sweep more = record {
    gates = refl;
    comes = record {
      task = refl;
      holds = refl;
      waits = refl;
      part = record { thread = own; own = own; cycle = refl; sweep = sweep; going = refl };
      fits = (sweeping_ranges.first_fits c q.thread q.cycle (s.due - s.spent) (omega (arith, own, s.low)) s.bounds.blocks (omega (arith, more)), low, is);
      roomy = tt;
      low = omega (arith, pays);
      settled = omega (arith, pays);
    };
    knows = λ h. tt;
  }

  marks : q.sweep ≡ false → s.spent < s.due → Entered c s q (Mark (scanning q))
  marks mark more = record {
    gates = refl;
    comes = record {
      task = refl;
      holds = refl;
      waits = refl;
      part = record { passes = refl; thread = own; mark = mark; scans = refl; going = refl };
      fits = (scan_fits c q is.1 is.0.few s.bounds.blocks is.0.thread, low, is);
      roomy = tt;
      low = omega (arith, more);
      settled = tt;
    };
    knows = λ h. tt;
  }

  builds : 0 < blocks_of c.width s.command → s.spent ≡ s.due → Entered c s q (Build (building c.width q.thread q.threads q.cycle (s.made + 1) s.command s.space))
  builds some all =
      let small : blocks_of c.width s.command ≤ c.object = blocks_low c s.command s.inside in
      let thread = is_thread c s.plan s.bounds.threads s.thread s.low in
      record {
        gates = refl;
        comes = record {
          task = refl;
          holds = refl;
          waits = refl;
          part = record { thread = own; threads = is.1; cycle = refl; serial = ap (λ n. n + 1) s.count; command = refl; going = refl };
          fits = (subst (λ n. PartFits c s.done s.all q (Build (building c.width q.thread n q.cycle (s.made + 1) s.command s.space))) (sym is.1)
              (subst (λ t. PartFits c s.done s.all q (Build (building c.width t c.threads q.cycle (s.made + 1) s.command s.space))) (sym own) (
                building_ranges.first_fits c s.thread q.cycle (s.made + 1) s.command s.space s.low s.bounds.threads s.bounds.blocks thread.registers (omega (arith, s.few, blocks_object c.width s.command some))
                    (ranges.in_range c s.command s.inside) some (omega (arith, small, s.bounds.object)) (omega (arith, small, s.room)),
                low,
              )));
          roomy = refl;
          low = omega (arith, pays);
          settled = all;
        };
        knows = λ h. tt;
      }

  serves : blocks_of c.width s.command ≡ 0 → s.spent ≡ s.due → Entered c s q (Access (at_first_row q s.command))
  serves none all =
      let first = first_undecided c.width s.command none in
      let due = none_due s.graph q.thread s.command (first_row s.command) first in
      record {
        gates = refl;
        comes = record {
          task = λ i. record no_task { loading = first_unloaded c q s.command i; scan = ap (λ (w : WorkInHand). w.found) (first_empty c q s.command) i };
          holds = first_empty c q s.command;
          waits = due.0;
          part = record { serves = none; passes = refl; thread = own; command = refl; known = due.1; going = not_over (first_row s.command) first };
          fits = (first_fits c q s.command (subst (λ t. IsThread c t) (sym own) (is_thread c s.plan s.bounds.threads s.thread s.low)) is.1 s.bounds.blocks (ranges.in_range c s.command s.inside), low);
          roomy = tt;
          low = omega (arith, pays);
          settled = all;
        };
        knows = λ h. tt;
      }

  owing : (b : Bool) → q.sweep ≡ b → s.spent < s.due → Entered c s q (cond b (Sweep (sweeping q.thread q.cycle c.blocks (s.due - s.spent))) (Mark (scanning q)))
  owing true e more = sweeps e more
  owing false e more = marks e more

  paid : (b : Bool) → ltb 0 (blocks_of c.width s.command) ≡ b → s.spent ≡ s.due → Entered c s q (cond b (Build (building c.width q.thread q.threads q.cycle (s.made + 1) s.command s.space)) (Access (at_first_row q s.command)))
  paid true e all = builds (ltb-true 0 (blocks_of c.width s.command) e) all
  paid false e all = serves (omega (arith, ltb-false 0 (blocks_of c.width s.command) e)) all

  either : (b : Bool) → ltb 0 (s.due - s.spent) ≡ b → Entered c s q (cond b (cond q.sweep (Sweep (sweeping q.thread q.cycle c.blocks (s.due - s.spent))) (Mark (scanning q))) (cond (ltb 0 (blocks_of c.width s.command)) (Build (building c.width q.thread q.threads q.cycle (s.made + 1) s.command s.space)) (Access (at_first_row q s.command))))
  either true e = (let some : 0 < s.due - s.spent = ltb-true 0 (s.due - s.spent) e in owing q.sweep refl (omega (arith, some)))
  either false e = paid (ltb 0 (blocks_of c.width s.command)) refl (elim (cases_lt 0 (s.due - s.spent)) [
    | inl some ↦ absurd (let z : true ≡ false = sym (lt-ltb 0 (s.due - s.spent) some) ∙ e in cc)
    | inr none ↦ omega (arith, none, pays)
  ])

  -- what a thread does in a pass that begins
  pub entered : Entered c s q (first_part c q (errand c s))
  entered = either (ltb 0 (s.due - s.spent)) refl

module _ (c : Config) (s : Seen c) (out : (s.gatings s.thread).stand ≡ Outside) (at : s.tasks s.thread ≡ no_task) (empty : s.holds s.thread ≡ holds_nothing) (low : s.done < s.all) (pays : s.spent ≤ s.due) where
  -- on its way in still
  stays_out : (p : GateRow) → IsEntering p → GateFits p → is_going_in p ≡ true → GateOf c.threads (s.heap Phase) (changed s.gatings s.thread (gating c s.pass (Enter p)))
  stays_out p going fits in_ = gate_stays c.threads (s.heap Phase) s.gatings s.gate s.thread s.low (gating c s.pass (Enter p)) (sym out) (λ e. absurd cc)

  comes_in : (p : GateRow) → IsEntering p → GateFits p → is_going_in p ≡ true → Comes c s s.pass (Enter p)
  comes_in p going fits in_ = record { task = refl; holds = refl; waits = refl; part = going; fits = (fits, in_, low); roomy = tt; low = omega (arith, pays); settled = tt }

  pub looks : PartEvent c s (Enter gates.Look)
  looks = elim (cases_Bool (is_closed (s.heap Phase))) [
    | inl e ↦ rw e (look_event c s steps.Waited _ (Enter gates.Look) (comes_in gates.Look tt tt refl) at empty (stays_out gates.Look tt tt refl) s.behind tt)
    | inr e ↦ rw e (look_event c s steps.Went _ (Enter (gates.Enter (s.heap Phase))) (comes_in (gates.Enter (s.heap Phase)) tt (record { word = phase_is c s; opened = e }) refl) at empty (stays_out (gates.Enter (s.heap Phase)) tt (record { word = phase_is c s; opened = e }) refl) s.behind tt)
  ]

  abbrev pass_seen : ℕ → Pass
  pass_seen seen = pass_by s.thread c.threads (phase_of seen)

  won : (seen : ℕ) → is_closed seen ≡ false → s.heap Phase ≡ seen → EventKept c s (put_at s.heap Phase (seen + 1)) (record (plain steps.Over) { entered = Some (phase_of seen) }) None (first_part c (pass_seen seen) (errand c s))
  won seen opened same =
      let more = phase-more (s.heap Phase) (phase_is c s).inside in
      let cycle : cycle_of (s.heap Phase + 1) ≡ cycle_of (s.heap Phase) = ap (λ (w : PhaseWord). w.cycle) more in
      let sweep : is_sweep (s.heap Phase + 1) ≡ is_sweep (s.heap Phase) = ap (λ (w : PhaseWord). w.sweep) more in
      let inside : inside_of (s.heap Phase + 1) ≡ inside_of (s.heap Phase) + 1 = ap (λ (w : PhaseWord). w.inside) more in
      subst (λ x. EventKept c s (put_at s.heap Phase (x + 1)) (record (plain steps.Over) { entered = Some (phase_of x) }) None (first_part c (pass_seen x) (errand c s))) same
      (let e = entered c s (pass_seen (s.heap Phase)) refl (record { thread = s.low; few = s.bounds.threads; first = began c s; last = omega (arith, s.cycle) }, refl) low pays in
      gate_event c s steps.Over (Some (phase_of (s.heap Phase))) (first_part c (pass_seen (s.heap Phase)) (errand c s)) e.comes at empty (s.heap Phase + 1) cycle sweep (ap (λ (w : PhaseWord). w.closed) more)
      (record { inside = omega (arith, inside, inside_most c.threads (s.heap Phase) s.gatings s.gate, s.bounds.threads); cycle = omega (arith, cycle, (phase_is c s).cycle) })
      (subst (λ x. GateOf c.threads (s.heap Phase + 1) (changed s.gatings s.thread x)) (sym e.gates)
      (gate_enters c.threads (s.heap Phase) s.gatings s.gate s.thread s.low (record { stand = Inside; cycle = cycle_of (s.heap Phase); sweep = is_sweep (s.heap Phase) }) (omega (arith, s.bounds.threads)) (ap is_closed same ∙ opened) out refl refl refl))
      (omega arith) (e.knows (put_at s.heap Phase (s.heap Phase + 1))))

  pub enters : (seen : ℕ) → SeenOpen seen → PartEvent c s (Enter (gates.Enter seen))
  enters seen fits = elim (cases_Bool (eqb (s.heap Phase) seen)) [
    | inl e ↦ rw e (won seen fits.opened (eqb-true (s.heap Phase) seen e))
    | inr e ↦ rw e (look_event c s steps.Waited _ (Enter gates.Look) (comes_in gates.Look tt tt refl) at empty (stays_out gates.Look tt tt refl) s.behind tt)
  ]

event_at : (c : Config) (s : Seen c) (g : GateRow) → AtPart c s (Enter g) → PartEvent c s (Enter g)
event_at c s g at = by g at.part (ap (λ (x : Gating). x.stand) at.gating) at.task at.holds at.fits (omega (arith, at.pays))
  where
    by : (g : GateRow) → IsEntering g → (s.gatings s.thread).stand ≡ Outside → s.tasks s.thread ≡ no_task → s.holds s.thread ≡ holds_nothing → PartFits c s.done s.all s.pass (Enter g) → s.spent ≤ s.due → PartEvent c s (Enter g)
    by gates.Look kept out task empty fits pays = looks c s out task empty fits.2 pays
    by (gates.Enter seen) kept out task empty fits pays = enters c s out task empty fits.2 pays seen fits.0
    by _ kept out task empty fits pays = absurd kept

-- which turns at the gate wait
pub gate_turns : (g : GateRow) (w : ℕ) → turn_of (gate_step g w) ≡ cond (gate_waits g w) turns.Waited turns.Went
gate_turns gates.Look w = elim (cases_Bool (is_closed w)) [ inl e ↦ rw e refl | inr e ↦ rw e refl ]
gate_turns (gates.Enter seen) w = elim (cases_Bool (eqb w seen)) [ inl e ↦ rw e refl | inr e ↦ rw e refl ]
gate_turns (gates.CloseLook p) w = elim (cases_Bool (is_of_pass p w)) [
  | inl of ↦ elim (cases_Bool (is_empty w)) [ inl e ↦ rw (of, e) refl | inr e ↦ rw (of, e) refl ]
  | inr other ↦ rw other refl
]
gate_turns (gates.Close p seen) w = elim (cases_Bool (eqb w seen)) [ inl e ↦ rw e refl | inr e ↦ rw e refl ]
gate_turns _ w = refl

blackens_none : (c : Config) (h : Heap) (g : GateRow) → IsEntering g → blackens h (part_want c (Enter g)) ≡ false
blackens_none c h gates.Look kept = refl
blackens_none c h (gates.Enter seen) kept = refl
blackens_none c h _ kept = absurd kept

reads_at : (c : Config) (s : Seen c) (g : GateRow) → IsEntering g → PartReads c (Enter g) (word_at c s (Enter g))
reads_at c s gates.Look kept = (phase_is c s, began c s)
reads_at c s (gates.Enter seen) kept = (phase_is c s, began c s)
reads_at c s _ kept = absurd kept

sum_at : (c : Config) (h : Heap) (g : GateRow) → IsEntering g → Fits (part_want c (Enter g)) (h (place_of (part_want c (Enter g))))
sum_at c h gates.Look kept = tt
sum_at c h (gates.Enter seen) kept = tt
sum_at c h _ kept = absurd kept

rests_at : (c : Config) (h : Heap) (g : GateRow) → IsEntering g → GateFits g → is_closed (h Phase) ≡ true → heap_after h (part_want c (Enter g)) ≡ h
rests_at c h gates.Look kept fits closed = refl
rests_at c h (gates.Enter seen) kept fits closed = elim (cases_Bool (eqb (h Phase) seen)) [
  | inl e ↦ absurd (let z : true ≡ false = sym closed ∙ ap is_closed (eqb-true (h Phase) seen e) ∙ fits.opened in cc)
  | inr e ↦ rw e refl
]
rests_at c h _ kept fits closed = absurd kept

pub enter_laws : (c : Config) (g : GateRow) → PartLaws c (Enter g)
enter_laws c g = record {
  reads = λ s at. reads_at c s g at.part;
  sum = λ s at. sum_at c s.heap g at.part;
  event = λ s at low. event_at c s g at;
  stays = λ new later u pass k kept same count. (kept, refl);
  knows = λ h new ns later pass on cursor behind still is. tt;
  rests = λ s at closed out. (rests_at c s.heap g at.part at.fits.0 closed, refl);
  idle = λ out. refl;
  empty = λ out. refl;
  builds = λ done all pass fits. tt;
  low = λ done all w pass r fits e. absurd cc;
  turn = λ w. gate_turns g w;
  black = λ s at. blackens_none c s.heap g at.part;
  units = λ t k paid w. omega arith;
}
