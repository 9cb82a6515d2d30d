-- What a thread keeps at the gate on its way in and out.
use Rattle.std.proofs.Common.{◌≡◌, ℕ, ◌+◌, ◌*◌, ◌-◌, ◌<◌, ◌≤◌, true, cond, Option, None, List, [], ◌++◌, append-nil, refl, sym, ap, ◌∙◌, subst, arith}
use Rattle.block_store.specs.declared.Config.{Config}
use Rattle.block_store.specs.declared.PhaseWord.{PhaseWord}
use Rattle.block_store.specs.Counts.{changed}
use Rattle.block_store.specs.Heaps.{Heap, put_at}
use Rattle.block_store.specs.Phases.{inside_of, is_closed, is_sweep, cycle_of}
use Rattle.block_store.specs.Places.{Phase, Cursor, extent}
use Rattle.block_store.proofs.Lemmas.{changed_self, end_more, phase-less}
use Rattle.rate_plan.specs.Rates.{IsAdmitted}
use Rattle.never_heap.specs.Graphs.{Graph}
use Rattle.never_heap.specs.Histories.{HistoryItem}
use Rattle.heap_machine.specs.Gating.{GateOf, Inside}
use Rattle.heap_machine.specs.WorkInHand.{holds_nothing}
use Rattle.heap_machine.specs.PhaseKept.{PhaseKept}
use Rattle.heap_machine.specs.Readings.{IsPhaseWord, IsHeld}
use Rattle.heap_machine.specs.declared.Step.{Step}
use Rattle.heap_machine.specs.declared.pass.Pass.{Pass}
use Rattle.heap_machine.proofs.Lemmas.{gate_leaves, held_put, inside_some, phase_stays}
use Rattle.barrier_steps.specs.Fits.{IsThread}
use Rattle.heap_invariant.specs.name_invariant.Invariant.{Invariant}
use Rattle.heap_invariant.specs.name_invariant.Pictures.{Names, Task, no_task, picture}
use Rattle.sweep_steps.specs.SweepUnits.{unpassed}
use Rattle.heap_system.specs.Parts.{Part, Rest}
use Rattle.heap_system.specs.Locals.{plain, pass_got, entries_of, task, unit_to_come, PartFits, IsRoomy}
use Rattle.heap_system.specs.Pictures.{gating, work_in_hand, waiting}
use Rattle.heap_system.proofs.invariant.SeenAndKept.{stage, stage_of, PartKept, Knows, IsSettled, lead, Seen, EventKept}

pub is_thread : (c : Config) → IsAdmitted c → c.threads ≤ 16 → (t : ℕ) → t < c.threads → IsThread c t
is_thread c plan few t tl = record { few = few; thread = tl; registers = omega (arith, end_more c.width (t + 1) c.threads (omega arith), plan.opens, plan.room) }

-- of a phase word with the cycle and phase of another
pub same_stage : (v w : ℕ) → cycle_of v ≡ cycle_of w → is_sweep v ≡ is_sweep w → stage (cycle_of v) (is_sweep v) ≡ stage (cycle_of w) (is_sweep w)
same_stage v w cycle sweep = λ i. stage (cycle i) (sweep i)

-- the picture of a heap in which the phase word changes, and neither the phase nor the cycle
pub picture_stays : (g : Graph) (order : List HistoryItem) (h : Heap) (ns : Names) (tasks : ℕ → Task) (v : ℕ) → cycle_of v ≡ cycle_of (h Phase) → is_sweep v ≡ is_sweep (h Phase) → picture g order (put_at h Phase v) ns tasks ≡ picture g order h ns tasks
picture_stays g order h ns tasks v cycle sweep = λ i. record (picture g order h ns tasks) { cycle = cycle i; sweep = sweep i }

module _ (c : Config) (s : Seen c) where
  pub phase_is : IsPhaseWord (s.heap Phase)
  phase_is = s.held Phase refl

  -- a cycle has begun
  pub began : 1 ≤ cycle_of (s.heap Phase)
  began = s.kept.ordered.some

  -- what the thread comes to, where it holds nothing and is at nothing
  pub record Comes (q : Pass) (p : Part) : Type 0 where
    pub task : task c p ≡ no_task
    pub holds : work_in_hand c p ≡ holds_nothing
    pub waits : waiting s.graph p ≡ None
    pub part : PartKept c s.graph s.thread q s.command p
    pub fits : PartFits c s.done s.all q p
    pub roomy : IsRoomy s.space p
    pub low : s.spent + unit_to_come c p ≤ s.due
    pub settled : IsSettled s.due s.spent p

  -- an event at the gate that leaves the phase and the cycle, of a thread that holds nothing
  module _ (step : Step) (entered : Option PhaseWord) (p : Part) (comes : Comes (pass_got entered s.thread c.threads s.pass) p) (at : s.tasks s.thread ≡ no_task) (empty : s.holds s.thread ≡ holds_nothing) where
    abbrev q : Pass
    q = pass_got entered s.thread c.threads s.pass

    -- on any heap
    pub quiet_event : (new : Heap) → new Cursor ≡ s.heap Cursor → cycle_of (new Phase) ≡ cycle_of (s.heap Phase) → is_sweep (new Phase) ≡ is_sweep (s.heap Phase) → is_closed (new Phase) ≡ is_closed (s.heap Phase)
        → GateOf c.threads (new Phase) (changed s.gatings s.thread (gating c (pass_got entered s.thread c.threads s.pass) p)) → IsHeld c new → PhaseKept (extent c) new s.holds → Invariant c (picture s.graph s.order new s.names s.tasks)
        → stage (pass_got entered s.thread c.threads s.pass).cycle (pass_got entered s.thread c.threads s.pass).sweep ≤ stage_of s.heap → Knows c new s.names (pass_got entered s.thread c.threads s.pass) p → EventKept c s new (record (plain step) { entered = entered }) None p
    quiet_event new cursor cycle sweep closed gate held rules kept behind knows =
        let on : stage_of new ≡ stage_of s.heap = same_stage (new Phase) (s.heap Phase) cycle sweep in
        let ahead : lead c new ≡ lead c s.heap = λ i. (cycle i - 1) * c.blocks + cond (sweep i) (cursor i - 1) 0 in
        let none : unpassed (work_in_hand c p) ≡ 0 = ap unpassed comes.holds in
        record {
          gate = gate;
          held = held;
          rules = subst (λ hs. PhaseKept (extent c) new hs) (sym (ap (changed s.holds s.thread) comes.holds ∙ changed_self s.holds s.thread holds_nothing empty)) rules;
          kept = subst (λ ts. Invariant c (picture s.graph (s.order ++ ([] ++ [])) new s.names ts)) (sym (ap (changed s.tasks s.thread) comes.task ∙ changed_self s.tasks s.thread no_task at))
              (subst (λ o. Invariant c (picture s.graph o new s.names s.tasks)) (sym (append-nil s.order)) kept);
          unshaded = λ is opened. s.unshaded (sym sweep ∙ is) (sym closed ∙ opened);
          forward = record { stages = omega (arith, on); cursor = λ e is. omega (arith, cursor) };
          behind = omega (arith, on, behind);
          leads = omega (arith, ahead, none, ap unpassed empty);
          part = comes.part;
          knows = knows;
          fits = comes.fits;
          roomy = comes.roomy;
          over = λ r e. absurd cc;
          told = sym (ap (entries_of s.thread s.command s.spent) comes.waits);
          low = comes.low;
          settled = comes.settled;
          exact = λ e. absurd e;
          counted = refl;
          counts = s.count;
        }

    -- one that only looks
    pub look_event : GateOf c.threads (s.heap Phase) (changed s.gatings s.thread (gating c (pass_got entered s.thread c.threads s.pass) p)) → stage (pass_got entered s.thread c.threads s.pass).cycle (pass_got entered s.thread c.threads s.pass).sweep ≤ stage_of s.heap
        → Knows c s.heap s.names (pass_got entered s.thread c.threads s.pass) p → EventKept c s s.heap (record (plain step) { entered = entered }) None p
    look_event gate behind knows = quiet_event s.heap refl refl refl refl gate s.held s.rules s.kept behind knows

    -- one that changes the phase word
    pub gate_event : (v : ℕ) → cycle_of v ≡ cycle_of (s.heap Phase) → is_sweep v ≡ is_sweep (s.heap Phase) → is_closed v ≡ is_closed (s.heap Phase) → IsPhaseWord v → GateOf c.threads v (changed s.gatings s.thread (gating c (pass_got entered s.thread c.threads s.pass) p))
        → stage (pass_got entered s.thread c.threads s.pass).cycle (pass_got entered s.thread c.threads s.pass).sweep ≤ stage_of s.heap → Knows c (put_at s.heap Phase v) s.names (pass_got entered s.thread c.threads s.pass) p → EventKept c s (put_at s.heap Phase v) (record (plain step) { entered = entered }) None p
    gate_event v cycle sweep closed word gate behind knows = quiet_event (put_at s.heap Phase v) refl cycle sweep closed gate (held_put c s.heap Phase v word s.held) (phase_stays (extent c) s.heap s.holds s.rules v cycle sweep)
        (subst (λ x. Invariant c x) (sym (picture_stays s.graph s.order s.heap s.names s.tasks v cycle sweep)) s.kept) behind knows

  -- on the way out
  pub leave_event : (step : Step) (p : Part) → (s.gatings s.thread).stand ≡ Inside → gating c s.pass p ≡ gating c s.pass Rest → Comes s.pass p → s.tasks s.thread ≡ no_task → s.holds s.thread ≡ holds_nothing
      → ((v : ℕ) → cycle_of v ≡ cycle_of (s.heap Phase) → is_sweep v ≡ is_sweep (s.heap Phase) → Knows c (put_at s.heap Phase v) s.names s.pass p) → EventKept c s (put_at s.heap Phase (s.heap Phase - 1)) (plain step) None p
  leave_event step p is out comes at empty knows =
      let some : 1 ≤ inside_of (s.heap Phase) = inside_some c.threads (s.heap Phase) s.gatings s.gate s.thread s.low is in
      let less = phase-less (s.heap Phase) some in
      let inside : inside_of (s.heap Phase - 1) ≡ inside_of (s.heap Phase) - 1 = ap (λ (w : PhaseWord). w.inside) less in
      let cycle : cycle_of (s.heap Phase - 1) ≡ cycle_of (s.heap Phase) = ap (λ (w : PhaseWord). w.cycle) less in
      let sweep : is_sweep (s.heap Phase - 1) ≡ is_sweep (s.heap Phase) = ap (λ (w : PhaseWord). w.sweep) less in
      gate_event step None p comes at empty (s.heap Phase - 1) cycle sweep (ap (λ (w : PhaseWord). w.closed) less)
      (record { inside = omega (arith, inside, phase_is.inside); cycle = omega (arith, cycle, phase_is.cycle) })
      (subst (λ x. GateOf c.threads (s.heap Phase - 1) (changed s.gatings s.thread x)) (sym out) (gate_leaves c.threads (s.heap Phase) s.gatings s.gate s.thread s.low (gating c s.pass Rest) is refl))
      s.behind (knows (s.heap Phase - 1) cycle sweep)

  -- a thread that is inside meets no closed gate
  pub inside_open : (s.gatings s.thread).stand ≡ Inside → is_closed (s.heap Phase) ≡ true → ⊥
  inside_open is closed = let some = inside_some c.threads (s.heap Phase) s.gatings s.gate s.thread s.low is in omega (arith, some, s.gate.alone closed)
