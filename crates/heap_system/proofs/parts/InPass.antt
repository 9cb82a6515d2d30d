-- What the events of a pass have in common: they decide nothing, and leave the phase word.
use Rattle.std.proofs.Common.{◌≡◌, ℕ, ◌+◌, ◌-◌, ◌*◌, ◌≤◌, Bool, true, false, ◌&&◌, cond, eqb, eqb-true, None, List, append-nil, refl, sym, ap, ◌∙◌, subst, arith}
use Rattle.block_store.specs.declared.Config.{Config}
use Rattle.block_store.specs.Colours.{is_grey, black_word}
use Rattle.block_store.specs.Counts.{changed}
use Rattle.block_store.specs.Heaps.{Heap}
use Rattle.block_store.specs.Phases.{bit, is_closed, is_sweep, cycle_of}
use Rattle.block_store.specs.Places.{Phase, Cursor, extent}
use Rattle.block_store.proofs.Lemmas.{not_grey_black}
use Rattle.never_heap.specs.Histories.{HistoryItem}
use Rattle.heap_machine.specs.Gating.{Gating, GateOf, Inside, is_outside}
use Rattle.heap_machine.specs.PhaseKept.{PhaseKept}
use Rattle.heap_machine.specs.Readings.{IsHeld}
use Rattle.heap_machine.specs.declared.Step.{Step}
use Rattle.heap_machine.proofs.Lemmas.{gate_stays}
use Rattle.heap_invariant.specs.name_invariant.Invariant.{Invariant}
use Rattle.heap_invariant.specs.name_invariant.Pictures.{picture}
use Rattle.sweep_steps.specs.SweepUnits.{unpassed}
use Rattle.heap_system.specs.Parts.{Part}
use Rattle.heap_system.specs.Locals.{Effect, plain, task, entries_of, spent_got, unit_to_come, PartFits, IsRoomy}
use Rattle.heap_system.specs.Pictures.{gating, stand_of, work_in_hand, waiting}
use Rattle.heap_system.proofs.step_rows.PartLaws.{AtPart}
use Rattle.heap_system.proofs.invariant.SeenAndKept.{stage_of, PartKept, Knows, IsSettled, lead, Seen, EventKept}

-- what excludes the other is never so with it; and no word is grey and black
pub not_both : (a b : Bool) → (b ≡ true → a ≡ false) → (a && b) ≡ false
not_both true true f = absurd (let z : true ≡ false = f refl in cc)
not_both true false f = refl
not_both false b f = refl

pub grey_or_black : (c w : ℕ) → (is_grey w && eqb w (black_word c)) ≡ false
grey_or_black c w = not_both (is_grey w) (eqb w (black_word c))
    (λ e. ap is_grey (eqb-true w (black_word c) e) ∙ not_grey_black c)

-- the effect of an event of a pass
abbrev pub of_pass : Step → Bool → Effect
of_pass step unit = record (plain step) { unit = unit }

-- what such an event does with the heap, and which part comes next
pub record PassEvent (c : Config) (s : Seen c) (new : Heap) (unit : Bool) (next : Part)
    : Type 0 where
  pub phase : new Phase ≡ s.heap Phase
  pub rises : s.heap Cursor ≤ new Cursor
  pub passed : new Cursor + unpassed (s.holds s.thread)
      ≤ s.heap Cursor + unpassed (work_in_hand c next) + bit unit
  pub held : IsHeld c new
  pub rules : PhaseKept (extent c) new (changed s.holds s.thread (work_in_hand c next))
  pub kept : Invariant c (picture s.graph s.order new s.names (changed s.tasks s.thread (task c next)))
  pub inside : stand_of c next ≡ Inside
  pub part : PartKept c s.graph s.thread s.pass s.command next
  pub knows : Knows c new s.names s.pass next
  pub fits : PartFits c s.done s.all s.pass next
  pub roomy : IsRoomy s.space next
  pub undecided : waiting s.graph next ≡ None
  pub low : spent_got None unit s.spent + unit_to_come c next ≤ s.due
  pub settled : IsSettled s.due (spent_got None unit s.spent) next

pub paid_more : (unit : Bool) (paid : ℕ) → spent_got None unit paid ≡ paid + bit unit
paid_more true paid = refl
paid_more false paid = omega arith

module _ (c : Config) (s : Seen c) (p : Part) (at : AtPart c s p)
    (inside : stand_of c p ≡ Inside) where
  pub stands : (s.gatings s.thread).stand ≡ Inside
  stands = ap (λ (g : Gating). g.stand) at.gating ∙ inside

  -- the pass has the phase word's cycle and phase
  pub pass_is : (s.pass.cycle ≡ cycle_of (s.heap Phase)) × (s.pass.sweep ≡ is_sweep (s.heap Phase))
  pass_is =
      let own = s.gate.passes s.thread s.low (ap is_outside stands) in (
        sym (ap (λ (g : Gating). g.cycle) at.gating) ∙ own.0,
        sym (ap (λ (g : Gating). g.sweep) at.gating) ∙ own.1,
      )

  leads_on : (new : Heap) (unit : Bool) (next : Part) → PassEvent c s new unit next
      → lead c new + (s.spent + unpassed (s.holds s.thread))
      ≤ lead c s.heap + (0 + spent_got None unit s.spent + unpassed (work_in_hand c next))
  leads_on new unit next e = subst
      (λ w. (cycle_of w - 1) * c.blocks + cond (is_sweep w) (new Cursor - 1) 0
      + (s.spent + unpassed (s.holds s.thread))
      ≤ lead c s.heap + (0 + spent_got None unit s.spent + unpassed (work_in_hand c next)))
      (sym e.phase) (by (is_sweep (s.heap Phase)))
    where
      by : (b : Bool) → (cycle_of (s.heap Phase) - 1) * c.blocks + cond b (new Cursor - 1) 0
          + (s.spent + unpassed (s.holds s.thread))
          ≤ (cycle_of (s.heap Phase) - 1) * c.blocks + cond b (s.heap Cursor - 1) 0
          + (0 + spent_got None unit s.spent + unpassed (work_in_hand c next))
      by true = omega (arith, e.passed, e.rises, (s.held Cursor refl).0, paid_more unit s.spent)
      by false = omega (arith, e.passed, e.rises, paid_more unit s.spent)

  pub pass_kept : (new : Heap) (step : Step) (unit : Bool) (next : Part)
      → PassEvent c s new unit next → EventKept c s new (of_pass step unit) None next
  pass_kept new step unit next e =
      let same : stage_of new ≡ stage_of s.heap =
      ap (λ w. 2 * cycle_of w + bit (is_sweep w)) e.phase in
      record {
        gate = subst (λ w. GateOf c.threads w (changed s.gatings s.thread (gating c s.pass next)))
            (sym e.phase)
            (gate_stays c.threads (s.heap Phase) s.gatings s.gate s.thread s.low
            (gating c s.pass next) (e.inside ∙ sym stands)
            (λ _. (
              sym (ap (λ (g : Gating). g.cycle) at.gating),
              sym (ap (λ (g : Gating). g.sweep) at.gating),
            )));
        held = e.held;
        rules = e.rules;
        kept = subst (λ (o : List HistoryItem). Invariant c
            (picture s.graph o new s.names (changed s.tasks s.thread (task c next))))
            (sym (append-nil s.order)) e.kept;
        unshaded = λ sweep opened. s.unshaded (ap is_sweep (sym e.phase) ∙ sweep)
            (ap is_closed (sym e.phase) ∙ opened);
        forward = record { stages = omega (arith, same); cursor = λ _ _. e.rises };
        behind = omega (arith, same, s.behind);
        leads = leads_on new unit next e;
        part = e.part;
        knows = e.knows;
        fits = e.fits;
        roomy = e.roomy;
        over = λ r z. absurd cc;
        told = sym (ap (λ o. entries_of s.thread s.command (spent_got None unit s.spent) o)
            e.undecided);
        low = e.low;
        settled = e.settled;
        exact = λ d. absurd d;
        counted = refl;
        counts = s.count;
      }

-- what was paid before an event and at it
pub units_are : (paid : ℕ) (unit : Bool) → 0 + spent_got None unit paid ≡ paid + bit unit
units_are paid unit = omega (arith, paid_more unit paid)
