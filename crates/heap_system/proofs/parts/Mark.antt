-- A thread in a Mark pass.
use Rattle.std.proofs.Common.{◌≡◌, ℕ, ◌+◌, ◌≤◌, Bool, true, false, ◌&&◌, ◌||◌, not, cond, eqb, Some, None, refl, sym, ap, ◌∙◌, subst, arith, inl, inr, eq-eqb, ne_eqb}
use Rattle.std.proofs.lemmas.Bool.{cases_Bool, cases_eq}
use Rattle.block_store.specs.declared.Config.{Config}
use Rattle.block_store.specs.Colours.{is_grey, grey_word, black_word, white_word}
use Rattle.block_store.specs.Counts.{changed}
use Rattle.block_store.specs.Heaps.{Heap, put_at}
use Rattle.block_store.specs.Phases.{bit, is_sweep, cycle_of}
use Rattle.block_store.specs.Places.{Phase, Cursor, ColourOf, extent}
use Rattle.block_store.specs.Widths.{payloads}
use Rattle.block_store.proofs.Lemmas.{not_grey_white}
use Rattle.heap_machine.specs.WorkInHand.{WorkInHand, holds_nothing, grey_held}
use Rattle.heap_machine.specs.Operations.{CompareExchange, place_of, heap_after}
use Rattle.heap_machine.specs.PhaseKept.{PhaseKept}
use Rattle.heap_machine.specs.declared.Step.TheVariants.{Over, Went}
use Rattle.heap_machine.specs.declared.pass.Pass.{Pass}
use Rattle.heap_invariant.specs.name_invariant.Invariant.{Invariant}
use Rattle.heap_invariant.specs.name_invariant.Pictures.{Task, no_task, picture}
use Rattle.grey_steps.specs.declared.rows.GreyRow.{GreyRow}
use Rattle.grey_steps.specs.declared.rows.GreyRow.TheVariants as marks
use Rattle.grey_steps.specs.MarkUnits.{is_blackening, is_shading}
use Rattle.grey_steps.specs.Fits.{GreyFits, GreyReads}
use Rattle.grey_steps.specs.Rows.{GreyState, row_want, grey_want, grey_got, grey_over, grey_step, grey_unit, grey_nothing, grey_in_hand, marking_in_hand}
use Rattle.grey_steps.proofs.MarkUnits.{scan_goes_on, unit_after, unit_grey, unit_once}
use Rattle.grey_steps.proofs.Pictures.{scan_keeps_names}
use Rattle.grey_steps.proofs.RowsFit.{next_fits, place_fits, sum_fits, keeps_words}
use Rattle.grey_steps.proofs.Reuses.{keeps_phase, leaves_phase}
use Rattle.heap_system.specs.declared.Turn.TheVariants as turns
use Rattle.heap_system.specs.Parts.{Mark, Retry, LeaveToChangePhase}
use Rattle.heap_system.specs.Locals.{turn_of, task, spent_got}
use Rattle.heap_system.specs.Units.{blackens}
use Rattle.heap_system.proofs.step_rows.GatePassage.{inside_open}
use Rattle.heap_system.proofs.step_rows.PartLaws.{AtPart, PartLaws}
use Rattle.heap_system.proofs.invariant.SeenAndKept.{Seen, EventKept}
use Rattle.heap_system.proofs.parts.InPass.{not_both, grey_or_black, of_pass, PassEvent, pass_is, pass_kept, stands, units_are}

-- no event of marking writes the cursor
shade_cursor : (h : Heap) (y old v : ℕ)
    → heap_after h (CompareExchange (ColourOf y) old v) Cursor ≡ h Cursor
shade_cursor h y old v = elim (cases_Bool (eqb (h (ColourOf y)) old)) [
  | inl is ↦ rw is refl
  | inr is ↦ rw is refl
]

leaves_cursor : (h : Heap) (t n c : ℕ) (r : GreyRow)
    → heap_after h (row_want t n c r) Cursor ≡ h Cursor
leaves_cursor h t n c (marks.Shade x j y a) = shade_cursor h y (white_word c) (grey_word a)
leaves_cursor h t n c (marks.ShadeStored y a) = shade_cursor h y (white_word c) (grey_word a)
leaves_cursor h t n c _ = refl

-- marking claims nothing
pub no_claim : (m : ℕ) (r : GreyRow)
    → ((grey_in_hand m r).low ≡ 0) × ((grey_in_hand m r).high ≡ 0)
no_claim m (marks.Take u) = (refl, refl)
no_claim m (marks.Pop a) = (refl, refl)
no_claim m (marks.ScanWord x j a) = (refl, refl)
no_claim m (marks.Shade x j y a) = (refl, refl)
no_claim m (marks.Blacken x a) = (refl, refl)
no_claim m (marks.Put a) = (refl, refl)
no_claim m marks.Scanned = (refl, refl)
no_claim m marks.NothingGrey = (refl, refl)
no_claim m (marks.TakeOwn y) = (refl, refl)
no_claim m (marks.ShadeStored y a) = (refl, refl)
no_claim m (marks.PutOwn y a) = (refl, refl)
no_claim m (marks.Shaded y) = (refl, refl)

-- a scan that is over holds nothing
over_nothing : (m : ℕ) (r : GreyRow) → grey_over r ≡ true → is_shading r ≡ false
    → grey_in_hand m r ≡ holds_nothing
over_nothing m marks.Scanned over scan = refl
over_nothing m marks.NothingGrey over scan = refl
over_nothing m (marks.Shaded y) over scan = absurd cc
over_nothing m _ over scan = absurd cc

-- a shade makes white grey
shade_blackens : (h : Heap) (c d y list : ℕ) → (is_grey (h (ColourOf y))
    && eqb (cond (eqb (h (ColourOf y)) (white_word c))
    (put_at h (ColourOf y) (grey_word list)) h (ColourOf y)) (black_word d)) ≡ false
shade_blackens h c d y list = elim (cases_eq (h (ColourOf y)) (white_word c)) [
  | inl e ↦ not_both (is_grey (h (ColourOf y)))
      (eqb (cond (eqb (h (ColourOf y)) (white_word c))
      (put_at h (ColourOf y) (grey_word list)) h (ColourOf y)) (black_word d))
      (λ z. ap is_grey e ∙ not_grey_white c)
  | inr n ↦ rw (ne_eqb (h (ColourOf y)) (white_word c) n) (grey_or_black d (h (ColourOf y)))
]

-- a grey block becomes black at the event that makes the block under scan black
row_blackens : (m : ℕ) (h : Heap) (t n c : ℕ) (r : GreyRow) → c ≡ cycle_of (h Phase)
    → ((x : ℕ) → is_blackening r ≡ true → (grey_in_hand m r).scan ≡ Some x
    → is_grey (h (ColourOf x)) ≡ true)
    → blackens h (row_want t n c r) ≡ is_blackening r
row_blackens m h t n c (marks.Pop list) same grey =
    grey_or_black (cycle_of (h Phase)) (h (ColourOf list))
row_blackens m h t n c (marks.Shade x j y list) same grey =
    shade_blackens h c (cycle_of (h Phase)) y list
row_blackens m h t n c (marks.Blacken x list) same grey = rw (grey x refl refl, eq-eqb x x refl)
    (eq-eqb (black_word c) (black_word (cycle_of (h Phase))) (ap black_word same))
row_blackens m h t n c (marks.ShadeStored y list) same grey =
    shade_blackens h c (cycle_of (h Phase)) y list
row_blackens m h t n c _ same grey = refl

-- the unit of a Mark pass is paid once
units_paid : (a b u : Bool) (paid due : ℕ) → paid + bit (not a) ≤ due → b ≡ (a || u)
    → (a ≡ true → u ≡ false) → spent_got None u paid + bit (not b) ≤ due
units_paid true b true paid due l e once = absurd (let z : true ≡ false = once refl in cc)
units_paid true true false paid due l e once = omega (arith, l)
units_paid true false false paid due l e once = absurd cc
units_paid false true true paid due l e once = omega (arith, l)
units_paid false false true paid due l e once = absurd cc
units_paid false true false paid due l e once = absurd cc
units_paid false false false paid due l e once = omega (arith, l)

module _ (c : Config) (s : Seen c) (m : GreyState) (at : AtPart c s (Mark m)) where
  abbrev read : ℕ
  read = s.heap (place_of (grey_want m))

  abbrev next : GreyState
  next = grey_got (extent c) m read

  abbrev new : Heap
  new = heap_after s.heap (grey_want m)

  fits : GreyFits c m
  fits = at.fits.0

  pub reads : GreyReads c m read
  reads = s.held (place_of (grey_want m)) (place_fits c m fits)

  -- the phase is Mark, in the cycle of the pass
  mark : is_sweep (s.heap Phase) ≡ false
  mark = sym (pass_is c s (Mark m) at refl).1 ∙ at.part.mark

  cycle : cycle_of (s.heap Phase) ≡ m.pass.cycle
  cycle = sym (pass_is c s (Mark m) at refl).0
      ∙ sym (ap (λ (p : Pass). p.cycle) at.part.passes)

  holds : s.holds m.pass.thread ≡ marking_in_hand (extent c) m
  holds = ap s.holds at.part.thread ∙ at.holds

  rules : PhaseKept (extent c) new (changed s.holds s.thread (marking_in_hand (extent c) next))
  rules = subst
      (λ t. PhaseKept (extent c) new (changed s.holds t (marking_in_hand (extent c) next)))
      at.part.thread (keeps_phase c s.heap s.holds m fits mark cycle s.rules holds)

  -- the thread is at this, where it has found x
  abbrev finds : ℕ → Task
  finds x = record no_task { scan = x }

  kept : Invariant c (picture s.graph s.order new s.names
      (changed s.tasks s.thread (finds (marking_in_hand (extent c) next).found)))
  kept =
      let x : ℕ = (marking_in_hand (extent c) next).found in
      let own : s.tasks m.pass.thread ≡ task c (Mark m) = ap s.tasks at.part.thread ∙ at.task in
      subst (λ t. Invariant c (picture s.graph s.order new s.names (changed s.tasks t (finds x))))
      at.part.thread
      (subst (λ (w : Task). Invariant c (picture s.graph s.order new s.names
      (changed s.tasks m.pass.thread w)))
      (ap (λ (w : Task). record w { scan = x }) own)
      (scan_keeps_names c s.graph s.order s.heap s.names s.tasks m fits mark cycle s.holds
      s.rules.grey holds at.part.scans (ap (λ (w : Task). w.scan) own) s.kept))

  phase : new Phase ≡ s.heap Phase
  phase = leaves_phase s.heap m.pass.thread m.pass.threads m.pass.cycle m.row

  cursor : new Cursor ≡ s.heap Cursor
  cursor = leaves_cursor s.heap m.pass.thread m.pass.threads m.pass.cycle m.row

  scan : is_shading next.row ≡ false
  scan = scan_goes_on (payloads c.width) m.pass.threads m.pass.cycle m.row read at.part.scans

  unclaimed : ((s.holds s.thread).low ≡ 0) × ((s.holds s.thread).high ≡ 0)
  unclaimed =
      let none = no_claim (payloads c.width) m.row in (
        ap (λ (w : WorkInHand). w.low) at.holds ∙ none.0,
        ap (λ (w : WorkInHand). w.high) at.holds ∙ none.1,
      )

  pays : spent_got None (is_blackening m.row) s.spent + bit (not (grey_unit next.row)) ≤ s.due
  pays = units_paid (grey_unit m.row) (grey_unit next.row) (is_blackening m.row) s.spent s.due
      at.pays (unit_after (extent c) m read) (unit_once m)

  -- the part goes on
  goes_on : grey_over next.row ≡ false → PassEvent c s new (is_blackening m.row) (Mark next)
  goes_on more = record {
    phase = phase;
    rises = omega (arith, cursor);
    passed = omega (arith, cursor, unclaimed.0, unclaimed.1);
    held = keeps_words c s.heap m fits s.held;
    rules = rules;
    kept = kept;
    inside = refl;
    part = record {
      passes = at.part.passes;
      thread = at.part.thread;
      mark = at.part.mark;
      scans = scan;
      going = more;
    };
    knows = tt;
    fits = (next_fits c m read fits reads, at.fits.1, at.fits.2);
    roomy = tt;
    undecided = refl;
    low = pays;
    settled = tt;
  }

  -- it is over, with nothing in hand
  nothing : grey_over next.row ≡ true → marking_in_hand (extent c) next ≡ holds_nothing
  nothing over = over_nothing (payloads c.width) next.row over scan

  ended_rules : grey_over next.row ≡ true
      → PhaseKept (extent c) new (changed s.holds s.thread holds_nothing)
  ended_rules over = subst (λ (w : WorkInHand). PhaseKept (extent c) new (changed s.holds s.thread w))
      (nothing over) rules

  ended_kept : grey_over next.row ≡ true
      → Invariant c (picture s.graph s.order new s.names (changed s.tasks s.thread no_task))
  ended_kept over = subst
      (λ (w : WorkInHand). Invariant c (picture s.graph s.order new s.names
      (changed s.tasks s.thread (finds w.found))))
      (nothing over) kept

  again : grey_over next.row ≡ true → PassEvent c s new (is_blackening m.row) Retry
  again over = record {
    phase = phase;
    rises = omega (arith, cursor);
    passed = omega (arith, cursor, unclaimed.0, unclaimed.1);
    held = keeps_words c s.heap m fits s.held;
    rules = ended_rules over;
    kept = ended_kept over;
    inside = refl;
    part = tt;
    knows = tt;
    fits = at.fits.1;
    roomy = tt;
    undecided = refl;
    low = omega (arith, pays);
    settled = tt;
  }

  idle : grey_over next.row ≡ true → PassEvent c s new (is_blackening m.row) LeaveToChangePhase
  idle over = record {
    phase = phase;
    rises = omega (arith, cursor);
    passed = omega (arith, cursor, unclaimed.0, unclaimed.1);
    held = keeps_words c s.heap m fits s.held;
    rules = ended_rules over;
    kept = ended_kept over;
    inside = refl;
    part = ap (λ (p : Pass). p.thread) (sym at.part.passes) ∙ at.part.thread;
    knows = λ sweep. absurd (let z : true ≡ false = sym sweep ∙ at.part.mark in cc);
    fits = (at.fits.1, at.fits.2);
    roomy = tt;
    undecided = refl;
    low = omega (arith, pays);
    settled = tt;
  }

  event : (over none : Bool) → grey_over next.row ≡ over → EventKept c s new
      (of_pass (grey_step (extent c) m read) (is_blackening m.row)) None
      (cond over (cond none LeaveToChangePhase Retry) (Mark next))
  event true true is = pass_kept c s (Mark m) at refl new (grey_step (extent c) m read)
      (is_blackening m.row) LeaveToChangePhase (idle is)
  event true false is = pass_kept c s (Mark m) at refl new (grey_step (extent c) m read)
      (is_blackening m.row) Retry (again is)
  event false none is = pass_kept c s (Mark m) at refl new (grey_step (extent c) m read)
      (is_blackening m.row) (Mark next) (goes_on is)

  black : blackens s.heap (grey_want m) ≡ (is_blackening m.row && true)
  black =
      row_blackens (payloads c.width) s.heap m.pass.thread m.pass.threads m.pass.cycle m.row
      (sym cycle)
      (λ x is scan. (unit_grey c s.heap (λ u. grey_held (s.holds u)) m x fits s.rules.grey
      (ap grey_held holds) is scan).0)
      ∙ sym (and_yes (is_blackening m.row))
    where
      and_yes : (b : Bool) → (b && true) ≡ b
      and_yes true = refl
      and_yes false = refl

turns_on : (over : Bool) → turn_of (cond over Over Went) ≡ turns.Went
turns_on true = refl
turns_on false = refl

pub mark_laws : (c : Config) (m : GreyState) → PartLaws c (Mark m)
mark_laws c m = record {
  reads = λ s at. reads c s m at;
  sum = λ s at. sum_fits m (s.heap (place_of (grey_want m)));
  event = λ s at more. (let next = grey_got (extent c) m (s.heap (place_of (grey_want m))) in
      event c s m at (grey_over next.row) (grey_nothing next.row) refl);
  stays = λ g new u pass k kept same count. (kept, refl);
  knows = λ h new ns later pass forward cursor behind closing known. tt;
  rests = λ s at closed outside. absurd (inside_open c s (stands c s (Mark m) at refl) closed);
  idle = λ out. absurd (let z : true ≡ false = out in cc);
  empty = λ out. absurd (let z : false ≡ true = out in cc);
  builds = λ done all pass fits. tt;
  low = λ done all w pass r fits e. absurd cc;
  turn = λ w. turns_on (grey_over (grey_got (extent c) m w).row);
  black = λ s at. black c s m at;
  units = λ t k paid w. units_are paid (is_blackening m.row);
}
