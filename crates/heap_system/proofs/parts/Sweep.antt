-- A thread in a Sweep pass.
use Rattle.std.proofs.Common.{◌≡◌, ℕ, ◌+◌, ◌-◌, ◌<◌, ◌≤◌, Bool, true, false, ◌&&◌, not, cond, eqb, ltb, is_some, None, refl, sym, ap, ◌∙◌, subst, arith, inl, inr, eq-eqb, eqb-true}
use Rattle.std.proofs.lemmas.Bool.{cases_Bool}
use Rattle.block_store.specs.declared.Config.{Config}
use Rattle.block_store.specs.Colours.{is_free, is_grey, free_word, black_word, white_word}
use Rattle.block_store.specs.Counts.{changed}
use Rattle.block_store.specs.Heaps.{Heap}
use Rattle.block_store.specs.Phases.{bit, cycle_of}
use Rattle.block_store.specs.Places.{Phase, Cursor, ColourOf, extent}
use Rattle.block_store.proofs.Lemmas.{changed_self, free_free, not_free_black}
use Rattle.heap_machine.specs.WorkInHand.{WorkInHand, holds_nothing}
use Rattle.heap_machine.specs.Operations.{place_of, heap_after}
use Rattle.heap_machine.specs.PhaseKept.{PhaseKept}
use Rattle.heap_machine.specs.Readings.{IsHeld}
use Rattle.heap_invariant.specs.name_invariant.Invariant.{Invariant}
use Rattle.heap_invariant.specs.name_invariant.Pictures.{Task, no_task, picture}
use Rattle.sweep_steps.specs.declared.rows.SweepRow.{SweepRow}
use Rattle.sweep_steps.specs.declared.rows.SweepRow.TheVariants as sweeps
use Rattle.sweep_steps.specs.SweepUnits.{row_passes, unpassed}
use Rattle.sweep_steps.specs.Fits.{SweepFits, SweepReads, IsSweeping}
use Rattle.sweep_steps.specs.Rows.{SweepState, row_want, row_got, after_range, next_block, before_free, step_to, sweep_want, sweep_got, sweep_over, sweep_step, sweep_passed, sweep_nothing, sweep_in_hand}
use Rattle.sweep_steps.proofs.Cursor.{both_move, cursor_moves, nothing_behind}
use Rattle.sweep_steps.proofs.FreedBlocks.{keeps_phase, keeps_words, leaves_others}
use Rattle.sweep_steps.proofs.ReuseRulesKept.{over_holds_none}
use Rattle.sweep_steps.proofs.PassedBlocks.{passed_bits, passed_few}
use Rattle.sweep_steps.proofs.Pictures.{keeps_names}
use Rattle.sweep_steps.proofs.RowsFit.{fits_next, place_fits, sum_fits}
use Rattle.heap_system.specs.declared.Turn.TheVariants as turns
use Rattle.heap_system.specs.Parts.{Sweep, Retry, LeaveToChangePhase}
use Rattle.heap_system.specs.Locals.{turn_of, sweep_waits, task, spent_got}
use Rattle.heap_system.specs.Units.{blackens}
use Rattle.heap_system.proofs.step_rows.GatePassage.{inside_open}
use Rattle.heap_system.proofs.step_rows.PartLaws.{AtPart, PartLaws}
use Rattle.heap_system.proofs.invariant.SeenAndKept.{Seen, EventKept}
use Rattle.heap_system.proofs.parts.InPass.{not_both, grey_or_black, of_pass, PassEvent, pass_is, pass_kept, stands, paid_more, units_are}

-- the sweep reads no payload
none_found : (r : SweepRow) → (sweep_in_hand r).found ≡ 0
none_found sweeps.ReadCursor = refl
none_found (sweeps.ClaimRange x high) = refl
none_found (sweeps.PassBlock x high p a f) = refl
none_found (sweeps.TakeFree x high p) = refl
none_found (sweeps.FreeBlock x high p a f) = refl
none_found (sweeps.PutFree a p f) = refl
none_found (sweeps.Credit p f) = refl
none_found (sweeps.Swept p f) = refl
none_found sweeps.NothingLeft = refl

-- a part that goes on has not found nothing
still_some : (r : SweepRow) → sweep_over r ≡ false → sweep_nothing r ≡ false
still_some sweeps.NothingLeft more = absurd cc
still_some sweeps.ReadCursor more = refl
still_some (sweeps.ClaimRange x high) more = refl
still_some (sweeps.PassBlock x high p a f) more = refl
still_some (sweeps.TakeFree x high p) more = refl
still_some (sweeps.FreeBlock x high p a f) more = refl
still_some (sweeps.PutFree a p f) more = refl
still_some (sweeps.Credit p f) more = refl
still_some (sweeps.Swept p f) more = refl

-- no word is Free and black
pub freed_word : (c a : ℕ) (b : Bool) → (b && eqb (free_word a) (black_word c)) ≡ false
freed_word c a b = not_both b (eqb (free_word a) (black_word c))
    (λ e. absurd (let z : true ≡ false = sym (free_free a)
    ∙ ap is_free (eqb-true (free_word a) (black_word c) e) ∙ not_free_black c in cc))

-- the sweep makes no block black
no_blackening : (h : Heap) (t c : ℕ) (r : SweepRow) → blackens h (row_want t c r) ≡ false
no_blackening h t c (sweeps.PassBlock x high p a f) =
    grey_or_black (cycle_of (h Phase)) (h (ColourOf x))
no_blackening h t c (sweeps.FreeBlock x high p a f) =
    rw (eq-eqb x x refl) (freed_word (cycle_of (h Phase)) a (is_grey (h (ColourOf x))))
no_blackening h t c _ = refl

-- a lost claim alone waits
range_on : (p a f : ℕ) → turn_of (step_to (after_range p a f)) ≡ turns.Went
range_on p a f = elim (cases_Bool (eqb f 0)) [ inl z ↦ rw z refl | inr nz ↦ rw nz refl ]

block_on : (x high p a f : ℕ) → turn_of (step_to (next_block x high p a f)) ≡ turns.Went
block_on x high p a f = elim (cases_Bool (ltb (x + 1) high)) [
  | inl more ↦ rw more refl
  | inr last ↦ rw last (range_on (p + 1) a f)
]

white_on : (x high p a f : ℕ) → turn_of (step_to (before_free x high p a f)) ≡ turns.Went
white_on x high p a f = elim (cases_Bool (eqb f 0)) [ inl z ↦ rw z refl | inr nz ↦ rw nz refl ]

turns_on : (c m owed : ℕ) (r : SweepRow) (w : ℕ) → turn_of (step_to (row_got c m owed r w))
    ≡ cond (sweep_waits r w) turns.Waited turns.Went
turns_on c m owed sweeps.ReadCursor w =
    elim (cases_Bool (ltb m w)) [ inl none ↦ rw none refl | inr some ↦ rw some refl ]
turns_on c m owed (sweeps.ClaimRange x high) w =
    elim (cases_Bool (eqb w x)) [ inl won ↦ rw won refl | inr lost ↦ rw lost refl ]
turns_on c m owed (sweeps.PassBlock x high p a f) w =
    elim (cases_Bool (eqb w (white_word c))) [
      | inl white ↦ rw white (white_on x high p a f)
      | inr dark ↦ rw dark (block_on x high p a f)
    ]
turns_on c m owed (sweeps.TakeFree x high p) w = refl
turns_on c m owed (sweeps.FreeBlock x high p a f) w = block_on x high p x (f + 1)
turns_on c m owed (sweeps.PutFree a p f) w = refl
turns_on c m owed (sweeps.Credit p f) w = refl
turns_on c m owed (sweeps.Swept p f) w = refl
turns_on c m owed sweeps.NothingLeft w = refl

module _ (c : Config) (s : Seen c) (p : SweepState) (at : AtPart c s (Sweep p)) where
  abbrev read : ℕ
  read = s.heap (place_of (sweep_want p))

  abbrev next : SweepState
  next = sweep_got p read

  abbrev new : Heap
  new = heap_after s.heap (sweep_want p)

  abbrev unit : Bool
  unit = is_some (row_passes p.cycle p.row read)

  fits : SweepFits c p
  fits = at.fits.0

  pub reads : SweepReads c p read
  reads = s.held (place_of (sweep_want p)) (place_fits c p fits)

  next_fits : SweepFits c next
  next_fits = fits_next c p read fits reads

  -- the phase is Sweep, in the cycle of the part
  sweeping : IsSweeping s.heap p
  sweeping = record {
    phase = sym (pass_is c s (Sweep p) at refl).1 ∙ at.part.sweep;
    cycle = sym (pass_is c s (Sweep p) at refl).0 ∙ sym at.part.cycle;
  }

  holds : s.holds p.thread ≡ sweep_in_hand p.row
  holds = ap s.holds at.part.thread ∙ at.holds

  phase : new Phase ≡ s.heap Phase
  phase = leaves_others s.heap p Phase refl

  held : IsHeld c new
  held = keeps_words c s.heap s.holds p fits s.rules.reuse holds s.held

  rules : PhaseKept (extent c) new (changed s.holds s.thread (sweep_in_hand next.row))
  rules = subst
      (λ t. PhaseKept (extent c) new (changed s.holds t (sweep_in_hand next.row)))
      at.part.thread (keeps_phase c s.heap s.holds p fits sweeping s.rules holds)

  pictured : Invariant c (picture s.graph s.order new s.names s.tasks)
  pictured = keeps_names c s.graph s.order s.heap s.names s.tasks p s.holds fits sweeping
      s.rules.reuse holds s.kept

  -- the thread is at nothing else, before it and after
  kept : (w : Task) → w ≡ no_task
      → Invariant c (picture s.graph s.order new s.names (changed s.tasks s.thread w))
  kept w none = subst (λ (ts : ℕ → Task). Invariant c (picture s.graph s.order new s.names ts))
      (sym (changed_self s.tasks s.thread w (at.task
      ∙ ap (λ x. record no_task { scan = x }) (none_found p.row) ∙ sym none)))
      pictured

  rises : s.heap Cursor ≤ new Cursor
  rises = omega (arith, cursor_moves c s.heap p fits)

  passed : (w : WorkInHand) → sweep_in_hand next.row ≡ w
      → new Cursor + unpassed (s.holds s.thread) ≤ s.heap Cursor + unpassed w + bit unit
  passed w is = omega (
    arith,
    both_move c s.heap p fits,
    ap unpassed at.holds,
    ap unpassed is,
  )

  -- what was paid is what was passed
  settled : spent_got None unit s.spent + p.owed ≡ s.due + sweep_passed next.row
  settled = omega (arith, at.settled, paid_more unit s.spent, passed_bits p read)

  pays : spent_got None unit s.spent + (p.owed - sweep_passed next.row) ≤ s.due
  pays = omega (arith, settled, (passed_few c next next_fits).1)

  goes_on : sweep_over next.row ≡ false → PassEvent c s new unit (Sweep next)
  goes_on more = record {
    phase = phase;
    rises = rises;
    passed = passed (sweep_in_hand next.row) refl;
    held = held;
    rules = rules;
    kept = kept (task c (Sweep next))
        (ap (λ x. record no_task { scan = x }) (none_found next.row));
    inside = refl;
    part = record {
      thread = at.part.thread;
      own = at.part.own;
      cycle = at.part.cycle;
      sweep = at.part.sweep;
      going = more;
    };
    knows = tt;
    fits = (next_fits, at.fits.1, at.fits.2);
    roomy = tt;
    undecided = refl;
    low = pays;
    settled = settled;
  }

  -- the part is over, with nothing claimed or in hand
  nothing : sweep_over next.row ≡ true → sweep_in_hand next.row ≡ holds_nothing
  nothing over = over_holds_none next.row over

  ended_rules : sweep_over next.row ≡ true
      → PhaseKept (extent c) new (changed s.holds s.thread holds_nothing)
  ended_rules over = subst (λ (w : WorkInHand). PhaseKept (extent c) new (changed s.holds s.thread w))
      (nothing over) rules

  again : sweep_over next.row ≡ true → PassEvent c s new unit Retry
  again over = record {
    phase = phase;
    rises = rises;
    passed = passed holds_nothing (nothing over);
    held = held;
    rules = ended_rules over;
    kept = kept no_task refl;
    inside = refl;
    part = tt;
    knows = tt;
    fits = at.fits.1;
    roomy = tt;
    undecided = refl;
    low = omega (arith, pays);
    settled = tt;
  }

  idle : sweep_over next.row ≡ true → sweep_nothing next.row ≡ true → PassEvent c s new unit LeaveToChangePhase
  idle over none =
      let behind : c.blocks < s.heap Cursor =
      nothing_behind c s.heap p fits (still_some p.row at.part.going) none in
      record {
        phase = phase;
        rises = rises;
        passed = passed holds_nothing (nothing over);
        held = held;
        rules = ended_rules over;
        kept = kept no_task refl;
        inside = refl;
        part = at.part.own;
        knows = λ sweep stage. omega (arith, behind, rises, (held Cursor refl).1);
        fits = (at.fits.1, at.fits.2);
        roomy = tt;
        undecided = refl;
        low = omega (arith, pays);
        settled = tt;
      }

  event : (over none : Bool) → sweep_over next.row ≡ over → sweep_nothing next.row ≡ none
      → EventKept c s new (of_pass (sweep_step p read) unit) None
      (cond over (cond none LeaveToChangePhase Retry) (Sweep next))
  event true true is none =
      pass_kept c s (Sweep p) at refl new (sweep_step p read) unit LeaveToChangePhase (idle is none)
  event true false is none =
      pass_kept c s (Sweep p) at refl new (sweep_step p read) unit Retry (again is)
  event false some is none =
      pass_kept c s (Sweep p) at refl new (sweep_step p read) unit (Sweep next) (goes_on is)

not_itself : (b : Bool) → (b && not b) ≡ false
not_itself true = refl
not_itself false = refl

pub sweep_laws : (c : Config) (p : SweepState) → PartLaws c (Sweep p)
sweep_laws c p = record {
  reads = λ s at. reads c s p at;
  sum = λ s at. sum_fits c p (s.heap (place_of (sweep_want p))) at.fits.0 (reads c s p at);
  event = λ s at more. (let next = sweep_got p (s.heap (place_of (sweep_want p))) in
      event c s p at (sweep_over next.row) (sweep_nothing next.row) refl refl);
  stays = λ g new u pass k kept same count. (kept, refl);
  knows = λ h new ns later pass forward cursor behind closing known. tt;
  rests = λ s at closed outside. absurd (inside_open c s (stands c s (Sweep p) at refl) closed);
  idle = λ out. absurd (let z : true ≡ false = out in cc);
  empty = λ out. absurd (let z : false ≡ true = out in cc);
  builds = λ done all pass fits. tt;
  low = λ done all w pass r fits e. absurd cc;
  turn = λ w. turns_on p.cycle p.blocks p.owed p.row w;
  black = λ s at. no_blackening s.heap p.thread p.cycle p.row
      ∙ sym (not_itself (is_some (row_passes p.cycle p.row (s.heap (place_of (sweep_want p))))));
  units = λ t k paid w. units_are paid (is_some (row_passes p.cycle p.row w));
}
