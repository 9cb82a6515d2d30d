-- A lone thread that changes the phase.
use Rattle.std.proofs.Common.{◌≡◌, ℕ, ◌+◌, ◌-◌, ◌<◌, Bool, true, false, not, eqb, ltb, eq-eqb, ne_eqb, ltb-true, ltb-false, le-ltb, refl, sym, ap, ◌∙◌, subst, arith, inl, inr}
use Rattle.std.proofs.lemmas.Bool.{cases_Bool, cases_eq}
use Rattle.block_store.specs.declared.Config.{Config}
use Rattle.block_store.specs.Phases.{inside_of, is_sweep, cycle_of}
use Rattle.block_store.specs.Colours.{is_grey}
use Rattle.block_store.specs.Places.{Phase, Cursor, GreyList, ColourOf}
use Rattle.block_store.proofs.Lemmas.{root_some}
use Rattle.heap_machine.specs.Gates.{is_of_pass, is_empty}
use Rattle.heap_machine.specs.Gating.{Gating, is_outside, open_word}
use Rattle.heap_machine.specs.declared.gate.GateRow.{GateRow}
use Rattle.heap_machine.specs.declared.gate.GateRow.TheVariants as gates
use Rattle.heap_machine.specs.declared.pass.Pass.{Pass}
use Rattle.heap_machine.specs.WorkInHand.{grey_held}
use Rattle.heap_machine.proofs.Lemmas.{closed_phase, first_is_grey, open_parts}
use Rattle.grey_steps.proofs.GreyRuleKept.{own_first}
use Rattle.rate_plan.specs.solo_bound.Moves.{Spot}
use Rattle.heap_system.specs.Parts.{PhaseChange}
use Rattle.heap_system.proofs.invariant.SeenAndKept.{Seen}
use Rattle.heap_system.proofs.parts.ClosedGate.{may_turn}
use Rattle.heap_system.proofs.alone.Heads.{IsOpen, some_first, same_lone, open_here}
use Rattle.heap_system.proofs.alone.LoneThread.{some, grey_heads, IsOfPass, NoGrey, IsDry, LoneStep, LoneLaw}

-- the word is that of the pass, and of an open gate with nobody inside
of_pass : (p : Pass) (w : ℕ) (sweep : Bool) → cycle_of w ≡ p.cycle → is_sweep w ≡ sweep → p.sweep ≡ sweep
    → is_of_pass p w ≡ true
of_pass p w true cycle one other = rw (eq-eqb (cycle_of w) p.cycle cycle, one) other
of_pass p w false cycle one other = rw (eq-eqb (cycle_of w) p.cycle cycle, one, other) refl

empty : (w : ℕ) → IsOpen w → is_empty w ≡ true
empty w free = rw (free.opened, eq-eqb (inside_of w) 0 free.nobody) refl

-- where no block is grey, no list has one
dry : (c : Config) (s : Seen c) → ((x : ℕ) → is_grey (s.heap (ColourOf x)) ≡ false) → NoGrey c s.heap
dry c s none v low = elim (cases_eq (s.heap (GreyList v)) 0) [
  | inl e ↦ e
  | inr ne ↦
      let grey = first_is_grey c.threads s.heap (λ t. grey_held (s.holds t)) s.rules.grey v low ne in
      absurd (let z : false ≡ true = sym (none (s.heap (GreyList v))) ∙ grey in cc)
]

module _ (c : Config) (s : Seen c) where
  owing : s.spent < s.due → 0 < s.due - s.spent
  owing more = omega arith

  close_looks : (p : Pass) → p ≡ s.pass → (s.spent < s.due) × IsDry c s.heap s.pass × IsOfPass s.heap s.pass
      → IsOpen (s.heap Phase) → LoneStep c s (PhaseChange (gates.CloseLook p))
  close_looks p own known free =
      let pass : is_of_pass p (s.heap Phase) ≡ true =
      of_pass p (s.heap Phase) (is_sweep (s.heap Phase)) (known.2.0 ∙ ap (λ (q : Pass). q.cycle) (sym own)) refl
      (ap (λ (q : Pass). q.sweep) own ∙ sym known.2.1) in
      let none = empty (s.heap Phase) free in
      record {
        goes = rw (pass, none) refl;
        out = rw (pass, none) refl;
        knows = rw (pass, none) (known.0, known.1, known.2, refl);
        moves = rw (pass, none) (refl, refl, refl);
      }

  -- the gate is closed
  closes : (p : Pass) → p ≡ s.pass → (s.spent < s.due) × IsDry c s.heap s.pass × IsOfPass s.heap s.pass
      → (p.sweep ≡ true → NoGrey c s.heap)
      → IsOpen (s.heap Phase) → LoneStep c s (PhaseChange (gates.Close p (s.heap Phase)))
  closes p own known swept free =
      let won : eqb (s.heap Phase) (s.heap Phase) ≡ true = eq-eqb (s.heap Phase) (s.heap Phase) refl in
      let phase = (closed_phase (s.heap Phase) free.nobody).1 in
      elim (cases_Bool p.sweep) [
        | inl sweeps ↦
            let so : is_sweep (s.heap Phase) ≡ true = known.2.1 ∙ ap (λ (q : Pass). q.sweep) (sym own) ∙ sweeps in
            record {
              goes = rw won refl;
              out = rw won refl;
              knows = rw (won, sweeps) (known.0, swept sweeps);
              moves = rw (won, sweeps) (rw so refl, refl, phase);
            }
        | inr marks ↦
            let so : is_sweep (s.heap Phase) ≡ false = known.2.1 ∙ ap (λ (q : Pass). q.sweep) (sym own) ∙ marks in
            let dry : NoGrey c s.heap = known.1 (ap (λ (q : Pass). q.sweep) (sym own) ∙ marks) in
            record {
              goes = rw won refl;
              out = rw won refl;
              knows = rw (won, marks) (known.0, dry);
              moves = rw (won, marks) (rw so refl, refl, phase);
            }
      ]

  checks : (p : Pass) (u : ℕ) → p.threads ≡ c.threads → u < c.threads → s.spent < s.due → NoGrey c s.heap
      → LoneStep c s (PhaseChange (gates.CheckList p u))
  checks p u many low more dry =
      let none : eqb (s.heap (GreyList u)) 0 ≡ true = eq-eqb (s.heap (GreyList u)) 0 (dry u low) in
      elim (cases_Bool (ltb (u + 1) p.threads)) [
        | inl next ↦
            let so = ltb-true (u + 1) p.threads next in
            record {
              goes = refl;
              out = refl;
              knows = rw (none, next) (more, dry);
              moves = rw (none, next) (inl (omega arith, (refl, refl)));
            }
        | inr last ↦
            let so = ltb-false (u + 1) p.threads last in
            record {
              goes = refl;
              out = refl;
              knows = rw (none, last) more;
              moves = rw (none, last) (inr (omega arith, (refl, refl)));
            }
      ]

  shades : (p : Pass) (u list : ℕ) → p.threads ≡ c.threads → u < c.threads → s.spent < s.due
      → NoGrey c s.heap → LoneStep c s (PhaseChange (gates.ShadeRoot p u list))
  shades p u list many low more none =
      elim (cases_Bool (ltb (u + 1) p.threads)) [
        | inl next ↦
            let so = ltb-true (u + 1) p.threads next in
            record {
              goes = refl;
              out = refl;
              knows = rw next (more, none);
              moves = rw next (inl (omega arith, (refl, refl)));
            }
        | inr last ↦
            let so = ltb-false (u + 1) p.threads last in
            record {
              goes = refl;
              out = refl;
              knows = rw last (more, root_some c.width u, none);
              moves = rw last (inr (omega arith, (refl, refl)));
            }
      ]

  flips : (p : Pass) → s.spent < s.due → s.heap Cursor ≡ 1 → LoneStep c s (PhaseChange (gates.Flip p))
  flips p more first =
      let phase : is_sweep (open_word p.cycle true) ≡ true = (open_parts p.cycle true).1 in
      let some_left : not (ltb c.blocks (s.heap Cursor)) ≡ true =
      (let one = s.bounds.some_block in rw (le-ltb c.blocks (s.heap Cursor) (omega arith)) refl) in
      record {
        goes = refl;
        out = refl;
        knows = tt;
        moves = (owing more, same_lone _ Spot.Look (s.due - s.spent) true true refl refl phase (rw phase some_left));
      }

  starts : (p : Pass) → s.spent < s.due → 0 < s.heap (GreyList s.thread) → LoneStep c s (PhaseChange (gates.Start p))
  starts p more list =
      let phase : is_sweep (open_word (p.cycle + 1) false) ≡ false = (open_parts (p.cycle + 1) false).1 in
      let own : 0 < grey_heads c s.heap s.thread 0 =
      subst (λ u. 0 < s.heap (GreyList u)) (sym (own_first s.thread c.threads s.low)) list in
      let found : some (grey_heads c s.heap s.thread) 0 c.threads ≡ true =
      (let one = s.bounds.some_thread in some_first (grey_heads c s.heap s.thread) c.threads 0 one own) in
      record {
        goes = refl;
        out = refl;
        knows = tt;
        moves = (owing more, same_lone _ Spot.Look (s.due - s.spent) false true refl refl phase (rw phase found));
      }

pub turn_lone : (c : Config) (g : GateRow) → LoneLaw c (PhaseChange g)
turn_lone c (gates.CloseLook p) s is alone event known =
    close_looks c s p is.part.0 known (open_here c s alone (ap (λ (g : Gating). is_outside g.stand) is.gating))
turn_lone c (gates.Close p seen) s is alone event known =
    subst (λ v. LoneStep c s (PhaseChange (gates.Close p v))) (sym known.3)
    (closes c s p is.part.0 (known.0, known.1, known.2)
    (λ sweeps. dry c s (may_turn c s (gates.Close p seen) is sweeps (sym known.3)))
    (open_here c s alone (ap (λ (g : Gating). is_outside g.stand) is.gating)))
turn_lone c (gates.CheckList p u) s is alone event known =
    let fits = is.fits in
    checks c s p u fits.1.threads (let low = fits.0.1 in let many = fits.1.threads in omega arith) known.0 known.1
turn_lone c (gates.SetCursor p) s is alone event known =
    record { goes = refl; out = refl; knows = known; moves = (refl, refl) }
turn_lone c (gates.Flip p) s is alone event known = flips c s p known is.knows.first
turn_lone c (gates.Reopen p) s is alone event known = absurd known
turn_lone c (gates.ShadeRoot p u list) s is alone event known =
    let fits = is.fits in
    shades c s p u list fits.1.0.threads (let low = fits.0.1 in let many = fits.1.0.threads in omega arith) known.0 known.1
turn_lone c (gates.PutRoots p list) s is alone event known =
    let mine : p.thread ≡ s.thread = ap (λ (q : Pass). q.thread) is.part.0.0 ∙ is.part.1 in
    record {
      goes = refl;
      out = refl;
      knows = (
        known.0,
        rw (eq-eqb p.thread s.thread mine) known.1,
        λ v low other. rw (ne_eqb p.thread v (λ e. other (sym mine ∙ e))) (known.2 v low),
      );
      moves = (refl, refl);
    }
turn_lone c (gates.Start p) s is alone event known = starts c s p known.0 known.1
turn_lone c g s is alone event known = absurd is.part.0
