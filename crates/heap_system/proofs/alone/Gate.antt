-- A lone thread at the gate, on its way in and out.
use Rattle.std.proofs.Common.{◌≡◌, ◌+◌, ◌-◌, ◌≤◌, true, false, not, cond, eqb, ltb, eq-eqb, ne_eqb, le-ltb, lt-ltb, refl, sym, ap, ◌∙◌, subst, arith, inl, inr}
use Rattle.std.proofs.lemmas.Bool.{cases_Bool, cases_lt}
use Rattle.block_store.specs.declared.Config.{Config}
use Rattle.block_store.specs.declared.PhaseWord.{PhaseWord}
use Rattle.block_store.specs.Heaps.{Heap, put_at}
use Rattle.block_store.specs.Phases.{is_sweep, cycle_of}
use Rattle.block_store.specs.Places.{Phase, Cursor}
use Rattle.block_store.proofs.Lemmas.{phase-less}
use Rattle.never_heap.specs.Steps.{blocks_of}
use Rattle.heap_machine.specs.Gating.{Gating, Inside, is_outside}
use Rattle.heap_machine.specs.declared.gate.GateRow.{GateRow}
use Rattle.heap_machine.specs.declared.gate.GateRow.TheVariants as gates
use Rattle.heap_machine.proofs.Lemmas.{entered_phase, inside_some}
use Rattle.rate_plan.specs.solo_bound.Moves.{Spot}
use Rattle.heap_system.specs.Parts.{Rest, Enter, Retry, LeaveToChangePhase}
use Rattle.heap_system.proofs.invariant.SeenAndKept.{Seen}
use Rattle.heap_system.proofs.alone.Heads.{same_lone, open_here, has_pass}
use Rattle.heap_system.proofs.alone.LoneThread.{ready_now, some, grey_heads, LoneStep, LoneLaw}

pub rest_lone : (c : Config) → LoneLaw c Rest
rest_lone c s is alone event known =
    let free = open_here c s alone (ap (λ (g : Gating). is_outside g.stand) is.gating) in
    record {
      goes = free.opened;
      out = rw free.opened refl;
      knows = rw free.opened refl;
      moves = rw free.opened refl;
    }

-- a word that counts one less has the same phase and cycle
pub less_inside : (c : Config) (s : Seen c) → (s.gatings s.thread).stand ≡ Inside
    → (cycle_of (s.heap Phase - 1) ≡ cycle_of (s.heap Phase))
    × (is_sweep (s.heap Phase - 1) ≡ is_sweep (s.heap Phase))
less_inside c s inside =
    let some = inside_some c.threads (s.heap Phase) s.gatings s.gate s.thread s.low inside in
    let less = phase-less (s.heap Phase) some in
    (ap (λ (w : PhaseWord). w.cycle) less, ap (λ (w : PhaseWord). w.sweep) less)

pub again_lone : (c : Config) → LoneLaw c Retry
again_lone c s is alone event known = record {
  goes = refl;
  out = refl;
  knows = tt;
  moves = (refl, refl);
}

pub idle_lone : (c : Config) → LoneLaw c LeaveToChangePhase
idle_lone c s is alone event known =
    let same = less_inside c s (ap (λ (g : Gating). g.stand) is.gating) in
    let pass = has_pass c s LeaveToChangePhase is.gating refl in
    record {
      goes = refl;
      out = refl;
      knows = (known.0, known.1, (same.0 ∙ pass.0, same.1 ∙ pass.1));
      moves = (refl, refl, same.1);
    }

-- the phase is the same, and what a pass of it finds
module _ (c : Config) (s : Seen c) (sweep : is_sweep (s.heap Phase + 1) ≡ is_sweep (s.heap Phase)) where
  abbrev entered_heap : Heap
  entered_heap = put_at s.heap Phase (s.heap Phase + 1)

  ready_same : ready_now c entered_heap s.thread ≡ ready_now c s.heap s.thread
  ready_same = ap (λ b. cond b (not (ltb c.blocks (s.heap Cursor)))
      (some (grey_heads c s.heap s.thread) 0 c.threads)) sweep

enter_here : (c : Config) (s : Seen c) → s.spent ≤ s.due → is_outside (s.gatings s.thread).stand ≡ true
    → LoneStep c s (Enter (gates.Enter (s.heap Phase)))
enter_here c s pays out =
    let won : eqb (s.heap Phase) (s.heap Phase) ≡ true = eq-eqb (s.heap Phase) (s.heap Phase) refl in
    let phase = (entered_phase c.threads (s.heap Phase) s.gatings s.gate (omega (arith, s.bounds.threads))).1 in
    let same = ready_same c s phase in
    let all_lists : c.threads - 0 ≡ c.threads = omega arith in
    elim (cases_lt s.spent s.due) [
      | inl more ↦
          let due : ltb 0 (s.due - s.spent) ≡ true = lt-ltb 0 (s.due - s.spent) (omega arith) in
          let owing : eqb (s.due - s.spent) 0 ≡ false = ne_eqb (s.due - s.spent) 0 (λ e. omega arith) in
          elim (cases_Bool (is_sweep (s.heap Phase))) [
            | inl sweeps ↦ record {
              goes = rw won refl;
              out = rw (won, due, sweeps) refl;
              knows = rw (won, due, sweeps) tt;
              moves = rw (won, due, owing, sweeps) (same_lone _ Spot.ReadCursor (s.due - s.spent) true _ refl refl (phase ∙ sweeps) (same ∙ rw sweeps refl));
            }
            | inr marks ↦ record {
              goes = rw won refl;
              out = rw (won, due, marks) refl;
              knows = rw (won, due, marks) (λ v low. absurd (omega arith));
              moves = rw (won, due, owing, marks) (same_lone _ (Spot.Take 0) (s.due - s.spent) false _ refl refl (phase ∙ marks) (ap (some (grey_heads c s.heap s.thread) 0) all_lists));
            }
          ]
      | inr all ↦
          let due : ltb 0 (s.due - s.spent) ≡ false = le-ltb 0 (s.due - s.spent) (omega arith) in
          let owing : eqb (s.due - s.spent) 0 ≡ true = eq-eqb (s.due - s.spent) 0 (omega arith) in
          elim (cases_Bool (ltb 0 (blocks_of c.width s.command))) [
            | inl makes ↦ record {
              goes = rw won refl;
              out = rw (won, due, makes) refl;
              knows = rw (won, due, makes) tt;
              moves = rw (won, due, owing, makes) (same_lone _ Spot.Count (s.due - s.spent) _ _ refl refl phase same);
            }
            | inr serves ↦ record {
              goes = rw won refl;
              out = rw (won, due, serves) refl;
              knows = rw (won, due, serves) tt;
              moves = rw (won, due, owing, serves) (same_lone _ _ (s.due - s.spent) _ _ refl refl phase same);
            }
          ]
    ]

pub enter_lone : (c : Config) (g : GateRow) → LoneLaw c (Enter g)
enter_lone c gates.Look s is alone event known =
    let free = open_here c s alone (ap (λ (g : Gating). is_outside g.stand) is.gating) in
    record {
      goes = free.opened;
      out = rw free.opened refl;
      knows = rw free.opened refl;
      moves = rw free.opened refl;
    }
enter_lone c (gates.Enter seen) s is alone event known =
    let paid = is.pays in
    subst (λ v. LoneStep c s (Enter (gates.Enter v))) (sym known)
    (enter_here c s (omega arith) (ap (λ (g : Gating). is_outside g.stand) is.gating))
enter_lone c g s is alone event known = absurd is.part
