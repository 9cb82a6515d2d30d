-- A thread that goes out after a pass that found nothing to do, to change the phase.
use Rattle.std.proofs.Common.{◌≡◌, ◌+◌, ◌≤◌, true, refl, ap, sym, ◌∙◌, arith}
use Rattle.block_store.specs.declared.Config.{Config}
use Rattle.block_store.specs.Heaps.{Heap, put_at}
use Rattle.block_store.specs.Phases.{bit, is_sweep}
use Rattle.block_store.specs.Places.{Phase, Cursor}
use Rattle.block_store.proofs.Lemmas.{bit_le, bit_one}
use Rattle.heap_machine.specs.Gating.{Gating}
use Rattle.heap_machine.specs.declared.Step.TheVariants as steps
use Rattle.heap_machine.specs.declared.gate.GateRow.TheVariants as gates
use Rattle.heap_machine.specs.declared.pass.Pass.{Pass}
use Rattle.heap_machine.proofs.Lemmas.{inside_low, inside_some}
use Rattle.rate_plan.proofs.Rates.{opening_room}
use Rattle.heap_system.specs.Parts.{LeaveToChangePhase, PhaseChange}
use Rattle.heap_system.proofs.step_rows.GatePassage.{phase_is, leave_event, inside_open, same_stage}
use Rattle.heap_system.proofs.step_rows.PartLaws.{AtPart, PartEvent, PartLaws}
use Rattle.heap_system.proofs.invariant.SeenAndKept.{stage, stage_of, Forward, IsSwept, Seen}

-- where no stage comes back, what was swept stays swept
pub swept_stays : (c : Config) (h new : Heap) (q : Pass) → Forward h new → new Cursor ≤ c.blocks + 1 → stage q.cycle q.sweep ≤ stage_of h → IsSwept c h q → IsSwept c new q
swept_stays c h new q on cursor behind swept sweep at =
    let same : stage_of h ≡ stage q.cycle q.sweep = omega (arith, on.stages, at, behind) in
    let one : bit q.sweep ≡ 1 = ap bit sweep in
    let phase : is_sweep (h Phase) ≡ true = bit_one (is_sweep (h Phase)) (omega (arith, same, one, bit_le (is_sweep (h Phase)))) in
    omega (arith, swept sweep same, on.cursor (same ∙ sym at) phase, cursor)

idle_event : (c : Config) (s : Seen c) → AtPart c s LeaveToChangePhase → PartEvent c s LeaveToChangePhase
idle_event c s at = leave_event c s steps.Over (PhaseChange (gates.CloseLook s.pass)) (ap (λ (x : Gating). x.stand) at.gating) refl
    (record {
      task = refl;
      holds = refl;
      waits = refl;
      part = (refl, at.part);
      fits = (at.fits.1.0, record { threads = at.fits.1.1; arrays = opening_room c s.plan }, refl, at.fits.0);
      roomy = tt;
      low = at.pays;
      settled = tt;
    }) at.task at.holds (λ v cycle sweep. record {
      swept = swept_stays c s.heap (put_at s.heap Phase v) s.pass (record { stages = omega (arith, same_stage v (s.heap Phase) cycle sweep); cursor = λ e is. omega arith }) (s.rules.reuse.sweep.cursor_in.1) s.behind at.knows;
      lists = λ u ul. absurd (omega arith);
      first = tt;
      roots = tt;
    })

pub idle_laws : (c : Config) → PartLaws c LeaveToChangePhase
idle_laws c = record {
  reads = λ s at. phase_is c s;
  sum = λ s at. inside_low (s.heap Phase) (inside_some c.threads (s.heap Phase) s.gatings s.gate s.thread s.low (ap (λ (x : Gating). x.stand) at.gating));
  event = λ s at low. idle_event c s at;
  stays = λ g new u pass k kept same count. (kept, refl);
  knows = λ h new ns later pass on cursor behind still is. swept_stays c h new pass on cursor behind is;
  rests = λ s at closed out. absurd (inside_open c s (ap (λ (x : Gating). x.stand) at.gating) closed);
  idle = λ out. refl;
  empty = λ out. refl;
  builds = λ done all pass fits. tt;
  low = λ done all w pass r fits e. absurd cc;
  turn = λ w. refl;
  black = λ s at. refl;
  units = λ t k paid w. omega arith;
}
