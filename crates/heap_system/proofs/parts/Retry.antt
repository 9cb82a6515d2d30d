-- A thread that goes out, to come in again.
use Rattle.std.proofs.Common.{refl, ap, arith}
use Rattle.block_store.specs.declared.Config.{Config}
use Rattle.block_store.specs.Places.{Phase}
use Rattle.heap_machine.specs.Gating.{Gating}
use Rattle.heap_machine.specs.declared.Step.TheVariants as steps
use Rattle.heap_machine.specs.declared.gate.GateRow.TheVariants as gates
use Rattle.heap_machine.proofs.Lemmas.{inside_low, inside_some}
use Rattle.heap_system.specs.Parts.{Enter, Retry}
use Rattle.heap_system.proofs.step_rows.GatePassage.{phase_is, leave_event, inside_open}
use Rattle.heap_system.proofs.step_rows.PartLaws.{PartLaws}

pub again_laws : (c : Config) → PartLaws c Retry
again_laws c = record {
  reads = λ s at. phase_is c s;
  sum = λ s at. inside_low (s.heap Phase) (inside_some c.threads (s.heap Phase) s.gatings s.gate s.thread s.low (ap (λ (x : Gating). x.stand) at.gating));
  event = λ s at low. leave_event c s steps.Over (Enter gates.Look) (ap (λ (x : Gating). x.stand) at.gating) refl
      (record { task = refl; holds = refl; waits = refl; part = tt; fits = (tt, refl, at.fits); roomy = tt; low = at.pays; settled = tt }) at.task at.holds (λ v cycle sweep. tt);
  stays = λ g new u pass k kept same count. (tt, refl);
  knows = λ h new ns later pass on cursor behind still is. tt;
  rests = λ s at closed out. absurd (inside_open c s (ap (λ (x : Gating). x.stand) at.gating) closed);
  idle = λ out. refl;
  empty = λ out. refl;
  builds = λ done all pass fits. tt;
  low = λ done all w pass r fits e. absurd cc;
  turn = λ w. refl;
  black = λ s at. refl;
  units = λ t k paid w. omega arith;
}
