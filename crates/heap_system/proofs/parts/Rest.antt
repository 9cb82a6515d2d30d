-- A thread at rest.
use Rattle.std.proofs.Common.{◌<◌, refl, sym, ap, arith, inl, inr}
use Rattle.std.proofs.lemmas.Bool.{cases_Bool}
use Rattle.block_store.specs.declared.Config.{Config}
use Rattle.block_store.specs.Phases.{is_closed}
use Rattle.block_store.specs.Places.{Phase}
use Rattle.heap_machine.specs.Gating.{Gating}
use Rattle.heap_machine.specs.declared.Step.TheVariants as steps
use Rattle.heap_machine.specs.declared.gate.GateRow.TheVariants as gates
use Rattle.heap_machine.proofs.Lemmas.{gate_stays}
use Rattle.heap_system.specs.Parts.{Rest, Enter}
use Rattle.heap_system.proofs.step_rows.GatePassage.{phase_is, began, look_event}
use Rattle.heap_system.proofs.step_rows.PartLaws.{AtPart, PartEvent, PartLaws}
use Rattle.heap_system.proofs.invariant.SeenAndKept.{Seen}

rest_event : (c : Config) (s : Seen c) → AtPart c s Rest → s.done < s.all → PartEvent c s Rest
rest_event c s at low = elim (cases_Bool (is_closed (s.heap Phase))) [
  | inl e ↦ rw e (look_event c s steps.Waited _ (Enter gates.Look) (record { task = refl; holds = refl; waits = refl; part = tt; fits = (tt, refl, low); roomy = tt; low = omega (arith, at.pays); settled = tt }) at.task at.holds
      (gate_stays c.threads (s.heap Phase) s.gatings s.gate s.thread s.low _ (sym (ap (λ (x : Gating). x.stand) at.gating)) (λ e. absurd cc)) s.behind tt)
  | inr e ↦ rw e (look_event c s steps.Went _ (Enter (gates.Enter (s.heap Phase))) (record { task = refl; holds = refl; waits = refl; part = tt; fits = (record { word = phase_is c s; opened = e }, refl, low); roomy = tt; low = omega (arith, at.pays); settled = tt }) at.task at.holds
      (gate_stays c.threads (s.heap Phase) s.gatings s.gate s.thread s.low _ (sym (ap (λ (x : Gating). x.stand) at.gating)) (λ e. absurd cc)) s.behind tt)
]

pub rest_laws : (c : Config) → PartLaws c Rest
rest_laws c = record {
  reads = λ s at. (phase_is c s, began c s);
  sum = λ s at. tt;
  event = λ s at low. rest_event c s at (low refl);
  stays = λ g new u pass k kept same count. (tt, refl);
  knows = λ h new ns later pass on cursor behind still is. tt;
  rests = λ s at closed out. (refl, refl);
  idle = λ out. refl;
  empty = λ out. refl;
  builds = λ done all pass fits. tt;
  low = λ done all w pass r fits e. absurd cc;
  turn = λ w. elim (cases_Bool (is_closed w)) [ inl e ↦ rw e refl | inr e ↦ rw e refl ];
  black = λ s at. refl;
  units = λ t k paid w. omega arith;
}
