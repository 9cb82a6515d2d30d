-- Each event of building keeps all rules of the heap at once.
use Rattle.std.proofs.Common.{◌≡◌, ℕ, false, refl, ap, sym, subst, ◌∙◌, eqb, inl, inr}
use Rattle.std.proofs.lemmas.Bool.{cases_Bool}
use Rattle.block_store.specs.declared.Config.{Config}
use Rattle.block_store.specs.declared.Width.{Width}
use Rattle.block_store.specs.Heaps.{Heap}
use Rattle.block_store.specs.Phases.{is_sweep, cycle_of}
use Rattle.block_store.specs.Places.{extent, Phase, FreeCount}
use Rattle.block_store.specs.Counts.{changed}
use Rattle.heap_machine.specs.Grey.{GreyInHand, GreyKept}
use Rattle.heap_machine.specs.WorkInHand.{WorkInHand, grey_held, tricolour_held}
use Rattle.heap_machine.specs.Operations.{place_of, heap_after}
use Rattle.heap_machine.specs.PhaseKept.{PhaseKept}
use Rattle.heap_machine.specs.Solid.{SolidKept}
use Rattle.heap_machine.specs.Tricolour.{TricolourInHand, TricolourKept}
use Rattle.heap_machine.proofs.Lemmas.{part_changed}
use Rattle.build_steps.specs.declared.rows.BuildRow.{BuildRow}
use Rattle.build_steps.specs.declared.rows.BuildRow.TheVariants.{
  ReadCount,
  Reserve,
  TakeFree,
  Collect,
  PutRest,
  WriteOwner,
  WriteShape,
  WritePayload,
  WriteColour,
  Publish,
  Built,
  Refused,
}
use Rattle.build_steps.specs.Rows.{
  BuildState,
  row_want,
  build_want,
  build_got,
  build_in_hand,
}
use Rattle.build_steps.specs.Fits.{BuildFits}
use Rattle.build_steps.specs.Standing.{Stands}
use Rattle.build_steps.proofs.ReuseRulesKept.{keeps_reuse}
use Rattle.build_steps.proofs.MarkRulesKept.{keeps_grey, keeps_tricolour, keeps_solid}

phase_row : (w : Width) (h : Heap) (s : BuildState) (r : BuildRow)
    → heap_after h (row_want w s r) Phase ≡ h Phase
phase_row w h s (Reserve seen) = elim (cases_Bool (eqb (h FreeCount) seen)) [
  | inl is ↦ rw is refl
  | inr is ↦ rw is refl
]
phase_row w h s ReadCount = refl
phase_row w h s (TakeFree u) = refl
phase_row w h s (Collect a u) = refl
phase_row w h s (PutRest a) = refl
phase_row w h s (WriteOwner o) = refl
phase_row w h s (WriteShape o) = refl
phase_row w h s (WritePayload o j) = refl
phase_row w h s (WriteColour o) = refl
phase_row w h s Publish = refl
phase_row w h s Built = refl
phase_row w h s Refused = refl

-- no event writes the phase
pub phase_stays : (c : Config) (h : Heap) (s : BuildState)
    → heap_after h (build_want (extent c) s) Phase ≡ h Phase
phase_stays c h s = phase_row c.width h s s.row

pub keeps_phase : (c : Config) (h : Heap) (hs : ℕ → WorkInHand) (s : BuildState) → BuildFits c s
    → cycle_of (h Phase) ≡ s.cycle → Stands c.width h s
    → PhaseKept (extent c) h hs → hs s.thread ≡ build_in_hand s
    → PhaseKept (extent c) (heap_after h (build_want (extent c) s))
    (changed hs s.thread
    (build_in_hand (build_got (extent c) s (h (place_of (build_want (extent c) s))))))
keeps_phase c h hs s f cycle stands k e =
    let g = heap_after h (build_want (extent c) s) in
    let next : WorkInHand =
    build_in_hand (build_got (extent c) s (h (place_of (build_want (extent c) s)))) in
    let phase : g Phase ≡ h Phase = phase_stays c h s in
    let same : cycle_of (g Phase) ≡ s.cycle = ap cycle_of phase ∙ cycle in
    record {
      grey = subst (λ (ws : ℕ → GreyInHand). GreyKept c.threads g ws)
          (part_changed grey_held hs s.thread next) (keeps_grey c h hs s f k.reuse e k.grey);
      reuse = keeps_reuse c h hs s f cycle k.reuse e;
      tricolour = λ mark.
          let before : is_sweep (h Phase) ≡ false = ap is_sweep (sym phase) ∙ mark in
          let old = subst (λ z. TricolourKept (extent c) z h (λ t. tricolour_held (hs t))) cycle
          (k.tricolour before) in
          subst (λ z. TricolourKept (extent c) z g
          (λ t. tricolour_held (changed hs s.thread next t)))
          (sym same)
          (subst (λ (ws : ℕ → TricolourInHand). TricolourKept (extent c) s.cycle g ws)
          (part_changed tricolour_held hs s.thread next)
          (keeps_tricolour c h hs s f k.reuse e stands old));
      solid = λ mark.
          let before : is_sweep (h Phase) ≡ false = ap is_sweep (sym phase) ∙ mark in
          let old = subst (λ z. SolidKept (extent c) z h) cycle (k.solid before) in
          subst (λ z. SolidKept (extent c) z g) (sym same)
          (keeps_solid c h hs s f k.reuse e stands old);
    }
