-- The rules of both phases, from those of one.
use Rattle.std.proofs.Common.{◌≡◌, ◌<◌, ℕ, true, false, refl, sym, subst, ◌∙◌}
use Rattle.block_store.specs.Heaps.{Heap, put_at}
use Rattle.block_store.specs.Phases.{is_sweep, cycle_of}
use Rattle.block_store.specs.Places.{Extent, Phase, Cursor}
use Rattle.heap_machine.specs.Grey.{GreyKept}
use Rattle.heap_machine.specs.HeapKept.{HeapKept}
use Rattle.heap_machine.specs.WorkInHand.{WorkInHand, grey_held, tricolour_held, sweep_held}
use Rattle.heap_machine.specs.Operations.{Exchange}
use Rattle.heap_machine.specs.PhaseKept.{PhaseKept}
use Rattle.heap_machine.specs.ReuseKept.{ReuseKept}
use Rattle.heap_machine.specs.Solid.{SolidKept}
use Rattle.heap_machine.specs.Sweeping.{no_claim}
use Rattle.heap_machine.specs.Tricolour.{TricolourKept}
use Rattle.heap_machine.proofs.GreyBlocks.{kept_other}
use Rattle.heap_machine.proofs.ReuseRules.{reuse_phase, reuse_turns}
use Rattle.heap_machine.proofs.Solids.{solid_other}
use Rattle.heap_machine.proofs.Tricolours.{tricolour_other}

module _ (e : Extent) (h : Heap) (hs : ℕ → WorkInHand) where
  -- while the phase is Mark, what marking keeps
  pub in_mark : PhaseKept e h hs → is_sweep (h Phase) ≡ false → HeapKept e (cycle_of (h Phase)) h hs
  in_mark k mark = record { grey = k.grey; tricolour = k.tricolour mark; solid = k.solid mark }

  -- and back
  pub from_mark : (cycle : ℕ) → cycle_of (h Phase) ≡ cycle → HeapKept e cycle h hs
      → ReuseKept e h hs → PhaseKept e h hs
  from_mark cycle same k reuse = record {
    grey = k.grey;
    reuse = reuse;
    tricolour = λ _. subst (λ c. TricolourKept e c h (λ t. tricolour_held (hs t)))
        (sym same) k.tricolour;
    solid = λ _. subst (λ c. SolidKept e c h) (sym same) k.solid;
  }

  -- in Sweep the rules of marking say nothing
  pub from_sweep : is_sweep (h Phase) ≡ true → GreyKept e.threads h (λ t. grey_held (hs t))
      → ReuseKept e h hs → PhaseKept e h hs
  from_sweep sweep grey reuse = record {
    grey = grey;
    reuse = reuse;
    tricolour = λ mark. absurd (let z : true ≡ false = sym sweep ∙ mark in cc);
    solid = λ mark. absurd (let z : true ≡ false = sym sweep ∙ mark in cc);
  }

module _ (e : Extent) (h : Heap) (hs : ℕ → WorkInHand) (k : PhaseKept e h hs) (v : ℕ) where
  grey_still : GreyKept e.threads (put_at h Phase v) (λ t. grey_held (hs t))
  grey_still = kept_other e.threads h (λ t. grey_held (hs t)) (Exchange Phase v) refl k.grey

  -- the phase word changes, and neither the phase nor the cycle
  pub phase_stays : cycle_of v ≡ cycle_of (h Phase) → is_sweep v ≡ is_sweep (h Phase)
      → PhaseKept e (put_at h Phase v) hs
  phase_stays cycle phase = record {
    grey = grey_still;
    reuse = reuse_phase e h hs k.reuse v cycle phase;
    tricolour = λ mark. subst
        (λ c. TricolourKept e c (put_at h Phase v) (λ t. tricolour_held (hs t))) (sym cycle)
        (tricolour_other e (cycle_of (h Phase)) h (λ t. tricolour_held (hs t))
        (Exchange Phase v) refl (k.tricolour (sym phase ∙ mark)));
    solid = λ mark. subst (λ c. SolidKept e c (put_at h Phase v)) (sym cycle)
        (solid_other e (cycle_of (h Phase)) h (Exchange Phase v) refl (k.solid (sym phase ∙ mark)));
  }

  -- the phase becomes Sweep, where nothing is claimed and the cursor is at the first block
  pub phase_flips : is_sweep v ≡ true → h Cursor ≡ 1
      → ((t : ℕ) → t < e.threads → sweep_held (hs t) ≡ no_claim)
      → PhaseKept e (put_at h Phase v) hs
  phase_flips sweep first none =
      from_sweep e (put_at h Phase v) hs sweep grey_still
      (reuse_turns e h hs k.reuse v none (λ _. first))
