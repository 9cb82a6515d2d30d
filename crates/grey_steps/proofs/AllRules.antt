-- Each event of marking keeps all rules of the heap at once.
use Rattle.std.proofs.Common.{◌≡◌, ℕ, ap, subst}
use Rattle.block_store.specs.declared.Config.{Config}
use Rattle.block_store.specs.Heaps.{Heap}
use Rattle.block_store.specs.Places.{extent}
use Rattle.block_store.specs.Counts.{changed}
use Rattle.heap_machine.specs.Grey.{GreyInHand, GreyKept}
use Rattle.heap_machine.specs.HeapKept.{HeapKept}
use Rattle.heap_machine.specs.WorkInHand.{WorkInHand, grey_held, tricolour_held}
use Rattle.heap_machine.specs.Operations.{place_of, heap_after}
use Rattle.heap_machine.specs.Tricolour.{TricolourInHand, TricolourKept}
use Rattle.heap_machine.proofs.Lemmas.{part_changed}
use Rattle.grey_steps.specs.Rows.{GreyState, grey_want, grey_got, marking_in_hand}
use Rattle.grey_steps.specs.Fits.{GreyFits}
use Rattle.grey_steps.proofs.GreyRuleKept.{keeps}
use Rattle.grey_steps.proofs.Solids.{keeps_solid}
use Rattle.grey_steps.proofs.Tricolours.{keeps_tricolour}

pub keeps_heap : (c : Config) (h : Heap) (hs : ℕ → WorkInHand) (s : GreyState) → GreyFits c s
    → HeapKept (extent c) s.pass.cycle h hs → hs s.pass.thread ≡ marking_in_hand (extent c) s
    → HeapKept (extent c) s.pass.cycle (heap_after h (grey_want s))
    (changed hs s.pass.thread
    (marking_in_hand (extent c) (grey_got (extent c) s (h (place_of (grey_want s))))))
keeps_heap c h hs s f k e =
    let next : WorkInHand =
    marking_in_hand (extent c) (grey_got (extent c) s (h (place_of (grey_want s)))) in
    record {
      grey = subst (λ (ws : ℕ → GreyInHand). GreyKept c.threads (heap_after h (grey_want s)) ws)
          (part_changed grey_held hs s.pass.thread next)
          (keeps c h (λ t. grey_held (hs t)) s f k.grey (ap grey_held e));
      tricolour = subst
          (λ (ws : ℕ → TricolourInHand). TricolourKept (extent c) s.pass.cycle
          (heap_after h (grey_want s)) ws) (part_changed tricolour_held hs s.pass.thread next)
          (keeps_tricolour c h (λ t. tricolour_held (hs t)) s f k.tricolour (ap tricolour_held e));
      solid = keeps_solid c h (λ t. grey_held (hs t)) s f k.grey (ap grey_held e) k.solid;
    }
