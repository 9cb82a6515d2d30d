-- What keeps all rules of a heap at once, and what a thread does that goes on.
use Rattle.std.proofs.Common.{◌≡◌, ℕ, false, refl, sym}
use Rattle.std.proofs.lemmas.Bool.{or_parts}
use Rattle.block_store.specs.Heaps.{Heap, put_at}
use Rattle.block_store.specs.Payloads.{target}
use Rattle.block_store.specs.Places.{Extent, ColourOf, PayloadOf}
use Rattle.block_store.specs.Counts.{changed}
use Rattle.heap_machine.specs.Grey.{is_of_grey}
use Rattle.heap_machine.specs.HeapKept.{HeapKept, is_ruled, CanColour, CanRefer}
use Rattle.heap_machine.specs.WorkInHand.{WorkInHand, grey_held, tricolour_held}
use Rattle.heap_machine.specs.Operations.{Operation, Exchange, place_of, heap_after}
use Rattle.heap_machine.specs.Tricolour.{is_of_tricolour}
use Rattle.block_store.proofs.Lemmas.{changed_map}
use Rattle.heap_machine.proofs.GreyBlocks.{kept_other, kept_other_colour}
use Rattle.heap_machine.proofs.Solids.{solid_other, solid_colour, solid_payload}
use Rattle.heap_machine.proofs.Tricolours.{tricolour_other, kept_colour, kept_payload}

-- a part of what the threads hold, after one of them has gone on
pub part_changed : {A : Type 0} (part : WorkInHand → A) (hs : ℕ → WorkInHand) (t : ℕ) (w : WorkInHand)
    → changed (λ u. part (hs u)) t (part w) ≡ (λ u. part (changed hs t w u))
part_changed part hs t w = sym (changed_map part hs t w)

pub heap_other : (e : Extent) (c : ℕ) (h : Heap) (hs : ℕ → WorkInHand) (o : Operation) → is_ruled (place_of o) ≡ false → HeapKept e c h hs → HeapKept e c (heap_after h o) hs
heap_other e c h hs o away k =
    let n = or_parts (is_of_grey (place_of o)) (is_of_tricolour (place_of o)) away in
    record {
      grey = kept_other e.threads h (λ t. grey_held (hs t)) o n.0 k.grey;
      tricolour = tricolour_other e c h (λ t. tricolour_held (hs t)) o n.1 k.tricolour;
      solid = solid_other e c h o n.1 k.solid;
    }

pub heap_colour : (e : Extent) (c : ℕ) (h : Heap) (hs : ℕ → WorkInHand) (x v : ℕ) → CanColour e c h x v → HeapKept e c h hs → HeapKept e c (put_at h (ColourOf x) v) hs
heap_colour e c h hs x v can k = record {
  grey = kept_other_colour e.threads h (λ t. grey_held (hs t)) x v can.was can.not_grey k.grey;
  tricolour = kept_colour e c h (λ t. tricolour_held (hs t)) x v can.not_white can.dark k.tricolour;
  solid = solid_colour e c h x v can.not_free can.solid can.root k.solid;
}

pub heap_payload : (e : Extent) (c : ℕ) (h : Heap) (hs : ℕ → WorkInHand) (x j w : ℕ) → CanRefer c h (target w) → HeapKept e c h hs → HeapKept e c (put_at h (PayloadOf x j) w) hs
heap_payload e c h hs x j w can k = record {
  grey = kept_other e.threads h (λ t. grey_held (hs t)) (Exchange (PayloadOf x j) w) refl k.grey;
  tricolour = kept_payload c h x j w can.dark e (λ t. tricolour_held (hs t)) k.tricolour;
  solid = solid_payload e c h x j w (λ _. can.solid) k.solid;
}
