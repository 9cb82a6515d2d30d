-- Where every thread is done, nobody is inside and the gate is open.
use Rattle.std.proofs.Common.{◌≡◌, ℕ, ◌<◌, Bool, true, false, List, arith, sym, ap, ◌∙◌, refl}
use Rattle.block_store.specs.declared.Config.{Config}
use Rattle.block_store.specs.Phases.{bit, is_closed}
use Rattle.block_store.specs.Places.{Phase}
use Rattle.block_store.proofs.Lemmas.{total_none}
use Rattle.never_heap.specs.declared.Command.{Command}
use Rattle.heap_machine.specs.Gating.{is_inside, is_closing}
use Rattle.heap_system.specs.Alone.{IsQuiet}
use Rattle.heap_system.specs.Parts.{Rest}
use Rattle.heap_system.specs.Locals.{is_done}
use Rattle.heap_system.specs.Machines.{Run, heap_in, local_in}
use Rattle.heap_system.specs.Pictures.{gating}
use Rattle.heap_system.proofs.Lemmas.{Kept, at_rest, rest_is}

module _ (c : Config) (traces : List (List Command)) (r : Run) (all : Kept c traces r) (done_at : (t : ℕ) → t < c.threads → is_done (local_in c r t) ≡ true) where
  rest_at : (t : ℕ) → t < c.threads → (local_in c r t).part ≡ Rest
  rest_at t tl = rest_is (local_in c r t).part (at_rest (local_in c r t) (done_at t tl))

  opened_is : (b : Bool) → bit b ≡ 0 → b ≡ false
  opened_is true e = absurd (omega (arith, e))
  opened_is false e = refl

  pub all_done_quiet : IsQuiet c r
  all_done_quiet = record {
    nobody = sym all.gate.count ∙ total_none c.threads _ (λ t tl. ap (λ p. bit (is_inside (gating c (local_in c r t).pass p).stand)) (rest_at t tl));
    opened = opened_is (is_closed (heap_in c r.state Phase)) (sym all.gate.closers ∙ total_none c.threads _ (λ t tl. ap (λ p. bit (is_closing (gating c (local_in c r t).pass p).stand)) (rest_at t tl)));
  }
