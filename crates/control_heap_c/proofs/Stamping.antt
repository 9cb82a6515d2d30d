-- The stamps of two calls of status 0 are in the order of what their workers have seen.
use Rattle.std.proofs.Common.{◌≡◌, ℕ, ◌≤◌, Bool, true, false, refl, sym, ap, ◌∙◌, subst, arith}
use Rattle.std.specs.Prelude.{Option, Some, None, Result, Ok, Err}
use Rattle.shared_heap.specs.Stamps.{HasDrawn}
use Rattle.shared_heap.specs.Workers.{WorkerState}
use Rattle.shared_heap.proofs.Lemmas.{stamps_in_order}
use Rattle.control_heap_c.specs.Shared.{worker_at}
use Rattle.control_heap_c.specs.Stamps.{BecameFollowed, BecameStamped, HasCaughtUp, Stamped, follow_status, stamp_status, stamp_told}
use Rattle.control_heap_c.specs.declared.owned.Owned.{Owned}
use Rattle.control_heap_c.specs.declared.shared.stamps.StampRefusal.{StampRefusal}
use Rattle.control_heap_c.specs.declared.shared.stamps.StampRefusal.TheVariants as stamping

abbrev the : WorkerState → Option WorkerState → WorkerState
the d None = d
the d (Some w) = w

module _ (g h : Option Owned) (v : WorkerState) (at : worker_at h ≡ Some v) where
  drew : (outcome : Result ℕ StampRefusal) (before stamp : ℕ) → BecameStamped g outcome h → 0 ≡ stamp_status outcome → stamp ≡ stamp_told outcome before → (u : WorkerState) × HasDrawn u stamp v
  drew (Ok n) before stamp became status is =
      let same : became.1 ≡ v = ap (the v) (sym became.3 ∙ at) in
      (became.0, subst (λ x. HasDrawn became.0 x v) (sym is) (subst (λ x. HasDrawn became.0 n x) same became.4))
  drew (Err stamping.Closed) before stamp became status is = absurd (omega (arith, status))
  drew (Err stamping.Busy) before stamp became status is = absurd (omega (arith, status))

  followed : (outcome : Result Bool StampRefusal) (stamp : ℕ) → BecameFollowed g stamp outcome h → 0 ≡ follow_status outcome → (u : WorkerState) × (m : ℕ) × (stamp ≤ m) × HasDrawn u m v
  followed (Ok true) stamp became status =
      let same : became.1 ≡ v = ap (the v) (sym became.3 ∙ at) in
      (became.0, became.4.own, became.4.told.0 refl, subst (λ x. HasDrawn became.0 became.4.own x) same became.4.drawn)
  followed (Ok false) stamp became status = absurd (omega (arith, status))
  followed (Err stamping.Closed) stamp became status = absurd (omega (arith, status))
  followed (Err stamping.Busy) stamp became status = absurd (omega (arith, status))

pub caught_up : (before stamp status : ℕ) (g h i j : Option Owned) (outcome : Result Bool StampRefusal) → BecameFollowed i stamp outcome j → status ≡ follow_status outcome → Stamped g h before stamp 0 → status ≡ 0 → HasCaughtUp h j
caught_up before stamp status g h i j outcome became is first zero v y timeline at then_at lined then_lined =
    let one = drew g h v at first.outcome before stamp first.became first.status_is first.stamp_is in
    let other = followed i j y then_at outcome stamp became (sym zero ∙ is) in
    stamps_in_order timeline one.0 v other.0 y stamp other.1 one.1 other.3 other.2 lined then_lined
