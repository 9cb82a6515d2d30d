-- A heap whose words are those that its places can hold stays one.
use Rattle.std.proofs.Common.{ℕ, eqb, subst, inl, inr}
use Rattle.std.proofs.lemmas.Bool.{cases_Bool}
use Rattle.block_store.specs.declared.Config.{Config}
use Rattle.block_store.specs.Heaps.{Heap, put_at}
use Rattle.block_store.specs.Places.{Place, extent, same_place}
use Rattle.block_store.proofs.Lemmas.{one_place}
use Rattle.heap_machine.specs.Operations.{Operation, Load, Exchange, CompareExchange, FetchAdd, FetchSub, heap_after}
use Rattle.heap_machine.specs.Readings.{CanHold, StoresHeld, IsHeld}

pub held_put : (c : Config) (h : Heap) (p : Place) (v : ℕ) → CanHold (extent c) p v → IsHeld c h → IsHeld c (put_at h p v)
held_put c h p v new k q inp = elim (cases_Bool (same_place p q)) [
  | inl is ↦ rw is (subst (λ r. CanHold (extent c) r v) (one_place p q is) new)
  | inr is ↦ rw is (k q inp)
]

pub held_after : (c : Config) (h : Heap) (o : Operation) → StoresHeld c o → IsHeld c h → IsHeld c (heap_after h o)
held_after c h (Load p) s k = k
held_after c h (Exchange p v) s k = held_put c h p v s k
held_after c h (CompareExchange p old v) s k = elim (cases_Bool (eqb (h p) old)) [
  | inl is ↦ rw is (held_put c h p v s k)
  | inr is ↦ rw is k
]
held_after c h (FetchAdd p v) s k = absurd s
held_after c h (FetchSub p v) s k = absurd s
