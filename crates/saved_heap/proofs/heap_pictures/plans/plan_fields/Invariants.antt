use Rattle.std.proofs.Common.{◌≡◌, ◌++◌, take}
use Rattle.saved_heap.specs.heap_pictures.Plans.{stores}
use Rattle.saved_heap.proofs.heap_pictures.plans.plan_fields.Given as goal

abbrev pub invariant-loop-i : goal.invariant-loop-i
invariant-loop-i l = l.plan.items ≡ l.fn.plan.items ++ stores 0 (take l.i l.fields)
