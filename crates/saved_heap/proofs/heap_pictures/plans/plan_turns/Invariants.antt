use Rattle.std.proofs.Common.{◌≡◌}
use Rattle.saved_heap.specs.heap_pictures.Pictures.{content_of}
use Rattle.saved_heap.specs.heap_pictures.Plans.{planned}
use Rattle.saved_heap.proofs.heap_pictures.plans.plan_turns.Given as goal

abbrev pub invariant-loop-turn : goal.invariant-loop-turn
invariant-loop-turn l = l.fn.plan.items ≡ planned (content_of l.picture) l.done → l.plan.items ≡ planned (content_of l.picture) l.turn
