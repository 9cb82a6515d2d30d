use Rattle.std.proofs.Common.{[], ◌∷◌, ◌++◌, ◌∙◌, ap}
use Rattle.block_store.specs.declared.Value.TheVariants.{Nil}
use Rattle.saved_heap.proofs.heap_pictures.PlanLists.{more_loads}
use Rattle.saved_heap.proofs.heap_pictures.plans.plan_loads.Goals as goal

pub loop-i-preserved : goal.loop-i-preserved
loop-i-preserved c =
    c.in_ok-push.ensures.items ∙ ap (λ k. c.loop-i.plan.items ++ k ∷ []) c.load.ensures
    ∙ more_loads c.args.plan.now.items c.loop-i.plan.items c.args.d c.loop-i.i c.args.values.now Nil c.loop-i-test.true c.loop-i.invariant
