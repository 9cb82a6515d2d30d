use Rattle.std.proofs.Common.{◌∙◌}
use Rattle.block_store.specs.declared.Value.TheVariants.{Nil}
use Rattle.saved_heap.proofs.heap_pictures.PlanLists.{more_stores}
use Rattle.saved_heap.proofs.heap_pictures.plans.plan_fields.Goals as goal

pub loop-i-preserved : goal.loop-i-preserved
loop-i-preserved c =
    c.in_ok-plan_field.ensures
    ∙ more_stores c.args.plan.now.items c.loop-i.plan.items c.loop-i.i c.args.fields.now Nil c.loop-i-test.true c.loop-i.invariant
