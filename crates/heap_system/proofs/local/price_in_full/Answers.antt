use Rattle.std.proofs.Common.{refl, ◌∙◌, arith}
use Rattle.never_heap.specs.RightWork.{requested_units}
use Rattle.heap_system.proofs.openings.TextLives.{price_few}
use Rattle.heap_system.proofs.local.price_in_full.Goals as goal

pub overflow_mul-result : goal.overflow_mul-result
overflow_mul-result c =
    let low = price_few c.args.c.now c.args.rate c.args.command.now c.requires.rate c.requires.bounds c.requires.command c.from.result (requested_units c.args.command.now) (c.from.ensures ∙ c.blocks-2.ensures) refl in
    omega arith

pub overflow_add-result : goal.overflow_add-result
overflow_add-result c =
    let low = price_few c.args.c.now c.args.rate c.args.command.now c.requires.rate c.requires.bounds c.requires.command c.from.result c.requested_units.result (c.from.ensures ∙ c.blocks-2.ensures) c.requested_units.ensures in
    omega arith

pub returns-clause-few : goal.returns-clause-few
returns-clause-few c =
    let low = price_few c.args.c.now c.args.rate c.args.command.now c.requires.rate c.requires.bounds c.requires.command c.from.result c.requested_units.result (c.from.ensures ∙ c.blocks-2.ensures) c.requested_units.ensures in
    omega arith
