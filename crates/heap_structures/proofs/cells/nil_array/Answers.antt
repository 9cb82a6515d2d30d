use Rattle.heap_structures.proofs.cell_arrays.Opening.{grown, left_of, opens, range_of}
use Rattle.heap_structures.proofs.cells.nil_array.Goals as goal

pub returns-clause-range : goal.returns-clause-range
returns-clause-range c =
    range_of _ c.args.heap.now c.array.new.self c.args.base c.args.size c.array.result
    c.array.ensures.returned

pub returns-clause-opens : goal.returns-clause-opens
returns-clause-opens c s g spare has small =
    opens c.histories_are_right.ensures.legal c.histories_are_right.ensures.licensed
    c.live_grows.ensures c.lives_add_up.ensures.used c.args.heap.now c.array.new.self g c.args.base
    c.args.size c.array.ensures.config _ spare s has small c.array.result c.array.ensures.returned

pub returns-clause-left : goal.returns-clause-left
returns-clause-left c =
    left_of _ c.args.heap.now c.array.new.self c.args.base c.args.size c.array.result
    c.array.ensures.returned

pub returns-clause-grown : goal.returns-clause-grown
returns-clause-grown c s g has may =
    grown c.histories_are_right.ensures.legal c.histories_are_right.ensures.licensed
    c.live_grows.ensures c.lives_add_up.ensures.used c.args.heap.now c.array.new.self g c.args.base
    c.args.size c.array.ensures.config s has may
