use Rattle.std.proofs.Common.{◌/◌, ◌%◌}
use Rattle.array_trees.proofs.Depths.{path-turn, path_on, path_ends}
use Rattle.array_trees.proofs.path_of.Goals as goal

pub returns-clause-on : goal.returns-clause-on
returns-clause-on c =
    path_on c.args.width c.args.e c.args.i c.args.level
    (c.args.i / c.span.result % c.payloads.result)
    c.requires.element
    (path-turn c.args.width c.args.e c.args.i c.args.level c.depth_of.result c.span.result
    c.payloads.result c.depth_of.ensures.value c.span.ensures.power c.payloads.ensures.value)

pub returns-clause-ends : goal.returns-clause-ends
returns-clause-ends c =
    path_ends c.args.width c.args.e c.args.i c.args.level
    (c.args.i / c.span.result % c.payloads.result)
    c.requires.element
    (path-turn c.args.width c.args.e c.args.i c.args.level c.depth_of.result c.span.result
    c.payloads.result c.depth_of.ensures.value c.span.ensures.power c.payloads.ensures.value)
