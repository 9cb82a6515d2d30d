use Rattle.array_trees.proofs.Depths.{level-power}
use Rattle.array_trees.proofs.blocks_in_level.Goals as goal

pub returns : goal.returns
returns c =
    level-power c.args.width c.args.e c.args.height c.leaves_of.result c.div_ceil.result
    c.span.result c.requires.few c.requires.height c.leaves_of.ensures c.span.ensures.power
    c.div_ceil.ensures
