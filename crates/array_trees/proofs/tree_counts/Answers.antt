use Rattle.array_trees.proofs.Counts.{le-tree, tree_is}
use Rattle.array_trees.proofs.tree_counts.Goals as goal

pub returns : goal.returns
returns c = record { equations = tree_is; all_levels = le-tree }
