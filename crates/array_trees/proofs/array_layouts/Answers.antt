use Rattle.block_store.specs.Widths.{payloads}
use Rattle.block_store.proofs.Lemmas.{many}
use Rattle.array_trees.proofs.Arrays.{by_levels, depth_is, tree_layout, tree_is_way}
use Rattle.array_trees.proofs.array_layouts.Goals as goal

pub returns : goal.returns
returns c = record {
  layout = λ w e. tree_layout (payloads w) e (many w);
  depth = λ w e. depth_is (payloads w) e (many w);
  levels = λ w e. by_levels (payloads w) e (many w);
  way = λ w e i fits. tree_is_way (payloads w) e (many w) i fits;
}
