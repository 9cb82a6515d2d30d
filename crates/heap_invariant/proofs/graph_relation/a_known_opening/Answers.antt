use Rattle.heap_invariant.proofs.graph_relation.Example.{wide_root, wide_root_rest, wide_registers, wide_rest, wide_shared}
use Rattle.heap_invariant.proofs.graph_relation.a_known_opening.Goals as goal

pub returns : goal.returns
returns c = record {
  root = (wide_root.0, wide_root.1, wide_root_rest);
  registers = (wide_registers, wide_rest);
  shared = wide_shared;
}
