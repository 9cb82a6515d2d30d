use Rattle.heap_invariant.proofs.graph_relation.ObjectLayouts.{layout_laws}
use Rattle.heap_invariant.proofs.graph_relation.objects_are_laid_out.Goals as goal

pub returns : goal.returns
returns c = layout_laws
