use Rattle.control_heap.proofs.graph_view.ComeBack.{come_back}
use Rattle.control_heap.proofs.graph_view.graphs_come_back.Goals as goal

pub returns : goal.returns
returns _ h z g ks a leaves now all small more = come_back h z g ks a leaves now all small more
