use Rattle.heap_invariant.proofs.graph_relation.Publish.{written_shows}
use Rattle.heap_invariant.proofs.graph_relation.written_blocks_are_shown.Goals as goal

pub returns : goal.returns
returns c = λ W n o head w a k block_of written. written_shows W head w a k n block_of o written
