use Rattle.block_store.proofs.Indexes.{heap_of-put}
use Rattle.block_store.proofs.laws.writes_are_of_places.Goals as goal

pub returns : goal.returns
returns c = heap_of-put
