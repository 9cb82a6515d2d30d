use Rattle.block_store.proofs.Indexes.{differ, below}
use Rattle.block_store.proofs.laws.places_differ.Goals as goal

pub returns : goal.returns
returns c = record { distinct = differ; below = below }
