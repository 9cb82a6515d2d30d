use Rattle.object_lists.proofs.Paths.{reached}
use Rattle.object_lists.proofs.blocks_are_reached.Goals as goal

pub returns : goal.returns
returns c = reached
