use Rattle.historian_core.proofs.Life.{holds}
use Rattle.historian_core.proofs.start.Goals as goal

pub open-requires : goal.open-requires
open-requires c = holds
