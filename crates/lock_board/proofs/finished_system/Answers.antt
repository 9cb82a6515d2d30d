use Rattle.lock_board.proofs.Traces.{shown}
use Rattle.lock_board.proofs.finished_system.Goals as goal

pub returns-clause-finished : goal.returns-clause-finished
returns-clause-finished c = shown _ _ _ c.finish.result c.finish.ensures.finished
