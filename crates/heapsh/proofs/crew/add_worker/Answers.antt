use Rattle.heapsh.proofs.WorkerSeats.{worker_added}
use Rattle.heapsh.proofs.crew.add_worker.Goals as goal

pub returns : goal.returns
returns c = worker_added _ _ _ _ c.in_ok-push.ensures.items c.requires.all c.requires.own

pub returns-in_err-push : goal.returns-in_err-push
returns-in_err-push c = rw c.in_err-push.ensures.items c.requires.all
