use Rattle.heapsh.proofs.crew.those_of.Goals.{in-Some+in_ok-add_worker, in_default}
use Rattle.heapsh.proofs.crew.those_of.Goals as goal

pub loop-thread-preserved : goal.loop-thread-preserved
loop-thread-preserved c = (
  c.take_worker.ensures.rest,
  elim c.match-take_worker.branch [
    | in-Some+in_ok-add_worker w ↦ rw w.found-is w.add_worker.ensures
    | in_default w ↦ rw w.found-is c.loop-thread.invariant.1
  ],
)
