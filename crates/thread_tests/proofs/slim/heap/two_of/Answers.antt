use Rattle.thread_tests.proofs.WorkersOfHeap.{two_of}
use Rattle.thread_tests.proofs.slim.heap.two_of.Goals as goal

pub returns-clause-first : goal.returns-clause-first
returns-clause-first c =
    (two_of c.args.heap.now c.args.workers.items _ _ _ _ c.requires.workers
    c.first_and_rest-first.ensures c.first_and_rest-second.ensures).0

pub returns-clause-second : goal.returns-clause-second
returns-clause-second c =
    (two_of c.args.heap.now c.args.workers.items _ _ _ _ c.requires.workers
    c.first_and_rest-first.ensures c.first_and_rest-second.ensures).1
