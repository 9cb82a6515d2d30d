use Rattle.shared_heap.specs.Workers.{IsSame}
use Rattle.thread_tests.proofs.heap.repeats.Given as goal

abbrev pub invariant-loop-number : goal.invariant-loop-number
invariant-loop-number g l = IsSame l.fn.who l.who
