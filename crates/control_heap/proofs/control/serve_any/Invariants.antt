use Rattle.heap_system.specs.Locals.{begun}
use Rattle.control_heap.proofs.ServeLoop.{Came}
use Rattle.control_heap.proofs.control.serve_any.Given as goal

abbrev pub invariant-loop-run : goal.invariant-loop-run
invariant-loop-run g l =
    Came g.M.Memory.acts g.M.Store.shows l.fn.memory (begun l.fn.command l.fn.thread) l.memory l.thread l._run
