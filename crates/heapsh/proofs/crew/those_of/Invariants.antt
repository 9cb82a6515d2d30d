use Rattle.std.specs.List.{All}
use Rattle.heapsh.specs.Seats.{IsOf}
use Rattle.heapsh.proofs.crew.those_of.Given as goal

abbrev pub invariant-loop-thread : goal.invariant-loop-thread
invariant-loop-thread l = All (IsOf l.heap.id) l.rest.items × All (IsOf l.heap.id) l.found.items
