use Rattle.std.proofs.Common.{◌≡◌}
use Rattle.askbench.proofs.shared.commands.do_trace.Given as goal

abbrev pub invariant-loop-before : goal.invariant-loop-before
invariant-loop-before g l = l.who.heap ≡ l.heap.id

abbrev pub invariant-loop-round : goal.invariant-loop-round
invariant-loop-round g l = l.who.heap ≡ l.heap.id
