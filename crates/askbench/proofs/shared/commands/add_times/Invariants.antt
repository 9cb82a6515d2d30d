use Rattle.std.proofs.Common.{◌≡◌}
use Rattle.askbench.proofs.shared.commands.add_times.Given as goal

abbrev pub invariant-loop-command : goal.invariant-loop-command
invariant-loop-command g l = l.who.heap ≡ l.heap.id
