use Rattle.std.proofs.Common.{◌≡◌, ◌≤◌, length, map, take}
use Rattle.heap_system.specs.Systems.{commands_in}
use Rattle.heap_system.proofs.orders.commands_of.Given as goal

abbrev pub invariant-loop-trace : goal.invariant-loop-trace
invariant-loop-trace l = (l.sum ≡ commands_in (map (λ v. v.items) (take l.trace-index l.traces))) × (l.trace-index ≤ length l.traces)
