-- The commands so far, and those of the operations that are left, are all commands.
use Rattle.std.proofs.Common.{◌≡◌, ◌++◌, ◌-◌, length, drop}
use Rattle.array_tables.specs.number_rings.Rings.{keeps, recalls, script_of}
use Rattle.array_tables.proofs.number_rings.TracesSoFar.{commands_of}
use Rattle.array_tables.proofs.number_rings.ring.trace_of_ring.Given as goal

abbrev pub invariant-loop-j : goal.invariant-loop-j
invariant-loop-j l =
    l.trace.items ++ commands_of (keeps l.thread l.j (drop l.j l.numbers))
    ≡ commands_of (keeps l.thread 0 l.numbers)

abbrev pub invariant-loop-j-2 : goal.invariant-loop-j-2
invariant-loop-j-2 l =
    l.trace.items ++ commands_of (recalls l.thread l.j (length l.numbers - l.j))
    ≡ commands_of (script_of l.thread l.numbers)
