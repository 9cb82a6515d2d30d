use Rattle.std.proofs.Common.{◌≡◌, ◌++◌, take}
use Rattle.rt_check.specs.rt_limit.Moments.{moves_of}
use Rattle.rt_check.proofs.rt_limit.orders.push_trace.Given as goal

abbrev pub invariant-loop-command : goal.invariant-loop-command
invariant-loop-command l =
    l.moves.items ≡ l.initial.moves.items ++ moves_of l.thread (take l.command-index l.trace)
