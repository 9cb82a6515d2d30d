use Rattle.std.proofs.Common.{take}
use Rattle.saved_heap.specs.Faults.{AreAllowed}
use Rattle.saved_heap.proofs.renewal.are_allowed.Given as goal

abbrev pub invariant-loop-command : goal.invariant-loop-command
invariant-loop-command l = AreAllowed l.c (take l.command-index l.commands)
