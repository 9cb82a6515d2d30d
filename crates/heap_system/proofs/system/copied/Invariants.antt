use Rattle.std.proofs.Common.{◌≡◌, ◌≤◌, length, take}
use Rattle.heap_system.proofs.system.copied.Given as goal

abbrev pub invariant-loop-i : goal.invariant-loop-i
invariant-loop-i l = (l.copy.items ≡ take l.i l.words) × (l.i ≤ length l.words)
