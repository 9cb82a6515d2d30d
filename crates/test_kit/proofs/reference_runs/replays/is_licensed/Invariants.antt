-- What is left is licensed after the items so far exactly where all is.
use Rattle.std.proofs.Common.{◌↔◌, take, drop}
use Rattle.never_heap.specs.Licensed.{Licensed, LicensedFrom}
use Rattle.test_kit.specs.reference_runs.Happenings.{history}
use Rattle.test_kit.proofs.reference_runs.replays.is_licensed.Given as goal

abbrev pub invariant-loop-i : goal.invariant-loop-i
invariant-loop-i l =
    LicensedFrom l.c (history (take l.i l.h)) (history (drop l.i l.h))
    ↔ Licensed l.c (history l.h)
