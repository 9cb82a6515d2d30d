-- None of the threads so far says too often.
use Rattle.std.proofs.Common.{ℕ, ◌<◌, ◌≤◌}
use Rattle.rt_mail.specs.Says.{says_of}
use Rattle.rt_mail.proofs.limits.within_limits.Given as goal

abbrev pub invariant-loop-t : goal.invariant-loop-t
invariant-loop-t l = (u : ℕ) → u < l.t → says_of l.job u ≤ 30000
