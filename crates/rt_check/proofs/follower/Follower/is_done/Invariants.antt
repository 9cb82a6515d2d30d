use Rattle.std.proofs.Common.{◌≡◌, ◌<◌, ℕ, []}
use Rattle.rt_check.specs.Standing.{rest_of}
use Rattle.rt_check.proofs.follower.Follower.is_done.Given as goal

abbrev pub invariant-loop-t : goal.invariant-loop-t
invariant-loop-t l = (t : ℕ) → t < l.t → rest_of l.job.traces l.self.done.items t ≡ []
