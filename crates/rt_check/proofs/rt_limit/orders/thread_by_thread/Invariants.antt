use Rattle.std.proofs.Common.{◌≡◌, take}
use Rattle.rt_check.specs.rt_limit.Moments.{by_threads}
use Rattle.rt_check.proofs.rt_limit.orders.thread_by_thread.Given as goal

abbrev pub invariant-loop-thread : goal.invariant-loop-thread
invariant-loop-thread l = l.moves.items ≡ by_threads 0 (take l.thread l.job.traces)
