use Rattle.std.proofs.Common.{ℕ, ◌<◌, ◌++◌, length, ap, sym, ◌∙◌, arith}
use Rattle.trace_text.specs.Jobs.{Job}
use Rattle.rt_check.specs.rt_limit.Moments.{moves_of}
use Rattle.rt_check.proofs.rt_limit.JobLaws.{by_threads_more}
use Rattle.rt_check.proofs.rt_limit.orders.thread_by_thread.Goals as goal

pub loop-thread-preserved : goal.loop-thread-preserved
loop-thread-preserved c =
    let job = c.args.job.now in
    let t : ℕ = c.loop-thread.thread in
    let same = ap (λ (j : Job). j.config.threads) c.job.view_is in
    let low : t < length job.traces = omega (arith, c.requires.threads, c.loop-thread-test.true, same) in
    c.in_ok-push_trace.ensures
    ∙ (λ i. c.loop-thread.invariant i ++ moves_of t (c.trace.ensures i))
    ∙ sym (by_threads_more job.traces t low)
