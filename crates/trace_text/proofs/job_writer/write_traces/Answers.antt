use Rattle.std.proofs.Common.{◌<◌, ◌∙◌, subst, List, length, [], arith}
use Rattle.never_heap.specs.declared.Command.{Command}
use Rattle.trace_text.specs.Streams.{Appends, AppendsPrefix}
use Rattle.trace_text.proofs.AppendedTexts.{at_err}
use Rattle.trace_text.proofs.TraceLines.{trace_text, traces_front, traces_more}
use Rattle.trace_text.proofs.job_writer.write_traces.Goals as goal

pub returns-in_err-write_trace-clause-prefix : goal.returns-in_err-write_trace-clause-prefix
returns-in_err-write_trace-clause-prefix g c =
    let held = g.K.Sink.held in
    let P : List Command → Type 0 =
    λ trace. AppendsPrefix (held c.loop-t.sink) (held c.write_trace.new.sink)
    (trace_text c.loop-t.t trace) in
    let front = subst P c.trace.ensures c.in_err-write_trace.ensures.prefix in
    let lt : c.loop-t.t < length c.args.job.now.traces =
    omega (arith, c.loop-t-test.true, c.threads-t-end.ensures) in
    at_err c.from_residual.result
    (traces_front c.args.job.now.traces c.loop-t.t [] lt _ _ _ c.loop-t.invariant.written front)

pub loop-t-preserved : goal.loop-t-preserved
loop-t-preserved g c =
    let held = g.K.Sink.held in
    let P : List Command → Type 0 =
    λ trace. Appends (held c.loop-t.sink) (held c.write_trace.new.sink)
    (trace_text c.loop-t.t trace) in
    let own = subst P c.trace.ensures c.in_ok-write_trace.ensures.written in
    let lt : c.loop-t.t < length c.args.job.now.traces =
    omega (arith, c.loop-t-test.true, c.threads-t-end.ensures) in
    record {
      written = traces_more c.args.job.now.traces c.loop-t.t [] lt _ _ _ c.loop-t.invariant.written
          own;
      still = c.in_ok-write_trace.ensures.still ∙ c.loop-t.invariant.still;
    }
