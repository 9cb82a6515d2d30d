-- The traces of the threads so far were put, and no fault was counted.
use Rattle.std.proofs.Common.{◌≡◌, take}
use Rattle.trace_text.specs.Streams.{Appends}
use Rattle.trace_text.proofs.TraceLines.{traces_text}
use Rattle.trace_text.proofs.job_writer.write_traces.Given as goal

abbrev pub invariant-loop-t : goal.invariant-loop-t
invariant-loop-t g l =
    let held = g.K.Sink.held in
    let faults = g.K.Sink.faults in
    record {
      written : Appends (held l.initial.sink) (held l.sink) (traces_text 0 (take l.t l.job.traces));
      still : faults l.sink ≡ faults l.initial.sink;
    }
