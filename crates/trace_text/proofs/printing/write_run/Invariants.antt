-- The lines of the threads so far were put, and no fault was counted.
use Rattle.std.proofs.Common.{◌≡◌, take}
use Rattle.std.specs.List.{flat_map}
use Rattle.trace_text.specs.Streams.{Appends}
use Rattle.trace_text.specs.RunTexts.{entry_line}
use Rattle.trace_text.proofs.printing.write_run.Given as goal

abbrev pub invariant-loop-t : goal.invariant-loop-t
invariant-loop-t g l =
    let held = g.K.Sink.held in
    let faults = g.K.Sink.faults in
    record {
      written : Appends (held l.initial.sink) (held l.sink)
          (flat_map (λ log. flat_map entry_line log) (take l.t (g.R.Logs.logs l.run)));
      still : faults l.sink ≡ faults l.initial.sink;
    }
