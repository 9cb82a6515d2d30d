-- The lines of the entries so far were put, and no fault was counted.
use Rattle.std.proofs.Common.{◌≡◌, take}
use Rattle.std.specs.List.{flat_map}
use Rattle.trace_text.specs.Streams.{Appends}
use Rattle.trace_text.specs.RunTexts.{entry_line}
use Rattle.trace_text.proofs.printing.write_log.Given as goal

abbrev pub invariant-loop-entry : goal.invariant-loop-entry
invariant-loop-entry g l =
    let held = g.K.Sink.held in
    let faults = g.K.Sink.faults in
    record {
      written : Appends (held l.initial.sink) (held l.sink)
          (flat_map entry_line (take l.entry-index l.log));
      still : faults l.sink ≡ faults l.initial.sink;
    }
