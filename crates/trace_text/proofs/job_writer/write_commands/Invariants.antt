-- The lines of the commands so far were put, and no fault was counted.
use Rattle.std.proofs.Common.{◌≡◌, take}
use Rattle.std.specs.List.{flat_map}
use Rattle.trace_text.specs.Streams.{Appends}
use Rattle.trace_text.specs.Spellings.{command_line}
use Rattle.trace_text.specs.JobTexts.{line_text}
use Rattle.trace_text.proofs.job_writer.write_commands.Given as goal

abbrev pub invariant-loop-command : goal.invariant-loop-command
invariant-loop-command g l =
    let held = g.K.Sink.held in
    let faults = g.K.Sink.faults in
    record {
      written : Appends (held l.initial.sink) (held l.sink)
          (flat_map (λ c. line_text (command_line c)) (take l.command-index l.trace));
      still : faults l.sink ≡ faults l.initial.sink;
    }
