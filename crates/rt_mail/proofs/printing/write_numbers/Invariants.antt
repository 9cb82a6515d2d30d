-- The numbers so far were put, and no fault was counted.
use Rattle.std.proofs.Common.{◌≡◌, take}
use Rattle.std.specs.List.{flat_map}
use Rattle.trace_text.specs.Streams.{Appends}
use Rattle.rt_mail.specs.Tellings.{number_text}
use Rattle.rt_mail.proofs.printing.write_numbers.Given as goal

abbrev pub invariant-loop-number : goal.invariant-loop-number
invariant-loop-number g l =
    let held = g.K.Sink.held in
    let faults = g.K.Sink.faults in
    record {
      written : Appends (held l.initial.sink) (held l.sink)
          (flat_map number_text (take l.number-index l.numbers));
      still : faults l.sink ≡ faults l.initial.sink;
    }
