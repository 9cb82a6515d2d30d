-- The lines of the answers so far were put, and no fault was counted.
use Rattle.std.proofs.Common.{◌≡◌, take}
use Rattle.std.specs.List.{flat_map}
use Rattle.trace_text.specs.Streams.{Appends}
use Rattle.array_scripts.specs.Tellings.{answer_line}
use Rattle.array_scripts.proofs.printing.write_thread.Given as goal

abbrev pub invariant-loop-answer : goal.invariant-loop-answer
invariant-loop-answer g l =
    let held = g.W.Sink.held in
    let faults = g.W.Sink.faults in
    record {
      written : Appends (held l.initial.sink) (held l.sink)
          (flat_map (answer_line g.K.Scripted.text l.thread) (take l.answer-index l.told));
      still : faults l.sink ≡ faults l.initial.sink;
    }
