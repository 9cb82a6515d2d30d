-- The lines of the threads so far were put, and no fault was counted.
use Rattle.std.proofs.Common.{◌≡◌, map}
use Rattle.array_scripts.proofs.WrittenAnswers.{IsWrittenTo}
use Rattle.array_scripts.proofs.printing.write_answers.Given as goal

abbrev pub invariant-loop-t : goal.invariant-loop-t
invariant-loop-t g l =
    let held = g.W.Sink.held in
    let faults = g.W.Sink.faults in
    record {
      written : IsWrittenTo g.K.Scripted.text (held l.initial.sink) (held l.sink)
          (map (λ v. v.items) l.told) l.t;
      still : faults l.sink ≡ faults l.initial.sink;
    }
