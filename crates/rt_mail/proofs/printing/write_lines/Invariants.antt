-- The lines of the threads so far were put, and no fault was counted.
use Rattle.std.proofs.Common.{◌≡◌, map}
use Rattle.rt_mail.proofs.WrittenLines.{IsWrittenTo}
use Rattle.rt_mail.proofs.printing.write_lines.Given as goal

abbrev pub invariant-loop-t : goal.invariant-loop-t
invariant-loop-t g l =
    let held = g.K.Sink.held in
    let faults = g.K.Sink.faults in
    record {
      written : IsWrittenTo (held l.initial.sink) (held l.sink) l.taken.taken
          (map (λ v. v.items) l.recalled) l.t;
      still : faults l.sink ≡ faults l.initial.sink;
    }
