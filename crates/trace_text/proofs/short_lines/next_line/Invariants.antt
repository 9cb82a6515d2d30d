-- So many bytes of the line came, and no fault was counted.
use Rattle.std.proofs.Common.{◌≡◌, length, IfSome}
use Rattle.trace_text.proofs.short_lines.LineByBytes.{IsReadTo}
use Rattle.trace_text.proofs.short_lines.next_line.Given as goal

abbrev pub invariant-loop-place : goal.invariant-loop-place
invariant-loop-place g l = record {
  read : IfSome (g.S.Source.left l.fn.source) (λ bytes.
      IsReadTo bytes l.place l.line (g.S.Source.left l.source));
  size : length l.line ≡ l.place;
  still : g.S.Source.faults l.source ≡ g.S.Source.faults l.fn.source;
}
