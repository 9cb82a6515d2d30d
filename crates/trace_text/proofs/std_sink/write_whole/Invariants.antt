-- The writer was given the first `done` bytes.
use Rattle.std.proofs.Common.{◌≤◌, length, take}
use Rattle.trace_text.specs.Streams.{Appends}
use Rattle.trace_text.proofs.std_sink.write_whole.Given as goal

abbrev pub invariant-loop : goal.invariant-loop
invariant-loop g l = record {
  within : l.done ≤ length l.piece;
  written : Appends (g.W.Write.contents l.initial.writer) (g.W.Write.contents l.writer)
      (take l.done l.piece);
}
