-- The lines so far were put.
use Rattle.std.proofs.Common.{take}
use Rattle.std.specs.List.{flat_map}
use Rattle.trace_text.specs.Streams.{Appends}
use Rattle.plantrun_core.proofs.telling.write_all.Given as goal

abbrev pub invariant-loop-one : goal.invariant-loop-one
invariant-loop-one g l =
    let held = g.K.Sink.held in
    Appends (held l.initial.sink) (held l.sink) (flat_map g.T.Told.text (take l.one-index l.all))
