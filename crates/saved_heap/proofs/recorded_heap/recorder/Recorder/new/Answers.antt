use Rattle.std.proofs.Common.{subst}
use Rattle.block_store.specs.declared.Config.{Config}
use Rattle.std.specs.Prelude.{OnOk, []}
use Rattle.trace_text.specs.Streams.{Appends}
use Rattle.saved_heap.specs.recorded_heap.Recording.{text_so_far}
use Rattle.saved_heap.proofs.recorded_heap.Lines.{begun}
use Rattle.saved_heap.proofs.recorded_heap.recorder.Recorder.new.Goals as goal

pub returns-clause-recorded : goal.returns-clause-recorded
returns-clause-recorded g c =
    begun g.S.Sink.held g.S.Sink.faults c.args.sink c.write_first.new.sink c.args.heap c.write_first.result
    c.is_err-torn.result c.is_err-torn.ensures.value c.requires.can
    (subst (λ (d : Config). OnOk c.write_first.result (Appends (g.S.Sink.held c.args.sink)
    (g.S.Sink.held c.write_first.new.sink) (text_so_far d []))) c.config.ensures c.write_first.ensures.written)
    c.write_first.ensures.rose
