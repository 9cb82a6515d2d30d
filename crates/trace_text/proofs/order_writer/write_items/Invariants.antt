-- What was written and what is left make the whole text, and no fault was counted.
use Rattle.std.proofs.Common.{◌≡◌, slice_index}
use Rattle.trace_text.proofs.InOrder.{IsUnderWay}
use Rattle.trace_text.proofs.order_writer.write_items.Given as goal

abbrev pub invariant-loop-item : goal.invariant-loop-item
invariant-loop-item g l =
    let held = g.K.Sink.held in
    let faults = g.K.Sink.faults in
    record {
      under_way : IsUnderWay (g.R.Logs.logs l.run) l.order l.item-index
          (slice_index l.place.told) l.place.starts (held l.initial.sink) (held l.sink);
      still : faults l.sink ≡ faults l.initial.sink;
    }
