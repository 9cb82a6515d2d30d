use Rattle.std.proofs.Common.{length, ap, ◌∙◌}
use Rattle.control_heap.specs.Controls.{Control}
use Rattle.control_heap.proofs.GaugesRead.{bounds_is, long_is}
use Rattle.control_heap.proofs.control.seen.ControlHeap.snapshot.Goals as goal

pub invariant_of-result : goal.invariant_of-result
invariant_of-result c =
    let h : Control = record { config = c.self.inside.config; memory = c.self.inside.memory; words = c.self.inside.memory; thread = c.self.inside.thread; count = c.self.inside.count; objects = c.self.inside.objects } in
    record {
      bounds = bounds_is h c.self.invariant.0 c.self.invariant.1;
      there = ap length c.in_ok-words.ensures ∙ long_is h c.self.invariant.0 c.self.invariant.1;
    }
