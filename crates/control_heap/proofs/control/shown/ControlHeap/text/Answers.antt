use Rattle.control_heap.specs.Controls.{Control}
use Rattle.control_heap.proofs.GaugesRead.{bounds_is, long_is}
use Rattle.control_heap.proofs.control.shown.ControlHeap.text.Goals as goal

pub text_of-requires-clause-bounds : goal.text_of-requires-clause-bounds
text_of-requires-clause-bounds c =
    let h : Control = record { config = c.self.inside.config; memory = c.self.inside.memory; words = c.self.inside.memory; thread = c.self.inside.thread; count = c.self.inside.count; objects = c.self.inside.objects } in
    bounds_is h c.self.invariant.0 c.self.invariant.1

pub text_of-requires-clause-there : goal.text_of-requires-clause-there
text_of-requires-clause-there c =
    let h : Control = record { config = c.self.inside.config; memory = c.self.inside.memory; words = c.self.inside.memory; thread = c.self.inside.thread; count = c.self.inside.count; objects = c.self.inside.objects } in
    long_is h c.self.invariant.0 c.self.invariant.1
