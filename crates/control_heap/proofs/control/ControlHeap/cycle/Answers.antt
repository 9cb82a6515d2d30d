use Rattle.control_heap.specs.Controls.{Control}
use Rattle.control_heap.proofs.GaugesRead.{bounds_is, cycle_told, long_is}
use Rattle.control_heap.proofs.control.ControlHeap.cycle.Goals as goal

pub cycle_in-requires-clause-bounds : goal.cycle_in-requires-clause-bounds
cycle_in-requires-clause-bounds c =
    let h : Control = record { config = c.self.inside.config; memory = c.self.inside.memory; words = c.self.inside.memory; thread = c.self.inside.thread; count = c.self.inside.count; objects = c.self.inside.objects } in
    bounds_is h c.self.invariant.0 c.self.invariant.1

pub cycle_in-requires-clause-there : goal.cycle_in-requires-clause-there
cycle_in-requires-clause-there c =
    let h : Control = record { config = c.self.inside.config; memory = c.self.inside.memory; words = c.self.inside.memory; thread = c.self.inside.thread; count = c.self.inside.count; objects = c.self.inside.objects } in
    long_is h c.self.invariant.0 c.self.invariant.1

pub returns : goal.returns
returns c =
    let h : Control = record { config = c.self.inside.config; memory = c.self.inside.memory; words = c.self.inside.memory; thread = c.self.inside.thread; count = c.self.inside.count; objects = c.self.inside.objects } in
    cycle_told h c.args.self.now c.self.view_is _ c.cycle_in.ensures
