use Rattle.control_heap.specs.Controls.{Control}
use Rattle.control_heap.proofs.GaugesRead.{bounds_is, long_is}
use Rattle.control_heap.proofs.PathsRead.{path_now}
use Rattle.control_heap.proofs.control.peeks.ControlHeap.peek_path.Goals as goal

pub path_value-requires-clause-bounds : goal.path_value-requires-clause-bounds
path_value-requires-clause-bounds c =
    let h : Control = record { config = c.self.inside.config; memory = c.self.inside.memory; words = c.self.inside.memory; thread = c.self.inside.thread; count = c.self.inside.count; objects = c.self.inside.objects } in
    bounds_is h c.self.invariant.0 c.self.invariant.1

pub path_value-requires-clause-there : goal.path_value-requires-clause-there
path_value-requires-clause-there c =
    let h : Control = record { config = c.self.inside.config; memory = c.self.inside.memory; words = c.self.inside.memory; thread = c.self.inside.thread; count = c.self.inside.count; objects = c.self.inside.objects } in
    long_is h c.self.invariant.0 c.self.invariant.1

pub path_value-requires-clause-single : goal.path_value-requires-clause-single
path_value-requires-clause-single c = c.self.invariant.1.single

pub returns : goal.returns
returns c = λ r stands.
    let h : Control = record { config = c.self.inside.config; memory = c.self.inside.memory; words = c.self.inside.memory; thread = c.self.inside.thread; count = c.self.inside.count; objects = c.self.inside.objects } in
    path_now h c.args.self.now c.self.view_is c.args.s c.if-s-ge-REGISTERS.false c.args.path.now c.path_value.result c.path_value.ensures r stands
