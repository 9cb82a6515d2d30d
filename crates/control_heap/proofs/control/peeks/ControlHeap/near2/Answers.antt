use Rattle.std.proofs.Common.{◌∷◌, []}
use Rattle.control_heap.specs.Controls.{Control}
use Rattle.control_heap.proofs.GaugesRead.{bounds_is, long_is}
use Rattle.control_heap.proofs.PathsRead.{near_told}
use Rattle.control_heap.proofs.control.peeks.ControlHeap.near2.Goals as goal

pub near_value_of_two-requires-clause-bounds : goal.near_value_of_two-requires-clause-bounds
near_value_of_two-requires-clause-bounds c =
    let h : Control = record { config = c.self.inside.config; memory = c.self.inside.memory; words = c.self.inside.memory; thread = c.self.inside.thread; count = c.self.inside.count; objects = c.self.inside.objects } in
    bounds_is h c.self.invariant.0 c.self.invariant.1

pub near_value_of_two-requires-clause-there : goal.near_value_of_two-requires-clause-there
near_value_of_two-requires-clause-there c =
    let h : Control = record { config = c.self.inside.config; memory = c.self.inside.memory; words = c.self.inside.memory; thread = c.self.inside.thread; count = c.self.inside.count; objects = c.self.inside.objects } in
    long_is h c.self.invariant.0 c.self.invariant.1

pub near_value_of_two-requires-clause-single : goal.near_value_of_two-requires-clause-single
near_value_of_two-requires-clause-single c = c.self.invariant.1.single

pub returns : goal.returns
returns c =
    let h : Control = record { config = c.self.inside.config; memory = c.self.inside.memory; words = c.self.inside.memory; thread = c.self.inside.thread; count = c.self.inside.count; objects = c.self.inside.objects } in
    near_told h c.args.self.now c.self.view_is c.args.s c.if-s-ge-REGISTERS.false (c.args.i ∷ c.args.j ∷ []) c.near_value_of_two.result c.near_value_of_two.ensures
