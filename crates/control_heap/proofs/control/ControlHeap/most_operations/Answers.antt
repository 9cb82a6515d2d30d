use Rattle.control_heap.specs.Controls.{ControlOf}
use Rattle.control_heap.proofs.GaugesRead.{near_told, other_told}
use Rattle.control_heap.proofs.LifeLeft.{thread_fits}
use Rattle.control_heap.proofs.control.ControlHeap.most_operations.Goals as goal

pub owes-units-requires : goal.owes-units-requires
owes-units-requires g c =
    let h : ControlOf g.row.M.Denot = record { config = c.self.inside.config; memory = c.self.inside.memory; words = g.M.Store.shows c.self.inside.memory; thread = c.self.inside.thread; count = c.self.inside.count; objects = c.self.inside.objects } in
    thread_fits h c.self.invariant.0 c.self.invariant.1 c.args.command.now c.args.self.now c.self.view_is c.requires

pub returns-then-taken-gt0 : goal.returns-then-taken-gt0
returns-then-taken-gt0 g c =
    let h : ControlOf g.row.M.Denot = record { config = c.self.inside.config; memory = c.self.inside.memory; words = g.M.Store.shows c.self.inside.memory; thread = c.self.inside.thread; count = c.self.inside.count; objects = c.self.inside.objects } in
    near_told h c.self.invariant.0 c.self.invariant.1 c.args.command.now c.args.self.now c.self.view_is c.owes-units.result c.blocks-taken.result _ c.owes-units.ensures.price c.blocks-taken.ensures c.if-taken-gt0.true c.allocation_operations.ensures

pub returns-else-taken-gt0 : goal.returns-else-taken-gt0
returns-else-taken-gt0 g c =
    let h : ControlOf g.row.M.Denot = record { config = c.self.inside.config; memory = c.self.inside.memory; words = g.M.Store.shows c.self.inside.memory; thread = c.self.inside.thread; count = c.self.inside.count; objects = c.self.inside.objects } in
    other_told h c.self.invariant.0 c.self.invariant.1 c.args.command.now c.args.self.now c.self.view_is c.owes-units.result c.blocks-taken.result _ c.owes-units.ensures.price c.blocks-taken.ensures c.if-taken-gt0.false c.other_operations.ensures
