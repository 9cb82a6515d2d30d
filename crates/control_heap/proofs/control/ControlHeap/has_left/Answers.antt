use Rattle.std.proofs.Common.{arith}
use Rattle.control_heap.specs.Controls.{ControlOf}
use Rattle.control_heap.proofs.LifeLeft.{thread_fits, left_now}
use Rattle.control_heap.proofs.control.ControlHeap.has_left.Goals as goal

pub owes-requires : goal.owes-requires
owes-requires g c =
    let h : ControlOf g.row.M.Denot = record { config = c.self.inside.config; memory = c.self.inside.memory; words = g.M.Store.shows c.self.inside.memory; thread = c.self.inside.thread; count = c.self.inside.count; objects = c.self.inside.objects } in
    thread_fits h c.self.invariant.0 c.self.invariant.1 c.args.command.now c.args.self.now c.self.view_is c.requires

pub returns-then-objects : goal.returns-then-objects
returns-then-objects g c =
    let h : ControlOf g.row.M.Denot = record { config = c.self.inside.config; memory = c.self.inside.memory; words = g.M.Store.shows c.self.inside.memory; thread = c.self.inside.thread; count = c.self.inside.count; objects = c.self.inside.objects } in
    left_now h c.self.invariant.0 c.self.invariant.1 c.args.command.now c.args.self.now c.self.view_is _ c.owes.ensures.price c.if-objects.true.0 (omega (arith, c.if-objects.true.1, c.saturating_add-objects.ensures, c.objects_of.ensures)) _ c.has_units-units.ensures
