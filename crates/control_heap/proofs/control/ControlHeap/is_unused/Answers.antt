use Rattle.control_heap.specs.Controls.{Control}
use Rattle.control_heap.proofs.StillUnused.{unused_now}
use Rattle.control_heap.proofs.control.ControlHeap.is_unused.Goals as goal

pub returns : goal.returns
returns c =
    let h : Control = record { config = c.self.inside.config; memory = c.self.inside.memory; words = c.self.inside.memory; thread = c.self.inside.thread; count = c.self.inside.count; objects = c.self.inside.objects } in
    unused_now h c.args.self.now c.self.view_is c.self.invariant.0 c.self.invariant.1 c.cycle.result c.cycle.ensures c.is_first.result c.is_first.ensures
