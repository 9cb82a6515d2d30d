use Rattle.control_heap.specs.Controls.{ControlOf}
use Rattle.control_heap.proofs.GaugesRead.{fits_thread, rate_told}
use Rattle.control_heap.proofs.control.ControlHeap.rate.Goals as goal

pub owes-requires : goal.owes-requires
owes-requires g c =
    let h : ControlOf g.row.M.Denot = record { config = c.self.inside.config; memory = c.self.inside.memory; words = g.M.Store.shows c.self.inside.memory; thread = c.self.inside.thread; count = c.self.inside.count; objects = c.self.inside.objects } in
    fits_thread h c.self.invariant.0 c.self.invariant.1

pub returns : goal.returns
returns g c =
    let h : ControlOf g.row.M.Denot = record { config = c.self.inside.config; memory = c.self.inside.memory; words = g.M.Store.shows c.self.inside.memory; thread = c.self.inside.thread; count = c.self.inside.count; objects = c.self.inside.objects } in
    rate_told h c.self.invariant.0 c.self.invariant.1 c.args.self.now c.self.view_is _ c.owes.ensures.price
