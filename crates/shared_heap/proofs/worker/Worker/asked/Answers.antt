use Rattle.shared_heap.proofs.Asking.{sound}
use Rattle.shared_heap.proofs.worker.Worker.asked.Goals as goal

pub returns-clause-sound : goal.returns-clause-sound
returns-clause-sound c =
    let w = c.self.inside in
    sound w.port.seat.me w.port.seat.table_id w.local w.count w.objects c.self.invariant.0 c.args.self.now c.self.view_is
