use Rattle.std.proofs.Common.{ap, sym, subst, ◌∙◌, arith}
use Rattle.never_heap.specs.Bounds.{IsCommandInBounds}
use Rattle.shared_heap.specs.Workers.{WorkerState}
use Rattle.shared_heap.proofs.Asking.{left_is, own_config}
use Rattle.shared_heap.proofs.worker.Worker.has_left.Goals as goal

pub owes-requires : goal.owes-requires
owes-requires c =
    let w = c.self.inside in
    let k = c.self.invariant.0 in
    subst (λ x. IsCommandInBounds x c.args.command.now) (sym (own_config w.port.seat.me w.port.seat.table_id w.local w.count w.objects k ∙ ap (λ (x : WorkerState). x.thread.config) c.self.view_is)) c.requires

pub returns-then-objects : goal.returns-then-objects
returns-then-objects c =
    let w = c.self.inside in
    let k = c.self.invariant.0 in
    left_is w.port.seat.me w.port.seat.table_id w.local w.count w.objects k c.args.self.now (ap (λ (x : WorkerState). x.thread) c.self.view_is) c.args.command.now _ _ c.units_done.ensures.sum c.owes.ensures.price c.if-objects.true.0 (omega (arith, c.if-objects.true.1, c.saturating_add-objects.ensures, c.objects_of.ensures))
