use Rattle.std.proofs.Common.{ap, sym, subst, ◌∙◌}
use Rattle.rate_plan.specs.Rates.{IsRate}
use Rattle.never_heap.specs.Bounds.{IsCommandInBounds}
use Rattle.never_heap.specs.declared.Command.TheVariants as commands
use Rattle.control_heap.proofs.GaugesRead.{owes_rate, smallest_fits}
use Rattle.shared_heap.specs.Shared.{held_of}
use Rattle.shared_heap.specs.Workers.{WorkerState}
use Rattle.shared_heap.proofs.Asking.{own_config, own_rate}
use Rattle.shared_heap.proofs.worker.Worker.rate.Goals as goal

pub owes-requires : goal.owes-requires
owes-requires c =
    let w = c.self.inside in
    let k = c.self.invariant.0 in
    subst (λ x. IsCommandInBounds x (commands.New 0 0)) (sym (own_config w.port.seat.me w.port.seat.table_id w.local w.count w.objects k)) (smallest_fits _ k.told.after.job.bounds.config)

pub returns : goal.returns
returns c =
    let w = c.self.inside in
    let k = c.self.invariant.0 in
    subst (λ (x : WorkerState). IsRate x.thread.config c.owes.result) c.self.view_is
    (subst (λ p. IsRate (held_of w.local w.port.seat.me.0.threads).local.config p) (sym (owes_rate w.local.config.width w.local.rate c.owes.result c.owes.ensures.price)) (own_rate w.port.seat.me w.port.seat.table_id w.local w.count w.objects k))
