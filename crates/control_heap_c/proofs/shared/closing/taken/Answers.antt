use Rattle.std.proofs.Common.{◌∙◌, ap, Some}
use Rattle.control_heap_c.specs.Shared.{worker_at}
use Rattle.control_heap_c.proofs.shared.closing.taken.Goals as goal

pub entered-requires : goal.entered-requires
entered-requires c s w home at =
    c.requires s w home (ap (λ o. worker_at (Some o)) c.in-Resting.is ∙ at)
