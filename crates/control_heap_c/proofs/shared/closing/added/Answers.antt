use Rattle.std.proofs.Common.{ap, refl, Some}
use Rattle.std.specs.Arc.{arc_value}
use Rattle.control_heap_c.specs.Groups.{home_in}
use Rattle.control_heap_c.proofs.shared.closing.added.Goals as goal

pub grown-group-requires : goal.grown-group-requires
grown-group-requires c =
    c.requires (arc_value c.in-Group.group.heap) c.args.at.worker
    (ap (λ o. home_in (Some o)) c.in-Group.is) refl
