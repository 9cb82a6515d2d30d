use Rattle.std.proofs.Common.{ap, ◌∙◌}
use Rattle.never_heap.specs.declared.Command.TheVariants.{Arr}
use Rattle.never_heap.specs.Steps.{blocks_of}
use Rattle.build_steps.proofs.Parts.{made_onward}
use Rattle.build_steps.proofs.objects.link_at.Goals as goal

pub returns-in-Arr-clause-onward : goal.returns-in-Arr-clause-onward
returns-in-Arr-clause-onward c =
    made_onward c.args.width (Arr c.in-Arr.d c.in-Arr.elements) c.args.blocks c.args.ordinal
    c.args.j c.child_of.result (c.requires.size ∙ ap (blocks_of c.args.width) c.in-Arr.is)
    c.child_of.ensures
