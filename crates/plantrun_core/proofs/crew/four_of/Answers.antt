use Rattle.plantrun_core.proofs.WorkersApart.{four_heads}
use Rattle.plantrun_core.proofs.crew.four_of.Goals as goal

pub returns : goal.returns
returns c =
    four_heads c.args.workers.items _ _ _ _ _ _ _ c.requires c.remove-first.ensures.value
    c.remove-first.ensures.items c.remove-second.ensures.value c.remove-second.ensures.items c.remove-third.ensures.value
    c.remove-third.ensures.items c.remove-fourth.ensures.value
