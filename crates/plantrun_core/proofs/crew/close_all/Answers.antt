use Rattle.plantrun_core.proofs.WorkersApart.{closing}
use Rattle.plantrun_core.proofs.crew.close_all.Goals as goal

pub close-requires : goal.close-requires
close-requires c =
    closing c.args.table _ _ _ _ _ _ _ _ _ c.requires.room.0 c.push_reserved.ensures.items
    c.push_reserved-2.ensures.items c.push_reserved-3.ensures.items c.push_reserved-4.ensures.items
    c.requires.config c.requires.input c.requires.control c.requires.alarms c.requires.history
