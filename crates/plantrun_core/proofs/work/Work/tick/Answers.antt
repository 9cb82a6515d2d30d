use Rattle.plantrun_core.proofs.LogOfTicks.{few_next, room_next}
use Rattle.plantrun_core.proofs.work.Work.tick.Goals as goal

pub tick-self-requires-clause-few : goal.tick-self-requires-clause-few
tick-self-requires-clause-few g c =
    few_next c.args.ticks.count c.args.self.now c.requires.work c.requires.more c.requires.count

pub tick-self-requires-clause-room : goal.tick-self-requires-clause-room
tick-self-requires-clause-room g c =
    room_next c.args.ticks.count c.args.self.now c.requires.work c.requires.more
