use Rattle.atom_board.specs.Drives.{HasDriven}
use Rattle.atom_board.proofs.Driven.{driven_on}
use Rattle.atom_board.proofs.driver.drives.Given.{Over}
use Rattle.atom_board.proofs.driver.drives.Goals as goal
use Rattle.atom_board.proofs.driver.drives.Goals.{After-events}

-- after the events of a turn of the loop
driven : (g : Over) (c : After-events g)
    → HasDriven g.C.Memory.acts c.args.shared.now c.args.memory.now c.args.local.now
    c.events.new.memory c.events.new.local
driven g c = driven_on g.C.Memory.acts c.args.shared.now c.args.memory.now c.args.local.now
    c.loop.memory c.loop.local c.events.new.memory c.events.new.local c.events.result
    c.loop.invariant.0 c.events.ensures.run

pub loop-preserved-in-Waited : goal.loop-preserved-in-Waited
loop-preserved-in-Waited g c = (driven g (goal.at.loop-preserved-in-Waited g c).After-events, c.events.ensures.stands, c.events.ensures.begun, tt, tt)

pub loop-preserved-then-ne : goal.loop-preserved-then-ne
loop-preserved-then-ne g c = (driven g (goal.at.loop-preserved-then-ne g c).After-events, c.events.ensures.stands, c.events.ensures.begun, tt, tt)

pub loop-preserved-else-ne : goal.loop-preserved-else-ne
loop-preserved-else-ne g c = (driven g (goal.at.loop-preserved-else-ne g c).After-events, c.events.ensures.stands, c.events.ensures.begun, tt, tt)

pub loop-preserved : goal.loop-preserved
loop-preserved g c = (driven g (goal.at.loop-preserved g c).After-events, c.events.ensures.stands, c.events.ensures.begun, tt, tt)
