use Rattle.atom_board.proofs.Begun.{told_on}
use Rattle.atom_board.proofs.telling.Teller.events.Goals as goal

pub returns-clause-begun : goal.returns-clause-begun
returns-clause-begun g c =
    told_on g.C.Memory.acts c.args.shared.now c.args.self.now.next c.args.memory.now c.args.local.now c.events.new.memory c.events.new.self
    c.events.result c.events.ensures.run c.requires.told c.requires.begun
