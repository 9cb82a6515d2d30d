use Rattle.heap_system.proofs.work.EventsInARow.{made_once, may_once}
use Rattle.heap_system.proofs.local.Local.event.Goals as goal

pub marks-requires-clause-may : goal.marks-requires-clause-may
marks-requires-clause-may g c = may_once g.M.Memory.may g.M.Memory.acts c.args.memory.now c.args.shared.now c.args.self.now c.requires.may c.requires.reads

pub sweeps-requires-clause-may : goal.sweeps-requires-clause-may
sweeps-requires-clause-may g c = may_once g.M.Memory.may g.M.Memory.acts c.args.memory.now c.args.shared.now c.args.self.now c.requires.may c.requires.reads

pub returns-in-Mark : goal.returns-in-Mark
returns-in-Mark g c = made_once g.M.Memory.acts c.args.shared.now c.args.memory.now c.args.self.now c.marks.new.memory c.marks.new.self c.marks.result c.marks.ensures

pub returns-in-Sweep : goal.returns-in-Sweep
returns-in-Sweep g c = made_once g.M.Memory.acts c.args.shared.now c.args.memory.now c.args.self.now c.sweeps.new.memory c.sweeps.new.self c.sweeps.result c.sweeps.ensures
