use Rattle.heap_system.specs.ThreadMemories.{longest}
use Rattle.heap_system.proofs.work.EventsInARow.{stands_may, stands_then}
use Rattle.heap_system.proofs.local.Local.events.Goals as goal

pub run_whole-requires-clause-may : goal.run_whole-requires-clause-may
run_whole-requires-clause-may g c = stands_may g.C.Memory.may g.C.Memory.acts g.C.ThreadMemory.stands g.met.C.ThreadMemory.leads
    longest c.args.memory.now c.args.shared.now c.args.self.now c.requires.stands

pub returns-clause-stands : goal.returns-clause-stands
returns-clause-stands g c =
    let has = c.run_whole.ensures in
    stands_then g.C.Memory.may g.C.Memory.acts g.C.ThreadMemory.stands g.met.C.ThreadMemory.leads c.args.shared.now
    c.args.memory.now c.args.self.now has.0.words c.run_whole.new.memory c.run_whole.new.self c.requires.stands has.0.ran
