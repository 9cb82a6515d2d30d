use Rattle.shared_heap.proofs.Driven.{one_run}
use Rattle.shared_heap.proofs.drives.one_event.Goals as goal

pub returns-clause-run : goal.returns-clause-run
returns-clause-run g c = one_run g.C.ThreadMemory.stands c.args.memory.now c.args.shared.now c.args.local.now c.event.new.memory c.event.new.self (g.met.C.ThreadMemory.leads c.args.memory.now c.args.shared.now c.args.local.now c.requires.stands c.requires.going c.wants_a_word.ensures) (c.requires.going, c.wants_a_word.ensures) c.event.ensures
