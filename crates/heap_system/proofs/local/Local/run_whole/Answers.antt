use Rattle.std.proofs.Common.{[], refl, subst, arith}
use Rattle.heap_system.specs.ThreadMemories.{longest}
use Rattle.heap_system.specs.Locals.{IsLocal}
use Rattle.heap_system.proofs.work.EventsInARow.{going_in, leads_at, run_more}
use Rattle.heap_system.proofs.local.Local.run_whole.Goals as goal

pub event-requires : goal.event-requires
event-requires g c =
    let lead = leads_at g.M.Memory.may g.M.Memory.acts longest 0 (omega arith) c.args.memory.now c.args.shared.now
    c.args.self.now c.requires.may (going_in c.args.self.now (subst IsLocal c.self.view_is c.self.invariant.0) c.requires.«open») in
    record { «open» = c.requires.«open»; may = lead.allowed; reads = lead.reads }

pub returns-in_default : goal.returns-in_default
returns-in_default g c =
    let acted = c.event.ensures in
    let going = going_in c.args.self.now (subst IsLocal c.self.view_is c.self.invariant.0) c.requires.«open» in
    let lead = leads_at g.M.Memory.may g.M.Memory.acts longest 0 (omega arith) c.args.memory.now c.args.shared.now
    c.args.self.now c.requires.may going in
    let more = run_more g.M.Memory.acts c.args.shared.now c.args.memory.now c.args.self.now c.args.memory.now c.args.self.now acted.0 c.event.new.memory c.event.new.self c.event.result
    (record { words = []; ran = (refl, refl); told = refl }) acted.1 (lead.reads acted.0 c.event.new.memory acted.1) going acted.2.0 acted.2.1 in
    (more.0, omega (arith, more.1), omega (arith, more.1))
