use Rattle.std.proofs.Common.{[], refl, arith}
use Rattle.heap_system.specs.ThreadMemories.{longest}
use Rattle.heap_system.proofs.work.EventsInARow.{leads_at, run_more}
use Rattle.heap_system.proofs.local.Local.out_once.Goals as goal

pub out-requires : goal.out-requires
out-requires g c =
    let lead = leads_at g.M.Memory.may g.M.Memory.acts longest 0 (omega arith) c.args.memory.now c.args.shared.now
    c.args.self.now c.requires.may (c.requires.«open», c.wants_a_word.ensures) in
    record { part = c.requires.part; may = lead.allowed }

pub returns : goal.returns
returns g c =
    let acted = c.out.ensures in
    let lead = leads_at g.M.Memory.may g.M.Memory.acts longest 0 (omega arith) c.args.memory.now c.args.shared.now
    c.args.self.now c.requires.may (c.requires.«open», c.wants_a_word.ensures) in
    let more = run_more g.M.Memory.acts c.args.shared.now c.args.memory.now c.args.self.now c.args.memory.now c.args.self.now acted.0 c.out.new.memory c.out.new.self c.out.result
    (record { words = []; ran = (refl, refl); told = refl }) acted.1 (lead.reads acted.0 c.out.new.memory acted.1) (c.requires.«open», c.wants_a_word.ensures) acted.2.0 acted.2.1 in
    (more.0, omega (arith, more.1), omega (arith, more.1))
