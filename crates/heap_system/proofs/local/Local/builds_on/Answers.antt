use Rattle.std.proofs.Common.{[], refl, sym, ◌∙◌, arith}
use Rattle.heap_system.specs.ThreadMemories.{longest}
use Rattle.heap_system.proofs.work.EventsInARow.{building_going, leads_at, more_ends, more_goes, none_made}
use Rattle.heap_system.proofs.local.Local.builds_on.Goals as goal

pub builds-turn-requires-clause-may : goal.builds-turn-requires-clause-may
builds-turn-requires-clause-may g c =
    let inv = c.loop.invariant in
    (leads_at g.M.Memory.may g.M.Memory.acts longest c.loop.counter (omega (arith, c.loop-test.true)) c.loop.memory
    c.args.shared.now c.loop.self inv.1 (building_going c.loop.self inv.2, c.wants_a_word.ensures)).allowed

pub builds-turn-requires-clause-reads : goal.builds-turn-requires-clause-reads
builds-turn-requires-clause-reads g c =
    let inv = c.loop.invariant in
    (leads_at g.M.Memory.may g.M.Memory.acts longest c.loop.counter (omega (arith, c.loop-test.true)) c.loop.memory
    c.args.shared.now c.loop.self inv.1 (building_going c.loop.self inv.2, c.wants_a_word.ensures)).reads

pub returns-then-waited : goal.returns-then-waited
returns-then-waited g c =
    let inv = c.loop.invariant in
    let acted = c.builds-turn.ensures in
    more_ends g.M.Memory.may inv.0 longest c.loop.counter inv.3 (omega (arith, c.loop-test.true)) inv.1
    (building_going c.loop.self inv.2, c.wants_a_word.ensures) acted.1 acted.2

pub loop-preserved : goal.loop-preserved
loop-preserved g c =
    let inv = c.loop.invariant in
    let acted = c.builds-turn.ensures in
    let more = more_goes g.M.Memory.may inv.0 longest c.loop.counter inv.3 (omega (arith, c.loop-test.true)) inv.1
    (building_going c.loop.self inv.2, c.wants_a_word.ensures) acted.1 acted.2
    (sym c.waited.ensures ∙ c.if-waited.false) in
    (more.0, more.1, sym c.is_building.ensures ∙ c.if-not-is_building.false, more.2)

pub loop-init : goal.loop-init
loop-init g c = (
  record { words = []; ran = (refl, refl); told = refl },
  none_made g.M.Memory.may g.M.Memory.acts longest c.args.memory.now c.args.shared.now c.args.self.now c.requires.may,
  c.requires.part,
  refl,
)

pub returns : goal.returns
returns g c =
    let inv = c.loop.invariant in
    (inv.0, omega (arith, inv.3, c.loop-test.false), omega (arith, inv.3, c.loop-test.false))
