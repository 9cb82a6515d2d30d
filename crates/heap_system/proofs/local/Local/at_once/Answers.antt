use Rattle.std.proofs.Common.{◌∙◌, ap, subst, sym}
use Rattle.block_store.specs.declared.PhaseWord.{PhaseWord}
use Rattle.heap_system.proofs.work.AtOnce.{closed_run, entering_may, entering_run}
use Rattle.heap_system.proofs.local.Local.at_once.Goals as goal

pub tries-requires-clause-may : goal.tries-requires-clause-may
tries-requires-clause-may g c =
    entering_may g.M.Memory.may g.M.Memory.acts c.args.shared.now c.args.self.now c.requires.rest c.requires.«open»
    c.places-places.result c.places-places.ensures c.args.memory.now c.requires.may c.phase.result c.phase.ensures
    c.act-seen.result c.act-seen.new.self
    (subst (λ y. g.M.Memory.acts c.args.memory.now c.args.shared.now y c.act-seen.result c.act-seen.new.self) c.load.ensures c.act-seen.ensures)
    (sym (ap (λ (q : PhaseWord). q.closed) c.read_phase.ensures) ∙ c.if-read_phase.false)

pub returns-then-read_phase : goal.returns-then-read_phase
returns-then-read_phase g c =
    closed_run g.M.Memory.may g.M.Memory.acts c.args.shared.now c.args.self.now c.requires.rest c.requires.«open»
    c.places-places.result c.places-places.ensures c.args.memory.now c.requires.may c.phase.result c.phase.ensures
    c.act-seen.result c.act-seen.new.self
    (subst (λ y. g.M.Memory.acts c.args.memory.now c.args.shared.now y c.act-seen.result c.act-seen.new.self) c.load.ensures c.act-seen.ensures)
    (sym (ap (λ (q : PhaseWord). q.closed) c.read_phase.ensures) ∙ c.if-read_phase.true) c.looks_again.new.self c.looks_again.ensures

pub returns-else-read_phase : goal.returns-else-read_phase
returns-else-read_phase g c =
    entering_run g.M.Memory.may g.M.Memory.acts c.args.shared.now c.args.self.now c.requires.rest c.requires.«open»
    c.places-places.result c.places-places.ensures c.args.memory.now c.requires.may c.phase.result c.phase.ensures
    c.act-seen.result c.act-seen.new.self
    (subst (λ y. g.M.Memory.acts c.args.memory.now c.args.shared.now y c.act-seen.result c.act-seen.new.self) c.load.ensures c.act-seen.ensures)
    (sym (ap (λ (q : PhaseWord). q.closed) c.read_phase.ensures) ∙ c.if-read_phase.false)
    c.tries.new.memory c.tries.new.self c.tries.result c.tries.ensures
