use Rattle.std.proofs.Common.{◌∙◌, Option, Some, None, ap, refl, subst, sym}
use Rattle.std.specs.Option.{IfNone}
use Rattle.std.proofs.lemmas.Option.{IfSome_then}
use Rattle.block_store.specs.declared.PhaseWord.{PhaseWord}
use Rattle.heap_system.specs.AtOnce.{HasRunFromGate, HasRunFromRest}
use Rattle.heap_system.proofs.work.AtOnce.{closed_run, entering_may, entering_run, gone_earlier}
use Rattle.heap_system.proofs.local.Local.try_enter.Goals as goal

pub enter_by-requires-clause-may : goal.enter_by-requires-clause-may
enter_by-requires-clause-may g c =
    entering_may g.M.Memory.may g.M.Memory.acts c.args.shared.now c.args.self.now c.requires.rest c.requires.«open»
    c.args.places.now c.requires.places c.args.memory.now c.requires.may c.phase.result c.phase.ensures
    c.act-seen.result c.act-seen.new.self
    (subst (λ y. g.M.Memory.acts c.args.memory.now c.args.shared.now y c.act-seen.result c.act-seen.new.self) c.load.ensures c.act-seen.ensures)
    (sym (ap (λ (q : PhaseWord). q.closed) c.read_phase.ensures) ∙ c.if-read_phase.false)

pub returns-then-read_phase-clause-outside : goal.returns-then-read_phase-clause-outside
returns-then-read_phase-clause-outside g c =
    closed_run g.M.Memory.may g.M.Memory.acts c.args.shared.now c.args.self.now c.requires.rest c.requires.«open»
    c.args.places.now c.requires.places c.args.memory.now c.requires.may c.phase.result c.phase.ensures
    c.act-seen.result c.act-seen.new.self
    (subst (λ y. g.M.Memory.acts c.args.memory.now c.args.shared.now y c.act-seen.result c.act-seen.new.self) c.load.ensures c.act-seen.ensures)
    (sym (ap (λ (q : PhaseWord). q.closed) c.read_phase.ensures) ∙ c.if-read_phase.true) _ refl

pub returns-else-read_phase-clause-inside : goal.returns-else-read_phase-clause-inside
returns-else-read_phase-clause-inside g c =
    IfSome_then c.enter_by.result c.enter_by.ensures.inside (λ p is.
    gone_earlier g.M.Memory.may g.M.Memory.acts c.args.shared.now
    (HasRunFromGate g.M.Memory.acts c.args.shared.now c.act-seen.new.self c.args.self.now c.act-seen.result)
    (HasRunFromRest g.M.Memory.acts c.args.shared.now c.args.memory.now c.args.self.now)
    (entering_run g.M.Memory.may g.M.Memory.acts c.args.shared.now c.args.self.now c.requires.rest c.requires.«open»
    c.args.places.now c.requires.places c.args.memory.now c.requires.may c.phase.result c.phase.ensures
    c.act-seen.result c.act-seen.new.self
    (subst (λ y. g.M.Memory.acts c.args.memory.now c.args.shared.now y c.act-seen.result c.act-seen.new.self) c.load.ensures c.act-seen.ensures)
    (sym (ap (λ (q : PhaseWord). q.closed) c.read_phase.ensures) ∙ c.if-read_phase.false))
    c.args.self.now c.enter_by.new.memory p is)

if_none_then : {X : Type 0} (r : Option X) {P Q : Type 0} → IfNone r P → (P → Q) → IfNone r Q
if_none_then None h f = f h
if_none_then (Some x) h f = h

pub returns-else-read_phase-clause-outside : goal.returns-else-read_phase-clause-outside
returns-else-read_phase-clause-outside g c =
    if_none_then c.enter_by.result c.enter_by.ensures.outside (λ is.
    entering_run g.M.Memory.may g.M.Memory.acts c.args.shared.now c.args.self.now c.requires.rest c.requires.«open»
    c.args.places.now c.requires.places c.args.memory.now c.requires.may c.phase.result c.phase.ensures
    c.act-seen.result c.act-seen.new.self
    (subst (λ y. g.M.Memory.acts c.args.memory.now c.args.shared.now y c.act-seen.result c.act-seen.new.self) c.load.ensures c.act-seen.ensures)
    (sym (ap (λ (q : PhaseWord). q.closed) c.read_phase.ensures) ∙ c.if-read_phase.false) _ _ _ is)
