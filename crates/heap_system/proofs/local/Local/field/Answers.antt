use Rattle.std.proofs.Common.{refl, sym, ◌∙◌, arith}
use Rattle.barrier_steps.specs.declared.rows.FieldRow.{FieldRow}
use Rattle.heap_system.proofs.work.AtOnce.{may_on, run_on}
use Rattle.heap_system.proofs.local.Local.field.Goals as goal

pub store-requires-clause-may : goal.store-requires-clause-may
store-requires-clause-may g c =
    may_on g.M.Memory.may g.M.Memory.acts c.args.shared.now c.args.self.now c.args.pass c.args.places.now
    c.requires.places c.args.command c.requires.goes.command (FieldRow.LoadField c.args.way) c.requires.fits refl 3
    c.args.memory.now c.requires.may
    c.loads_field.ensures.acted.0 c.loads_field.new.memory c.loads_field.ensures.acted.1 (FieldRow.Store c.in-Store.store)
    (sym c.in-Store.is ∙ c.loads_field.ensures.acted.2) 2 (omega arith)

pub returns-in-Store : goal.returns-in-Store
returns-in-Store g c =
    run_on g.M.Memory.may g.M.Memory.acts c.args.shared.now c.args.self.now c.args.pass c.args.places.now
    c.requires.places c.args.command c.requires.goes.command (FieldRow.LoadField c.args.way) c.requires.fits refl 3
    c.args.memory.now c.requires.may
    c.loads_field.ensures.acted.0 c.loads_field.new.memory c.loads_field.ensures.acted.1 (FieldRow.Store c.in-Store.store)
    (sym c.in-Store.is ∙ c.loads_field.ensures.acted.2) 2 (omega arith) c.store.new.memory c.store.new.self c.store.result c.store.ensures

pub owner-requires-clause-may : goal.owner-requires-clause-may
owner-requires-clause-may g c =
    may_on g.M.Memory.may g.M.Memory.acts c.args.shared.now c.args.self.now c.args.pass c.args.places.now
    c.requires.places c.args.command c.requires.goes.command (FieldRow.LoadField c.args.way) c.requires.fits refl 3
    c.args.memory.now c.requires.may
    c.loads_field.ensures.acted.0 c.loads_field.new.memory c.loads_field.ensures.acted.1 (FieldRow.LoadOwner c.in-LoadOwner.word)
    (sym c.in-LoadOwner.is ∙ c.loads_field.ensures.acted.2) 3 (omega arith)

pub returns-in-LoadOwner : goal.returns-in-LoadOwner
returns-in-LoadOwner g c =
    run_on g.M.Memory.may g.M.Memory.acts c.args.shared.now c.args.self.now c.args.pass c.args.places.now
    c.requires.places c.args.command c.requires.goes.command (FieldRow.LoadField c.args.way) c.requires.fits refl 3
    c.args.memory.now c.requires.may
    c.loads_field.ensures.acted.0 c.loads_field.new.memory c.loads_field.ensures.acted.1 (FieldRow.LoadOwner c.in-LoadOwner.word)
    (sym c.in-LoadOwner.is ∙ c.loads_field.ensures.acted.2) 3 (omega arith) c.owner.new.memory c.owner.new.self c.owner.result c.owner.ensures

pub ends-requires-clause-may : goal.ends-requires-clause-may
ends-requires-clause-may g c =
    may_on g.M.Memory.may g.M.Memory.acts c.args.shared.now c.args.self.now c.args.pass c.args.places.now
    c.requires.places c.args.command c.requires.goes.command (FieldRow.LoadField c.args.way) c.requires.fits refl 3
    c.args.memory.now c.requires.may
    c.loads_field.ensures.acted.0 c.loads_field.new.memory c.loads_field.ensures.acted.1 (c.loads_field.result)
    (c.loads_field.ensures.acted.2) 1 (omega arith)

pub returns-in_default : goal.returns-in_default
returns-in_default g c =
    run_on g.M.Memory.may g.M.Memory.acts c.args.shared.now c.args.self.now c.args.pass c.args.places.now
    c.requires.places c.args.command c.requires.goes.command (FieldRow.LoadField c.args.way) c.requires.fits refl 3
    c.args.memory.now c.requires.may
    c.loads_field.ensures.acted.0 c.loads_field.new.memory c.loads_field.ensures.acted.1 (c.loads_field.result)
    (c.loads_field.ensures.acted.2) 1 (omega arith) c.ends.new.memory c.ends.new.self c.ends.result c.ends.ensures
