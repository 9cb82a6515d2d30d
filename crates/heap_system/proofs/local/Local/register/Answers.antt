use Rattle.std.proofs.Common.{refl, sym, ◌∙◌, arith}
use Rattle.barrier_steps.specs.declared.rows.FieldRow.{FieldRow}
use Rattle.heap_system.proofs.work.AtOnce.{may_on, reads_well, run_on}
use Rattle.heap_system.proofs.local.Local.register.Goals as goal

pub store-requires-clause-may : goal.store-requires-clause-may
store-requires-clause-may g c =
    may_on g.M.Memory.may g.M.Memory.acts c.args.shared.now c.args.self.now c.args.pass c.args.places.now
    c.requires.places c.args.command c.requires.goes.command (FieldRow.LoadRegister c.args.wanted) c.requires.fits refl 2
    c.args.memory.now c.requires.may
    c.loads_register.ensures.acted.0 c.loads_register.new.memory c.loads_register.ensures.acted.1 (FieldRow.Store c.in-Store.store)
    (sym c.in-Store.is ∙ c.loads_register.ensures.acted.2) 2 (omega arith)

pub returns-in-Store : goal.returns-in-Store
returns-in-Store g c =
    run_on g.M.Memory.may g.M.Memory.acts c.args.shared.now c.args.self.now c.args.pass c.args.places.now
    c.requires.places c.args.command c.requires.goes.command (FieldRow.LoadRegister c.args.wanted) c.requires.fits refl 2
    c.args.memory.now c.requires.may
    c.loads_register.ensures.acted.0 c.loads_register.new.memory c.loads_register.ensures.acted.1 (FieldRow.Store c.in-Store.store)
    (sym c.in-Store.is ∙ c.loads_register.ensures.acted.2) 2 (omega arith) c.store.new.memory c.store.new.self c.store.result c.store.ensures

pub ends-requires-clause-may : goal.ends-requires-clause-may
ends-requires-clause-may g c =
    may_on g.M.Memory.may g.M.Memory.acts c.args.shared.now c.args.self.now c.args.pass c.args.places.now
    c.requires.places c.args.command c.requires.goes.command (FieldRow.LoadRegister c.args.wanted) c.requires.fits refl 2
    c.args.memory.now c.requires.may
    c.loads_register.ensures.acted.0 c.loads_register.new.memory c.loads_register.ensures.acted.1 (c.loads_register.result)
    (c.loads_register.ensures.acted.2) 1 (omega arith)

pub returns-in_default : goal.returns-in_default
returns-in_default g c =
    run_on g.M.Memory.may g.M.Memory.acts c.args.shared.now c.args.self.now c.args.pass c.args.places.now
    c.requires.places c.args.command c.requires.goes.command (FieldRow.LoadRegister c.args.wanted) c.requires.fits refl 2
    c.args.memory.now c.requires.may
    c.loads_register.ensures.acted.0 c.loads_register.new.memory c.loads_register.ensures.acted.1 (c.loads_register.result)
    (c.loads_register.ensures.acted.2) 1 (omega arith) c.ends.new.memory c.ends.new.self c.ends.result c.ends.ensures

pub loads_register-requires-clause-reads : goal.loads_register-requires-clause-reads
loads_register-requires-clause-reads g c =
    reads_well g.M.Memory.may g.M.Memory.acts c.args.shared.now c.args.self.now c.args.pass c.args.places.now
    c.requires.places c.args.command c.requires.goes.command (FieldRow.LoadRegister c.args.wanted) c.requires.fits refl 2
    c.args.memory.now c.requires.may
