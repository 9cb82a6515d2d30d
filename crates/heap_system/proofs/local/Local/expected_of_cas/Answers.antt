use Rattle.std.proofs.Common.{refl, sym, ◌∙◌, arith}
use Rattle.barrier_steps.specs.declared.rows.FieldRow.{FieldRow}
use Rattle.heap_system.proofs.work.AtOnce.{may_on, reads_well, run_on}
use Rattle.heap_system.proofs.local.Local.expected_of_cas.Goals as goal

pub register-requires-clause-may : goal.register-requires-clause-may
register-requires-clause-may g c =
    may_on g.M.Memory.may g.M.Memory.acts c.args.shared.now c.args.self.now c.args.pass c.args.places.now
    c.requires.places c.args.command c.requires.goes.command (FieldRow.LoadRegister c.args.wanted) c.requires.fits refl 3
    c.args.memory.now c.requires.may
    c.loads_register.ensures.acted.0 c.loads_register.new.memory c.loads_register.ensures.acted.1 (FieldRow.LoadRegister c.in-LoadRegister.wanted)
    (sym c.in-LoadRegister.is ∙ c.loads_register.ensures.acted.2) 3 (omega arith)

pub returns-in-LoadRegister : goal.returns-in-LoadRegister
returns-in-LoadRegister g c =
    run_on g.M.Memory.may g.M.Memory.acts c.args.shared.now c.args.self.now c.args.pass c.args.places.now
    c.requires.places c.args.command c.requires.goes.command (FieldRow.LoadRegister c.args.wanted) c.requires.fits refl 3
    c.args.memory.now c.requires.may
    c.loads_register.ensures.acted.0 c.loads_register.new.memory c.loads_register.ensures.acted.1 (FieldRow.LoadRegister c.in-LoadRegister.wanted)
    (sym c.in-LoadRegister.is ∙ c.loads_register.ensures.acted.2) 3 (omega arith) c.register.new.memory c.register.new.self c.register.result c.register.ensures

pub ends-requires-clause-may : goal.ends-requires-clause-may
ends-requires-clause-may g c =
    may_on g.M.Memory.may g.M.Memory.acts c.args.shared.now c.args.self.now c.args.pass c.args.places.now
    c.requires.places c.args.command c.requires.goes.command (FieldRow.LoadRegister c.args.wanted) c.requires.fits refl 3
    c.args.memory.now c.requires.may
    c.loads_register.ensures.acted.0 c.loads_register.new.memory c.loads_register.ensures.acted.1 (c.loads_register.result)
    (c.loads_register.ensures.acted.2) 1 (omega arith)

pub returns-in_default : goal.returns-in_default
returns-in_default g c =
    run_on g.M.Memory.may g.M.Memory.acts c.args.shared.now c.args.self.now c.args.pass c.args.places.now
    c.requires.places c.args.command c.requires.goes.command (FieldRow.LoadRegister c.args.wanted) c.requires.fits refl 3
    c.args.memory.now c.requires.may
    c.loads_register.ensures.acted.0 c.loads_register.new.memory c.loads_register.ensures.acted.1 (c.loads_register.result)
    (c.loads_register.ensures.acted.2) 1 (omega arith) c.ends.new.memory c.ends.new.self c.ends.result c.ends.ensures

pub loads_register-requires-clause-reads : goal.loads_register-requires-clause-reads
loads_register-requires-clause-reads g c =
    reads_well g.M.Memory.may g.M.Memory.acts c.args.shared.now c.args.self.now c.args.pass c.args.places.now
    c.requires.places c.args.command c.requires.goes.command (FieldRow.LoadRegister c.args.wanted) c.requires.fits refl 3
    c.args.memory.now c.requires.may
