use Rattle.std.proofs.Common.{refl, sym, ◌∙◌, arith}
use Rattle.barrier_steps.specs.declared.rows.FieldRow.{FieldRow}
use Rattle.barrier_steps.specs.declared.rows.Purpose.{Purpose}
use Rattle.heap_system.proofs.work.AtOnce.{may_on, run_on}
use Rattle.heap_system.proofs.local.Local.object_of_put.Goals as goal

pub shape_of_put-requires-clause-may : goal.shape_of_put-requires-clause-may
shape_of_put-requires-clause-may g c =
    may_on g.M.Memory.may g.M.Memory.acts c.args.shared.now c.args.self.now c.args.pass c.args.places.now
    c.requires.places c.args.command c.requires.goes.command (FieldRow.LoadRegister Purpose.Object) c.requires.fits refl 4
    c.args.memory.now c.requires.may
    c.loads_register.ensures.acted.0 c.loads_register.new.memory c.loads_register.ensures.acted.1 (FieldRow.LoadShape c.in-LoadShape.block)
    (sym c.in-LoadShape.is ∙ c.loads_register.ensures.acted.2) 4 (omega arith)

pub returns-in-LoadShape : goal.returns-in-LoadShape
returns-in-LoadShape g c =
    run_on g.M.Memory.may g.M.Memory.acts c.args.shared.now c.args.self.now c.args.pass c.args.places.now
    c.requires.places c.args.command c.requires.goes.command (FieldRow.LoadRegister Purpose.Object) c.requires.fits refl 4
    c.args.memory.now c.requires.may
    c.loads_register.ensures.acted.0 c.loads_register.new.memory c.loads_register.ensures.acted.1 (FieldRow.LoadShape c.in-LoadShape.block)
    (sym c.in-LoadShape.is ∙ c.loads_register.ensures.acted.2) 4 (omega arith) c.shape_of_put.new.memory c.shape_of_put.new.self c.shape_of_put.result c.shape_of_put.ensures

pub ends-requires-clause-may : goal.ends-requires-clause-may
ends-requires-clause-may g c =
    may_on g.M.Memory.may g.M.Memory.acts c.args.shared.now c.args.self.now c.args.pass c.args.places.now
    c.requires.places c.args.command c.requires.goes.command (FieldRow.LoadRegister Purpose.Object) c.requires.fits refl 4
    c.args.memory.now c.requires.may
    c.loads_register.ensures.acted.0 c.loads_register.new.memory c.loads_register.ensures.acted.1 (c.loads_register.result)
    (c.loads_register.ensures.acted.2) 1 (omega arith)

pub returns-in_default : goal.returns-in_default
returns-in_default g c =
    run_on g.M.Memory.may g.M.Memory.acts c.args.shared.now c.args.self.now c.args.pass c.args.places.now
    c.requires.places c.args.command c.requires.goes.command (FieldRow.LoadRegister Purpose.Object) c.requires.fits refl 4
    c.args.memory.now c.requires.may
    c.loads_register.ensures.acted.0 c.loads_register.new.memory c.loads_register.ensures.acted.1 (c.loads_register.result)
    (c.loads_register.ensures.acted.2) 1 (omega arith) c.ends.new.memory c.ends.new.self c.ends.result c.ends.ensures
