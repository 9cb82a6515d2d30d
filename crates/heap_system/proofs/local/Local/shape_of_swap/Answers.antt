use Rattle.std.proofs.Common.{refl, sym, ◌∙◌, arith}
use Rattle.barrier_steps.specs.declared.rows.FieldRow.{FieldRow}
use Rattle.heap_system.proofs.work.AtOnce.{may_on, run_on}
use Rattle.heap_system.proofs.local.Local.shape_of_swap.Goals as goal

pub stored_of_swap-requires-clause-may : goal.stored_of_swap-requires-clause-may
stored_of_swap-requires-clause-may g c =
    may_on g.M.Memory.may g.M.Memory.acts c.args.shared.now c.args.self.now c.args.pass c.args.places.now
    c.requires.places c.args.command c.requires.goes.command (FieldRow.LoadShape c.args.block) c.requires.fits refl 5
    c.args.memory.now c.requires.may
    c.loads_shape.ensures.acted.0 c.loads_shape.new.memory c.loads_shape.ensures.acted.1 (FieldRow.LoadRegister c.in-LoadRegister.wanted)
    (sym c.in-LoadRegister.is ∙ c.loads_shape.ensures.acted.2) 5 (omega arith)

pub returns-in-LoadRegister : goal.returns-in-LoadRegister
returns-in-LoadRegister g c =
    run_on g.M.Memory.may g.M.Memory.acts c.args.shared.now c.args.self.now c.args.pass c.args.places.now
    c.requires.places c.args.command c.requires.goes.command (FieldRow.LoadShape c.args.block) c.requires.fits refl 5
    c.args.memory.now c.requires.may
    c.loads_shape.ensures.acted.0 c.loads_shape.new.memory c.loads_shape.ensures.acted.1 (FieldRow.LoadRegister c.in-LoadRegister.wanted)
    (sym c.in-LoadRegister.is ∙ c.loads_shape.ensures.acted.2) 5 (omega arith) c.stored_of_swap.new.memory c.stored_of_swap.new.self c.stored_of_swap.result c.stored_of_swap.ensures

pub ends-requires-clause-may : goal.ends-requires-clause-may
ends-requires-clause-may g c =
    may_on g.M.Memory.may g.M.Memory.acts c.args.shared.now c.args.self.now c.args.pass c.args.places.now
    c.requires.places c.args.command c.requires.goes.command (FieldRow.LoadShape c.args.block) c.requires.fits refl 5
    c.args.memory.now c.requires.may
    c.loads_shape.ensures.acted.0 c.loads_shape.new.memory c.loads_shape.ensures.acted.1 (c.loads_shape.result)
    (c.loads_shape.ensures.acted.2) 1 (omega arith)

pub returns-in_default : goal.returns-in_default
returns-in_default g c =
    run_on g.M.Memory.may g.M.Memory.acts c.args.shared.now c.args.self.now c.args.pass c.args.places.now
    c.requires.places c.args.command c.requires.goes.command (FieldRow.LoadShape c.args.block) c.requires.fits refl 5
    c.args.memory.now c.requires.may
    c.loads_shape.ensures.acted.0 c.loads_shape.new.memory c.loads_shape.ensures.acted.1 (c.loads_shape.result)
    (c.loads_shape.ensures.acted.2) 1 (omega arith) c.ends.new.memory c.ends.new.self c.ends.result c.ends.ensures
