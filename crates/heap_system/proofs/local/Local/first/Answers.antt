use Rattle.std.proofs.Common.{refl, arith}
use Rattle.barrier_steps.specs.declared.rows.FieldRow.{FieldRow}
use Rattle.heap_system.proofs.work.AtOnce.{may_from, run_from}
use Rattle.heap_system.proofs.local.Local.first.Goals as goal

pub constant-requires-clause-may : goal.constant-requires-clause-may
constant-requires-clause-may g c =
    may_from g.M.Memory.acts c.args.shared.now c.args.memory.now c.args.self.now c.args.pass (c.args.row) (FieldRow.StoreConstant)
    (c.in-StoreConstant.is) 2 6 (omega arith) g.M.Memory.may c.requires.may

pub returns-in-StoreConstant : goal.returns-in-StoreConstant
returns-in-StoreConstant g c =
    run_from g.M.Memory.acts c.args.shared.now c.args.memory.now c.args.self.now c.args.pass (c.args.row) (FieldRow.StoreConstant)
    (c.in-StoreConstant.is) 2 6 (omega arith)
    c.constant.new.memory c.constant.new.self c.constant.result c.constant.ensures

pub loads-requires-clause-may : goal.loads-requires-clause-may
loads-requires-clause-may g c =
    may_from g.M.Memory.acts c.args.shared.now c.args.memory.now c.args.self.now c.args.pass (c.args.row) (FieldRow.LoadRegister c.in-LoadRegister.wanted)
    (c.in-LoadRegister.is) 6 6 (omega arith) g.M.Memory.may c.requires.may

pub returns-in-LoadRegister : goal.returns-in-LoadRegister
returns-in-LoadRegister g c =
    run_from g.M.Memory.acts c.args.shared.now c.args.memory.now c.args.self.now c.args.pass (c.args.row) (FieldRow.LoadRegister c.in-LoadRegister.wanted)
    (c.in-LoadRegister.is) 6 6 (omega arith)
    c.loads.new.memory c.loads.new.self c.loads.result c.loads.ensures

pub ends-requires-clause-may : goal.ends-requires-clause-may
ends-requires-clause-may g c =
    may_from g.M.Memory.acts c.args.shared.now c.args.memory.now c.args.self.now c.args.pass (c.args.row) (c.args.row)
    (refl) 1 6 (omega arith) g.M.Memory.may c.requires.may

pub returns-in_default : goal.returns-in_default
returns-in_default g c =
    run_from g.M.Memory.acts c.args.shared.now c.args.memory.now c.args.self.now c.args.pass (c.args.row) (c.args.row)
    (refl) 1 6 (omega arith)
    c.ends.new.memory c.ends.new.self c.ends.result c.ends.ensures
