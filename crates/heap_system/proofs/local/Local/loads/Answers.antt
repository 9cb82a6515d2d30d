use Rattle.std.proofs.Common.{refl, ap, arith}
use Rattle.barrier_steps.specs.declared.rows.FieldRow.{FieldRow}
use Rattle.barrier_steps.specs.declared.rows.Purpose.{Purpose}
use Rattle.heap_system.proofs.work.AtOnce.{may_from, run_from}
use Rattle.heap_system.proofs.local.Local.loads.Goals as goal

pub object-requires-clause-may : goal.object-requires-clause-may
object-requires-clause-may g c =
    may_from g.M.Memory.acts c.args.shared.now c.args.memory.now c.args.self.now c.args.pass (FieldRow.LoadRegister c.args.wanted) (FieldRow.LoadRegister Purpose.Object)
    (ap (λ x. FieldRow.LoadRegister x) c.in-Object.is) 6 6 (omega arith) g.M.Memory.may c.requires.may

pub returns-in-Object : goal.returns-in-Object
returns-in-Object g c =
    run_from g.M.Memory.acts c.args.shared.now c.args.memory.now c.args.self.now c.args.pass (FieldRow.LoadRegister c.args.wanted) (FieldRow.LoadRegister Purpose.Object)
    (ap (λ x. FieldRow.LoadRegister x) c.in-Object.is) 6 6 (omega arith)
    c.object.new.memory c.object.new.self c.object.result c.object.ensures

pub both-requires-clause-may : goal.both-requires-clause-may
both-requires-clause-may g c =
    may_from g.M.Memory.acts c.args.shared.now c.args.memory.now c.args.self.now c.args.pass (FieldRow.LoadRegister c.args.wanted) (FieldRow.LoadRegister Purpose.First)
    (ap (λ x. FieldRow.LoadRegister x) c.in-First.is) 4 6 (omega arith) g.M.Memory.may c.requires.may

pub returns-in-First : goal.returns-in-First
returns-in-First g c =
    run_from g.M.Memory.acts c.args.shared.now c.args.memory.now c.args.self.now c.args.pass (FieldRow.LoadRegister c.args.wanted) (FieldRow.LoadRegister Purpose.First)
    (ap (λ x. FieldRow.LoadRegister x) c.in-First.is) 4 6 (omega arith)
    c.both.new.memory c.both.new.self c.both.result c.both.ensures

pub returns-in-Copied : goal.returns-in-Copied
returns-in-Copied g c =
    run_from g.M.Memory.acts c.args.shared.now c.args.memory.now c.args.self.now c.args.pass (FieldRow.LoadRegister c.args.wanted) (FieldRow.LoadRegister Purpose.Copied)
    (ap (λ x. FieldRow.LoadRegister x) c.in-Copied.is) 3 6 (omega arith)
    c.register.new.memory c.register.new.self c.register.result c.register.ensures

pub returns-in-Shown : goal.returns-in-Shown
returns-in-Shown g c =
    run_from g.M.Memory.acts c.args.shared.now c.args.memory.now c.args.self.now c.args.pass (FieldRow.LoadRegister c.args.wanted) (FieldRow.LoadRegister Purpose.Shown)
    (ap (λ x. FieldRow.LoadRegister x) c.in-Shown.is) 3 6 (omega arith)
    c.register-in-Shown.new.memory c.register-in-Shown.new.self c.register-in-Shown.result c.register-in-Shown.ensures

pub ends-requires-clause-may : goal.ends-requires-clause-may
ends-requires-clause-may g c =
    may_from g.M.Memory.acts c.args.shared.now c.args.memory.now c.args.self.now c.args.pass (FieldRow.LoadRegister c.args.wanted) (FieldRow.LoadRegister c.args.wanted)
    (refl) 1 6 (omega arith) g.M.Memory.may c.requires.may

pub returns-in_default : goal.returns-in_default
returns-in_default g c =
    run_from g.M.Memory.acts c.args.shared.now c.args.memory.now c.args.self.now c.args.pass (FieldRow.LoadRegister c.args.wanted) (FieldRow.LoadRegister c.args.wanted)
    (refl) 1 6 (omega arith)
    c.ends.new.memory c.ends.new.self c.ends.result c.ends.ensures
