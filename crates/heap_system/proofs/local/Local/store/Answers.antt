use Rattle.std.proofs.Common.{refl, arith}
use Rattle.barrier_steps.specs.declared.rows.FieldRow.{FieldRow}
use Rattle.heap_system.proofs.work.AtOnce.{may_on, run_on}
use Rattle.heap_system.proofs.local.Local.store.Goals as goal

pub ends-requires-clause-may : goal.ends-requires-clause-may
ends-requires-clause-may g c =
    may_on g.M.Memory.may g.M.Memory.acts c.args.shared.now c.args.self.now c.args.pass c.args.places.now
    c.requires.places c.args.command c.requires.goes.command (FieldRow.Store c.args.store) c.requires.fits refl 1
    c.args.memory.now c.requires.may
    c.stores-row.ensures.acted.0 c.stores-row.new.memory c.stores-row.ensures.acted.1 (c.stores-row.result)
    (c.stores-row.ensures.acted.2) 1 (omega arith)

pub returns : goal.returns
returns g c =
    run_on g.M.Memory.may g.M.Memory.acts c.args.shared.now c.args.self.now c.args.pass c.args.places.now
    c.requires.places c.args.command c.requires.goes.command (FieldRow.Store c.args.store) c.requires.fits refl 1
    c.args.memory.now c.requires.may
    c.stores-row.ensures.acted.0 c.stores-row.new.memory c.stores-row.ensures.acted.1 (c.stores-row.result)
    (c.stores-row.ensures.acted.2) 1 (omega arith) c.ends.new.memory c.ends.new.self c.ends.result c.ends.ensures
