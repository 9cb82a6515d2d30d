use Rattle.std.proofs.Common.{refl, sym, subst, arith}
use Rattle.barrier_steps.specs.declared.rows.FieldRow.{FieldRow}
use Rattle.barrier_steps.specs.declared.rows.Purpose.{Purpose}
use Rattle.heap_system.specs.AtOnce.{HasRunFromRest}
use Rattle.heap_system.specs.Locals.{LocalState}
use Rattle.heap_system.specs.ThreadMemories.{HasRunOn, MayRun, longest}
use Rattle.heap_system.specs.declared.Turn.TheVariants.{Waited}
use Rattle.heap_system.proofs.work.AtOnce.{row_may, row_run}
use Rattle.heap_system.proofs.local.Local.run_get.Goals as goal

pub try_enter-requires-clause-may : goal.try_enter-requires-clause-may
try_enter-requires-clause-may g c =
    subst (λ (y : LocalState). MayRun g.M.Memory.may g.M.Memory.acts longest c.args.memory.now c.args.shared.now y)
    (sym c.begin_lone.ensures.begun) c.requires.may

pub object_of_get-requires-clause-may : goal.object_of_get-requires-clause-may
object_of_get-requires-clause-may g c =
    row_may g.M.Memory.may g.M.Memory.acts c.args.shared.now
    (HasRunFromRest g.M.Memory.acts c.args.shared.now c.args.memory.now c.begin_lone.new.self) c.begin_lone.new.self
    c.try_enter.new.memory c.in-Some.pass c.in-Some.ensures.inside _ (FieldRow.LoadRegister Purpose.Object)
    (record { first = refl; told = refl; blocks = λ _. refl; unsaid = refl }) c.goes_by.ensures.goes 6 (omega arith)

pub returns-in-Some : goal.returns-in-Some
returns-in-Some g c =
    subst (λ (y : LocalState). HasRunOn g.M.Memory.acts c.args.shared.now c.args.memory.now y c.object_of_get.new.memory c.object_of_get.new.self c.object_of_get.result)
    c.begin_lone.ensures.begun
    (row_run g.M.Memory.may g.M.Memory.acts c.args.shared.now
    (HasRunFromRest g.M.Memory.acts c.args.shared.now c.args.memory.now c.begin_lone.new.self) c.begin_lone.new.self
    c.try_enter.new.memory c.in-Some.pass c.in-Some.ensures.inside _ (FieldRow.LoadRegister Purpose.Object)
    (record { first = refl; told = refl; blocks = λ _. refl; unsaid = refl }) c.goes_by.ensures.goes 6 (omega arith)
    c.object_of_get.new.memory c.object_of_get.new.self c.object_of_get.result c.object_of_get.ensures)

pub returns-in-None : goal.returns-in-None
returns-in-None g c =
    subst (λ (y : LocalState). HasRunOn g.M.Memory.acts c.args.shared.now c.args.memory.now y c.try_enter.new.memory c.looks_again.new.self Waited)
    c.begin_lone.ensures.begun
    (subst (λ (y : LocalState). HasRunOn g.M.Memory.acts c.args.shared.now c.args.memory.now c.begin_lone.new.self c.try_enter.new.memory y Waited)
    (sym c.looks_again.ensures) c.in-None.ensures.outside)
