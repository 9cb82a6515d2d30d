use Rattle.std.proofs.Common.{ap, sym, ◌∙◌, subst, arith}
use Rattle.heap_system.specs.ThreadMemories.{MayRun}
use Rattle.heap_system.specs.AtOnce.{HasRunUpTo, come_to, inside_by}
use Rattle.heap_system.specs.Locals.{LocalState, pass_by}
use Rattle.heap_system.proofs.work.AtOnce.{inside_is, may_fewer, run_none}
use Rattle.heap_system.proofs.local.Local.does.Goals as goal

pub first-requires-clause-may : goal.first-requires-clause-may
first-requires-clause-may g c =
    may_fewer g.M.Memory.may g.M.Memory.acts 6 62 (omega arith) c.args.memory.now c.args.shared.now
    (come_to c.args.self.now c.args.pass c.in-Some.row)
    (subst (λ (y : LocalState). MayRun g.M.Memory.may g.M.Memory.acts 62 c.args.memory.now c.args.shared.now y)
    (inside_is c.args.self.now c.args.pass c.command-command.result c.in-Some.row c.in-Some.ensures c.goes_by.ensures.goes)
    c.requires.may)

pub returns-in-Some : goal.returns-in-Some
returns-in-Some g c =
    let run = c.first.ensures in
    subst (λ (y : LocalState). HasRunUpTo 62 g.M.Memory.acts c.args.shared.now c.args.memory.now y c.first.new.memory c.first.new.self c.first.result)
    (sym (inside_is c.args.self.now c.args.pass c.command-command.result c.in-Some.row c.in-Some.ensures c.goes_by.ensures.goes))
    (run.0, omega (arith, run.1))

pub returns-in-None : goal.returns-in-None
returns-in-None g c =
    run_none g.M.Memory.acts c.args.shared.now 62 c.args.memory.now (inside_by c.args.self.now c.args.pass) c.goes_in.new.self
    (c.goes_in.ensures ∙ ap (inside_by c.args.self.now)
    (ap (pass_by c.args.self.now.thread c.args.self.now.config.threads) c.read_phase.ensures ∙ sym c.requires.pass))
