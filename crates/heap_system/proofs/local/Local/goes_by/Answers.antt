use Rattle.std.proofs.Common.{subst}
use Rattle.heap_system.specs.Locals.{IsLocal}
use Rattle.heap_system.proofs.work.AtOnce.{goes_by_pass}
use Rattle.heap_system.proofs.local.Local.goes_by.Goals as goal

pub returns-clause-goes : goal.returns-clause-goes
returns-clause-goes c =
    (goes_by_pass c.args.self.now c.args.pass c.args.command c.args.row c.requires.nothing
    (subst IsLocal c.self.view_is c.self.invariant.0) c.requires.rest c.requires.low c.requires.cycle c.requires.later
    c.requires.pass c.requires.command).0

pub returns-clause-fits : goal.returns-clause-fits
returns-clause-fits c =
    (goes_by_pass c.args.self.now c.args.pass c.args.command c.args.row c.requires.nothing
    (subst IsLocal c.self.view_is c.self.invariant.0) c.requires.rest c.requires.low c.requires.cycle c.requires.later
    c.requires.pass c.requires.command).1
