use Rattle.std.proofs.Common.{◌≡◌, sym, arith, subst}
use Rattle.heap_system.specs.Locals.{IsLocal}
use Rattle.heap_system.proofs.local.Local.lone_pass.Goals as goal

pub returns : goal.returns
returns c =
    let is : IsLocal c.args.self.now = subst IsLocal c.self.view_is c.self.invariant.0 in
    let mine = is.thread in
    let one = c.requires in
    let zero : 0 ≡ c.args.self.now.thread = omega (arith, mine, one) in
    λ i. record { thread = zero i; threads = sym one i; cycle = c.args.phase.cycle; sweep = c.args.phase.sweep }
