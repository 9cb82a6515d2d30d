use Rattle.std.proofs.Common.{arith}
use Rattle.historian_core.proofs.Readings.{as_long}
use Rattle.historian_core.proofs.take.Goals as goal

pub unreachable-requires : goal.unreachable-requires
unreachable-requires c = c.in_default.ensures c.requires.0 c.requires.1 c.requires.2

pub returns : goal.returns
returns c = λ xs k.
    let r = c.requires in
    let same = as_long c.args.historian.now c.args.limits.now xs r.0 k r.1 in
    c.in-Ok.ensures xs k (omega (arith, same, r.2))
