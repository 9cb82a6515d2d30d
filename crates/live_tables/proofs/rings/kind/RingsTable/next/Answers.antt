use Rattle.std.proofs.Common.{arith}
use Rattle.live_tables.proofs.rings.Doing.{keeps_on, kept_few}
use Rattle.live_tables.proofs.rings.kind.RingsTable.next.Goals as goal

pub kept_next-requires : goal.kept_next-requires
kept_next-requires c =
    let e = c.requires in omega (arith, e.3.kept_so, kept_few 0 e.0.done, e.4)

pub returns : goal.returns
returns c w k t is next =
    keeps_on w c.args.request.now c.args.kept c.kept_next.result c.kept_next.ensures k t w.done is
