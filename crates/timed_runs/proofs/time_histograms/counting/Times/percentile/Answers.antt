use Rattle.std.proofs.Common.{◌<◌, length, arith}
use Rattle.timed_runs.proofs.time_histograms.Ranks.{picked}
use Rattle.timed_runs.proofs.time_histograms.counting.Times.percentile.Goals as goal

pub returns-clause-is : goal.returns-clause-is
returns-clause-is c =
    let some : 0 < length c.as_slice-times.result.now = omega (arith, c.if-count-eq0.false) in
    picked c.args.thousandths c.as_slice-times.result.now c.self.inside.sorted.items
    c.args.self.now c.div_ceil-rank.result _ c.as_slice-times.ensures.value c.self.view_is
    c.self.invariant c.div_ceil-rank.ensures some c.requires.some c.requires.most
