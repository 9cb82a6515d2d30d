use Rattle.std.proofs.Common.{◌<◌, ◌≤◌, ◌≡◌, ◌≢◌, arith}
use Rattle.timed_runs.proofs.time_histograms.Heights.{one_more}
use Rattle.timed_runs.proofs.time_histograms.bars.fullest.Goals as goal

pub loop-class-preserved : goal.loop-class-preserved
loop-class-preserved c =
    let low : c.loop-class.class < 63 = omega (arith, c.loop-class-test.true) in
    let old : c.loop-class.most ≤ c.max-most.result = grind (arith, c.max-most.ensures) in
    let new : c.bucket_of.result.count ≤ c.max-most.result = grind (arith, c.max-most.ensures) in
    let either : c.max-most.result ≢ c.loop-class.most → c.max-most.result ≡ c.bucket_of.result.count =
    λ ne. grind (arith, c.max-most.ensures, ne) in
    one_more c.args.times.now c.loop-class.class c.loop-class.most c.power.result
    c.bucket_of.result.count c.max-most.result low c.power.ensures.in_range
    c.bucket_of.ensures.count old new either c.loop-class.invariant
