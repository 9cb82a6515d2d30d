use Rattle.std.proofs.Common.{◌≤◌, arith}
use Rattle.rt_check.proofs.rt_limit.BlockLaws.{found_here, in_bounds, none_last, none_more}
use Rattle.rt_check.proofs.rt_limit.blocks.least_blocks.Goals as goal

pub returns-then-keeps_up : goal.returns-then-keeps_up
returns-then-keeps_up c =
    let low : c.args.live ≤ 65535 = omega (arith, c.from.ensures, c.if-live-from.false) in
    found_here c.args.config.now c.args.live c.args.rate c.loop-blocks.blocks
    (in_bounds c.args.config.now c.args.live c.args.rate c.loop-blocks.blocks c.requires
    c.loop-blocks.auto.blocks (omega (arith, c.loop-blocks-test.true)) low)
    c.keeps_up.result c.keeps_up.ensures c.if-keeps_up.true c.loop-blocks.invariant

pub loop-blocks-preserved : goal.loop-blocks-preserved
loop-blocks-preserved c =
    none_more c.args.config.now c.args.live c.args.rate c.loop-blocks.blocks c.keeps_up.result
    c.keeps_up.ensures c.if-keeps_up.false c.loop-blocks.invariant

pub returns : goal.returns
returns c =
    none_last c.args.config.now c.args.live c.args.rate c.loop-blocks.blocks
    c.loop-blocks-test.false c.loop-blocks.invariant
