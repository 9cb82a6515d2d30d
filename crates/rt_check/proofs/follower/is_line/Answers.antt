use Rattle.std.proofs.Common.{◌∙◌}
use Rattle.rt_check.proofs.FollowerState.{line_is}
use Rattle.rt_check.proofs.follower.is_line.Goals as goal

pub returns-then-made-line : goal.returns-then-made-line
returns-then-made-line c text whole =
    line_is c.bytes-made.result.now c.args.line.now text c.eq.result c.if-made-line.true
    c.eq.ensures (c.bytes-made.ensures ∙ whole)
