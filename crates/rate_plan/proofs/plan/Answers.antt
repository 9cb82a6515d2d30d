use Rattle.std.proofs.Common.{◌+◌, ◌-◌, ◌*◌, ◌/◌, ◌∙◌, arith}
use Rattle.rate_plan.proofs.Plans.{rate_from}
use Rattle.rate_plan.proofs.plan.Goals as goal

pub returns : goal.returns
returns c =
    let heap = c.args.c.now in
    let taken = heap.live + 2 * heap.threads * heap.object in (
      record { opens = omega arith; room = omega arith },
      rate_from heap taken ((heap.blocks - taken) / 2) c.from.result (omega arith) (omega arith)
          (omega arith) (c.from.ensures ∙ c.div_ceil.ensures),
    )
