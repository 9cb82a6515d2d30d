use Rattle.std.proofs.Common.{sym, ◌∙◌}
use Rattle.saved_heap.proofs.walk.picture_of.Goals as goal

pub returns-in-Ok-clause-picture : goal.returns-in-Ok-clause-picture
returns-in-Ok-clause-picture c =
    c.in-Ok.ensures.picture c.args.heap.now (sym (c.step.ensures.from ∙ c.in_ok-reading.ensures.from))
