use Rattle.saved_heap.specs.heap_pictures.Pictures.{content_of}
use Rattle.saved_heap.proofs.Least.{least_none, least_of}
use Rattle.saved_heap.proofs.needs.least_config.Goals as goal

pub returns-clause-none : goal.returns-clause-none
returns-clause-none c =
    least_none c.tree_counts.ensures.equations c.tree_counts.ensures.all_levels c.args.width (content_of c.args.picture.now) c.in_ok-needs.needs c.raise.result
    c.in_ok-needs.ensures.needs c.raise.ensures.none

pub returns-clause-least : goal.returns-clause-least
returns-clause-least c =
    least_of c.tree_counts.ensures.equations c.tree_counts.ensures.all_levels c.args.width (content_of c.args.picture.now) c.in_ok-needs.needs c.raise.result
    c.in_ok-needs.ensures.needs c.raise.ensures.raised
