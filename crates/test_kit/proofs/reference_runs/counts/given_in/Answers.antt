use Rattle.test_kit.specs.reference_runs.Happenings.{history}
use Rattle.test_kit.specs.reference_runs.HistoryBounds.{IsHistoryInBounds}
use Rattle.test_kit.proofs.reference_runs.Fronts.{before_in_bounds, after_in_bounds, few_items}
use Rattle.test_kit.proofs.reference_runs.counts.given_in.Goals as goal

between : (c : goal.After-before_start)
    → IsHistoryInBounds c.args.c.now (history c.before_start.result.now)
between c =
    before_in_bounds c.args.c.now c.after_start.result.now c.before_start.result.now _
    c.before_start.ensures
    (after_in_bounds c.args.c.now c.args.h.now c.after_start.result.now _
    c.after_start.ensures c.requires)

pub taken-requires-clause-few : goal.taken-requires-clause-few
taken-requires-clause-few c =
    few_items c.args.c.now c.before_start.result.now (between c)

pub taken-requires-clause-each : goal.taken-requires-clause-each
taken-requires-clause-each c = (between c).each
