-- The items so far begin each history that the order makes.
use Rattle.test_kit.proofs.reference_runs.HistoryOfOrder.{IsUnderWay}
use Rattle.test_kit.proofs.reference_runs.orders.history_of.Given as goal

abbrev pub invariant-loop-item : goal.invariant-loop-item
invariant-loop-item g l =
    IsUnderWay (g.R.Logs.logs l.run) l.order l.item-index l.told.items l.made.items
