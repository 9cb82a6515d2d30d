use Rattle.std.proofs.Common.{◌<◌, List, length, subst, get_or, refl, arith}
use Rattle.never_heap.specs.declared.Entry.{Entry}
use Rattle.test_kit.proofs.reference_runs.HistoryOfOrder.{not_all_told}
use Rattle.test_kit.proofs.reference_runs.orders.is_all_told.Goals as goal

pub returns-then-told-t : goal.returns-then-told-t
returns-then-told-t g c = (
  λ no. absurd (cc),
  λ all. absurd (not_all_told (g.R.Logs.logs c.args.run.now) c.args.told.now c.loop-t.t
      (subst (λ (l : List Entry). get_or c.args.told.now c.loop-t.t 0 < length l)
      c.entries.ensures c.if-told-t.true) all),
)
