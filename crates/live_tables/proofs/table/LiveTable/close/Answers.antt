use Rattle.std.proofs.Common.{arith, subst, sym, List, map}
use Rattle.shared_heap.specs.Workers.{HeapState, WorkerState}
use Rattle.live_tables.specs.rows.Orders.{HaveOneOrder}
use Rattle.live_tables.specs.rows.Workers.{AreEachOnce, IsRowWorker, row_worker}
use Rattle.live_tables.proofs.rows.Closing.{order_kept}
use Rattle.live_tables.proofs.rows.Crews.{all_at, each_once, same_config}
use Rattle.live_tables.proofs.table.LiveTable.close.Goals as goal

pub close-requires-clause-few : goal.close-requires-clause-few
close-requires-clause-few g c =
    let here : AreEachOnce c.self.inside.rows c.args.who.items =
    subst (λ (t : HeapState). AreEachOnce t c.args.who.items) (sym c.self.view_is) c.requires in
    omega (arith, here.count, c.self.invariant.1.bounds.threads)

pub close-requires-clause-each : goal.close-requires-clause-each
close-requires-clause-each g c ws same =
    each_once g.K.Table.rows c.self.inside.rows ws
    (subst (λ (t : HeapState). AreEachOnce t (map (row_worker g.K.Table.rows) ws)) (sym c.self.view_is)
    (subst (λ xs. AreEachOnce c.args.self xs) (sym same) c.requires))

pub returns : goal.returns
returns g c =
    let e = c.close.ensures in
    let ws : List WorkerState = e.0 in
    let own : HeapState = c.self.inside.rows in
    let here : AreEachOnce own (map (row_worker g.K.Table.rows) ws) =
    subst (λ (t : HeapState). AreEachOnce t (map (row_worker g.K.Table.rows) ws)) (sym c.self.view_is)
    (subst (λ xs. AreEachOnce c.args.self xs) (sym e.2) c.requires) in
    let kept : HaveOneOrder g.K.Table.rows own.config (map (row_worker g.K.Table.rows) ws) c.close.result =
    order_kept g.K.Table.rows c.is_lawful.ensures own.config ws c.close.result c.self.invariant.0 c.self.invariant.1.plan
    (λ j d low. (
      all_at (IsRowWorker g.K.Table.rows) ws e.1 j d low,
      same_config g.K.Table.rows own ws here j d low,
    )) e.3 in
    subst (λ (t : HeapState). HaveOneOrder g.K.Table.rows t.config c.args.who.items c.close.result) c.self.view_is
    (subst (λ xs. HaveOneOrder g.K.Table.rows own.config xs c.close.result) e.2 kept)
