use Rattle.std.proofs.Common.{subst, sym}
use Rattle.block_store.specs.declared.Config.{Config}
use Rattle.shared_heap.specs.Workers as heaps
use Rattle.live_tables.specs.rows.Rows.{IsRowHeap}
use Rattle.live_tables.specs.rows.Workers.{AreFresh, AreInOrder}
use Rattle.live_tables.proofs.rows.Crews.{in_order_each}
use Rattle.live_tables.proofs.rows.Opening.{all_fresh, in_order}
use Rattle.live_tables.proofs.rows.Tables.{all_new}
use Rattle.live_tables.proofs.table.opened.Goals as goal

pub wrapped-requires : goal.wrapped-requires
wrapped-requires g c =
    let fresh : heaps.AreFresh c.in_ok-rows.rows.config c.in_ok-rows.workers.items =
    subst (λ (k : Config). heaps.AreFresh k c.in_ok-rows.workers.items)
    (sym c.in_ok-rows.ensures.config) c.in_ok-rows.ensures.fresh in
    all_new g.K.Table.rows c.is_lawful.ensures g.K.Table.HasShape c.in_ok-rows.rows
    c.in_ok-rows.workers.items
    (subst (λ (k : Config). IsRowHeap g.K.Table.rows k) (sym c.in_ok-rows.ensures.config) c.requires.heap)
    (subst g.K.Table.HasShape (sym c.in_ok-rows.ensures.config) c.requires.shape)
    c.in_ok-rows.ensures.workers fresh

pub returns-clause-workers : goal.returns-clause-workers
returns-clause-workers g c =
    let fresh : heaps.AreFresh c.in_ok-rows.rows.config c.in_ok-rows.workers.items =
    subst (λ (k : Config). heaps.AreFresh k c.in_ok-rows.workers.items)
    (sym c.in_ok-rows.ensures.config) c.in_ok-rows.ensures.fresh in
    subst (λ ws. AreInOrder c.in_ok-rows.rows ws) (sym c.in_ok-crew.ensures)
    (in_order g.K.Table.rows c.is_lawful.ensures c.in_ok-rows.rows c.in_ok-rows.workers.items
    c.in_ok-rows.ensures.workers fresh)

pub returns-clause-each : goal.returns-clause-each
returns-clause-each g c =
    in_order_each c.in_ok-rows.rows c.in_ok-crew.crew.items (returns-clause-workers g c)

pub returns-clause-fresh : goal.returns-clause-fresh
returns-clause-fresh g c =
    subst (λ ws. AreFresh ws) (sym c.in_ok-crew.ensures)
    (all_fresh g.K.Table.rows c.is_lawful.ensures c.args.config c.in_ok-rows.workers.items
    c.in_ok-rows.ensures.fresh)
