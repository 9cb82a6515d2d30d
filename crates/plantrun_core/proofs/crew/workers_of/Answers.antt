use Rattle.std.proofs.Common.{◌∙◌, ap}
use Rattle.block_store.specs.declared.Config.{Config}
use Rattle.plantrun_core.proofs.WorkersApart.{fresh_four, order_four}
use Rattle.plantrun_core.proofs.crew.workers_of.Goals as goal

pub four_of-requires : goal.four_of-requires
four_of-requires c = c.requires.order.count ∙ ap (λ (k : Config). k.threads) c.requires.config

pub returns-clause-order : goal.returns-clause-order
returns-clause-order c =
    order_four c.args._table.now c.args.workers.items _ _ _ _ c.four_of.ensures c.requires.order

pub returns-clause-fresh : goal.returns-clause-fresh
returns-clause-fresh c =
    fresh_four c.args.workers.items _ _ _ _ c.four_of.ensures c.requires.fresh
