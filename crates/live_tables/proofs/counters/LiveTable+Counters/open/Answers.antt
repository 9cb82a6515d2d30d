use Rattle.std.proofs.Common.{◌≡◌, IfSome, refl, subst, sym}
use Rattle.block_store.specs.declared.Config.{Config}
use Rattle.shared_heap.specs.Workers.{CanOpen}
use Rattle.live_tables.specs.counters.Counters.{IsOneEach, counters}
use Rattle.live_tables.specs.rows.Rows.{IsRowHeap}
use Rattle.live_tables.proofs.counters.LiveTable+Counters.open.Goals as goal

pub opened-requires-clause-can : goal.opened-requires-clause-can
opened-requires-clause-can c = subst CanOpen (sym c.config_of.ensures) c.can_be_opened.ensures

pub opened-requires-clause-heap : goal.opened-requires-clause-heap
opened-requires-clause-heap c =
    subst (λ (k : Config). IsRowHeap counters k) (sym c.config_of.ensures) refl

pub opened-requires-clause-shape : goal.opened-requires-clause-shape
opened-requires-clause-shape c = subst IsOneEach (sym c.config_of.ensures) refl

pub returns-clause-config : goal.returns-clause-config
returns-clause-config c =
    subst (λ (k : Config). IfSome c.opened.result (λ r. r.0.config ≡ k)) c.config_of.ensures
    c.opened.ensures.config
