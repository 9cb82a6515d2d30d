use Rattle.std.proofs.Common.{◌≡◌, ℕ, ◌<◌, ◌∙◌, List, [], subst, ap, get_or, length}
use Rattle.never_heap.specs.declared.Entry.{Entry}
use Rattle.test_kit.proofs.reference_runs.HistoryOfOrder.{entry_is_next}
use Rattle.test_kit.proofs.reference_runs.orders.next.Goals as goal

pub returns : goal.returns
returns g c =
    let logs = g.R.Logs.logs c.args.run.now in
    let place : ℕ = get_or c.args.told.now c.from-place.result 0 in
    let e : Entry = c.in_ok-entry.field-0.now in
    let log : c.entries.result.now ≡ get_or logs c.in-Entry.thread [] =
    c.entries.ensures ∙ ap (λ (n : ℕ). get_or logs n []) c.from.ensures in
    entry_is_next logs c.args.told.now c.in-Entry.thread c.from-place.result e c.args.item
    c.in-Entry.is c.from-place.ensures (c.if-entry-from.false ∙ c.from-2.ensures)
    (subst (λ (l : List Entry). place < length l) log c.in_ok-entry.ensures.lookup.3.0)
    (subst (λ (l : List Entry). e ≡ get_or l place e) log c.in_ok-entry.ensures.lookup.1)
