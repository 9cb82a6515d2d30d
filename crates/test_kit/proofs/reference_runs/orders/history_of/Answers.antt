use Rattle.std.proofs.Common.{◌≡◌, ℕ, ◌+◌, List, [], replicate, get_or, sym, subst, ap, ◌∙◌, length, arith, rules}
use Rattle.std.proofs.lemmas.List.{with_items_is, length-replicate}
use Rattle.never_heap.specs.declared.Item.TheVariants as items
use Rattle.test_kit.specs.declared.reference_runs.Happened.{Happened}
use Rattle.test_kit.specs.reference_runs.Making.{IsNext, NoNext, left_of}
use Rattle.test_kit.proofs.reference_runs.HistoryOfOrder.{IsUnderWay, goes_on, no_history, at_first, is_made, none_told}
use Rattle.test_kit.proofs.reference_runs.orders.history_of.Goals as goal

pub loop-item-init : goal.loop-item-init
loop-item-init g c =
    let zeros : c.in_ok-told.told.items ≡ replicate c.threads.result 0 =
    c.in_ok-told.ensures.items_if_clones_equal (λ y is. search rules) in
    subst (IsUnderWay (g.R.Logs.logs c.args.run.now) c.args.order.now 0 c.in_ok-told.told.items)
    (sym c.new-made.ensures.items)
    (at_first (g.R.Logs.logs c.args.run.now) c.args.order.now c.in_ok-told.told.items
    (ap length zeros ∙ length-replicate c.threads.result 0 ∙ c.threads.ensures)
    (λ t. ap (λ (ns : List ℕ). get_or ns t 0) zeros ∙ none_told c.threads.result t))

pub loop-item-preserved : goal.loop-item-preserved
loop-item-preserved g c =
    let same = with_items_is c.loop-item.told c.next.new.told (omega arith) in
    subst (λ (ns : List ℕ). IsUnderWay (g.R.Logs.logs c.args.run.now) c.args.order.now
    (c.loop-item.item-index + 1) ns c.push.new.self.items) (sym same)
    (subst (λ (h : List Happened). IsUnderWay (g.R.Logs.logs c.args.run.now) c.args.order.now
    (c.loop-item.item-index + 1) c.next.new.told h) (sym c.in_ok-push.ensures.items)
    (goes_on (g.R.Logs.logs c.args.run.now) c.args.order.now c.loop-item.item-index
    c.loop-item.told.items c.loop-item.made.items (items.Entry 0) c.loop-item-test.true
    c.loop-item.invariant c.next.new.told c.in-Some.happened
    (subst (λ (ns : List ℕ). IsNext (g.R.Logs.logs c.args.run.now) ns c.next.new.told
    (get_or c.args.order.now c.loop-item.item-index (items.Entry 0)) c.in-Some.happened)
    c.deref_mut.ensures.value c.in-Some.ensures)))

pub returns-in_default : goal.returns-in_default
returns-in_default g c =
    no_history (g.R.Logs.logs c.args.run.now) c.args.order.now c.loop-item.item-index
    c.loop-item.told.items c.loop-item.made.items (items.Entry 0) c.loop-item-test.true
    c.loop-item.invariant
    (subst (λ (ns : List ℕ). NoNext (g.R.Logs.logs c.args.run.now) ns
    (get_or c.args.order.now c.loop-item.item-index (items.Entry 0))) c.deref_mut.ensures.value
    c.in_default.ensures)

pub returns : goal.returns
returns g c =
    is_made (g.R.Logs.logs c.args.run.now) c.args.order.now c.loop-item.item-index
    c.loop-item.told.items c.loop-item.made.items c.loop-item-test.false c.loop-item.invariant
    (subst (λ (ns : List ℕ). (t : ℕ) → left_of (g.R.Logs.logs c.args.run.now) ns t ≡ [])
    c.deref.ensures.value (c.is_all_told.ensures.0 c.if-not-is_all_told.false))
