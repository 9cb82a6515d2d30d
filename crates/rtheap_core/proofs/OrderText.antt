-- A replay is written in the order that was kept, and that is the text of its history.
use Rattle.std.proofs.Common.{ℕ, ◌≡◌, List, Some, map, sym, ap, ◌∙◌, subst}
use Rattle.never_heap.specs.declared.Entry.{Entry}
use Rattle.never_heap.specs.declared.Item.{Item}
use Rattle.never_heap.specs.Histories.{HistoryItem, starts_in, work_in}
use Rattle.never_heap.specs.HistoryOfOrder.{item_of, IsHistoryOf}
use Rattle.heap_system.specs.Systems.{Finish, units_of}
use Rattle.rtheap_core.specs.declared.schedules.Schedule.{Schedule}
use Rattle.trace_text.specs.OrderTexts.{IsOrderOf, order_text, text_in_order}
use Rattle.exit_statuses.specs.Exits.{IsWritten}
use Rattle.rtheap_core.specs.Outcomes.{IsReplayShown, HasOrder}
use Rattle.exit_statuses.specs.Sides.{Sides}

pub has_order : (schedule : Schedule) (turns : ℕ) (f : Finish)
    → ((order : List Item) (logs : List (List Entry)) (h : List HistoryItem)
    → IsHistoryOf order logs h → IsOrderOf order logs)
    → IsReplayShown schedule turns f → HasOrder f
has_order schedule turns f law is = record {
  order = map item_of is.ran.history;
  kept = is.replay.order;
  fits = law (map item_of is.ran.history) f.logs is.ran.history is.told;
}

pub written_as : (sink : Sides) (status : ℕ) (schedule : Schedule) (turns : ℕ) (f : Finish)
    → ((order : List Item) (logs : List (List Entry)) (h : List HistoryItem)
    → IsHistoryOf order logs h
    → order_text order logs (starts_in h) (work_in h) ≡ text_in_order h)
    → (is : IsReplayShown schedule turns f)
    → ((order : List Item) → f.order ≡ Some order
    → IsWritten sink status (order_text order f.logs f.cycles (units_of f.logs)))
    → IsWritten sink status (text_in_order is.ran.history)
written_as sink status schedule turns f law is written =
    let h = is.ran.history in
    let o = map item_of h in
    subst (IsWritten sink status)
    (ap (λ k. order_text o f.logs k (units_of f.logs)) (sym is.ran.starts_counted)
    ∙ ap (λ k. order_text o f.logs (starts_in h) k) (sym is.ran.work_counted)
    ∙ law o f.logs h is.told) (written o is.replay.order)
