-- Real-time order: what has taken effect comes before what is invoked later.
use Rattle.std.specs.Prelude.{ℕ, ◌≤◌, ◌≡◌, ◌++◌, List, length}
use mathlib.Core.Option.{some}
use lib.ListN.{get_elem?}
use Rattle.atomic_table.specs.Table as table
use Rattle.never_heap.specs.declared.Command.{Command}
use Rattle.never_heap.specs.Histories.{HistoryItem, part}
use Rattle.shared_heap.specs.declared.rules.ThreadView.{ThreadView}
use Rattle.shared_heap.specs.declared.rules.Moment.{Moment}
use Rattle.shared_heap.specs.declared.rules.View.{View}
use Rattle.shared_heap.specs.Shared.{IsStartOf, history_of, invoked_in, one_view}

-- A prefix of the order has at least n entries of thread t and at most m of thread u. So the first
-- n entries of t come before all entries of u but its first m.
pub record ComeBefore (order : List HistoryItem) (t n u m : ℕ) : Type 0 where
  pub first : List HistoryItem
  pub later : List HistoryItem
  pub split : order ≡ first ++ later
  pub many : n ≤ length (part t first)
  pub few : length (part u first) ≤ m

-- Take any prefix of the timeline. Its entries come, in the order, before the entries of all
-- commands that are invoked after it.
abbrev pub KeepsRealTime : List Moment → List HistoryItem → Type 0
KeepsRealTime timeline order =
    (p : List Moment) → IsStartOf p timeline → (t n u m : ℕ)
    → n ≤ length (part t (history_of p)) → length (invoked_in u p) ≤ m
    → ComeBefore order t n u m

-- ---- two states of a table

-- in this state of the table, this is what the seat of a worker knows
abbrev pub IsSeatOf : table.State Command View → ThreadView → Type 0
IsSeatOf s h = (id : ℕ) × (notes : List (List Moment))
    × (get_elem? s.views id ≡ some (one_view h notes))

-- In this state of the table, a worker has seen this timeline.
pub record HadSeen (s : table.State Command View) (p : List Moment) : Type 0 where
  pub worker : ThreadView
  pub seat : IsSeatOf s worker
  pub seen : IsStartOf p worker.past.seen

-- The entries of this timeline come, in the order, before the entries of all commands that the
-- thread did not yet have.
abbrev pub PrecedesLaterCommands : List Moment → ThreadView → List HistoryItem → Type 0
PrecedesLaterCommands p h order = (t n : ℕ) → n ≤ length (part t (history_of p))
    → ComeBefore order t n h.local.thread (length h.local.trace)
