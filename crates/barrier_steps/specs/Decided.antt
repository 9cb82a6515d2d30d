-- What a command is at between its events, and what an event leaves that decides it.
use Rattle.std.specs.Prelude.{ℕ, if◌then◌else◌, List, [], ◌∷◌, ◌++◌}
use Rattle.block_store.specs.Places.{Extent}
use Rattle.never_heap.specs.declared.Entry.{Entry}
use Rattle.never_heap.specs.Graphs.{Graph}
use Rattle.never_heap.specs.Histories.{HistoryItem, Did}
use Rattle.never_heap.specs.RightWork.{requested_units}
use Rattle.heap_invariant.specs.name_invariant.Pictures.{Task, no_task}
use Rattle.barrier_steps.specs.Rows.{FieldState}
use Rattle.barrier_steps.specs.Deciding.{is_deciding}
use Rattle.barrier_steps.specs.Replies.{answer, graph_after}
use Rattle.barrier_steps.specs.Projection.{loading_of}

-- what the thread is at: it has loaded what its row has, and neither builds nor scans
abbrev pub field_task : Extent → FieldState → Task
field_task e f = record no_task { loading = loading_of e f }

-- the entry of a command that is decided on this graph: it is answered as its step answers it there
abbrev pub entry_on : Graph → FieldState → Entry
entry_on g f = record {
  thread = f.pass.thread;
  command = f.command;
  reply = answer g f.pass.thread f.command;
  work = requested_units f.command;
}

-- the graph and the order after the event that reads w
abbrev pub graph_on : Graph → FieldState → ℕ → Graph
graph_on g f w = if is_deciding f.command f.row w then graph_after g f.pass.thread f.command else g

abbrev pub order_on : Graph → List HistoryItem → FieldState → ℕ → List HistoryItem
order_on g order f w = if is_deciding f.command f.row w then order ++ Did (entry_on g f) ∷ []
    else order
