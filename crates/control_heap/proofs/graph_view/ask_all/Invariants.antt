-- The commands that are left lead on from a graph that the heap shows, and what becomes of them
-- becomes of all.
use Rattle.std.proofs.Common.{◌≡◌, List, drop}
use Rattle.never_heap.specs.declared.Reply.{Reply}
use Rattle.never_heap.specs.declared.Reply.TheVariants.{Stored}
use Rattle.control_heap.specs.Controls.{Control}
use Rattle.control_heap.specs.declared.control.Refused.{Refused}
use Rattle.control_heap.specs.WayBack.{AllDone}
use Rattle.control_heap.specs.graph_view.RunsOfCommands.{HasDoneAll, RefusesOne, last_told}
use Rattle.control_heap.specs.graph_view.ShownGraph.{HasMetNoFull, Leads, Shows}
use Rattle.control_heap.proofs.graph_view.ask_all.Given as goal

abbrev pub invariant-loop-command : goal.invariant-loop-command
invariant-loop-command l = record {
  config : l.heap.config ≡ l.initial.heap.config;
  leads : Leads Shows l.initial.heap l.commands l.heap l.reply (drop l.command-index l.commands);
  never : Leads HasMetNoFull l.initial.heap l.commands l.heap l.reply (drop l.command-index l.commands);
  replied : (z : Control) (ys : List Reply) → AllDone l.heap (drop l.command-index l.commands) ys z
      → (all : List Reply) × AllDone l.initial.heap l.commands all z
      × (last_told l.reply ys ≡ last_told Stored all);
  done : (z : Control) → HasDoneAll l.heap (drop l.command-index l.commands) z
      → HasDoneAll l.initial.heap l.commands z;
  refused : (r : Refused) (z : Control)
      → RefusesOne l.heap (drop l.command-index l.commands) r z
      → RefusesOne l.initial.heap l.commands r z;
}
