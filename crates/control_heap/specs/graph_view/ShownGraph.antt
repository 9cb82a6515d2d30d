-- The object graph that a heap for one thread shows, and how commands change it.
use Rattle.std.specs.Prelude.{◌≡◌, ◌≤◌, ◌-◌, ◌⊎◌, max, true, if◌then◌else◌, List, [], ◌∷◌}
use Rattle.block_store.specs.declared.Config.{Config}
use Rattle.never_heap.specs.declared.Command.{Command}
use Rattle.never_heap.specs.declared.Reply.{Reply}
use Rattle.never_heap.specs.declared.Reply.TheVariants.{Stored}
use Rattle.never_heap.specs.Graphs.{Graph, start_graph}
use Rattle.never_heap.specs.Histories.{HistoryItem, after, is_full, replay, starts_in}
use Rattle.never_heap.specs.LiveBlocks.{live_blocks}
use Rattle.never_heap.specs.Steps.{makes_object, step}
use Rattle.heap_system.specs.Machines.{Run}
use Rattle.control_heap.specs.Controls.{Control, Stands}
use Rattle.control_heap.specs.WayBack.{StartsSmallFrom}

-- a graph has no more live blocks than the limit
abbrev pub IsSmall : Config → Graph → Type 0
IsSmall c g = live_blocks c.width g ≤ c.live

-- the same at each moment of a history
abbrev pub StaySmall : Config → Graph → List HistoryItem → Type 0
StaySmall c g [] = IsSmall c g
StaySmall c g (i ∷ is) = IsSmall c g × StaySmall c (after g i) is

-- The heap represents a run whose history leaves this graph, whatever was answered full.
pub record Leaves (h : Control) (g : Graph) : Type 0 where
  pub run : Run
  pub stands : Stands h run
  pub graph : replay h.config run.order ≡ g

-- The heap represents a run whose history leaves this graph, which is small; and the present cycle
-- and the one before it began with small graphs. A full from now on would name one of these cycles
-- or a later one, so what came before does not matter.
pub record Shows (h : Control) (g : Graph) : Type 0 where
  pub run : Run
  pub stands : Stands h run
  pub graph : replay h.config run.order ≡ g
  pub now : IsSmall h.config g
  pub lately : StartsSmallFrom h.config (max 1 (starts_in run.order - 1)) run.order

-- The same, and at no moment of that history more blocks were live than the limit: so no command of
-- it was answered full (`shown_heaps_met_no_full`).
pub record HasMetNoFull (h : Control) (g : Graph) : Type 0 where
  pub shows : Shows h g
  pub small : StaySmall h.config (start_graph h.config) shows.run.order

-- Whichever graph the heap showed: where the command makes a small graph of it, the reply is that
-- of the heap that never frees, and the heap then shows the new graph.
abbrev pub Follows : (Control → Graph → Type 0) → Control → Command → Reply → Control → Type 0
Follows Shown old k reply new =
    (g : Graph) → Shown old g → IsSmall old.config (step g 0 k).0
    → (reply ≡ (step g 0 k).1) × Shown new (step g 0 k).0

-- the graph after a command with this reply; a full leaves it unchanged
abbrev pub graph_told : Graph → Command → Reply → Graph
graph_told g k a = if is_full a then g else (step g 0 k).0

-- Whichever graph the heap had: the reply is that of the heap that never frees, or the command
-- makes an object and is answered full; and the heap then has the graph after this reply.
abbrev pub Goes : Control → Command → Reply → Control → Type 0
Goes old k reply new =
    (g : Graph) → Leaves old g
    → ((reply ≡ (step g 0 k).1) ⊎ ((is_full reply ≡ true) × (makes_object k ≡ true)))
    × Leaves new (graph_told g k reply)

-- the graph after commands with these replies, and that it is small after each of them
abbrev pub graph_at_last : Graph → List Command → List Reply → Graph
graph_at_last g (k ∷ ks) (a ∷ ys) = graph_at_last (graph_told g k a) ks ys
graph_at_last g _ _ = g

abbrev pub AllStaySmall : Config → Graph → List Command → List Reply → Type 0
AllStaySmall c g (k ∷ ks) (a ∷ ys) =
    IsSmall c (graph_told g k a) × AllStaySmall c (graph_told g k a) ks ys
AllStaySmall c g _ _ = Unit {0}

-- the graph after commands of which none is answered full, and the last of their replies
abbrev pub graph_behind : Graph → List Command → Graph
graph_behind g [] = g
graph_behind g (k ∷ ks) = graph_behind (step g 0 k).0 ks

abbrev pub last_reply : Reply → Graph → List Command → Reply
last_reply a g [] = a
last_reply a g (k ∷ ks) = last_reply (step g 0 k).1 (step g 0 k).0 ks

-- it is small after each of them
abbrev pub AllAreSmall : Config → Graph → List Command → Type 0
AllAreSmall c g [] = Unit {0}
AllAreSmall c g (k ∷ ks) = IsSmall c (step g 0 k).0 × AllAreSmall c (step g 0 k).0 ks

-- as `Follows`, for several commands
abbrev pub AllFollow :
    (Control → Graph → Type 0) → Control → List Command → Reply → Control → Type 0
AllFollow Shown old ks reply new =
    (g : Graph) → Shown old g → AllAreSmall old.config g ks
    → (reply ≡ last_reply Stored g ks) × Shown new (graph_behind g ks)

-- from a graph that the heap shows now, the commands that are left lead to the graph and the reply
-- to which all of them lead
abbrev pub Leads :
    (Control → Graph → Type 0) → Control → List Command → Control → Reply → List Command → Type 0
Leads Shown old ks now reply rest =
    (g : Graph) → Shown old g → AllAreSmall old.config g ks
    → (m : Graph) × Shown now m × AllAreSmall old.config m rest
    × (graph_behind m rest ≡ graph_behind g ks)
    × (last_reply reply m rest ≡ last_reply Stored g ks)
