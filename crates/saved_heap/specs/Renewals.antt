-- A heap that is built from a picture, command by command; and heaps that show one graph.
use Rattle.std.specs.Prelude.{ℕ, ◌≤◌, ◌≡◌, List, [], ◌∷◌, true, take, drop, length}
use Rattle.block_store.specs.declared.Config.{Config}
use Rattle.never_heap.specs.declared.Command.{Command}
use Rattle.never_heap.specs.declared.Reply.{Reply}
use Rattle.never_heap.specs.Graphs.{Graph, start_graph}
use Rattle.never_heap.specs.Histories.{Started, replay}
use Rattle.saved_heap.specs.heap_pictures.Pictures.{Content, graph_of, is_sound}
use Rattle.saved_heap.specs.heap_pictures.Plans.{graph_after, plan_of}
use Rattle.saved_heap.specs.heap_pictures.UpToNames.{AreOneUpToNames}
use Rattle.heap_system.specs.Machines.{Run}
use Rattle.control_heap.specs.Controls.{Control, Stands, asked, units}
use Rattle.control_heap.specs.WayBack.{AllDone, NoneFull}
use Rattle.control_heap.specs.graph_view.RunsOfCommands.{HasDoneAll}
use Rattle.control_heap.specs.graph_view.ShownGraph.{Leaves}
use Rattle.saved_heap.specs.SearchOrder.{IsInOrder}

-- the new heap, the commands that build it, how many of them are done, and for how many more there
-- is room
pub record Copying : Type 0 where
  pub heap : Control
  pub commands : List Command
  pub done : ℕ
  pub room : ℕ

-- the commands that are left to do
abbrev pub rest_of : Copying → List Command
rest_of s = drop s.done s.commands

-- the heap has the graph after the commands that are done
pub record HasCopied (s : Copying) : Type 0 where
  pub few : s.done ≤ length s.commands
  pub leaves : Leaves s.heap (graph_after (start_graph s.heap.config) (take s.done s.commands))

-- a heap of this configuration that was just opened: nothing of its life is used
pub record IsOpened (c : Config) (h : Control) : Type 0 where
  pub config : h.config ≡ c
  pub no_commands : asked h ≡ 0
  pub no_units : units h ≡ 0
  pub no_objects : h.objects ≡ 0
  pub run : Run
  pub stands : Stands h run
  pub order : run.order ≡ Started ∷ []

-- The heap did these commands in their order and no other, none was answered `Full`, and it is
-- then z.
pub record HasBuilt (h : Control) (ks : List Command) (z : Control) : Type 0 where
  pub done : HasDoneAll h ks z
  pub replies : List Reply
  pub answered : AllDone h ks replies z
  pub none_full : NoneFull replies

-- It was opened in this configuration, and did these commands and no other. So it has used of its
-- life what they use (`lives_add_up` of `graph_view`).
pub record IsBuilt (c : Config) (ks : List Command) (h : Control) : Type 0 where
  pub first : Control
  pub opened : IsOpened c first
  pub built : HasBuilt first ks h

-- the heap shows a graph that is this one up to names
pub record ShowsUpToNames (h : Control) (g : Graph) : Type 0 where
  pub graph : Graph
  pub leaves : Leaves h graph
  pub one : AreOneUpToNames g graph

-- both heaps show one graph up to names
abbrev pub ShowOneGraph : Control → Control → Type 0
ShowOneGraph from into =
    (r : Run) → Stands from r → ShowsUpToNames into (replay from.config r.order)

-- what was built, where the commands are those of this picture
abbrev pub ShowsPicture : List Command → Control → Type 0
ShowsPicture ks h =
    (p : Content) → is_sound p ≡ true → ks ≡ plan_of p → ShowsUpToNames h (graph_of p)

-- the picture of a heap
abbrev pub IsPictureOf : Control → Content → Type 0
IsPictureOf h p =
    (r : Run) → Stands h r
    → (is_sound p ≡ true) × AreOneUpToNames (replay h.config r.order) (graph_of p)

-- the heap was built from the picture of another, which has no other objects
abbrev pub IsBuiltFrom : Control → Config → Control → Type 0
IsBuiltFrom from c h =
    (p : Content) × IsPictureOf from p × IsInOrder p × IsBuilt c (plan_of p) h
