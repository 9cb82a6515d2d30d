-- Commands that a program goes on to ask of a heap while a copy of it is built.
use Rattle.std.specs.Prelude.{◌≡◌, List, [], ◌∷◌, ◌++◌, if◌then◌else◌}
use Rattle.never_heap.specs.declared.Command.{Command}
use Rattle.never_heap.specs.declared.Reply.{Reply}
use Rattle.never_heap.specs.Bounds.{IsCommandInBounds}
use Rattle.never_heap.specs.Graphs.{Graph}
use Rattle.never_heap.specs.Histories.{is_full}
use Rattle.saved_heap.specs.heap_pictures.Pictures.{Content}
use Rattle.saved_heap.specs.heap_pictures.Plans.{plan_of}
use Rattle.control_heap.specs.Controls.{Control, HasAnswered, HasLeft}
use Rattle.control_heap.specs.WayBack.{AllDone}
use Rattle.control_heap.specs.graph_view.ShownGraph.{Leaves, graph_at_last}
use Rattle.saved_heap.specs.Renewals.{IsPictureOf, ShowsUpToNames}

-- a command with this reply, where it has to be done on the copy: not where it was answered `Full`,
-- which leaves the graph unchanged
abbrev pub noted : Command → Reply → List Command
noted k a = if is_full a then [] else k ∷ []

abbrev pub all_noted : List Command → List Reply → List Command
all_noted (k ∷ ks) (a ∷ ys) = noted k a ++ all_noted ks ys
all_noted _ _ = []

-- both heaps have this graph, the second up to names
pub record HaveOneGraph (now into : Control) (g : Graph) : Type 0 where
  pub now_has : Leaves now g
  pub into_has : ShowsUpToNames into g

-- a heap did a command, had this reply, and is then new
pub record HasReplied (old : Control) (k : Command) (a : Reply) (new : Control) : Type 0 where
  pub config : new.config ≡ old.config
  pub bounds : IsCommandInBounds old.config k
  pub left : HasLeft old k
  pub answered : HasAnswered old k a new

-- Since this picture of it was taken, a heap did commands and is then now. These are the commands
-- that build the picture, and then those that the heap did.
pub record IsFollowed (from : Control) (p : Content) (all : List Command) (now : Control)
    : Type 0 where
  pub commands : List Command
  pub replies : List Reply
  pub did : AllDone from commands replies now
  pub noted : all ≡ plan_of p ++ all_noted commands replies

-- The commands build the picture of a heap, and then are those that this heap did after it was
-- taken. Then that heap and the new one have one graph.
abbrev pub HasFollowed : List Command → Control → Type 0
HasFollowed all into =
    (from now : Control) (p : Content) (g : Graph) (f : IsFollowed from p all now)
    → IsPictureOf from p → Leaves from g
    → HaveOneGraph now into (graph_at_last g f.commands f.replies)
