-- What is live at the moments of an order of commands.
use Rattle.std.specs.Prelude.{ℕ, ◌+◌, max, List, [], ◌∷◌, ◌++◌, ◌≡◌, map}
use Rattle.std.specs.List.{sum_by}
use Rattle.block_store.specs.declared.Width.{Width}
use Rattle.never_heap.specs.declared.Command.{Command}
use Rattle.never_heap.specs.Graphs.{Graph}
use Rattle.never_heap.specs.LiveBlocks.{live_blocks}
use Rattle.never_heap.specs.Steps.{step, blocks_of}
use Rattle.rt_check.specs.declared.moves.Move.{Move}

-- the graph after a command
abbrev pub graph_after : Graph → Move → Graph
graph_after g m = (step g m.thread m.command).0

-- the graph that an order of commands leaves
abbrev pub graph_behind : Graph → List Move → Graph
graph_behind g [] = g
graph_behind g (m ∷ ms) = graph_behind (graph_after g m) ms

-- the blocks of all objects that are made
abbrev pub blocks_made : Width → List Move → ℕ
blocks_made w ms = sum_by (λ (m : Move). blocks_of w m.command) ms

-- the greatest number of live blocks at any moment of an order: before each command, and after the
-- last
abbrev pub most_live : Width → Graph → List Move → ℕ
most_live w g [] = live_blocks w g
most_live w g (m ∷ ms) = max (live_blocks w g) (most_live w (graph_after g m) ms)

-- at some moment of the order so many blocks are live
pub record IsMoment (w : Width) (g : Graph) (ms : List Move) (n : ℕ) : Type 0 where
  pub before : List Move
  pub behind : List Move
  pub order : ms ≡ before ++ behind
  pub live : n ≡ live_blocks w (graph_behind g before)

-- the commands of thread t, in the order of its trace
abbrev pub moves_of : ℕ → List Command → List Move
moves_of t trace = map (λ (c : Command). let m : Move = record { thread = t; command = c } in m) trace

-- all commands of some threads, from thread t on, one thread after the other
abbrev pub by_threads : ℕ → List (List Command) → List Move
by_threads t [] = []
by_threads t (trace ∷ traces) = moves_of t trace ++ by_threads (t + 1) traces
