-- What is known along an order of commands.
use Rattle.std.specs.Prelude.{ℕ, ◌+◌, ◌^◌, ◌<◌, ◌≤◌, List}
use Rattle.block_store.specs.declared.Config.{Config}
use Rattle.block_store.specs.declared.Width.{Width}
use Rattle.never_heap.specs.Bounds.{IsCommandInBounds}
use Rattle.never_heap.specs.Graphs.{Graph}
use Rattle.never_heap.specs.LiveBlocks.{live_blocks}
use Rattle.rt_check.specs.declared.moves.Move.{Move}
use Rattle.rt_check.specs.declared.rt_limit.counts.Counter.{Counter}
use Rattle.rt_check.specs.rt_limit.Figures.{AreFigures}
use Rattle.rt_check.specs.rt_limit.Moments.{graph_behind, blocks_made}

-- The figures are those of the commands so far, and no more blocks are live than the counter says.
-- It never says more than there are.
pub record Knows (w : Width) (g : Graph) (past : List Move) (k : Counter) : Type 0 where
  pub figures : AreFigures w g past k.figures
  pub live : live_blocks w (graph_behind g past) ≤ k.bound
  pub small : k.bound ≤ live_blocks w g + blocks_made w past
  pub reached : k.figures.reached ≤ live_blocks w g + blocks_made w past

-- there is room to count the blocks of one more command
pub record HasRoom (k : Counter) (made : ℕ) : Type 0 where
  pub made_few : made ≤ 2 ^ 16
  pub allocated : k.figures.allocated ≤ 2 ^ 62
  pub bound : k.bound ≤ 2 ^ 62
  pub reached : k.figures.reached ≤ 2 ^ 62

-- a command of one of the threads, in its ranges
pub record IsMoveInRange (c : Config) (m : Move) : Type 0 where
  pub thread : m.thread < c.threads
  pub command : IsCommandInBounds c m.command
