-- What a job needs, by an order of its commands.
use Rattle.std.specs.Prelude.{◌+◌, ◌/◌, ◌≡◌, ◌≤◌, List}
use Rattle.block_store.specs.declared.Width.{Width}
use Rattle.never_heap.specs.Graphs.{Graph}
use Rattle.rt_check.specs.declared.moves.Move.{Move}
use Rattle.rt_check.specs.declared.rt_limit.counts.Figures.{Figures}
use Rattle.rt_check.specs.rt_limit.Moments.{blocks_made, most_live, IsMoment}

-- The blocks of all objects are told. What was reached was counted at some moment, and at none more
-- than what is enough are live, which is at most a 64th part above.
pub record AreFigures (w : Width) (g : Graph) (ms : List Move) (f : Figures) : Type 0 where
  pub allocated : f.allocated ≡ blocks_made w ms
  pub counted : IsMoment w g ms f.reached
  pub reached : f.reached ≤ most_live w g ms
  pub enough : most_live w g ms ≤ f.enough
  pub near : f.enough ≤ f.reached + f.reached / 64
