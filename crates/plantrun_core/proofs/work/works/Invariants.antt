-- The thread did its ticks so far.
use Rattle.std.proofs.Common.{◌≡◌}
use Rattle.plantrun_core.specs.Logs.{IsHandOf}
use Rattle.plantrun_core.specs.Works.{HasGone}
use Rattle.plantrun_core.proofs.work.works.Given as goal

abbrev pub invariant-loop-tick : goal.invariant-loop-tick
invariant-loop-tick g l = record {
  own : IsHandOf l.table l.work.hand;
  gone : HasGone l.ticks.count l.fn.work l.work;
  here : l.work.ticks ≡ l.tick;
}
