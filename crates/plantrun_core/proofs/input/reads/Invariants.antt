-- The readings so far were read and written.
use Rattle.std.proofs.Common.{◌≡◌, map}
use Rattle.std.specs.Vec.{vec_capacity}
use Rattle.live_tables.specs.rows.Workers.{IsSameWorker}
use Rattle.plantrun_core.specs.Logs.{IsHandOf, operation_of}
use Rattle.plantrun_core.proofs.Lines.{HasRead}
use Rattle.plantrun_core.proofs.input.reads.Given as goal

abbrev pub invariant-loop-taken : goal.invariant-loop-taken
invariant-loop-taken g l = record {
  own : IsHandOf l.table l.hand;
  same : IsSameWorker l.fn.hand.who l.hand.who;
  capacity : vec_capacity l.hand.calls ≡ vec_capacity l.fn.hand.calls;
  read : HasRead l.ticks.count (g.S.Source.left l.fn.source) (g.S.Source.left l.source) l.taken
      (map operation_of l.hand.calls.items);
  faults : g.S.Source.faults l.source ≡ g.S.Source.faults l.fn.source;
}
