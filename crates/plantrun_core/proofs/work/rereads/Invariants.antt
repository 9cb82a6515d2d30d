-- The places so far were read.
use Rattle.std.proofs.Common.{◌≡◌, ◌+◌, length}
use Rattle.std.specs.Vec.{vec_capacity}
use Rattle.live_tables.specs.rows.Workers.{IsSameWorker}
use Rattle.plantrun_core.specs.Logs.{IsHandOf}
use Rattle.plantrun_core.specs.Roles.{HasReread}
use Rattle.plantrun_core.proofs.work.rereads.Given as goal

abbrev pub invariant-loop-k : goal.invariant-loop-k
invariant-loop-k g l = record {
  own : IsHandOf l.table l.hand;
  same : IsSameWorker l.fn.work.hand.who l.hand.who;
  capacity : vec_capacity l.hand.calls ≡ vec_capacity l.fn.work.hand.calls;
  read : HasReread l.k l.fn.work.hand.calls.items l.hand.calls.items;
  length : length l.hand.calls.items ≡ length l.fn.work.hand.calls.items + l.k;
}
