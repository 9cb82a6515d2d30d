-- The alarms so far were scanned.
use Rattle.std.proofs.Common.{◌≡◌}
use Rattle.std.specs.Vec.{vec_capacity}
use Rattle.live_tables.specs.rows.Workers.{IsSameWorker}
use Rattle.plantrun_core.specs.Logs.{IsHandOf}
use Rattle.plantrun_core.specs.Roles.{HasScannedTo}
use Rattle.plantrun_core.proofs.roles.scan_all.Given as goal

abbrev pub invariant-loop-alarm : goal.invariant-loop-alarm
invariant-loop-alarm g l = record {
  own : IsHandOf l.table l.hand;
  same : IsSameWorker l.fn.hand.who l.hand.who;
  capacity : vec_capacity l.hand.calls ≡ vec_capacity l.fn.hand.calls;
  scanned : HasScannedTo l.alarm l.fn.hand.calls.items l.hand.calls.items;
}
