use Rattle.std.proofs.Common.{ap}
use Rattle.heap_system.specs.Machines.{Run}
use Rattle.heap_system.proofs.Lemmas.{done_agree, logs_agree, runs_agree}
use Rattle.rtheap_core.specs.schedules.Schedules.{turns_of}
use Rattle.rtheap_core.proofs.schedules.SameTurns.{first_run, second_run}
use Rattle.rtheap_core.proofs.schedules.laws.replays_have_one_order.Goals as goal

pub returns-clause-order : goal.returns-clause-order
returns-clause-order _ c traces schedule turns r q a b =
    ap (λ (x : Run). x.order) (runs_agree c traces (turns_of schedule c a.first turns) r q (first_run c traces schedule turns r a) (second_run c traces schedule turns r q a b))

pub returns-clause-words : goal.returns-clause-words
returns-clause-words _ c traces schedule turns r q a b =
    ap (λ (x : Run). x.state.words) (runs_agree c traces (turns_of schedule c a.first turns) r q (first_run c traces schedule turns r a) (second_run c traces schedule turns r q a b))

pub returns-clause-logs : goal.returns-clause-logs
returns-clause-logs _ c traces schedule turns r q a b = logs_agree c traces (turns_of schedule c a.first turns) r q (first_run c traces schedule turns r a) (second_run c traces schedule turns r q a b)

pub returns-clause-done : goal.returns-clause-done
returns-clause-done _ c traces schedule turns r q a b = done_agree c traces (turns_of schedule c a.first turns) r q (first_run c traces schedule turns r a) (second_run c traces schedule turns r q a b)
