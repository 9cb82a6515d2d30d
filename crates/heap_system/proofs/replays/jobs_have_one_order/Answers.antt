use Rattle.std.proofs.Common.{ap}
use Rattle.heap_system.specs.Machines.{Run}
use Rattle.heap_system.proofs.work.Rooms.{runs_agree, logs_agree, done_agree}
use Rattle.heap_system.proofs.replays.jobs_have_one_order.Goals as goal

pub returns-clause-order : goal.returns-clause-order
returns-clause-order _ c traces ts r q a b = ap (λ (x : Run). x.order) (runs_agree c traces ts r q a b)

pub returns-clause-words : goal.returns-clause-words
returns-clause-words _ c traces ts r q a b = ap (λ (x : Run). x.state.words) (runs_agree c traces ts r q a b)

pub returns-clause-names : goal.returns-clause-names
returns-clause-names _ c traces ts r q a b = ap (λ (x : Run). x.names) (runs_agree c traces ts r q a b)

pub returns-clause-threads : goal.returns-clause-threads
returns-clause-threads _ c traces ts r q a b = ap (λ (x : Run). x.state.locals) (runs_agree c traces ts r q a b)

pub returns-clause-logs : goal.returns-clause-logs
returns-clause-logs _ c traces ts r q a b = logs_agree c traces ts r q a b

pub returns-clause-done : goal.returns-clause-done
returns-clause-done _ c traces ts r q a b = done_agree c traces ts r q a b
