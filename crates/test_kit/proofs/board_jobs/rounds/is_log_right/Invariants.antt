-- Where the entries that are left were served, all were.
use Rattle.std.proofs.Common.{drop}
use Rattle.std.specs.List.{AllByRecursion}
use Rattle.test_kit.specs.board_jobs.Served.{IsServed}
use Rattle.test_kit.proofs.board_jobs.rounds.is_log_right.Given as goal

abbrev pub invariant-loop-number : goal.invariant-loop-number
invariant-loop-number l =
    AllByRecursion IsServed (drop l.number l.log) → AllByRecursion IsServed l.log
