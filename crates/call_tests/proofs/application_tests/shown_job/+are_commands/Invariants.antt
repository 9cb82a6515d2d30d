use Rattle.std.proofs.Common.{length}
use Rattle.call_tests.proofs.application_tests.shown_job.+are_commands.Given as goal

abbrev pub decreases-are_commands : goal.decreases-are_commands
decreases-are_commands l = length l.trace.now
