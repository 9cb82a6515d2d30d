use Rattle.std.proofs.Common.{length}
use Rattle.call_tests.proofs.application_tests.handle_deeds.+are_told.Given as goal

abbrev pub decreases-are_told : goal.decreases-are_told
decreases-are_told l = length l.ops.now
