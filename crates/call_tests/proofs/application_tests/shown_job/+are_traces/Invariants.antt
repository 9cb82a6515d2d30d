use Rattle.std.proofs.Common.{length}
use Rattle.call_tests.proofs.application_tests.shown_job.+are_traces.Given as goal

abbrev pub decreases-are_traces : goal.decreases-are_traces
decreases-are_traces l = length l.traces.now
