use Rattle.heap_system.proofs.Lemmas.{job_of_text, text_few}
use Rattle.call_tests.proofs.application_tests.replaying.opened.Goals as goal

pub new_ordered-requires-clause-job : goal.new_ordered-requires-clause-job
new_ordered-requires-clause-job c = job_of_text _ _ c.requires.job c.requires.plan

pub new_ordered-requires-clause-few : goal.new_ordered-requires-clause-few
new_ordered-requires-clause-few c = text_few _ _ c.requires.job
