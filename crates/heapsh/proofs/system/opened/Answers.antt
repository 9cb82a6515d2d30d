use Rattle.std.proofs.Common.{◌≤◌, ◌^◌, sym, subst}
use Rattle.heap_system.specs.Machines.{IsJob}
use Rattle.heap_system.specs.Systems.{commands_in}
use Rattle.heap_system.proofs.Lemmas.{job_of_text, text_few}
use Rattle.trace_text.specs.Jobs.{Job}
use Rattle.heapsh.proofs.system.opened.Goals as goal

pub new_ordered-requires-clause-few : goal.new_ordered-requires-clause-few
new_ordered-requires-clause-few c =
    subst (λ (j : Job). commands_in j.traces ≤ 2 ^ 32) (sym c.job.view_is)
    (text_few _ _ c.requires.bounds)

pub new_ordered-requires-clause-job : goal.new_ordered-requires-clause-job
new_ordered-requires-clause-job c =
    subst (λ (j : Job). IsJob j.config j.traces) (sym c.job.view_is)
    (job_of_text _ _ c.requires.bounds c.requires.admitted)
