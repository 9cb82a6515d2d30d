use Rattle.never_heap.proofs.StepChanges.{step_threads}
use Rattle.never_heap.proofs.UnchangedBySteps.{step_register, step_object, stored_other, stored_field, step_counts, step_made}
use Rattle.never_heap.proofs.RefusedCommands.{step_refused, step_lost}
use Rattle.never_heap.proofs.laws.steps_leave.Goals as goal

pub returns-clause-registers : goal.returns-clause-registers
returns-clause-registers c = step_register

pub returns-clause-objects : goal.returns-clause-objects
returns-clause-objects c = step_object

pub returns-clause-others : goal.returns-clause-others
returns-clause-others c = stored_other

pub returns-clause-threads : goal.returns-clause-threads
returns-clause-threads c = step_threads

pub returns-clause-fields : goal.returns-clause-fields
returns-clause-fields c = stored_field

pub returns-clause-counts : goal.returns-clause-counts
returns-clause-counts c = step_counts

pub returns-clause-made : goal.returns-clause-made
returns-clause-made c = step_made

pub returns-clause-refused : goal.returns-clause-refused
returns-clause-refused c = step_refused

pub returns-clause-lost : goal.returns-clause-lost
returns-clause-lost c = step_lost
