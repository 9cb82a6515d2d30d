use Rattle.never_heap.proofs.StepAnswers.{step_not_full, makers_have_blocks, others_have_none}
use Rattle.never_heap.proofs.laws.steps_answer.Goals as goal

pub returns-clause-full : goal.returns-clause-full
returns-clause-full c = step_not_full

pub returns-clause-makers : goal.returns-clause-makers
returns-clause-makers c = makers_have_blocks

pub returns-clause-others : goal.returns-clause-others
returns-clause-others c = others_have_none
