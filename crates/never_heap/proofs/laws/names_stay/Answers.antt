use Rattle.never_heap.proofs.UnchangedBySteps.{step_names, step_shape, replay_names, replay_shape}
use Rattle.never_heap.proofs.laws.names_stay.Goals as goal

pub returns-clause-step : goal.returns-clause-step
returns-clause-step c = step_names

pub returns-clause-step_shape : goal.returns-clause-step_shape
returns-clause-step_shape c = step_shape

pub returns-clause-replay : goal.returns-clause-replay
returns-clause-replay c = replay_names

pub returns-clause-replay_shape : goal.returns-clause-replay_shape
returns-clause-replay_shape c = replay_shape
