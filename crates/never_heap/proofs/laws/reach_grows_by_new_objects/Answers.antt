use Rattle.never_heap.proofs.ReachSteps.{reached_after, sound_replay, reachable_named}
use Rattle.never_heap.proofs.laws.reach_grows_by_new_objects.Goals as goal

pub returns-clause-step : goal.returns-clause-step
returns-clause-step c = reached_after

pub returns-clause-references : goal.returns-clause-references
returns-clause-references c = sound_replay

pub returns-clause-objects : goal.returns-clause-objects
returns-clause-objects c = reachable_named
