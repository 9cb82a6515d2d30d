use Rattle.plantrun_core.proofs.crew.crew_of.Goals as goal

pub returns-clause-crew : goal.returns-clause-crew
returns-clause-crew c = record {
  input = c.in_ok-input.ensures.worker;
  control = c.in_ok-control.ensures.worker;
  alarms = c.in_ok-alarms.ensures.worker;
  history = c.in_ok-history.ensures.worker;
}
