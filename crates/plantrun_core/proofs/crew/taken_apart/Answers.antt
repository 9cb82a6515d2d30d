use Rattle.plantrun_core.proofs.crew.taken_apart.Goals as goal

pub returns-clause-plant : goal.returns-clause-plant
returns-clause-plant c =
    let k = c.requires.crew in
    record {
      table = c.close_all-cycles.ensures;
      threads = (k.input.1, k.control.1, k.alarms.1, k.history.1);
      input_log = k.input.0.log;
      control_log = k.control.0.log;
      alarms_log = k.alarms.0.log;
      history_log = k.history.0.log;
    }
