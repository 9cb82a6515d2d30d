use Rattle.historian_core.proofs.stops.report_with_status.Goals as goal

pub returns : goal.returns
returns g c = record {
  result = c.report-end.result;
  middle = g.K.Sink.held c.report-end.new.sink;
  faults = g.K.Sink.faults c.report-end.new.sink;
  report = c.report-end.ensures.report;
  counted = c.report-end.ensures.counted;
  ended = c.say_end.ensures;
}
