use Rattle.std.proofs.Common.{map, string_bytes, codes}
use Rattle.array_scripts.proofs.CarriedOut.{carried_out_as}
use Rattle.exit_statuses.specs.Sides.{sides}
use Rattle.array_scripts.specs.script_runs.Runs.{IsAnswered}
use Rattle.rt_handles.specs.HandleCalls.{Headline}
use Rattle.rt_handles.specs.Lines.{handle_kind}
use Rattle.rt_handles.specs.Scripts.{commands}
use Rattle.rt_handles.specs.Tellings.{outcome_text, told}
use Rattle.rt_handles.proofs.SlotRuns.{handles_run, headline}
use Rattle.rt_handles.proofs.top.handles.Goals as goal

pub run_script-status-requires-clause-runnable : goal.run_script-status-requires-clause-runnable
run_script-status-requires-clause-runnable g c κs within = handles_run

pub returns : goal.returns
returns g c =
    let source = sides g.S.Source.left g.S.Source.faults c.args.source.now c.run_script-status.new.source in
    let sink = sides g.K.Sink.held g.K.Sink.faults c.args.sink.now c.run_script-status.new.sink in
    let x = c.run_script-status.result in
    carried_out_as handle_kind (codes "rt_handles")
    (IsAnswered handle_kind commands told outcome_text source sink x.status)
    (Headline source sink x.status) (map (λ w. string_bytes w) c.args.words.now) source sink
    x.status x.due x.run (headline source sink x.status) c.run_script-status.ensures
