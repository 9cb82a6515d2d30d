use Rattle.std.proofs.Common.{map, string_bytes, codes}
use Rattle.array_scripts.proofs.CarriedOut.{carried_out_as}
use Rattle.exit_statuses.specs.Sides.{sides}
use Rattle.array_scripts.specs.script_runs.Runs.{IsAnswered}
use Rattle.rt_tags.specs.TagCalls.{Headline}
use Rattle.rt_tags.specs.Lines.{tag_kind}
use Rattle.rt_tags.specs.Scripts.{commands}
use Rattle.rt_tags.specs.Tellings.{tag_text, told}
use Rattle.rt_tags.proofs.Tables.{tag_runs, headline}
use Rattle.rt_tags.proofs.top.tags.Goals as goal

pub run_script-status-requires-clause-runnable : goal.run_script-status-requires-clause-runnable
run_script-status-requires-clause-runnable g c κs within = tag_runs

pub returns : goal.returns
returns g c =
    let source = sides g.S.Source.left g.S.Source.faults c.args.source.now c.run_script-status.new.source in
    let sink = sides g.K.Sink.held g.K.Sink.faults c.args.sink.now c.run_script-status.new.sink in
    let x = c.run_script-status.result in
    carried_out_as tag_kind (codes "rt_tags")
    (IsAnswered tag_kind commands told tag_text source sink x.status)
    (Headline source sink x.status) (map (λ w. string_bytes w) c.args.words.now) source sink
    x.status x.due x.run (headline source sink x.status) c.run_script-status.ensures
