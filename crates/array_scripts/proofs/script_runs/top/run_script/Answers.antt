use Rattle.std.proofs.Common.{refl, map, subst, string_bytes, Some, None}
use Rattle.array_scripts.specs.Tellings.{lines_from}
use Rattle.array_scripts.proofs.CarriedOut.{run_is_carried_out, refusal_is_carried_out}
use Rattle.exit_statuses.specs.Exits.{IsWritten}
use Rattle.exit_statuses.specs.Sides.{sides}
use Rattle.array_scripts.specs.script_runs.Runs.{IsAnswered}
use Rattle.array_scripts.proofs.script_runs.top.run_script.Goals as goal

pub returns-in-Ok : goal.returns-in-Ok
returns-in-Ok g c =
    let kind = g.K.Scripted.kind in
    let text = g.K.Scripted.text in
    let w = c.tell_answers.ensures in
    let status = c.tell_answers.result in
    let source = sides g.S.Source.left g.S.Source.faults c.args.source.now c.asked.new.source in
    let sink = sides g.W.Sink.held g.W.Sink.faults c.args.sink.now c.tell_answers.new.sink in
    let script = c.in-Ok.ensures.kept.0 in
    run_is_carried_out kind c.requires.runnable.reads c.args.name.now
    (IsAnswered kind g.K.Runnable.commands g.K.Runnable.told text source sink status)
    (map (λ w. string_bytes w) c.args.words.now) source sink status 0 (Some c.in-Ok.run')
    record { any_status = w.status; still = w.still; rose = w.rose }
    c.in-Ok.run' c.in-Ok.ensures.none (record {
      script = script;
      lines = subst (λ l. IsWritten sink status (lines_from text 0 l)) c.in-Ok.ensures.kept.1
          (subst (λ xs. IsWritten sink status (lines_from text 0 (map (λ v. v.items) xs)))
          c.deref.ensures.value w.text);
    }) script.header script.scripts script.read script.room c.in-Ok.ensures.still refl refl

pub returns-in-Err : goal.returns-in-Err
returns-in-Err g c =
    let r = c.refused.ensures in
    let source = sides g.S.Source.left g.S.Source.faults c.args.source.now c.asked.new.source in
    let sink = sides g.W.Sink.held g.W.Sink.faults c.args.sink.now c.refused.new.sink in
    refusal_is_carried_out g.K.Scripted.kind c.requires.runnable.reads c.args.name.now
    (IsAnswered g.K.Scripted.kind g.K.Runnable.commands g.K.Runnable.told g.K.Scripted.text source
    sink c.refused.result) (map (λ w. string_bytes w) c.args.words.now) source sink
    c.refused.result c.status.result None
    record { any_status = rw c.status.ensures r.status; still = r.still; rose = r.rose }
    c.in-Err.refusal c.status.ensures refl c.in-Err.ensures.refused r.line r.prefix
