use Rattle.std.proofs.Common.{◌<◌, rules, length, map, subst, arith}
use Rattle.std.proofs.lemmas.List.{length-map}
use Rattle.std.specs.List.{flat_map}
use Rattle.trace_text.specs.Streams.{Appends, AppendsPrefix}
use Rattle.trace_text.proofs.AppendedTexts.{at_err}
use Rattle.array_scripts.specs.Tellings.{answer_line}
use Rattle.array_scripts.proofs.Items.{items_at}
use Rattle.array_scripts.proofs.WrittenAnswers.{written_more, written_front}
use Rattle.array_scripts.proofs.printing.write_answers.Goals as goal

pub returns-in_err-write_thread-clause-prefix : goal.returns-in_err-write_thread-clause-prefix
returns-in_err-write_thread-clause-prefix g c =
    let held = g.W.Sink.held in
    let text = g.K.Scripted.text in
    let told = map (λ v. v.items) c.args.told.now in
    let low : c.loop-t.t < length told =
    omega (arith, c.loop-t-test.true, length-map c.args.told.now (λ v. v.items)) in
    at_err c.from_residual.result
    (written_front text (held c.args.sink.now) (held c.loop-t.sink) told c.loop-t.t
    c.loop-t.invariant.written (held c.write_thread.new.sink) c.index-told-t.result.items low
    (items_at c.args.told.now c.loop-t.t c.index-told-t.result c.index-told-t.is (λ v. v.items))
    (subst (λ answers. AppendsPrefix (held c.loop-t.sink) (held c.write_thread.new.sink)
    (flat_map (answer_line text c.loop-t.t) answers)) c.deref.ensures.value
    c.in_err-write_thread.ensures.prefix))

pub loop-t-preserved : goal.loop-t-preserved
loop-t-preserved g c =
    let held = g.W.Sink.held in
    let text = g.K.Scripted.text in
    let told = map (λ v. v.items) c.args.told.now in
    let low : c.loop-t.t < length told =
    omega (arith, c.loop-t-test.true, length-map c.args.told.now (λ v. v.items)) in
    record {
      written = written_more text (held c.args.sink.now) (held c.loop-t.sink) told c.loop-t.t
          c.loop-t.invariant.written (held c.write_thread.new.sink) c.index-told-t.result.items low
          (items_at c.args.told.now c.loop-t.t c.index-told-t.result c.index-told-t.is
          (λ v. v.items))
          (subst (λ answers. Appends (held c.loop-t.sink)
          (held c.write_thread.new.sink) (flat_map (answer_line text c.loop-t.t) answers))
          c.deref.ensures.value c.in_ok-write_thread.ensures.written);
      still = search rules;
    }
