use Rattle.std.proofs.Common.{◌<◌, rules, List, ℕ, length, map, subst, arith}
use Rattle.std.proofs.lemmas.List.{length-map}
use Rattle.trace_text.specs.Streams.{Appends, AppendsPrefix}
use Rattle.trace_text.proofs.AppendedTexts.{at_err}
use Rattle.rt_mail.specs.Tellings.{mail_line}
use Rattle.array_scripts.proofs.Items.{items_at}
use Rattle.rt_mail.proofs.WrittenLines.{written_more, written_front}
use Rattle.rt_mail.proofs.printing.write_lines.Goals as goal

pub returns-in_err-write_line-clause-prefix : goal.returns-in_err-write_line-clause-prefix
returns-in_err-write_line-clause-prefix g c =
    let held = g.K.Sink.held in
    let last : List (List ℕ) = map (λ v. v.items) c.args.recalled.now in
    let low : c.loop-t.t < length last =
    omega (arith, c.loop-t-test.true, length-map c.args.recalled.now (λ v. v.items)) in
    let there : c.loop-t.t < length c.args.taken.now.taken =
    omega (arith, c.loop-t-test.true, c.requires.all) in
    at_err c.from_residual.result
    (written_front (held c.args.sink.now) (held c.loop-t.sink) c.args.taken.now.taken last c.loop-t.t
    c.loop-t.invariant.written (held c.write_line.new.sink) c.numbers-got.result.now
    c.index-recalled-t.result.items low there c.numbers-got.ensures.value
    (items_at c.args.recalled.now c.loop-t.t c.index-recalled-t.result c.index-recalled-t.is
    (λ v. v.items))
    (subst (λ (ns : List ℕ). AppendsPrefix (held c.loop-t.sink) (held c.write_line.new.sink)
    (mail_line c.loop-t.t (length c.numbers-got.result.now) ns)) c.deref.ensures.value
    c.in_err-write_line.ensures.prefix))

pub loop-t-preserved : goal.loop-t-preserved
loop-t-preserved g c =
    let held = g.K.Sink.held in
    let last : List (List ℕ) = map (λ v. v.items) c.args.recalled.now in
    let low : c.loop-t.t < length last =
    omega (arith, c.loop-t-test.true, length-map c.args.recalled.now (λ v. v.items)) in
    let there : c.loop-t.t < length c.args.taken.now.taken =
    omega (arith, c.loop-t-test.true, c.requires.all) in
    record {
      written = written_more (held c.args.sink.now) (held c.loop-t.sink) c.args.taken.now.taken last
          c.loop-t.t c.loop-t.invariant.written (held c.write_line.new.sink)
          c.numbers-got.result.now c.index-recalled-t.result.items low there
          c.numbers-got.ensures.value
          (items_at c.args.recalled.now c.loop-t.t c.index-recalled-t.result
          c.index-recalled-t.is (λ v. v.items))
          (subst (λ (ns : List ℕ). Appends (held c.loop-t.sink) (held c.write_line.new.sink)
          (mail_line c.loop-t.t (length c.numbers-got.result.now) ns)) c.deref.ensures.value
          c.in_ok-write_line.ensures.written);
      still = search rules;
    }
