use Rattle.std.proofs.Common.{◌≡◌, ◌+◌, ℕ, length, Ok, sym, ap, subst, ◌∙◌, arith}
use Rattle.trace_text.specs.Lines.{tokens_of}
use Rattle.trace_text.specs.Reading.{tokenized}
use Rattle.trace_text.specs.Wholes.{IsBadTrace}
use Rattle.trace_text.proofs.LabelLaws.{parted_some}
use Rattle.trace_text.proofs.WholeLaws.{read_at, not_told, trace_goes_on, trace_stops, trace_is_bad}
use Rattle.trace_text.proofs.reading.whole.trace_of.Goals as goal

pub returns-in_default-said : goal.returns-in_default-said
returns-in_default-said c =
    let trace = c.loop-line.trace in
    let said = read_at c.args.config c.args.threads c.len.result (length trace.items)
    (tokens_of c.in-Some.line.now) _ (c.len.ensures ∙ trace.ok.0) c.in-Ok.ensures in
    record {
      trace = trace_stops c.args.config c.args.threads (tokenized c.args.rest.lines.now) trace.items
          (tokenized c.loop-line.lines.now) c.loop-line.invariant.so_far
          (tokens_of c.in-Some.line.now) (tokenized c.in-Some.after.now)
          (parted_some _ _ _ c.in-Some.ensures.lines) c.in-Ok.said said
          (not_told c.in-Ok.said c.in_default-said.not-Told);
      read = omega (arith, c.len-in-Some.ensures);
      within = omega (
        arith,
        c.len-in-Some.ensures,
        c.in-Some.ensures.shorter,
        c.loop-line.invariant.within,
      );
    }

pub returns-in-Err-clause-trace : goal.returns-in-Err-clause-trace
returns-in-Err-clause-trace c =
    let trace = c.loop-line.trace in
    let count : c.len-in-Some.result ≡ length trace.items = c.len-in-Some.ensures ∙ trace.ok.0 in
    let said = read_at c.args.config c.args.threads c.len.result (length trace.items)
    (tokens_of c.in-Some.line.now) _ (c.len.ensures ∙ trace.ok.0) c.in-Err.ensures in
    let bad = trace_is_bad c.args.config c.args.threads (tokenized c.args.rest.lines.now)
    trace.items
    (tokenized c.loop-line.lines.now) c.loop-line.invariant.so_far
    (tokens_of c.in-Some.line.now) (tokenized c.in-Some.after.now)
    (parted_some _ _ _ c.in-Some.ensures.lines) c.in-Err.why said c.args.rest.read in
    subst (λ (n : ℕ). IsBadTrace c.args.config c.args.threads
    (tokenized c.args.rest.lines.now) c.args.rest.read (c.args.rest.read + n + 1) c.in-Err.why)
    (sym count) bad

pub loop-line-preserved : goal.loop-line-preserved
loop-line-preserved c =
    let trace = c.loop-line.trace in
    let said = read_at c.args.config c.args.threads c.len.result (length trace.items)
    (tokens_of c.in-Some.line.now) _ (c.len.ensures ∙ trace.ok.0) c.in-Ok.ensures in
    let more = trace_goes_on c.args.config c.args.threads
    (tokenized c.args.rest.lines.now) trace.items
    (tokenized c.loop-line.lines.now) c.loop-line.invariant.so_far
    (tokens_of c.in-Some.line.now) (tokenized c.in-Some.after.now)
    (parted_some _ _ _ c.in-Some.ensures.lines) c.in-Told.command
    (said ∙ ap Ok c.in-Told.is) in
    record {
      so_far = rw c.in_ok-push.ensures.items more;
      within = omega (
        arith,
        c.in_ok-push.ensures.len,
        c.in-Some.ensures.shorter,
        c.loop-line.invariant.within,
      );
    }
