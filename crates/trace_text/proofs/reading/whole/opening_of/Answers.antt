use Rattle.std.proofs.Common.{sym}
use Rattle.trace_text.specs.Lines.{tokens_of}
use Rattle.trace_text.specs.Reading.{tokenized}
use Rattle.trace_text.proofs.LabelLaws.{parted_some, parted_none}
use Rattle.trace_text.proofs.WholeLaws.{bad_header, no_thread, bad_thread, opens}
use Rattle.trace_text.proofs.reading.whole.opening_of.Goals as goal

pub returns-in-Err-clause-begun : goal.returns-in-Err-clause-begun
returns-in-Err-clause-begun c =
    bad_header c.args.input.now (tokens_of c.in-Some.line.now)
    (tokenized c.in-Some.lines.now) c.in-Err.why (parted_some _ _ _ c.in-Some.ensures.lines)
    (sym c.in-Err.ensures)

pub returns-in_default-first_line-clause-begun : goal.returns-in_default-first_line-clause-begun
returns-in_default-first_line-clause-begun c =
    no_thread c.args.input.now (tokens_of c.in-Some.line.now)
    (tokenized c.in-Some.lines.now) c.in-Ok.config (parted_some _ _ _ c.in-Some.ensures.lines)
    (sym c.in-Ok.ensures) (parted_none _ c.in_default-first_line.ensures.lines)

pub returns-in-Ok-line_of-clause-begun : goal.returns-in-Ok-line_of-clause-begun
returns-in-Ok-line_of-clause-begun c =
    opens c.args.input.now (tokens_of c.in-Some.line.now)
    (tokenized c.in-Some.lines.now) c.in-Ok.config (parted_some _ _ _ c.in-Some.ensures.lines)
    (sym c.in-Ok.ensures)
    (tokens_of c.in-Some-first_line.line.now)
    (tokenized c.in-Some-first_line.lines.now) c.in-Ok-line_of.field-0
    (parted_some _ _ _ c.in-Some-first_line.ensures.lines) (sym c.in-Ok-line_of.ensures)

pub returns-in-Err-line_of-clause-begun : goal.returns-in-Err-line_of-clause-begun
returns-in-Err-line_of-clause-begun c =
    bad_thread c.args.input.now (tokens_of c.in-Some.line.now)
    (tokenized c.in-Some.lines.now) c.in-Ok.config (parted_some _ _ _ c.in-Some.ensures.lines)
    (sym c.in-Ok.ensures)
    (tokens_of c.in-Some-first_line.line.now)
    (tokenized c.in-Some-first_line.lines.now) c.in-Err-line_of.why
    (parted_some _ _ _ c.in-Some-first_line.ensures.lines) (sym c.in-Err-line_of.ensures)
