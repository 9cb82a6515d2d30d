use Rattle.std.proofs.Common.{sym, map, ◌∙◌}
use Rattle.trace_text.specs.Lines.{tokens_of}
use Rattle.trace_text.specs.Reading.{tokenized}
use Rattle.array_scripts.proofs.Threads.{script_is}
use Rattle.array_scripts.proofs.script.script_of.Goals as goal

pub returns-clause-script : goal.returns-clause-script
returns-clause-script g c =
    script_is g.K.Scripted.kind c.requires.reads (tokenized c.args.input.now)
    (tokens_of c.in-Some.line.now) (tokenized c.in-Some.rest.now) c.in-Some-header_of.header
    (map (λ ops. ops.items) c.in_ok-scripts.scripts.items) c.in-Some.ensures.lines
    (sym c.header_of.ensures ∙ c.in-Some-header_of.is) c.in_ok-scripts.ensures.told
