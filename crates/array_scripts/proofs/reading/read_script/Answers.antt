use Rattle.std.proofs.lemmas.Result.{err_from_is_err_and}
use Rattle.exit_statuses.specs.Sides.{sides}
use Rattle.array_scripts.proofs.Apart.{refused_by_source}
use Rattle.array_scripts.proofs.reading.read_script.Goals as goal

pub returns-in_err-text-clause-refused : goal.returns-in_err-text-clause-refused
returns-in_err-text-clause-refused g c =
    let p = err_from_is_err_and c.from_residual.result c.from_residual.ensures.1 in
    rw (p.1, p.2) (refused_by_source g.K.Scripted.kind
    (sides g.S.Source.left g.S.Source.faults c.args.source.now c.text_of.new.source) _
    c.in_err-text.ensures.refused)
