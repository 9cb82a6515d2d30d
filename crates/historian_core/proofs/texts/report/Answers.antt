use Rattle.std.proofs.Common.{[], ap, refl, Ok, Err}
use Rattle.trace_text.proofs.AppendedTexts.{appends_none}
use Rattle.historian_core.specs.ReportTexts.{first_at, due_in, due_after, due_from}
use Rattle.historian_core.proofs.ReportLaws.{ends_here, goes_on, fine_reported}
use Rattle.historian_core.proofs.texts.report.Goals as goal

pub returns-in-Err-clause-report : goal.returns-in-Err-clause-report
returns-in-Err-clause-report g c =
    ends_here due_in refl (g.S.Source.left c.args.source.now)
    (g.S.Source.left c.first_limits.new.source) (g.K.Sink.held c.args.sink.now) (Err c.in-Err.stop)
    c.in-Err.ensures.first

pub returns-in-Err-clause-fine : goal.returns-in-Err-clause-fine
returns-in-Err-clause-fine g c =
    let held = g.K.Sink.held c.args.sink.now in
    fine_reported _ _ held held (Err c.in-Err.stop) (returns-in-Err-clause-report g c)

pub tell_all-requires : goal.tell_all-requires
tell_all-requires g c = c.requires c.in-Ok.limits

pub returns-clause-report : goal.returns-clause-report
returns-clause-report g c =
    let l = c.in-Ok.limits in
    let held = g.K.Sink.held c.args.sink.now in
    goes_on first_at (Ok l) due_in (due_after l []) [] (λ line ls e. ap (λ o. due_from o ls) e) _ _ _
    held held _ _ c.in-Ok.ensures.first (appends_none held) refl c.tell_all.ensures.report

pub returns-clause-fine : goal.returns-clause-fine
returns-clause-fine g c = fine_reported _ _ _ _ _ (returns-clause-report g c)
