use Rattle.std.proofs.Common.{subst, sym}
use Rattle.std.proofs.lemmas.Result.{err_from_is_err_and}
use Rattle.trace_text.specs.Jobs.{Job}
use Rattle.rate_plan.specs.Rates.{IsAdmitted}
use Rattle.rtheap_core.specs.Exits.{IsReadAs}
use Rattle.exit_statuses.specs.Sides.{sides}
use Rattle.rtheap_core.proofs.Taken.{without_memory}
use Rattle.rtheap_core.proofs.running.ran.Goals as goal

pub returns-in_err-job-clause-refused : goal.returns-in_err-job-clause-refused
returns-in_err-job-clause-refused g c =
    let p = err_from_is_err_and c.from_residual.result c.from_residual.ensures.1 in
    rw (p.1, p.2) (λ words asked. c.in_err-job.ensures.refused words asked)

pub returns-in_err-run-clause-refused : goal.returns-in_err-run-clause-refused
returns-in_err-run-clause-refused g c =
    let p = err_from_is_err_and c.from_residual-in_err-run.result c.from_residual-in_err-run.ensures.1 in
    rw (p.1, p.2) (λ words asked. without_memory
    (sides g.S.Source.left g.S.Source.faults c.args.source.now c.planned_job.new.source) _
    c.in_ok-job.ensures.read c.in_ok-job.ensures.still words (asked.0, asked.2))

pub returns-clause-ran : goal.returns-clause-ran
returns-clause-ran g c =
    let same = c.in_ok-run.ensures.job in
    record {
      read = subst (IsReadAs
          (sides g.S.Source.left g.S.Source.faults c.args.source.now c.planned_job.new.source))
          (sym same) c.in_ok-job.ensures.read;
      admitted = subst (λ (j : Job). IsAdmitted j.config) (sym same) c.in_ok-job.ensures.rate.0;
      ran = c.in_ok-run.ensures.turns.0;
      turns = c.in_ok-run.ensures.turns.1;
    }
