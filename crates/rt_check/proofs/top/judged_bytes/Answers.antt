use Rattle.std.proofs.Common.{◌≤◌, ◌∙◌, inl, length, ap, sym, subst, ℕ, List, arith}
use Rattle.block_store.specs.declared.Config.{Config}
use Rattle.block_store.specs.Configs.{IsInBounds}
use Rattle.rate_plan.specs.Rates.{IsAdmitted, IsRate}
use Rattle.trace_text.specs.Jobs.{Job, IsJob}
use Rattle.trace_text.specs.Lines.{lines_of}
use Rattle.rt_check.specs.Good.{IsFound}
use Rattle.rt_check.proofs.Goodness.{to_run}
use Rattle.rt_check.proofs.top.judged_bytes.Goals as goal

pub first_bad-requires-clause-rate : goal.first_bad-requires-clause-rate
first_bad-requires-clause-rate c =
    let same = ap (λ (j : Job). j.config) c.job.view_is in
    let low = c.one_rate.ensures.small c.job.inside.config c.in_ok-rate.rate c.in_ok-rate.ensures.0
    c.in_ok-rate.ensures.1 in
    let bounds = subst IsInBounds (sym same) c.in_ok-job.ensures.in_bounds.config in
    omega arith

pub returns-in-None : goal.returns-in-None
returns-in-None c =
    let job = c.in_ok-job.job in
    let rate = c.in_ok-rate.rate in
    let same = ap (λ (j : Job). j.config) c.job.view_is in
    let found = subst (IsFound job.config rate job.traces
    (lines_of c.parted.result.1.now)) c.in-None.is c.in_ok-first_bad.ensures in
    let run = to_run job.config rate job.traces (lines_of c.parted.result.1.now) found in
    inl (
      job,
      record {
        short = record {
          whole = c.requires;
          job = subst
              (λ (b : List ℕ). length b ≤ 16777216) c.parted.ensures.job
              c.if-job-gt-INPUT_LIMIT.false;
        };
        is_job = subst (λ (b : List ℕ). IsJob b job) c.parted.ensures.job c.in_ok-job.ensures;
      },
      record {
        admitted = subst IsAdmitted same c.in_ok-rate.ensures.0;
        rate = rate;
        is_rate = subst (λ (k : Config). IsRate k rate) same c.in_ok-rate.ensures.1;
        history = run.0;
        is_run = run.1;
        lines = ap lines_of (sym c.parted.ensures.order) ∙ run.2;
      },
    )
