use Rattle.std.proofs.Common.{◌∙◌, List, map, sym, subst, arith}
use Rattle.std.proofs.lemmas.List.{length-map}
use Rattle.never_heap.specs.declared.Command.{Command}
use Rattle.never_heap.specs.Jobs.{IsJobInBounds}
use Rattle.array_scripts.proofs.EachThread.{as_many}
use Rattle.array_scripts.proofs.script_runs.running.answered.Goals as goal

pub traces-requires-clause-few : goal.traces-requires-clause-few
traces-requires-clause-few g c =
    omega (
      arith,
      c.requires.bounds.threads,
      c.requires.bounds.config.threads,
      as_many g.K.Runnable.commands 0 (map (λ ops. ops.items) c.args.scripts.now),
      length-map c.args.scripts.now (λ ops. ops.items),
    )

pub run_job-requires-clause-bounds : goal.run_job-requires-clause-bounds
run_job-requires-clause-bounds g c κs within =
    subst (λ (l : List (List Command)). IsJobInBounds c.args.config l) (sym c.in_ok-traces.ensures)
    c.requires.bounds

pub returns-clause-job : goal.returns-clause-job
returns-clause-job g c =
    c.in_ok-run.ensures.job
    ∙ (λ i. record { config = c.args.config; traces = c.in_ok-traces.ensures i })
