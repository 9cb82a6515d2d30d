use Rattle.std.proofs.Common.{◌≡◌, refl}
use Rattle.atom_board.specs.threaded_runs.EndedRuns.{HasTurns, job_of}
use Rattle.atom_board.proofs.threaded_runs.Shown.{run_shows}
use Rattle.rt_mail.proofs.mail_runs.letters.deliver_through.Given.{Over}
use Rattle.rt_mail.proofs.mail_runs.letters.deliver_through.Goals as goal

shows : (g : Over) (c : goal.After-closed g)
    → (job_of c.closed.result.0 ≡ c.args.job) × HasTurns c.closed.result.0
shows g c = run_shows (record {
  never = c.fulls_are_licensed.ensures.never;
  few = c.cycles_give_few_blocks.ensures;
  least = c.cycles_cost_few_units.ensures.least;
  most = c.cycles_cost_few_units.ensures.most;
  done = c.cycles_cost_few_units.ensures.done;
}) _ _ _ _ _ c.closed.result.0 c.args.job c.closed.ensures.config c.in_ok-mail_board.ensures.board.0
    c.in_ok-mail_board.ensures.board.1 c.closed.ensures.counted refl

pub returns-clause-job : goal.returns-clause-job
returns-clause-job g c = (shows g c).0

pub returns-clause-ran : goal.returns-clause-ran
returns-clause-ran g c = (shows g c).1.0

pub returns-clause-turns : goal.returns-clause-turns
returns-clause-turns g c = (shows g c).1
