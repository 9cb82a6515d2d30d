-- The headline of an ended run.
use Rattle.std.proofs.Common.{ℕ, ◌≡◌, sym, ap, ◌∙◌, subst}
use Rattle.exit_statuses.specs.Exits.{IsWritten}
use Rattle.exit_statuses.specs.Sides.{Sides}
use Rattle.never_heap.specs.Histories.{parts, starts_in}
use Rattle.atom_board.specs.Mutators.{ClosedState}
use Rattle.trace_text.specs.RunTexts.{run_text, text_by_threads}
use Rattle.heap_system.specs.Systems.{Finish}
use Rattle.heap_system.specs.Systems.{units_of as units_in}
use Rattle.rtheap_core.specs.declared.schedules.Schedule.{Schedule}
use Rattle.trace_text.specs.OrderTexts.{text_in_order}
use Rattle.rtheap_core.specs.declared.exit.RunEnd.TheVariants.{Replayed, Ran}
use Rattle.rtheap_core.specs.EndedRuns.{HasHistory}
use Rattle.rtheap_core.specs.Exits.{Headline, IsReplay, IsOfThreads}
use Rattle.rtheap_core.specs.Outcomes.{HasRun, HasReplay}

-- what the run shows is the text of its history
pub text_of_run : (run : ClosedState) (r : HasHistory (Ran run))
    → run_text run.logs run.cycles (units_in run.logs)
    ≡ text_by_threads run.config.threads r.history
text_of_run run r =
    ap (λ ls. run_text ls run.cycles (units_in run.logs)) (sym r.parts_logged)
    ∙ ap (λ k. run_text (parts run.config.threads r.history) k (units_in run.logs))
    (sym r.starts_counted)
    ∙ ap (λ k. run_text (parts run.config.threads r.history) (starts_in r.history) k)
    (sym r.work_counted)

abbrev pub headline_of : (source sink : Sides) (status : ℕ) (run : ClosedState)
    → HasRun source (Ran run)
    → IsWritten sink status (run_text run.logs run.cycles (units_in run.logs))
    → Headline source sink status (Ran run)
headline_of source sink status run r w = record {
  read = r.read;
  admitted = r.admitted;
  ran = r.ran;
  text = subst (IsWritten sink status) (text_of_run run r.ran) w;
}

pub of_threads : (source sink : Sides) (status : ℕ) (run : ClosedState)
    → HasRun source (Ran run)
    → IsWritten sink status (run_text run.logs run.cycles (units_in run.logs))
    → IsOfThreads source sink status (Ran run)
of_threads source sink status run r w = (headline_of source sink status run r w, r.turns)

pub replay_of : (source sink : Sides) (status : ℕ) (schedule : Schedule) (turns : ℕ) (f : Finish)
    → (r : HasReplay source schedule turns f)
    → IsWritten sink status (text_in_order r.replayed.ran.history)
    → IsReplay source sink status schedule turns (Replayed f)
replay_of source sink status schedule turns f r w = (
  record {
    read = r.read;
    admitted = r.admitted;
    ran = r.replayed.ran;
    text = w;
  },
  r.replayed.replay,
)
