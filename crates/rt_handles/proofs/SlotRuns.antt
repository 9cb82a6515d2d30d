-- A script of handles is run as the job of its commands, and its logs tell what its slots answer.
use Rattle.std.proofs.Common.{◌≡◌, ℕ, ◌+◌, List, [], ◌∷◌, refl, sym, ap, ◌∙◌, subst, arith}
use Rattle.atom_board.specs.Mutators.{ClosedState}
use Rattle.exit_statuses.specs.Exits.{IsWritten}
use Rattle.exit_statuses.specs.Sides.{Sides}
use Rattle.never_heap.specs.declared.Command.{Command}
use Rattle.never_heap.specs.Jobs.{IsJobInBounds}
use Rattle.array_tables.specs.operations.Linearizations.{traces_of}
use Rattle.array_tables.specs.declared.handle_table.operation.Operation.{Operation}
use Rattle.array_tables.specs.declared.handle_table.told.Outcome.{Outcome}
use Rattle.array_tables.specs.handle_table.Handles.{rows_of, command_at, all_deeds}
use Rattle.array_tables.proofs.Lemmas.{fates_are_told, makes_are_shown, slots_are_kept}
use Rattle.array_tables.proofs.handle_table.Jobs.{jobs_fit}
use Rattle.atom_board.specs.threaded_runs.EndedRuns.{job_of}
use Rattle.atom_board.proofs.threaded_runs.HistoryOfJob.{run_of, parts_of}
use Rattle.trace_text.specs.Reading.{tokenized}
use Rattle.array_scripts.specs.Answers.{each_from}
use Rattle.array_scripts.specs.Runnable.{IsRunnable}
use Rattle.array_scripts.specs.Tellings.{lines_from}
use Rattle.array_scripts.proofs.AnswersInOrder.{in_order}
use Rattle.array_scripts.proofs.ScriptSizes.{count}
use Rattle.array_scripts.specs.script_runs.Runs.{IsAnswered}
use Rattle.rt_handles.specs.HandleCalls.{Headline}
use Rattle.rt_handles.specs.Lines.{handle_kind}
use Rattle.rt_handles.specs.Scripts.{commands, job_of_script}
use Rattle.rt_handles.specs.Tellings.{outcome_text, told, outcome_in}
use Rattle.rt_handles.proofs.LineLaws.{handle_reads}
use Rattle.rt_handles.proofs.HandleScripts.{each_range, in_range}

same_traces : (t : ℕ) (scripts : List (List Operation))
    → each_from commands t scripts ≡ traces_of rows_of command_at (all_deeds t scripts)
same_traces t [] = refl
same_traces t (ops ∷ scripts) =
    ap (λ (l : List (List Command)). commands t ops ∷ l) (same_traces (t + 1) scripts)

pub handles_run : IsRunnable handle_kind commands
handles_run = record {
  reads = handle_reads;
  fits = λ lines h scripts is.
      subst (λ (l : List (List Command)). IsJobInBounds (handle_kind.config_of h) l)
      (sym (same_traces 0 scripts))
      (jobs_fit h.threads h.places h.blocks scripts is.header.some_thread is.header.threads
      is.header.places is.header.some_block is.header.blocks (count handle_kind h lines scripts is)
      (in_range lines h scripts is));
  opens = λ h. omega arith;
  blocks = λ h. refl;
  rounds = λ h. omega arith;
}

pub headline : (source sink : Sides) (status : ℕ) (run : ClosedState)
    → IsAnswered handle_kind commands told outcome_text source sink status run
    → Headline source sink status run
headline source sink status run a =
    let s = a.script in
    let h = s.header in
    let job : job_of run ≡ job_of_script h s.scripts =
    s.job ∙ ap (λ (l : List (List Command)). record { config = handle_kind.config_of h; traces = l })
    (same_traces 0 s.scripts) in
    let size = count handle_kind h (tokenized s.read.text) s.scripts s.read.script in
    let range = each_range (tokenized s.read.text) h s.scripts s.read.script in
    let kept = slots_are_kept h.threads h.places h.blocks s.ran.rate s.scripts s.ran.history size
    (λ t. (range t).each) (run_of run (job_of_script h s.scripts) job s.ran) in
    record {
      slots = record {
        header = h;
        scripts = s.scripts;
        read = s.read;
        room = s.room;
        job = job;
        ran = s.ran;
        order = kept.0;
        linear = kept.1;
        none_full = kept.3;
      };
      text = subst (λ (l : List (List Outcome)). IsWritten sink status (lines_from outcome_text 0 l))
          (in_order outcome_in kept.0 told h.threads s.ran.history s.scripts run.logs size
          (parts_of run (job_of_script h s.scripts) job s.ran) kept.2) a.lines;
      shown = makes_are_shown h.places s.scripts kept.0 range kept.1.each kept.1.answered;
      stale = fates_are_told h.places s.scripts kept.0 range kept.1.each kept.1.answered;
    }
