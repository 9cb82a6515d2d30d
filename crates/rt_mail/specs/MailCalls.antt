-- A call, and what is promised of it.
use Rattle.std.specs.Prelude.{ℕ, ◌≡◌, ◌↔◌, List, [], ◌∷◌, map, IfSome, IsSome, codes}
use Rattle.atom_board.specs.Mutators.{ClosedState}
use Rattle.exit_statuses.specs.Exits.{Exit, IsWritten, IsEnded}
use Rattle.exit_statuses.specs.Refusals.{AreNone}
use Rattle.exit_statuses.specs.Sides.{Sides}
use Rattle.rt_mail.specs.mail_post.PostStates.{TakenState}
use Rattle.never_heap.specs.Histories.{parts}
use Rattle.array_tables.specs.number_rings.Rings.{last_numbers}
use Rattle.rate_plan.specs.Rates.{IsAdmitted}
use Rattle.rt_mail.specs.said_numbers.Said.{numbers_said}
use Rattle.atom_board.specs.threaded_runs.EndedRuns.{HasHistory, job_of}
use Rattle.trace_text.specs.Jobs.{input_limit}
use Rattle.rt_mail.specs.declared.exit.MailExit.{MailExit}
use Rattle.rt_mail.specs.Recalled.{HasRings, recalled_in}
use Rattle.rt_mail.specs.Says.{IsWithin}
use Rattle.rt_mail.specs.Tellings.{lines_from}
use Rattle.rt_mail.specs.RefusedTexts.{Causes, IsFine, IsReadAs}

-- The first heap ran the job that was read: one that a post can serve, and whose heap has a rate.
-- The run has a history.
pub record HasFirst (source : Sides) (run : ClosedState) : Type 0 where
  pub read : IsReadAs source (job_of run)
  pub within : IsWithin (job_of run)
  pub admitted : IsAdmitted (job_of run).config
  pub ran : HasHistory run

-- The mail came. Of each thread of the first heap there was taken, in order and each once, what its
-- part of the history shows by `say`. Each of these lists was kept by a thread of the second heap,
-- in a run of which no allocation was answered full, and its last numbers, at most eight, oldest
-- first, are what that thread's log tells.
pub record HasMail (source : Sides) (first : ClosedState) (taken : List (List ℕ))
    (second : ClosedState) : Type 0 where
  pub said : HasFirst source first
  pub took : taken ≡ map numbers_said (parts first.config.threads said.ran.history)
  pub kept : HasRings taken second
  pub last : recalled_in taken second.logs ≡ map last_numbers taken

-- The theorem: the lines written are how many numbers were taken of each thread, and the last of
-- them, as the logs of the second heap tell them.
pub record Headline (source sink : Sides) (status : ℕ) (first : ClosedState) (taken : TakenState)
    (second : ClosedState) : Type 0 where
  pub mail : HasMail source first taken.taken second
  pub text : IsWritten sink status (lines_from 0 taken.taken (recalled_in taken.taken second.logs))

-- what a call was given, and what it answered
abbrev pub exit_of : List (List ℕ) → Sides → Sides → MailExit → Exit
exit_of words source sink x = record {
  words = words;
  source = source;
  sink = sink;
  status = x.status;
  due = x.due;
}

-- a call did what it is to do, whatever it was given
pub record IsCarriedOut (words : List (List ℕ)) (source sink : Sides) (x : MailExit) : Type 0 where
  -- The two runs, and what was taken, are there exactly where nothing refused them.
  pub first : IsSome x.first ↔ (x.due ≡ 0)
  pub taken : IsSome x.taken ↔ (x.due ≡ 0)
  pub second : IsSome x.second ↔ (x.due ≡ 0)
  pub headline : IfSome x.first (λ first. IfSome x.taken (λ taken. IfSome x.second (λ second.
      Headline source sink x.status first taken second)))
  -- Each status has its cause, and a known input has one answer.
  pub ended : IsEnded AreNone AreNone input_limit Causes IsFine (4 ∷ []) (codes "rt_mail")
      (exit_of words source sink x)
