-- What is promised of a call that reads a script.
use Rattle.std.specs.Prelude.{ℕ, ◌≡◌, ◌↔◌, List, [], ◌∷◌, Option, IfSome, IsSome}
use Rattle.exit_statuses.specs.Exits.{Exit, IsEnded}
use Rattle.exit_statuses.specs.Refusals.{AreNone}
use Rattle.exit_statuses.specs.Sides.{Sides}
use Rattle.trace_text.specs.Jobs.{input_limit}
use Rattle.array_scripts.specs.Kinds.{Kind}
use Rattle.array_scripts.specs.JobsOfScripts.{Causes, IsFine}

-- what a call was given, and what it answered
abbrev pub exit_of : List (List ℕ) → Sides → Sides → ℕ → ℕ → Exit
exit_of words source sink status due = record {
  words = words;
  source = source;
  sink = sink;
  status = status;
  due = due;
}

-- A call of the program of this name did what it is to do, whatever it was given, where this is
-- said of its run.
pub record IsCarriedOut {Op Run : Type 0} (kind : Kind Op) (name : List ℕ) (Headline : Run → Type 0)
    (words : List (List ℕ)) (source sink : Sides) (status due : ℕ) (shown : Option Run)
    : Type 0 where
  -- A run is there exactly where nothing refused it.
  pub run : IsSome shown ↔ (due ≡ 0)
  pub headline : IfSome shown Headline
  -- Each status has its cause, and a known input has one answer.
  pub ended : IsEnded AreNone AreNone input_limit (Causes kind) (IsFine kind) (4 ∷ []) name
      (exit_of words source sink status due)
