-- What is said of the run that a call shows is said of one history.
use Rattle.std.specs.Prelude.{ℕ, List, take}
use Rattle.exit_statuses.specs.Sides.{Sides}
use Rattle.heap_system.specs.Machines as machines
use Rattle.heap_system.specs.Machines.{IsRunOf}
use Rattle.never_heap.specs.Licensed.{StartsSmall}
use Rattle.rtheap_core.specs.declared.schedules.Schedule.{Schedule}
use Rattle.atom_board.specs.threaded_runs.EndedRuns.{HasOwnTurns}
use Rattle.rtheap_core.specs.declared.exit.RunEnd.{RunEnd}
use Rattle.rtheap_core.specs.declared.exit.RunEnd.TheVariants.{Replayed, Ran}
use Rattle.rtheap_core.specs.declared.task.Task.TheVariants.{Run, Replay}
use Rattle.rtheap_core.specs.EndedRuns.{HasHistory, IsReplayOf, run_of, job_of, logs_of}
use Rattle.rtheap_core.specs.Exits.{Headline, NoneFull}
use Rattle.rtheap_core.specs.LateFulls.{AreFullsLate}
use Rattle.rtheap_core.specs.Owners.{HasOwners}
use Rattle.rtheap_core.specs.Tasks.{AsksFor}

-- the turns of this history are those of threads that ran beside each other
abbrev pub IsByThreads : (end : RunEnd) → HasHistory end → Type 0
IsByThreads (Replayed f) ran = ⊥
IsByThreads (Ran f) ran = HasOwnTurns (run_of (Ran f)) ran

-- they are the first turns of the schedule
abbrev pub IsBySchedule : Schedule → ℕ → (end : RunEnd) → HasHistory end → Type 0
IsBySchedule schedule turns (Replayed f) ran = IsReplayOf schedule turns f ran
IsBySchedule schedule turns (Ran f) ran = ⊥

-- Of one history of an ended run the headline holds; its turns are made as the words ask; where each
-- of its cycles began with at most L live blocks, no entry of the logs is answered full, and none is
-- before cycle 3; and after any number of its turns the owner words are those of the kept objects.
pub record HasOneHistory (words : List (List ℕ)) (source sink : Sides) (status : ℕ) (end : RunEnd)
    : Type 0 where
  pub headline : Headline source sink status end
  pub ran : AsksFor words Run → IsByThreads end headline.ran
  pub replayed : (schedule : Schedule) (turns : ℕ) → AsksFor words (Replay schedule turns)
      → IsBySchedule schedule turns end headline.ran
  pub none_full : StartsSmall (job_of end).config headline.ran.history → NoneFull (logs_of end)
  pub late : AreFullsLate headline.ran.history
  pub owners : (n : ℕ) (r : machines.Run)
      → IsRunOf (job_of end).config (job_of end).traces (take n headline.ran.turned.turns) r
      → HasOwners (job_of end).config r
