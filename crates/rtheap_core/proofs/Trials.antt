-- A serial replay of as many turns as can be asked for ends, and had few turns.
use Rattle.std.proofs.Common.{ℕ, ◌≡◌, ◌≤◌, ◌*◌, List, None, refl, subst, arith}
use Rattle.block_store.specs.declared.Config.{Config}
use Rattle.never_heap.specs.declared.Command.{Command}
use Rattle.rate_plan.specs.Rates.{IsAdmitted, IsRate}
use Rattle.heap_system.specs.Machines.{Run, IsJob, IsOpening}
use Rattle.heap_system.specs.Serials.{job_bound}
use Rattle.heap_system.specs.Systems.{Whole, AllDone}
use Rattle.rtheap_core.specs.declared.schedules.Schedule.TheVariants.{Serial}
use Rattle.rtheap_core.specs.schedules.Replays.{IsReplayed, system_after}
use Rattle.rtheap_core.specs.schedules.Schedules.{turns_of}
use Rattle.never_heap.specs.Jobs.{IsJobInBounds}
use Rattle.rtheap_core.proofs.JobTurnBound.{job_low}
use Rattle.rtheap_core.proofs.Replays.{RunsLaw, StopLaw, IsAfter, is_after, first_turns, sooner, opens_none, all_of_run}

-- as many turns as can be asked for
abbrev pub many : ℕ
many = 18446744073709551615

-- what the trial cites
pub record TrialLaws : Type 0 where
  pub runs : RunsLaw
  pub stop : StopLaw
  pub serial : (c : Config) (traces : List (List Command)) (turns rate : ℕ) (r : Run)
      → IsJob c traces → IsRate c rate → IsReplayed c traces Serial turns r
      → job_bound c rate traces ≤ turns → AllDone c r.state
  pub small : (c : Config) (p : ℕ) → IsAdmitted c → IsRate c p → p ≤ 2 * c.blocks
  pub single : (c : Config) (p q : ℕ) → IsRate c p → IsRate c q → p ≡ q

-- all threads of the system are done, after few turns
pub record IsTried (c : Config) (traces : List (List Command)) (q : Whole) : Type 0 where
  pub turns : ℕ
  pub few : (rate : ℕ) → IsRate c rate → turns ≤ job_bound c rate traces
  pub after : IsAfter c traces Serial turns q
  pub done : AllDone q.config q.state

module _ (laws : TrialLaws) (c : Config) (traces : List (List Command)) (q : Whole)
    (job : IsJob c traces) (text : IsJobInBounds c traces) (a : IsAfter c traces Serial many q) where
  rate : ℕ
  rate = a.is.opening.rate

  planned : IsRate c rate
  unfolding rate
  planned = a.is.opening.planned

  few : ℕ
  few = job_bound c rate traces

  few_are : few ≤ many
  unfolding few
  few_are = job_low c traces rate text (laws.small c rate job.plan planned)

  done_soon : AllDone c (first_turns a few).state
  unfolding few
  done_soon = laws.serial c traces few rate (first_turns a few) job planned
      (record { first = a.is.first; opening = a.is.opening; replayed = refl }) (omega arith)

  after : IsAfter c traces Serial few q
  after = sooner laws.stop c traces Serial few many q few_are a done_soon

  pub tried : IsTried c traces q
  unfolding few
  tried = record {
    turns = few;
    few = λ p is. subst (λ k. few ≤ job_bound c k traces) (laws.single c rate p planned is)
        (omega arith);
    after = after;
    done = all_of_run c traces Serial few q after
        (laws.serial c traces few rate after.run job planned after.is (omega arith));
  }

-- by the system that it began with
pub trial_of : TrialLaws → (w q : Whole) (c : Config) (traces : List (List Command))
    → w.config ≡ c → IsOpening c traces w.state → w.ordered ≡ None
    → q ≡ system_after w (turns_of Serial w.config w.state many) → IsJob c traces → IsJobInBounds c traces
    → IsTried c traces q
trial_of laws w q c traces config opening none same job text =
    tried laws c traces q job text
    (is_after laws.runs w q c traces Serial many config opening (opens_none w.ordered none) same)
