-- What an ended run shows.
use Rattle.std.proofs.Common.{ℕ, ◌-◌, ◌*◌, ◌≡◌, ◌≤◌, List, map, refl, sym, ◌∙◌, subst}
use Rattle.atom_board.specs.Mutators.{ClosedState, MutatorState, IsFinishedBy}
pub use Rattle.heap_system.proofs.history.LoggedTraces.{traces_logged}
use Rattle.block_store.specs.declared.Config.{Config}
use Rattle.never_heap.specs.declared.Command.{Command}
use Rattle.never_heap.specs.declared.Entry.{Entry}
use Rattle.never_heap.specs.GivenBlocks.{given}
use Rattle.never_heap.specs.Histories.{starts_in, work_in}
use Rattle.never_heap.specs.Licensed.{StartsSmall, NoFulls}
use Rattle.rate_plan.specs.Rates.{IsRate}
use Rattle.heap_invariant.specs.cycle_tally.TallyInvariant.{most_given}
use Rattle.trace_text.specs.Jobs.{Job}
use Rattle.heap_system.specs.Machines.{Run, IsAfterTurns}
use Rattle.heap_system.specs.Costs.{units_so_far}
use Rattle.heap_system.specs.Serials.{AreOfThreads, AreFew}
use Rattle.heap_system.specs.Systems.{AllDone, IsFinished}
use Rattle.atom_board.specs.threaded_runs.EndedRuns.{HasHistory, HasTurns, commands_of, job_of}

-- the job that was run is the one that is shown
job_shown : (c : Config) (traces : List (List Command)) (f : ClosedState) → f.config ≡ c
    → IsFinished c traces f.logs f.cycles → (job : Job)
    → job ≡ record { config = c; traces = traces } → job_of f ≡ job
job_shown c traces f same ended job is =
    let shown = traces_logged c traces f.logs f.cycles ended in
    (λ i. record { config = same i; traces = shown i }) ∙ sym is

-- what holds of each run after some turns
pub record TurnLaws : Type 0 where
  pub never : (c : Config) (r : Run) → IsAfterTurns c r → StartsSmall c r.order → NoFulls r.order
  pub few : (c : Config) (r : Run) (rate : ℕ) → IsAfterTurns c r → IsRate c rate
      → (z : ℕ) → z ≤ starts_in r.order → given c.width r.order z ≤ most_given c rate
  pub least : (c : Config) (r : Run) → IsAfterTurns c r
      → (starts_in r.order - 1) * c.blocks ≤ units_so_far c r
  pub most : (c : Config) (r : Run) → IsAfterTurns c r
      → units_so_far c r ≤ 2 * c.blocks * starts_in r.order
  pub done : (c : Config) (r : Run) → IsAfterTurns c r → AllDone c r.state
      → units_so_far c r ≡ work_in r.order

-- the units and cycles of the order are those that are shown
least_shown : (blocks units cycles work starts shown : ℕ) → (starts - 1) * blocks ≤ units
    → units ≡ work → cycles ≡ starts → work ≡ shown → (cycles - 1) * blocks ≤ shown
least_shown blocks units cycles work starts shown l u s w =
    rw s (subst (λ k. (starts - 1) * blocks ≤ k) (u ∙ w) l)

most_shown : (blocks units cycles work starts shown : ℕ) → units ≤ 2 * blocks * starts
    → units ≡ work → cycles ≡ starts → work ≡ shown → shown ≤ 2 * blocks * cycles
most_shown blocks units cycles work starts shown m u s w =
    rw s (subst (λ k. k ≤ 2 * blocks * starts) (u ∙ w) m)

-- the order of the turns is the history, of which this holds after all turns
module _ (laws : TurnLaws) where
  by_turns_of : (c : Config) (traces : List (List Command)) (logs : List (List Entry)) (cycles : ℕ)
      → (e : IsFinished c traces logs cycles) → IsAfterTurns c e.run
  by_turns_of c traces logs cycles e =
      record { traces = traces; job = e.job; turns = e.turns; by_turns = e.by_turns }

  pub has_history : (f : ClosedState) → IsFinished f.config (map commands_of f.logs) f.logs f.cycles
      → HasHistory f
  has_history f e =
      let traces = map commands_of f.logs in
      let after = by_turns_of f.config traces f.logs f.cycles e in
      let units = laws.done f.config e.run after e.done in
      record {
        rate = e.by_turns.opening.rate;
        is_rate = e.by_turns.opening.planned;
        history = e.run.order;
        is_run = e.is_run e.by_turns.opening.rate e.by_turns.opening.planned;
        turned = e;
        same = refl;
        parts_logged = sym e.parts_logged;
        starts_counted = sym e.starts;
        work_counted = e.works;
        none_full = laws.never f.config e.run after;
        few_given = laws.few f.config e.run e.by_turns.opening.rate after
            e.by_turns.opening.planned;
        least_units = least_shown _ _ _ _ _ _ (laws.least f.config e.run after) units e.starts
            e.works;
        most_units = most_shown _ _ _ _ _ _ (laws.most f.config e.run after) units e.starts
            e.works;
      }

  -- its history is the order of the turns
  pub history_is : (f : ClosedState)
      → (e : IsFinished f.config (map commands_of f.logs) f.logs
      f.cycles)
      → (has_history f e).history ≡ e.run.order
  unfolding has_history
  history_is f e = refl

  -- and its turns are these
  pub turned_is : (f : ClosedState)
      → (e : IsFinished f.config (map commands_of f.logs) f.logs
      f.cycles)
      → (has_history f e).turned ≡ e
  unfolding has_history
  turned_is f e = refl

  -- a run that has ended by these mutators, where the job is known by its parts
  pub run_shows : (c k : Config) (ts traces : List (List Command)) (ms : List MutatorState)
      (f : ClosedState) (job : Job)
      → f.config ≡ k → k ≡ c → ts ≡ traces → IsFinishedBy k ts ms f.logs f.cycles
      → record { config = c; traces = traces } ≡ job
      → (job_of f ≡ job) × HasTurns f
  run_shows c k ts traces ms f job same config whole ended is =
      let made : IsFinished c traces f.logs f.cycles =
      subst (λ xs. IsFinished c xs f.logs f.cycles) whole
      (subst (λ q. IsFinished q ts f.logs f.cycles) config ended.finished) in
      let shown = traces_logged k ts f.logs f.cycles ended.finished in
      let by_logs : IsFinishedBy f.config (map commands_of f.logs) ms f.logs f.cycles =
      subst (λ q. IsFinishedBy q (map commands_of f.logs) ms f.logs f.cycles) (sym same)
      (subst (λ xs. IsFinishedBy k xs ms f.logs f.cycles) (sym shown) ended) in
      let e = by_logs.finished in (
        job_shown c traces f (same ∙ config) made job (sym is),
        (
          has_history f e,
          record {
            own = subst (λ (x : IsFinished f.config (map commands_of f.logs) f.logs f.cycles).
                AreOfThreads f.config x.turns) (sym (turned_is f e)) by_logs.own;
            few = subst (λ (x : IsFinished f.config (map commands_of f.logs) f.logs f.cycles).
                AreFew f.config (map commands_of f.logs) x.turns) (sym (turned_is f e)) by_logs.few;
          },
        ),
      )
