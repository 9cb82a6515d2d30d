-- What a replay shows: its history is the order of the turns of its schedule.
use Rattle.std.proofs.Common.{ℕ, ◌≡◌, ◌≤◌, true, false, List, [], ◌∷◌, Option, Some, None, IsSome, IfSome, map, get_or, refl, sym, ap, ◌∙◌, subst, arith}
use Rattle.block_store.specs.declared.Config.{Config}
use Rattle.block_store.specs.Phases.{cycle_of}
use Rattle.block_store.specs.Places.{Phase}
use Rattle.never_heap.specs.declared.Command.{Command}
use Rattle.never_heap.specs.declared.Entry.{Entry}
use Rattle.never_heap.specs.declared.Item.{Item}
use Rattle.never_heap.specs.declared.Item.TheVariants as items
use Rattle.never_heap.specs.Histories.{part, starts_in, work_in}
use Rattle.never_heap.specs.HistoryOfOrder.{item_of, IsHistoryOf}
use Rattle.heap_system.specs.Machines.{State, Run, next, after_turns, opened, heap_in, IsJob, IsOpening}
use Rattle.heap_system.specs.Serials.{job_bound}
use Rattle.heap_system.specs.Systems.{Finish, Whole, Ordered, AllDone, IsLeastUndone, IsReached, IsFinished, traces_of, logs_of, units_of, opening_order, ordered_after, items_kept}
use Rattle.heap_system.proofs.Lemmas.{done_run, done_turns, logged_all, opened_traces, turned_traces}
use Rattle.heap_system.proofs.history.FinishedRun.{all_done}
use Rattle.rate_plan.specs.Rates.{IsRate}
use Rattle.rtheap_core.specs.declared.schedules.Schedule.{Schedule}
use Rattle.rtheap_core.specs.declared.schedules.Schedule.TheVariants.{Serial}
use Rattle.rtheap_core.specs.schedules.Replays.{IsReplayed, ShowsRun, system_turned, system_after}
use Rattle.rtheap_core.specs.schedules.Schedules.{turns_of}
use Rattle.trace_text.specs.Jobs.{Job}
use Rattle.rtheap_core.specs.declared.exit.RunEnd.TheVariants.{Replayed}
use Rattle.rtheap_core.specs.declared.trial.Totals.{Totals}
use Rattle.rtheap_core.specs.EndedRuns.{EndsIn, EndsBy, job_of, run_of}
use Rattle.rtheap_core.specs.Outcomes.{HasTotals}
use Rattle.rtheap_core.specs.Refusals.{LeavesUndone}
use Rattle.rtheap_core.specs.Outcomes as outcomes
use Rattle.atom_board.specs.threaded_runs.EndedRuns.{commands_of}
use Rattle.atom_board.proofs.threaded_runs.Shown.{TurnLaws, has_history, history_is, turned_is, traces_logged}

after_traces : (c : Config) (r : Run) (ts : List ℕ)
    → traces_of (after_turns c r ts).state ≡ traces_of r.state
after_traces c r [] = refl
after_traces c r (t ∷ ts) = after_traces c (next c t r) ts ∙ turned_traces c t r.state

-- finished, with this run and these turns
abbrev pub Shows : Run → List ℕ → Config → List (List Command) → List (List Entry) → ℕ → Type 0
Shows r ts c traces logs cycles =
    (e : IsFinished c traces logs cycles) × (e.run ≡ r) × (e.turns ≡ ts)

-- the state of a replay in which all threads are done
module _ (c : Config) (traces : List (List Command)) (schedule : Schedule) (turns : ℕ) (r : Run)
    (job : IsJob c traces) (is : IsReplayed c traces schedule turns r) (s : State)
    (same : s ≡ r.state) (done : AllDone c s) where
  traces_are : traces_of s ≡ traces
  traces_are =
      ap traces_of same ∙ ap (λ (q : Run). traces_of q.state) is.replayed
      ∙ after_traces c _ (turns_of schedule c is.first turns)
      ∙ opened_traces c traces is.first is.opening

  reached : IsReached c s
  reached = record {
    job = subst (IsJob c) (sym traces_are) job;
    turns = turns_of schedule c is.first turns;
    run = r;
    by_turns = record {
      first = is.first;
      opening = subst (λ xs. IsOpening c xs is.first) (sym traces_are) is.opening;
      turns = is.replayed;
    };
    state = same;
  }

  abbrev made : List ℕ
  made = turns_of schedule c is.first turns

  pub shows : Shows r made c traces (logs_of s) (cycle_of (heap_in c s Phase))
  unfolding reached
  shows = subst (λ xs. Shows r made c xs (logs_of s) (cycle_of (heap_in c s Phase))) traces_are
      (all_done c s reached done, done_run c s reached done, done_turns c s reached done)

  -- by what a finished system shows
  module _ (f : Finish) (config : f.config ≡ c) (logs : f.logs ≡ logs_of s)
      (cycles : f.cycles ≡ cycle_of (heap_in c s Phase)) where
    finished : Shows r made c traces f.logs f.cycles
    finished =
        subst (λ k. Shows r made c traces f.logs k) (sym cycles)
        (subst (λ ls. Shows r made c traces ls (cycle_of (heap_in c s Phase))) (sym logs) shows)

    whole : map commands_of f.logs ≡ traces
    whole = traces_logged c traces f.logs f.cycles finished.0

    pub job_is : (j : Job) → j ≡ record { config = c; traces = traces } → job_of (Replayed f) ≡ j
    job_is j e = (λ i. record { config = config i; traces = whole i }) ∙ sym e

    by_parts : Shows r made f.config (map commands_of f.logs) f.logs f.cycles
    by_parts =
        subst (λ q. Shows r made q (map commands_of f.logs) f.logs f.cycles) (sym config)
        (subst (λ xs. Shows r made c xs f.logs f.cycles) (sym whole) finished)

    ends : EndsBy (job_of (Replayed f)) schedule turns r made
    ends = subst (λ (j : Job). EndsBy j schedule turns r made)
        (sym (job_is (record { config = c; traces = traces }) refl)) (record {
          ends = record {
            replayed = is;
            done = subst (AllDone c) same done;
          };
          made_is = refl;
        })

    logged : (t : ℕ) → part t r.order ≡ get_or f.logs t []
    unfolding reached
    logged t = logged_all c s reached done t ∙ ap (λ ls. get_or ls t []) (sym logs)

    pub replayed : TurnLaws → f.order ≡ Some (map item_of r.order)
        → outcomes.IsReplayShown schedule turns f
    replayed laws order =
        let ran = has_history laws (run_of (Replayed f)) by_parts.0 in
        let same : ran.history ≡ r.order =
        history_is laws (run_of (Replayed f)) by_parts.0 ∙ ap (λ (q : Run). q.order) by_parts.1 in
        let counted : ran.turned.turns ≡ made =
        ap (λ (e : IsFinished f.config (map commands_of f.logs) f.logs f.cycles). e.turns)
        (turned_is laws (run_of (Replayed f)) by_parts.0) ∙ by_parts.2 in
        record {
          ran = ran;
          replay = record {
            run = r;
            by = subst (EndsBy (job_of (Replayed f)) schedule turns r) (sym counted) ends;
            history_is = same;
            order = order ∙ ap (λ h. Some (map item_of h)) (sym same);
          };
          told = subst (λ h. IsHistoryOf (map item_of h) f.logs h) (sym same)
              (record { items = refl; logged = logged });
        }

    pub totals : (j : Job) → j ≡ record { config = c; traces = traces } → schedule ≡ Serial
        → ((rate : ℕ) → IsRate c rate → turns ≤ job_bound c rate traces)
        → (t : Totals) → t.cycles ≡ f.cycles → t.units ≡ units_of f.logs → HasTotals j t
    totals j e serial few t cs us = record {
      turns = turns;
      few = subst (λ (x : Job). (rate : ℕ) → IsRate x.config rate
          → turns ≤ job_bound x.config rate x.traces) (sym e) few;
      run = r;
      ends = subst (λ k. EndsIn j k turns r) serial
          (subst (λ (x : Job). EndsIn x schedule turns r) (job_is j e) ends.ends);
      cycles = cs ∙ finished.0.starts ∙ ap (λ (q : Run). starts_in q.order) finished.1;
      units = us ∙ sym finished.0.works ∙ ap (λ (q : Run). work_in q.order) finished.1;
    }

-- ---- a system after the turns of a schedule

-- the law that such a system shows a run
abbrev pub RunsLaw : Type 0
RunsLaw = (w : Whole) (traces : List (List Command)) (schedule : Schedule) (turns : ℕ)
    → IsOpening w.config traces w.state → IfSome w.ordered (λ o. o.items ≡ items.Start ∷ [])
    → (r : Run) × IsReplayed w.config traces schedule turns r
    × ShowsRun w.config r (system_after w (turns_of schedule w.config w.state turns))

pub record IsAfter (c : Config) (traces : List (List Command)) (schedule : Schedule) (turns : ℕ)
    (q : Whole) : Type 0 where
  pub run : Run
  pub is : IsReplayed c traces schedule turns run
  pub shown : ShowsRun c run q

pub is_after : RunsLaw → (w q : Whole) (c : Config) (traces : List (List Command))
    (schedule : Schedule) (turns : ℕ) → w.config ≡ c → IsOpening c traces w.state
    → IfSome w.ordered (λ o. o.items ≡ items.Start ∷ [])
    → q ≡ system_after w (turns_of schedule w.config w.state turns)
    → IsAfter c traces schedule turns q
is_after law w q c traces schedule turns config opening order same =
    subst (λ k. IsOpening k traces w.state → IsAfter k traces schedule turns q) config
    (λ o. let l = law w traces schedule turns o order in record {
      run = l.0;
      is = l.1;
      shown = subst (ShowsRun w.config l.0) (sym same) l.2;
    }) opening

-- the order that an opening keeps
pub opens_order : (o : Option Ordered) (turns : ℕ) → o ≡ Some (opening_order turns)
    → IfSome o (λ k. k.items ≡ items.Start ∷ [])
opens_order o turns is =
    subst (λ (x : Option Ordered). IfSome x (λ k. k.items ≡ items.Start ∷ [])) (sym is) refl

pub opens_none : (o : Option Ordered) → o ≡ None → IfSome o (λ k. k.items ≡ items.Start ∷ [])
opens_none o is =
    subst (λ (x : Option Ordered). IfSome x (λ k. k.items ≡ items.Start ∷ [])) (sym is) tt

pub room_left : (o : Option Ordered) (turns : ℕ) → o ≡ Some (opening_order turns)
    → IfSome o (λ k. turns ≤ k.left)
room_left o turns is =
    subst (λ (x : Option Ordered). IfSome x (λ k. turns ≤ k.left)) (sym is) (omega arith)

-- an order that is kept stays kept
some_after : (c : Config) (t : ℕ) (s : State) (o : Option Ordered) → IsSome o
    → IsSome (ordered_after c t s o)
some_after c t s None h = h
some_after c t s (Some o) h = refl

some_later : (w : Whole) (ts : List ℕ) → IsSome w.ordered → IsSome (system_after w ts).ordered
some_later w [] h = h
some_later w (t ∷ ts) h =
    some_later (system_turned t w) ts (some_after w.config t w.state w.ordered h)

pub still_kept : (w q : Whole) (schedule : Schedule) (turns : ℕ)
    → w.ordered ≡ Some (opening_order turns)
    → q ≡ system_after w (turns_of schedule w.config w.state turns) → IsSome q.ordered
still_kept w q schedule turns is same =
    subst (λ (x : Whole). IsSome x.ordered) (sym same)
    (some_later w (turns_of schedule w.config w.state turns) (subst (λ (o : Option Ordered). IsSome o) (sym is) refl))

items_are : (o : Option Ordered) (xs : List Item) → IsSome o → IfSome o (λ k. k.items ≡ xs)
    → items_kept o ≡ Some xs
items_are None xs h e = absurd cc
items_are (Some o) xs h e = ap Some e

-- the law that a replay stops as soon as all threads are done
abbrev pub StopLaw : Type 0
StopLaw = (c : Config) (schedule : Schedule) (r : Run) (few many : ℕ) → few ≤ many
    → AllDone c (after_turns c r (turns_of schedule c r.state few)).state
    → after_turns c r (turns_of schedule c r.state many)
    ≡ after_turns c r (turns_of schedule c r.state few)

-- the run of the first few turns of a replay
abbrev pub first_turns : {c : Config} {traces : List (List Command)} {schedule : Schedule}
    → {many : ℕ} → {q : Whole} → IsAfter c traces schedule many q → ℕ → Run
first_turns {c} {traces} {schedule} a few =
    after_turns c (opened c a.is.first) (turns_of schedule c a.is.first few)

-- where all are done after fewer turns, it is a replay of these
pub sooner : StopLaw → (c : Config) (traces : List (List Command)) (schedule : Schedule)
    (few many : ℕ) (q : Whole) → few ≤ many → (a : IsAfter c traces schedule many q)
    → AllDone c (first_turns a few).state → IsAfter c traces schedule few q
sooner law c traces schedule few many q less a done = record {
  run = a.run;
  is = record {
    first = a.is.first;
    opening = a.is.opening;
    replayed = a.is.replayed
        ∙ law c schedule (opened c a.is.first) few many less done;
  };
  shown = a.shown;
}

module _ (c : Config) (traces : List (List Command)) (schedule : Schedule) (turns : ℕ)
    (q : Whole) (a : IsAfter c traces schedule turns q) where
  -- a thread that is left undone
  pub leaves : (thread : ℕ) → IsLeastUndone q.config q.state thread → (j : Job)
      → record { config = c; traces = traces } ≡ j
      → (run : Run) × LeavesUndone j schedule turns thread run
  leaves thread least j e = (
    a.run,
    subst (λ (x : Job). LeavesUndone x schedule turns thread a.run) e (record {
      replayed = a.is;
      least = subst (λ s. IsLeastUndone c s thread) a.shown.state
          (subst (λ k. IsLeastUndone k q.state thread) a.shown.config least);
    }),
  )

  pub all_of_run : AllDone c a.run.state → AllDone q.config q.state
  all_of_run done =
      subst (λ k. AllDone k q.state) (sym a.shown.config)
      (subst (AllDone c) (sym a.shown.state) done)

  module _ (job : IsJob c traces) (all : AllDone q.config q.state) (f : Finish)
      (config : f.config ≡ q.config) (logs : f.logs ≡ logs_of q.state)
      (cycles : f.cycles ≡ cycle_of (heap_in q.config q.state Phase)) where
    done_in : AllDone c q.state
    done_in = subst (λ k. AllDone k q.state) a.shown.config all

    cycles_in : f.cycles ≡ cycle_of (heap_in c q.state Phase)
    cycles_in = cycles ∙ ap (λ k. cycle_of (heap_in k q.state Phase)) a.shown.config

    pub job_shown_by : (j : Job) → record { config = c; traces = traces } ≡ j
        → job_of (Replayed f) ≡ j
    job_shown_by j e =
        job_is c traces schedule turns a.run job a.is q.state a.shown.state done_in f
        (config ∙ a.shown.config) logs cycles_in j (sym e)

    pub replay_shown : TurnLaws → f.order ≡ items_kept q.ordered → IsSome q.ordered
        → outcomes.IsReplayShown schedule turns f
    replay_shown laws order some =
        replayed c traces schedule turns a.run job a.is q.state a.shown.state done_in f
        (config ∙ a.shown.config) logs cycles_in laws
        (order ∙ items_are q.ordered (map item_of a.run.order) some a.shown.order)

    pub totals_shown : (j : Job) → record { config = c; traces = traces } ≡ j → schedule ≡ Serial
        → ((rate : ℕ) → IsRate c rate → turns ≤ job_bound c rate traces)
        → (t : Totals) → t.cycles ≡ f.cycles → t.units ≡ units_of f.logs → HasTotals j t
    totals_shown j e serial few t cs us =
        totals c traces schedule turns a.run job a.is q.state a.shown.state done_in f
        (config ∙ a.shown.config) logs cycles_in j (sym e) serial few t cs us

-- where all threads are done, none is undone
pub none_is_undone : (c : Config) (s : State) (t : ℕ) → AllDone c s → IsLeastUndone c s t → ⊥
none_is_undone c s t all u = let clash : true ≡ false = sym (all t u.there) ∙ u.undone in cc
