-- What a state shows that some list of turns reaches and in which all threads are done.
use Rattle.std.proofs.Common.{◌≡◌, ℕ, ◌+◌, ◌<◌, true, eqb, eqb-true, [], ◌++◌, length, get_or, map, take, append-nil, refl, sym, ap, ◌∙◌, subst, arith, inl, inr}
use Rattle.std.proofs.lemmas.Bool.{cases_lt, and_parts}
use Rattle.std.proofs.lemmas.List.{get_or_past, length-map}
use Rattle.std.proofs.Math.Seq.{take-length}
use Rattle.block_store.specs.declared.Config.{Config}
use Rattle.block_store.specs.Phases.{cycle_of}
use Rattle.block_store.specs.Places.{Phase}
use Rattle.rate_plan.specs.Rates.{IsRate}
use Rattle.never_heap.specs.declared.Entry.{Entry}
use Rattle.never_heap.specs.Histories.{replay, part, parts_from}
use Rattle.never_heap.specs.Runs.{IsRun}
use Rattle.heap_system.specs.Parts.{Rest}
use Rattle.heap_system.specs.Locals.{LocalState, works, command_of, owed, entries_of, is_rest}
use Rattle.heap_system.specs.Machines.{State, no_local, local_at, heap_in, opened}
use Rattle.heap_system.specs.Pictures.{waiting}
use Rattle.heap_system.specs.Systems.{traces_of, logs_of, AllDone, IsReached, IsFinished}
use Rattle.heap_system.specs.Units.{units_made, AreMadeFor}
use Rattle.heap_system.proofs.invariant.InvariantHolds.{run_kept}
use Rattle.heap_system.proofs.accounting.RunBounds.{licensed}
use Rattle.heap_system.proofs.invariant.Invariant.{Kept}
use Rattle.heap_system.proofs.step_rows.LawsOfParts.{laws_of}
use Rattle.heap_system.proofs.accounting.MadeFor.{each_made}
use Rattle.heap_system.proofs.accounting.UnitsOfTurns.{run_makes}
use Rattle.heap_system.proofs.work.TurnFacts.{reached_kept, rest_is, logs_are, log_at, right_work}
use Rattle.heap_system.proofs.invariant.SeenAndKept.{IsSettled}
use Rattle.heap_system.proofs.accounting.TalliesOfParts.{tallies_of}

-- a reached state in which all threads are done is finished
module _ (c : Config) (s : State) (k : IsReached c s) (done : AllDone c s) where
  kept : Kept c (traces_of s) (record { state = s; order = k.run.order; names = k.run.names })
  kept = reached_kept c s k

  over : (t : ℕ) → t < c.threads → (is_rest (local_at c s t).part ≡ true) × (eqb (length (local_at c s t).log) (length (local_at c s t).trace) ≡ true)
  over t tl = and_parts (is_rest (local_at c s t).part) (eqb (length (local_at c s t).log) (length (local_at c s t).trace)) (done t tl)

  logged : (t : ℕ) → t < c.threads → part t k.run.order ≡ (local_at c s t).log
  logged t tl =
      (kept.locals t tl).told ∙ ap (λ p. (local_at c s t).log ++ entries_of (local_at c s t).thread (command_of (local_at c s t)) (local_at c s t).spent (waiting (replay c k.run.order) p)) (rest_is (local_at c s t).part (over t tl).0) ∙ append-nil (local_at c s t).log

  made : (t : ℕ) → t < c.threads → works (get_or (logs_of s) t []) ≡ units_made c t (opened c k.by_turns.first) k.turns
  made t tl =
      let settled : IsSettled (owed (local_at c s t)) (local_at c s t).spent Rest = subst (λ p. IsSettled (owed (local_at c s t)) (local_at c s t).spent p) (rest_is (local_at c s t).part (over t tl).0) (kept.locals t tl).settled in
      let paid : (local_at c k.run.state t).spent ≡ 0 = ap (λ x. (local_at c x t).spent) (sym k.state) ∙ settled in
      let log : works (get_or (logs_of s) t []) ≡ works (part t k.run.order) = ap works (log_at s.locals t (no_local c) ∙ sym (logged t tl)) in
      log ∙ omega (arith, paid, run_makes c (traces_of s) k.job k.turns k.run k.by_turns t tl)

  each : (t : ℕ) → t < c.threads → AreMadeFor c t (get_or (logs_of s) t []) (opened c k.by_turns.first) k.turns
  each t tl = subst (λ es. AreMadeFor c t es (opened c k.by_turns.first) k.turns) (logged t tl ∙ sym (log_at s.locals t (no_local c)))
      (each_made c (traces_of s) k.job k.turns k.run k.by_turns t tl (run_kept c (traces_of s) (laws_of c) k.job k.turns k.run k.by_turns))

  whole : (t : ℕ) → map (λ (e : Entry). e.command) (part t k.run.order) ≡ get_or (traces_of s) t []
  whole t = elim (cases_lt t c.threads) [
    | inl tl ↦
        ap (map (λ (e : Entry). e.command)) (logged t tl) ∙ (kept.locals t tl).said ∙ ap (λ n. take n (local_at c s t).trace) (eqb-true _ _ (over t tl).1) ∙ take-length (local_at c s t).trace ∙ (kept.locals t tl).trace
    | inr out ↦ ap (map (λ (e : Entry). e.command)) (kept.foreign t (omega arith)) ∙ sym (get_or_past (traces_of s) t [] (omega (arith, k.job.bounds.threads, out)))
  ]

  is_run : (rate : ℕ) → IsRate c rate → IsRun c rate (traces_of s) k.run.order
  is_run rate planned = record {
    legal = kept.names.ordered.legal;
    traces_whole = whole;
    licensed = licensed c (traces_of s) (laws_of c) (tallies_of c) k.job k.turns k.run k.by_turns rate planned;
    right_work = right_work c (traces_of s) (record { state = s; order = k.run.order; names = k.run.names }) kept rate planned;
  }

  pub all_done : IsFinished c (traces_of s) (logs_of s) (cycle_of (heap_in c s Phase))
  all_done = record {
    turns = k.turns;
    run = k.run;
    job = k.job;
    by_turns = k.by_turns;
    done = subst (λ x. AllDone c x) k.state done;
    logged = ap logs_of k.state;
    parts_logged = logs_are s.locals 0 k.run.order (no_local c) (λ i low. (let e : 0 + i ≡ i = omega arith in ap (λ u. part u k.run.order) e ∙ logged i (omega (arith, kept.threads, low)))) ∙ ap (λ n. parts_from 0 n k.run.order) kept.threads;
    is_run = is_run;
    starts = sym kept.names.ordered.started;
    made = made;
    each = each;
    works = kept.counted;
  }

  -- it is that of the run and the turns that reached it
  pub done_run : all_done.run ≡ k.run
  unfolding all_done
  done_run = refl

  pub done_turns : all_done.turns ≡ k.turns
  unfolding all_done
  done_turns = refl

  -- each log is a part of the order, also of a thread that there is not
  pub logged_all : (t : ℕ) → part t k.run.order ≡ get_or (logs_of s) t []
  logged_all t = elim (cases_lt t c.threads) [
    | inl tl ↦ logged t tl ∙ sym (log_at s.locals t (no_local c))
    | inr out ↦ kept.foreign t (omega arith) ∙ sym (get_or_past (logs_of s) t [] (omega (arith, kept.threads, length-map s.locals (λ (l : LocalState). l.log))))
  ]
