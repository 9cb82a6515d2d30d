-- An opening, a job and a run, with one command more after a trace.
use Rattle.std.proofs.Common.{◌≡◌, ℕ, suc, ◌+◌, ◌<◌, ◌≤◌, Bool, true, false, cond, eqb, eqb-true, List, [], ◌∷◌, ◌++◌, length, length-append, get_or, map, refl, sym, ap, ◌∙◌, arith, subst}
use Rattle.std.specs.List.{AllByRecursion}
use Rattle.block_store.specs.declared.Config.{Config}
use Rattle.never_heap.specs.declared.Command.{Command}
use Rattle.never_heap.specs.Bounds.{IsCommandInBounds}
use Rattle.rate_plan.specs.Rates.{IsRate}
use Rattle.never_heap.specs.RightWork.{units_owed}
use Rattle.heap_system.specs.Lives.{IsLife, sum_after, objects_of, most_commands, most_units, most_objects}
use Rattle.heap_system.specs.Locals.{at_start}
use Rattle.heap_system.specs.Machines.{State, Run, IsJob, IsOpening, IsRunOf, starts_from, opened}
use Rattle.heap_system.proofs.Lemmas.{opening_kept, sum_more}
use Rattle.control_heap.specs.Growth.{given, grown, state_grown, run_grown, AllGo, extended}
use Rattle.control_heap.proofs.GrownRuns.{after_grown}

module _ (c : Config) (t : ℕ) (k : Command) where
  start_grown : (rate space u : ℕ) (x : List Command) (b : Bool) → cond b (given k (at_start c rate space u x)) (at_start c rate space u x) ≡ at_start c rate space u (cond b (x ++ k ∷ []) x)
  start_grown rate space u x true = refl
  start_grown rate space u x false = refl

  starts_grown : (rate : ℕ) (space : ℕ → ℕ) (u : ℕ) (xs : List (List Command)) → map (grown t k) (starts_from c rate space u xs) ≡ starts_from c rate space u (extended t k u xs)
  starts_grown rate space u [] = refl
  starts_grown rate space u (x ∷ xs) = λ i. start_grown rate (space u) u x (eqb u t) i ∷ starts_grown rate space (u + 1) xs i

  pub opening_grown : (traces : List (List Command)) (s : State) → IsOpening c traces s → IsOpening c (extended t k 0 traces) (state_grown t k s)
  opening_grown traces s o = record {
    rate = o.rate;
    planned = o.planned;
    count = o.count;
    words = o.words;
    space = o.space;
    roomy = o.roomy;
    locals = ap (map (grown t k)) o.locals ∙ starts_grown o.rate o.space 0 traces;
  }

  long_extended : (u : ℕ) (xs : List (List Command)) → length (extended t k u xs) ≡ length xs
  long_extended u [] = refl
  long_extended u (x ∷ xs) = ap suc (long_extended (u + 1) xs)

  all_more : (x : List Command) → AllByRecursion (IsCommandInBounds c) x → IsCommandInBounds c k → AllByRecursion (IsCommandInBounds c) (x ++ k ∷ [])
  all_more [] all one = (one, tt)
  all_more (y ∷ x) all one = (all.0, all_more x all.1 one)

  -- there is room for one command more after this trace
  pub record HasRoomFor (x : List Command) : Type 0 where
    pub few : length x < most_commands
    pub units : (rate : ℕ) → IsRate c rate → sum_after (units_owed c.width rate) 0 x + units_owed c.width rate k ≤ most_units
    pub objects : sum_after objects_of 0 x + objects_of k ≤ most_objects

  head_bounds : (x : List Command) (b : Bool) → IsLife c x → IsCommandInBounds c k → (b ≡ true → HasRoomFor x) → IsLife c (cond b (x ++ k ∷ []) x)
  head_bounds x true is one room = record {
    asked = record { few = (let n : length (x ++ k ∷ []) ≡ length x + 1 = length-append x (k ∷ []) in omega (arith, n, (room refl).few)); commands = all_more x is.asked.commands one };
    units = λ rate p. omega (arith, sum_more (units_owed c.width rate) x k, (room refl).units rate p);
    objects = omega (arith, sum_more objects_of x k, (room refl).objects);
  }
  head_bounds x false is one room = is

  traces_bounds : (u : ℕ) (xs : List (List Command)) → AllByRecursion (IsLife c) xs → IsCommandInBounds c k → ((i : ℕ) → i + u ≡ t → HasRoomFor (get_or xs i [])) → AllByRecursion (IsLife c) (extended t k u xs)
  traces_bounds u [] all one room = tt
  traces_bounds u (x ∷ xs) all one room = (
    head_bounds x (eqb u t) all.0 one (λ e. room 0 (let z : u ≡ t = eqb-true u t e in omega arith)),
    traces_bounds (u + 1) xs all.1 one (λ i e. room (suc i) (omega arith)),
  )

  pub job_grown : (traces : List (List Command)) → IsJob c traces → IsCommandInBounds c k → HasRoomFor (get_or traces t []) → IsJob c (extended t k 0 traces)
  job_grown traces job one room = record {
    bounds = record {
      config = job.bounds.config;
      threads = long_extended 0 traces ∙ job.bounds.threads;
      each = traces_bounds 0 traces job.bounds.each one (λ i e. subst (λ j. HasRoomFor (get_or traces j [])) (let z : t ≡ i = omega arith in z) room);
    };
    plan = job.plan;
  }

  abbrev pub run_extended : (traces : List (List Command)) (us : List ℕ) (r : Run) → IsJob c traces → t < c.threads → (is : IsRunOf c traces us r) → AllGo c (opened c is.first) us → IsRunOf c (extended t k 0 traces) us (run_grown t k r)
  run_extended traces us r job tl is go = record {
    first = state_grown t k is.first;
    opening = opening_grown traces is.first is.opening;
    turns = ap (run_grown t k) is.turns ∙ sym (after_grown t k c tl traces job us (opened c is.first) (opening_kept c traces job is.first is.opening) go);
  }
