-- The second job, one trace after the other, and what its threads recall, one after the other.
use Rattle.std.proofs.Common.{◌≡◌, ℕ, suc, ◌+◌, ◌*◌, ◌<◌, ◌≤◌, List, [], ◌∷◌, ◌++◌, length, drop, get_or, slice_index_or, map, append_assoc, append-nil, refl, sym, ap, ◌∙◌, subst, arith}
use Rattle.std.specs.Prelude.{flat_map}
use Rattle.std.specs.List.{AllByRecursion}
use Rattle.std.proofs.lemmas.List.{length-map, at_drop_more, drop_all}
use Rattle.std.proofs.Math.ListN.{get_or-map}
use Rattle.atom_board.specs.Mutators.{ClosedState}
use Rattle.block_store.specs.declared.Config.{Config}
use Rattle.never_heap.specs.declared.Command.{Command}
use Rattle.never_heap.specs.declared.Entry.{Entry}
use Rattle.never_heap.specs.Histories.{parts}
use Rattle.never_heap.specs.Runs.{IsRun}
use Rattle.array_tables.specs.operations.Linearizations.{traces_of}
use Rattle.never_heap.proofs.Lemmas.{logged}
use Rattle.array_tables.specs.number_rings.Rings.{Operation, rows_of, command_at, script_of, scripts_from, ring_config, ring_traces, recalled, last_numbers, IsKeepable}
use Rattle.array_tables.proofs.Lemmas.{own_script, rings_admitted, rings_fit, rings_show, rows_long, scripts_long}
use Rattle.rate_plan.specs.Rates.{IsAdmitted}
use Rattle.atom_board.specs.threaded_runs.EndedRuns.{HasHistory, commands_of, job_of}
use Rattle.atom_board.proofs.threaded_runs.HistoryOfJob.{run_of, parts_of}
use Rattle.trace_text.specs.Jobs.{Job}
use Rattle.trace_text.specs.Jobs as jobs
use Rattle.rt_mail.specs.Recalled.{ring_job, HasRings, replies_of, recalled_in}

-- ---- the job

abbrev pub trace_in : List Operation → List Command
trace_in ops = map command_at (flat_map rows_of ops)

-- the traces of the threads from thread t on
abbrev pub traces_from : ℕ → List (List ℕ) → List (List Command)
traces_from t lists = traces_of rows_of command_at (scripts_from t lists)

pub trace_more : (lists : List (List ℕ)) (t : ℕ) (vs : List ℕ) (trace : List Command)
    (so_far more : List (List Command)) → t < length lists → vs ≡ get_or lists t []
    → trace ≡ trace_in (script_of t vs) → more ≡ so_far ++ trace ∷ []
    → so_far ++ traces_from t (drop t lists) ≡ ring_traces lists
    → more ++ traces_from (t + 1) (drop (t + 1) lists) ≡ ring_traces lists
trace_more lists t vs trace so_far more low at is pushed was =
    let rest : List (List Command) = traces_from (t + 1) (drop (t + 1) lists) in
    ap (λ (l : List (List Command)). l ++ rest) pushed
    ∙ append_assoc so_far (trace ∷ []) rest
    ∙ ap (λ (l : List Command). so_far ++ l ∷ rest)
    (is ∙ ap (λ (l : List ℕ). trace_in (script_of t l)) at)
    ∙ sym (at_drop_more (λ (l : List (List ℕ)). so_far ++ traces_from t l) lists t [] low) ∙ was

pub traces_done : (lists : List (List ℕ)) (t : ℕ) (so_far : List (List Command))
    → length lists ≤ t → so_far ++ traces_from t (drop t lists) ≡ ring_traces lists
    → so_far ≡ ring_traces lists
traces_done lists t so_far past was =
    sym (append-nil so_far)
    ∙ ap (λ (l : List (List ℕ)). so_far ++ traces_from t l) (sym (drop_all t lists past)) ∙ was

pub job_is : (lists : List (List ℕ)) (n : ℕ) (c : Config) (traces : List (List Command))
    → n ≡ length lists → c ≡ ring_config n → traces ≡ ring_traces lists
    → record { config = c; traces = traces } ≡ ring_job lists
job_is lists n c traces long is own =
    let same : c ≡ ring_config (length lists) = is ∙ ap ring_config long in
    λ i. record { config = same i; traces = own i }

module _ (lists : List (List ℕ)) (some : 1 ≤ length lists) (few : length lists ≤ 16) where
  pub job_fits : (j : Job) → j ≡ ring_job lists → AllByRecursion IsKeepable lists
      → jobs.IsJobInBounds j
  job_fits j is all = subst jobs.IsJobInBounds (sym is) (rings_fit lists some few all)

  pub job_admitted : (j : Job) → j ≡ ring_job lists → IsAdmitted j.config
  job_admitted j is =
      subst (λ (k : Job). IsAdmitted k.config) (sym is) (rings_admitted (length lists) some few)

-- ---- its run

module _ (lists : List (List ℕ)) (run : ClosedState) (job : job_of run ≡ ring_job lists)
    (ran : HasHistory run) where
  abbrev n : ℕ
  n = length lists

  is_run : IsRun (ring_config n) ran.rate (ring_traces lists) ran.history
  is_run = run_of run (ring_job lists) job ran

  parts_are : parts n ran.history ≡ run.logs
  parts_are = parts_of run (ring_job lists) job ran

  pub has_rings : HasRings lists run
  has_rings = record {
    job = job;
    ran = ran;
    none_full = (rings_show ran.rate lists ran.history is_run).1;
  }

  shown : (t : ℕ) → t < n
      → recalled (length (slice_index_or lists t [])) (replies_of (slice_index_or run.logs t []))
      ≡ last_numbers (slice_index_or lists t [])
  shown t low =
      ap (λ (log : List Entry). recalled (length (slice_index_or lists t [])) (replies_of log))
      (sym (logged n ran.history run.logs t parts_are low))
      ∙ (rings_show ran.rate lists ran.history is_run).0 t low

-- where each thread recalls the last numbers of its list, all do
in_turn : (lists : List (List ℕ)) (logs : List (List Entry))
    → ((t : ℕ) → t < length lists
    → recalled (length (slice_index_or lists t [])) (replies_of (slice_index_or logs t []))
    ≡ last_numbers (slice_index_or lists t []))
    → recalled_in lists logs ≡ map last_numbers lists
in_turn [] logs each = refl
in_turn (vs ∷ lists) [] each =
    let first : recalled (length vs) [] ≡ last_numbers vs = each 0 (omega arith) in
    let rest : recalled_in lists [] ≡ map last_numbers lists =
    in_turn lists [] (λ t low. each (suc t) (omega arith)) in
    λ i. first i ∷ rest i
in_turn (vs ∷ lists) (log ∷ logs) each =
    let first : recalled (length vs) (replies_of log) ≡ last_numbers vs = each 0 (omega arith) in
    let rest : recalled_in lists logs ≡ map last_numbers lists =
    in_turn lists logs (λ t low. each (suc t) (omega arith)) in
    λ i. first i ∷ rest i

pub last_recalled : (lists : List (List ℕ)) (run : ClosedState) → HasRings lists run
    → recalled_in lists run.logs ≡ map last_numbers lists
last_recalled lists run r = in_turn lists run.logs (shown lists run r.job r.ran)

-- ---- what its logs tell

module _ (lists : List (List ℕ)) (logs : List (List Entry))
    (same : map commands_of logs ≡ ring_traces lists) where
  pub as_many : length logs ≡ length lists
  as_many =
      let long = ap length same in
      omega (
        arith,
        long,
        length-map logs commands_of,
        length-map (scripts_from 0 lists) trace_in,
        scripts_long 0 lists,
      )

  -- each log has the replies to the keeps
  pub enough : (t : ℕ) (vs : List ℕ) (log : List Entry) → t < length logs
      → vs ≡ get_or lists t [] → log ≡ get_or logs t [] → 4 * length vs ≤ length log
  enough t vs log there at is =
      let here : commands_of log ≡ trace_in (script_of t vs) =
      ap commands_of is
      ∙ sym (get_or-map commands_of logs t [])
      ∙ ap (λ (l : List (List Command)). get_or l t []) same
      ∙ get_or-map trace_in (scripts_from 0 lists) t []
      ∙ ap trace_in (own_script lists t (omega (arith, there, as_many)))
      ∙ ap (λ (l : List ℕ). trace_in (script_of t l)) (sym at) in
      let long : length (commands_of log) ≡ length (trace_in (script_of t vs)) = ap length here in
      omega (
        arith,
        long,
        rows_long t vs,
        length-map log (λ (e : Entry). e.command),
        length-map (flat_map rows_of (script_of t vs)) command_at,
      )

  pub recalled_more : (t : ℕ) (vs : List ℕ) (log : List Entry) (ns : List ℕ)
      (so_far more : List (List ℕ)) → t < length logs → vs ≡ get_or lists t []
      → log ≡ get_or logs t [] → ns ≡ recalled (length vs) (replies_of log)
      → more ≡ so_far ++ ns ∷ []
      → so_far ++ recalled_in (drop t lists) (drop t logs) ≡ recalled_in lists logs
      → more ++ recalled_in (drop (t + 1) lists) (drop (t + 1) logs) ≡ recalled_in lists logs
  recalled_more t vs log ns so_far more there at is tells pushed was =
      let rest : List (List ℕ) = recalled_in (drop (t + 1) lists) (drop (t + 1) logs) in
      let next : recalled_in (drop t lists) (drop t logs)
      ≡ recalled (length vs) (replies_of log) ∷ rest =
      at_drop_more (λ (l : List (List ℕ)). recalled_in l (drop t logs)) lists t []
      (omega (arith, there, as_many))
      ∙ at_drop_more (λ (l : List (List Entry)).
      recalled_in (get_or lists t [] ∷ drop (t + 1) lists) l) logs t [] there
      ∙ (λ i. recalled (length (sym at i)) (replies_of (sym is i)) ∷ rest) in
      ap (λ (l : List (List ℕ)). l ++ rest) pushed
      ∙ append_assoc so_far (ns ∷ []) rest
      ∙ ap (λ (l : List ℕ). so_far ++ l ∷ rest) tells
      ∙ ap (λ (l : List (List ℕ)). so_far ++ l) (sym next) ∙ was

pub recalled_done : (lists : List (List ℕ)) (logs : List (List Entry)) (t : ℕ)
    (so_far : List (List ℕ)) → length lists ≤ t
    → so_far ++ recalled_in (drop t lists) (drop t logs) ≡ recalled_in lists logs
    → so_far ≡ recalled_in lists logs
recalled_done lists logs t so_far past was =
    sym (append-nil so_far)
    ∙ ap (λ (l : List (List ℕ)). so_far ++ recalled_in l (drop t logs))
    (sym (drop_all t lists past)) ∙ was
