-- What is kept holds of the opening, and so after every list of turns.
use Rattle.std.proofs.Common.{◌≡◌, ℕ, zero, suc, ◌+◌, ◌-◌, ◌*◌, ◌<◌, ◌≤◌, true, false, cond, List, [], ◌∷◌, ◌++◌, length, get_or, map, append-nil, refl, sym, ap, ◌∙◌, subst, arith, inl, inr, le-ltb}
use Rattle.std.proofs.lemmas.Bool.{cases_lt}
use Rattle.std.proofs.lemmas.List.{get_or_past, get_or_default}
use Rattle.block_store.specs.declared.Config.{Config}
use Rattle.block_store.specs.declared.PhaseWord.{PhaseWord}
use Rattle.block_store.specs.Phases.{bit, inside_of, is_closed, is_sweep, cycle_of}
use Rattle.block_store.specs.Places.{Phase, Cursor, extent, is_block, ColourOf}
use Rattle.block_store.proofs.Lemmas.{closed-code, cycle-code, funext, inside-code, sweep-code, total_none}
use Rattle.never_heap.specs.declared.Command.{Command}
use Rattle.never_heap.specs.Graphs.{start_graph}
use Rattle.never_heap.specs.Histories.{Started, replay}
use Rattle.never_heap.proofs.Lemmas.{count_of_start}
use Rattle.heap_machine.specs.Gating.{Gating, is_outside, is_inside, is_closing}
use Rattle.heap_machine.specs.WorkInHand.{holds_nothing}
use Rattle.heap_invariant.specs.name_invariant.Pictures.{no_task}
use Rattle.work_account.proofs.Balances.{opened_sound}
use Rattle.never_heap.specs.declared.Command.TheVariants as commands
use Rattle.never_heap.specs.RightWork.{requested_units}
use Rattle.heap_system.proofs.accounting.Balances.{none_spent}
use Rattle.heap_system.specs.Parts.{Part, Rest}
use Rattle.heap_system.specs.Locals.{LocalState, command_of, no_pass, at_start, task}
use Rattle.heap_system.specs.Machines.{State, no_local, local_at, event_done, has_event, next_effect, items_by, Run, next, after_turns, starts_from, IsOpening, IsJob, opened, IsRunOf, heap_in}
use Rattle.heap_system.specs.Naming.{renamed, opening_names}
use Rattle.heap_system.specs.InitialHeaps.{opening_phase}
use Rattle.heap_system.specs.Pictures.{gating, work_in_hand, gates_in, work_in_hand_of, tasks_in}
use Rattle.heap_system.specs.Systems.{units_of}
use Rattle.heap_system.proofs.openings.InitialGreyRoots.{opening_held}
use Rattle.heap_system.proofs.invariant.Invariant.{LocalKept, Kept}
use Rattle.heap_system.proofs.openings.InitialHeaps.{opening_rules, opening_names_kept}
use Rattle.heap_system.proofs.step_rows.PartLaws.{PartLaws}
use Rattle.heap_system.proofs.accounting.OwedAndPaid.{each_at}
use Rattle.heap_system.proofs.invariant.SeenAndKept.{lead}
use Rattle.heap_system.proofs.openings.SystemStart.{length_starts}
use Rattle.heap_system.proofs.invariant.InvariantByTurns.{next_kept}

starts_at : (c : Config) (rate : ℕ) (space : ℕ → ℕ) (t i : ℕ) (traces : List (List Command)) (d : LocalState) → i < length traces → get_or (starts_from c rate space t traces) i d ≡ at_start c rate (space (t + i)) (t + i) (get_or traces i [])
starts_at c rate space t i [] d low = absurd (omega arith)
starts_at c rate space t zero (trace ∷ traces) d low = let e : t ≡ t + 0 = omega arith in ap (λ u. at_start c rate (space u) u trace) e
starts_at c rate space t (suc i) (trace ∷ traces) d low = let e : t + 1 + i ≡ t + suc i = omega arith in starts_at c rate space (t + 1) i traces d (omega arith) ∙ ap (λ u. at_start c rate (space u) u (get_or traces i [])) e

-- no work is in the logs
units_start : (c : Config) (rate : ℕ) (space : ℕ → ℕ) (t : ℕ) (traces : List (List Command)) → units_of (map (λ (l : LocalState). l.log) (starts_from c rate space t traces)) ≡ 0
units_start c rate space t [] = refl
units_start c rate space t (trace ∷ traces) = omega (arith, units_start c rate space (t + 1) traces)

-- cycle 1 in Mark, with the gate open and nobody inside
record IsFirst (w : ℕ) : Type 0 where
  none : inside_of w ≡ 0
  opened : is_closed w ≡ false
  cycle : cycle_of w ≡ 1
  sweep : is_sweep w ≡ false

first_phase : (w : ℕ) → w ≡ opening_phase → IsFirst w
first_phase w is =
    let p : PhaseWord = record { inside = 0; sweep = false; closed = false; cycle = 1 } in record {
      none = ap inside_of is ∙ inside-code p (omega arith);
      opened = ap is_closed is ∙ closed-code p (omega arith);
      cycle = ap cycle_of is ∙ cycle-code p (omega arith);
      sweep = ap is_sweep is ∙ sweep-code p (omega arith);
    }

module _ (c : Config) (traces : List (List Command)) (job : IsJob c traces) (s : State) (start : IsOpening c traces s) where
  pub here : (t : ℕ) → t < c.threads → local_at c s t ≡ at_start c start.rate (start.space t) t (get_or traces t [])
  here t tl =
      let e : 0 + t ≡ t = omega arith in
      ap (λ ls. get_or ls t (no_local c)) start.locals ∙ starts_at c start.rate start.space 0 t traces (no_local c) (omega (arith, tl, job.bounds.threads)) ∙ ap (λ u. at_start c start.rate (start.space u) u (get_or traces t [])) e

  -- the threads of the opening
  pub start_count : length s.locals ≡ c.threads
  start_count = ap length start.locals ∙ length_starts c start.rate start.space 0 traces ∙ job.bounds.threads

  pub start_at : (i : ℕ) (d : LocalState) → i < length s.locals
      → get_or s.locals i d ≡ at_start c start.rate (start.space i) i (get_or traces i [])
  start_at i d low = get_or_default s.locals i d (no_local c) low ∙ here i (omega (arith, start_count))

  -- a thread that there is not is at nothing either
  away : (t : ℕ) → c.threads ≤ t → local_at c s t ≡ no_local c
  away t out = get_or_past s.locals t (no_local c) (omega (arith, start_count, out))

  idle : tasks_in c s ≡ (λ t. no_task)
  idle = funext _ _ (λ t. elim (cases_lt t c.threads) [
    | inl tl ↦ ap (λ (l : LocalState). task c l.part) (here t tl)
    | inr out ↦ ap (λ (l : LocalState). task c l.part) (away t (omega arith))
  ])

  outside : (t : ℕ) → t < c.threads → gates_in c s t ≡ gating c (no_pass t c.threads) Rest
  outside t tl = ap (λ (l : LocalState). gating c l.pass l.part) (here t tl)

  holds : (t : ℕ) → t < c.threads → work_in_hand_of c s t ≡ holds_nothing
  holds t tl = ap (λ (l : LocalState). work_in_hand c l.part) (here t tl)

  outside_words : (x : ℕ) → is_block (extent c) x ≡ false → heap_in c s (ColourOf x) ≡ 0
  outside_words x out = rw out refl

  first : IsFirst (heap_in c s Phase)
  first = first_phase (heap_in c s Phase) (start.words Phase refl)

  -- nothing was passed yet
  leads : lead c (heap_in c s) ≡ 0
  leads = (let e : lead c (heap_in c s) ≡ (1 - 1) * c.blocks + 0 = λ i. (first.cycle i - 1) * c.blocks + cond (first.sweep i) (heap_in c s Cursor - 1) 0 in omega (arith, e))

  local_start : (t : ℕ) → t < c.threads → LocalKept c (get_or traces t []) (start_graph c) (Started ∷ []) (heap_in c s) (opening_names c) t (at_start c start.rate (start.space t) t (get_or traces t []))
  local_start t tl = record {
    config = refl;
    thread = refl;
    fresh = refl;
    trace = refl;
    fits = record {
      bounds = job.bounds.config;
      plan = job.plan;
      rate = start.planned;
      thread = tl;
      trace = (each_at c traces job t tl).asked;
      life = omega (arith, (each_at c traces job t tl).units start.rate start.planned);
      log = omega arith;
      part = tt;
      paid = omega arith;
      settled = tt;
      sound = opened_sound start.rate c.object;
      account = sym (none_spent (requested_units (get_or (get_or traces t []) 0 (commands.Nil 0))));
      units = omega arith;
      made = omega (arith, (each_at c traces job t tl).objects);
      space = start.roomy t tl;
      roomy = tt;
    };
    stands = tt;
    knows = tt;
    behind = omega (arith, first.cycle);
    settled = refl;
    made = sym (count_of_start c t);
    right = tt;
    told = refl;
    said = refl;
  }

  pub opening_kept : Kept c traces (opened c s)
  opening_kept = record {
    long = start.count;
    threads = start_count;
    gate = record {
      count = total_none c.threads _ (λ t tl. ap (λ (g : Gating). bit (is_inside g.stand)) (outside t tl)) ∙ sym first.none;
      closers = total_none c.threads _ (λ t tl. ap (λ (g : Gating). bit (is_closing g.stand)) (outside t tl)) ∙ sym (ap bit first.opened);
      alone = λ _. first.none;
      passes = λ t tl e. (let z : true ≡ false = sym (ap (λ (g : Gating). is_outside g.stand) (outside t tl)) ∙ e in cc);
    };
    held = opening_held c job.bounds.config job.plan (heap_in c s) start.words (record { inside = omega (arith, first.none); cycle = omega (arith, first.cycle) });
    rules = opening_rules c job.bounds.config job.plan (heap_in c s) start.words outside_words first.cycle first.sweep (work_in_hand_of c s) holds;
    names = opening_names_kept c job.bounds.config job.plan (heap_in c s) start.words outside_words first.cycle first.sweep (tasks_in c s) idle;
    unshaded = λ sweep opened t tl. refl;
    leads = omega (arith, leads);
    locals = λ t tl. subst (λ l. LocalKept c (get_or traces t []) (start_graph c) (Started ∷ []) (heap_in c s) (opening_names c) t l) (sym (here t tl)) (local_start t tl);
    foreign = λ u ul. refl;
    counted = sym (ap (λ ls. units_of (map (λ (l : LocalState). l.log) ls)) start.locals ∙ units_start c start.rate start.space 0 traces);
  }

module _ (c : Config) (traces : List (List Command)) (laws : (p : Part) → PartLaws c p) (job : IsJob c traces) where
  -- any turn
  pub turn_kept : (r : Run) → Kept c traces r → (t : ℕ) → Kept c traces (next c t r)
  turn_kept r kept t = elim (cases_lt t c.threads) [
    | inl tl ↦ next_kept c traces laws job.bounds.config job.plan r kept t tl
    | inr out ↦
        let none : has_event c t r.state ≡ false = rw (le-ltb t c.threads out) refl in
        subst (λ x. Kept c traces (record {
          state = cond x (event_done c t r.state) r.state;
          order = r.order ++ cond x (items_by c t (command_of (local_at c r.state t)) (local_at c r.state t).spent r.order (next_effect c r.state t)) [];
          names = cond x (renamed t (replay c r.order) (heap_in c r.state) (next_effect c r.state t).naming r.names) r.names;
        })) (sym none)
        (subst (λ o. Kept c traces (record { state = r.state; order = o; names = r.names })) (sym (append-nil r.order)) kept)
  ]

  pub turns_kept : (ts : List ℕ) (r : Run) → Kept c traces r → Kept c traces (after_turns c r ts)
  turns_kept [] r kept = kept
  turns_kept (t ∷ ts) r kept = turns_kept ts (next c t r) (turn_kept r kept t)

  -- every run
  pub run_kept : (ts : List ℕ) (r : Run) → IsRunOf c traces ts r → Kept c traces r
  run_kept ts r is = subst (λ x. Kept c traces x) (sym is.turns) (turns_kept ts (opened c is.first) (opening_kept c traces job is.first is.opening))
