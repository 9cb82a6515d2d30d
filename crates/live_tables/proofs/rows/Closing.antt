-- A closed table has a linearization.
use Rattle.std.proofs.Common.{◌≡◌, ℕ, zero, suc, ◌+◌, ◌<◌, ◌≤◌, inl, inr, arith, subst, sym, ap, ◌∙◌, refl, List, [], ◌∷◌, ◌++◌, length, map, get_or}
use Rattle.std.specs.Prelude.{flat_map}
use Rattle.std.proofs.lemmas.Bool.{cases_lt}
use Rattle.std.proofs.lemmas.List.{append_assoc, length-map, get_or_past}
use Rattle.std.proofs.Math.ListN.{get_or-map}
use Rattle.block_store.specs.declared.Config.{Config}
use Rattle.rate_plan.specs.Rates.{IsAdmitted, IsRate}
use Rattle.rate_plan.proofs.Plans.{found}
use Rattle.never_heap.specs.declared.Command.{Command}
use Rattle.never_heap.specs.declared.Entry.{Entry}
use Rattle.never_heap.specs.Histories.{HasTraces, part, parts}
use Rattle.never_heap.specs.Licensed.{NoFulls}
use Rattle.never_heap.specs.Runs.{IsRun}
use Rattle.never_heap.proofs.Lemmas.{logged, part_append, parts_count}
use Rattle.array_tables.specs.operations.Linearizations.{Call, IsLinearization, traces_of}
use Rattle.shared_heap.specs.declared.rules.Moment.{Moment}
use Rattle.shared_heap.specs.declared.rules.Moment.TheVariants as moments
use Rattle.shared_heap.specs.Shared.{IsStartOf, history_of}
use Rattle.shared_heap.specs.Workers.{WorkerState, HaveOneHistory, HasPart, IsOfMachine}
use Rattle.shared_heap.proofs.Lemmas.{before_or_after, history_start, nobody, stamps_in_order, starts_on}
use Rattle.atom_board.proofs.AllMutators.{get_or_map}
use Rattle.live_tables.specs.rows.Orders.{HasScript, HaveOneOrder, OperationsAreInOrder, OperationsComeAfter, OperationsComeAfterStamps, StandBehindWhatWasSeen}
use Rattle.live_tables.specs.rows.Rows.{Rows, IsRowHeap, answers_of, commands_in, commands_of, replies}
use Rattle.live_tables.specs.rows.Workers.{IsRowWorker, RowWorkerState, heap_worker, row_worker, thread_of}
use Rattle.live_tables.proofs.rows.Cuts.{stands}
use Rattle.live_tables.specs.rows.Lawful.{Lawful}
use Rattle.live_tables.proofs.rows.RealTime.{keeps_real_time}

-- the scripts of some threads, by their parts
abbrev pub scripts_from : {Op : Type 0} → (ℕ → List Command → List Op) → ℕ → List (List Entry)
    → List (List Op)
scripts_from read t [] = []
scripts_from read t (es ∷ parts) = read t (commands_in es) ∷ scripts_from read (t + 1) parts

scripts_long : {Op : Type 0} (read : ℕ → List Command → List Op) (t : ℕ) (ps : List (List Entry))
    → length (scripts_from read t ps) ≡ length ps
scripts_long read t [] = refl
scripts_long read t (es ∷ ps) = ap suc (scripts_long read (t + 1) ps)

scripts_at : {Op : Type 0} (read : ℕ → List Command → List Op) (u : ℕ) (ps : List (List Entry))
    (t : ℕ) → t < length ps
    → get_or (scripts_from read u ps) t [] ≡ read (u + t) (commands_in (get_or ps t []))
scripts_at read u [] t low = absurd (omega arith)
scripts_at read u (es ∷ ps) zero low = let e : u ≡ u + 0 = omega arith in ap (λ v. read v (commands_in es)) e
scripts_at read u (es ∷ ps) (suc t) low =
    let e : u + 1 + t ≡ u + suc t = omega arith in
    scripts_at read (u + 1) ps t (omega arith)
    ∙ ap (λ v. read v (commands_in (get_or ps t []))) e

-- the workers of the heap, again
heap_workers : {Op Row Answer S : Type 0} (a : Rows Op Row Answer S) (ws : List WorkerState)
    → map heap_worker (map (row_worker a) ws) ≡ ws
heap_workers a [] = refl
heap_workers a (w ∷ ws) = ap (λ (us : List WorkerState). w ∷ us) (heap_workers a ws)

module _ {Op Row Answer S : Type 0} (a : Rows Op Row Answer S) (law : Lawful a)
    (c : Config) (ws : List WorkerState) (cycles : ℕ) (rows : IsRowHeap a c)
    (admitted : IsAdmitted c)
    (all : (j : ℕ) (d : WorkerState) → j < length ws
    → IsRowWorker a (get_or ws j d) × ((get_or ws j d).thread.config ≡ c))
    (one : HaveOneHistory c ws cycles) where
  abbrev scripts : List (List Op)
  scripts = scripts_from a.operations_of 0 (parts c.threads one.order)

  -- the operations of a part
  abbrev script_of : ℕ → List Op
  script_of t = a.operations_of t (commands_in (part t one.order))

  count : length scripts ≡ c.threads
  count = scripts_long a.operations_of 0 (parts c.threads one.order) ∙ parts_count 0 c.threads one.order

  script_at : (t : ℕ) → t < c.threads → get_or scripts t [] ≡ script_of t
  script_at t low =
      let e : 0 + t ≡ t = omega arith in
      scripts_at a.operations_of 0 (parts c.threads one.order) t
      (omega (arith, low, parts_count 0 c.threads one.order))
      ∙ (λ i. a.operations_of (e i) (commands_in
      (sym (logged c.threads one.order (parts c.threads one.order) t refl low) i)))

  none_past : (t : ℕ) → c.threads ≤ t → get_or scripts t [] ≡ []
  none_past t high = get_or_past scripts t [] (omega (arith, count, high))

  -- the commands of a part are those of its script
  whole_part : (t : ℕ) → t < c.threads
      → commands_in (part t one.order) ≡ commands_of a (script_of t)
  whole_part t low =
      let j = one.parts t low in
      let w = get_or ws j.0 nobody in
      let p : HasPart one.timeline one.order t w = j.2 nobody in
      subst (λ (ks : List Command). ks ≡ commands_of a (a.operations_of t ks)) (sym p.asked)
      (subst (λ (u : ℕ). w.thread.trace ≡ commands_of a (a.operations_of u w.thread.trace)) p.thread
      (all j.0 nobody j.1).0.asked)

  inside_part : (t : ℕ) → t < c.threads → a.AreDone c.shared t (script_of t)
  inside_part t low =
      let j = one.parts t low in
      let w = get_or ws j.0 nobody in
      let p : HasPart one.timeline one.order t w = j.2 nobody in
      let its = all j.0 nobody j.1 in
      subst (λ (ks : List Command). a.AreDone c.shared t (a.operations_of t ks)) (sym p.asked)
      (subst (λ (u : ℕ). a.AreDone c.shared u (a.operations_of u w.thread.trace)) p.thread
      (subst (λ (k : Config). a.AreDone k.shared w.thread.thread
      (a.operations_of w.thread.thread w.thread.trace)) its.1 its.0.inside))

  inside : (t : ℕ) → a.AreDone c.shared t (get_or scripts t [])
  inside t = elim (cases_lt t c.threads) [
    | inl low ↦ subst (λ (l : List Op). a.AreDone c.shared t l) (sym (script_at t low))
        (inside_part t low)
    | inr high ↦ subst (λ (l : List Op). a.AreDone c.shared t l) (sym (none_past t high))
        (law.none c.shared t)
  ]

  whole : HasTraces (traces_of a.rows_of a.command_at scripts) one.order
  whole t =
      let at : get_or (traces_of a.rows_of a.command_at scripts) t []
      ≡ commands_of a (get_or scripts t []) =
      get_or-map (λ (ops : List Op). map a.command_at (flat_map a.rows_of ops)) scripts t [] in
      elim (cases_lt t c.threads) [
        | inl low ↦ whole_part t low ∙ ap (commands_of a) (sym (script_at t low)) ∙ sym at
        | inr high ↦ ap commands_in (one.others t high)
            ∙ ap (commands_of a) (sym (none_past t high)) ∙ sym at
      ]

  rate_of : (p : ℕ) × IsRate c p
  rate_of = found c admitted

  run : IsRun c rate_of.0 (traces_of a.rows_of a.command_at scripts) one.order
  run = record {
    legal = one.legal;
    traces_whole = whole;
    licensed = one.licensed;
    right_work = one.right rate_of.0 rate_of.1;
  }

  there : IsRun (a.config_of c.threads c.shared c.blocks) rate_of.0
      (traces_of a.rows_of a.command_at scripts) one.order
  there = subst (λ (k : Config).
      IsRun k rate_of.0 (traces_of a.rows_of a.command_at scripts) one.order) rows run

  abbrev orders : (order : List (Call Op Answer))
      × IsLinearization a.rows_of a.decides a.ends a.say a.act (a.empty c.shared) scripts one.order
      order
      × NoFulls one.order
  orders = law.ordered c.threads c.shared c.blocks rate_of.0 scripts one.order count inside there

  script_had : (t : ℕ) → t < c.threads → (w : WorkerState) → HasPart one.timeline one.order t w
      → HasScript scripts one.timeline one.order orders.0 t (row_worker a w)
  script_had t low w p =
      let w_asked = sym p.asked in
      let its : a.operations_of w.thread.thread w.thread.trace ≡ get_or scripts t [] =
      (λ i. a.operations_of (p.thread i) (w_asked i)) ∙ sym (script_at t low) in
      record {
        thread = p.thread;
        script = its;
        answers = (λ i. answers_of a (its i) (replies (p.told i))) ∙ sym (orders.1.told t);
        invoked = p.invoked;
        on_timeline = p.on_timeline;
        seen = p.seen;
      }

  pub order_kept : HaveOneOrder a c (map (row_worker a) ws) cycles
  order_kept = record {
    scripts = scripts;
    timeline = one.timeline;
    history = one.order;
    order = orders.0;
    count = count;
    read = λ t. law.read c.shared t (get_or scripts t []) (inside t);
    rate = rate_of.0;
    planned = rate_of.1;
    run = run;
    linear = orders.1;
    none_full = orders.2;
    each = λ t low. (
        let j = one.parts t low in (
          j.0,
          omega (arith, j.1, length-map ws (row_worker a)),
          λ d. subst (λ (w : RowWorkerState Op Answer). HasScript scripts one.timeline one.order orders.0 t w)
              (sym (get_or_map (row_worker a) ws j.0 d nobody j.1))
              (script_had t low (get_or ws j.0 nobody) (j.2 nobody)),
        ));
    ordered = one.ordered;
    formed = one.formed;
    real_time = keeps_real_time a law scripts one.order orders.0 orders.1.deciding one.timeline
        one.ordered one.formed;
    starts = one.starts;
    least_units = one.least_units;
    most_units = one.most_units;
    machine = subst (λ (us : List WorkerState). IsOfMachine c us one.order) (sym (heap_workers a ws))
        one.machine;
  }

-- What one worker did after all that another had seen comes after what that one had done.
pub stands_behind : {Op Row Answer S : Type 0} (a : Rows Op Row Answer S) (law : Lawful a)
    → StandBehindWhatWasSeen a
stands_behind a law c ws cycles is old new other op answer did all seen more =
    let begins : IsStartOf did.start is.history = (
      did.on.0 ++ more.0,
      more.1 ∙ ap (λ s. s ++ more.0) did.on.1
          ∙ append_assoc did.start did.on.0 more.0,
    ) in
    let u : ℕ = thread_of other in
    stands a law is.scripts is.history is.order is.linear.deciding is.run.traces_whole did.start begins
    is.read u (thread_of old) other.done old.done other.worker.thread.log (part u seen.0)
    old.worker.thread.log all.read did.was.read
    (ap (part u) seen.1 ∙ part_append u other.worker.seen seen.0 ∙ ap (λ l. l ++ part u seen.0) all.its)
    all.rows did.own did.was.rows

-- An operation comes after what was seen before it began.
pub come_after : {Op Row Answer S : Type 0} (a : Rows Op Row Answer S) (law : Lawful a)
    → OperationsComeAfter a
come_after a law c ws cycles is v x y op answer did sound all lined line =
    let begun : IsStartOf v.worker.seen did.start =
    subst (λ h. IsStartOf h did.start) (sym sound.ordered)
    (subst (λ h. IsStartOf (history_of v.worker.timeline) h) (sym did.started)
    (history_start v.worker.timeline did.past line)) in
    let seen : IsStartOf y.worker.seen is.history =
    subst (λ h. IsStartOf h is.history) (sym did.sound.ordered)
    (subst (λ h. IsStartOf (history_of y.worker.timeline) h) (sym is.ordered)
    (history_start y.worker.timeline is.timeline lined)) in
    stands_behind a law c ws cycles is x y v op answer did all begun seen

-- Two operations are in the order of their invocations, or the second began before the first
-- returned.
pub are_in_order : {Op Row Answer S : Type 0} (a : Rows Op Row Answer S) → OperationsAreInOrder a
are_in_order a c ws cycles is u v x y op next answer told first second lined then_lined =
    let call : Moment = moments.Invoked (thread_of x) second.command in
    let whole : second.past ++ call ∷ (second.invoked.0 ++ then_lined.0)
    ≡ v.worker.timeline ++ lined.0 =
    sym (append_assoc second.past (call ∷ second.invoked.0) then_lined.0)
    ∙ ap (λ l. l ++ then_lined.0)
    (sym (append_assoc second.past (call ∷ []) second.invoked.0) ∙ sym second.invoked.1)
    ∙ sym then_lined.1 ∙ lined.1 in
    before_or_after v.worker.timeline lined.0 second.past call (second.invoked.0 ++ then_lined.0)
    whole

-- An operation that began after a stamp comes after what was done before a stamp that is no greater.
pub come_after_stamps : {Op Row Answer S : Type 0} (a : Rows Op Row Answer S) (law : Lawful a)
    → OperationsComeAfterStamps a
come_after_stamps a law c ws cycles is u v x y w z n m op answer first all second low did begun lined then_lined =
    let past_then : IsStartOf did.past z.worker.timeline = (
      moments.Invoked (thread_of w) did.command ∷ did.invoked.0,
      did.invoked.1 ∙ append_assoc did.past (moments.Invoked (thread_of w) did.command ∷ [])
          did.invoked.0,
    ) in
    let on : IsStartOf y.worker.timeline is.timeline =
    starts_on y.worker.timeline did.past is.timeline begun
    (starts_on did.past z.worker.timeline is.timeline past_then then_lined) in
    elim (stamps_in_order is.timeline u.worker v.worker x.worker y.worker n m first.drawn
    second.drawn low lined on) [
      | inl line ↦ inl (come_after a law c ws cycles is v w z op answer did first.drawn.sound all
          then_lined (starts_on v.worker.timeline y.worker.timeline did.past line begun))
      | inr many ↦ inr many
    ]
