-- Between any two steps, what was answered so far is a plain table's.
use Rattle.std.proofs.Common.{◌≡◌, ℕ, zero, suc, ◌<◌, ◌≤◌, eqb, eqb-true, inl, inr, refl, arith, subst, sym, ap, ◌∙◌, List, [], ◌∷◌, ◌++◌, length, map, get_or, slice_index_or}
use Rattle.std.specs.Prelude.{flat_map}
use Rattle.std.proofs.lemmas.Bool.{cases_Bool, cases_lt}
use Rattle.std.proofs.lemmas.List.{append_assoc, append-nil, length-append, length-map, get_or_past}
use Rattle.std.proofs.Math.ListN.{get_or-map}
use mathlib.Core.Option.{some}
use lib.ListN.{get_elem?}
use Rattle.atomic_table.specs.Table as table
use Rattle.block_store.specs.declared.Config.{Config}
use Rattle.block_store.specs.Phases.{bit}
use Rattle.never_heap.specs.declared.Command.{Command}
use Rattle.never_heap.specs.declared.Entry.{Entry}
use Rattle.never_heap.specs.declared.Reply.{Reply}
use Rattle.never_heap.specs.Histories.{HistoryItem, part, parts, replay}
use Rattle.never_heap.specs.Licensed.{Licensed, NoFulls}
use Rattle.never_heap.specs.RightWork.{RightWork}
use Rattle.heap_system.specs.Locals.{LocalState}
use Rattle.heap_system.specs.Machines.{heap_in, local_in, no_local}
use Rattle.heap_system.specs.Pictures.{entries_waiting}
use Rattle.heap_system.specs.Systems.{Whole}
use Rattle.heap_system.proofs.Lemmas.{Kept, LocalKept, first_commands, kept_of}
use Rattle.array_tables.specs.operations.Linearizations.{Call, calls_of, answers_told, replies_in, traces_of}
use Rattle.array_tables.specs.operations.RunPrefixes.{IsRunSoFar, IsLinearizationSoFar}
use Rattle.never_heap.proofs.Lemmas.{logged, parts_count}
use Rattle.shared_heap.specs.declared.rules.ThreadView.{ThreadView}
use Rattle.shared_heap.specs.declared.rules.View.{View}
use Rattle.shared_heap.specs.Prefixes.{FitsOneHistory}
use Rattle.shared_heap.specs.Shared.{AllFit, Fits, SharedKept, seats_of, threads_of}
use Rattle.shared_heap.specs.Workers.{WorkerState}
use Rattle.control_heap.proofs.RunGrowth.{here}
use Rattle.shared_heap.proofs.Lemmas.{fits_one, fits_order}
use Rattle.atom_board.proofs.AllMutators.{get_or_map}
use Rattle.live_tables.specs.rows.Behind.{answers_in, operations_in}
use Rattle.live_tables.specs.rows.Rows.{Rows, IsRowHeap, answers_of, commands_in, commands_of, replies}
use Rattle.live_tables.specs.rows.Workers.{IsRowWorker, row_worker}
use Rattle.live_tables.specs.rows.SoFar.{AllThreads, AllSeats, IsAt, IsBetween, IsWithin, IsWorking, Execute, HasCalls, HaveInvoked, AllHaveCalls, FitsOneOrder}
use Rattle.live_tables.proofs.rows.Cuts.{begins_so, decided_so_far, ops_of, ops_of_calls}
use Rattle.live_tables.specs.rows.Lawful.{Lawful}
use Rattle.live_tables.proofs.rows.RealTime.{keeps_real_time}
use Rattle.live_tables.proofs.rows.AnswersOfOperations.{as_many_answers, commands_more, rows_more, told_within}

none_left : {X : Type 0} (xs ys zs : List X) → zs ≡ xs ++ ys → length zs ≡ length xs → zs ≡ xs
none_left xs [] zs e same = e ∙ append-nil xs
none_left xs (y ∷ ys) zs e same =
    absurd (omega (arith, ap length e, length-append xs (y ∷ ys), same))

-- ---- what a thread may do whose worker is between two operations or in the middle of one

abbrev Does : {Op Row Answer S : Type 0} → Rows Op Row Answer S → LocalState → List Op → Type 0
Does a l ops = a.AreDone l.config.shared l.thread ops
    × (rest : List Command) × (commands_of a ops ≡ l.trace ++ rest)

module _ {Op Row Answer S : Type 0} (a : Rows Op Row Answer S) (law : Lawful a) where
  does_between : (l : LocalState) → IsBetween a l → (ops : List Op) × Does a l ops
  does_between l b = subst (λ (x : LocalState). (ops : List Op) × Does a x ops) b.1 (
    a.operations_of b.0.thread.thread b.0.thread.trace,
    (b.2.inside, [], sym b.2.asked ∙ sym (append-nil b.0.thread.trace)),
  )

  module _ (l : LocalState) (i : IsWithin a l) where
    abbrev before : List Op
    before = a.operations_of i.worker.thread.thread i.worker.thread.trace

    may_do : a.AreDone l.config.shared l.thread (before ++ i.operation ∷ [])
    may_do =
        subst (λ (t : ℕ). a.AreDone l.config.shared t (before ++ i.operation ∷ [])) (sym i.thread)
        (subst (λ (c : Config). a.AreDone c.shared i.worker.thread.thread
        (before ++ i.operation ∷ [])) (sym i.config)
        (law.more i.worker.thread.config.shared i.worker.thread.thread before i.operation
        i.between.inside i.next))

    does_within : (ops : List Op) × Does a l ops
    does_within = (
      before ++ i.operation ∷ [],
      (
        may_do,
        i.left,
        commands_more a before (i.operation ∷ [])
            ∙ (λ j. sym i.between.asked j ++ i.commands j)
            ∙ sym (append_assoc i.worker.thread.trace i.given i.left)
            ∙ ap (λ ks. ks ++ i.left) (sym i.trace),
      ),
    )

  does : (l : LocalState) → IsWorking a l → (ops : List Op) × Does a l ops
  does l is = elim is [ inl b ↦ does_between l b | inr i ↦ does_within l i ]

-- of each of these, one of those that it is in a relation with
chosen_at : {A B : Type 0} (R : A → B → Type 0) (d : A) (x : A) (xs : List A) (y : B) (ys : List B)
    → R x y → ((i : ℕ) (e : B) → i < length xs → R (get_or xs i d) (get_or ys i e))
    → (i : ℕ) (e : B) → i < length (x ∷ xs) → R (get_or (x ∷ xs) i d) (get_or (y ∷ ys) i e)
chosen_at R d x xs y ys first rest zero e low = first
chosen_at R d x xs y ys first rest (suc i) e low = rest i e (omega arith)

chosen : {A B : Type 0} (R : A → B → Type 0) (d : A) (xs : List A)
    → ((i : ℕ) → i < length xs → (y : B) × R (get_or xs i d) y)
    → (ys : List B) × (length ys ≡ length xs)
    × ((i : ℕ) (e : B) → i < length xs → R (get_or xs i d) (get_or ys i e))
chosen R d [] each = ([], refl, λ i e low. absurd (omega arith))
chosen R d (x ∷ xs) each =
    let first = each 0 (omega arith) in
    let rest = chosen R d xs (λ i low. each (suc i) (omega arith)) in (
      first.0 ∷ rest.0,
      omega (arith, rest.1),
      chosen_at R d x xs first.0 rest.0 first.1 rest.2,
    )

-- ---- the moment

module _ {Op Row Answer S : Type 0} (a : Rows Op Row Answer S) (law : Lawful a) (k : Whole)
    (s : table.State Command View) (kept : SharedKept k s) where
  abbrev c : Config
  c = k.config

  abbrev history : List HistoryItem
  history = kept.run.order

  all : Kept c kept.by.after.traces kept.run
  all = kept_of c kept.run kept.by.after

  -- what holds of all threads in the seats holds of each thread of the heap
  in_view : (P : LocalState → Type 0) (t : ℕ) → t < c.threads → (hs : List ThreadView)
      → 0 < threads_of t hs → AllFit c kept.run hs → AllThreads P hs → P (local_in c kept.run t)
  in_view P t tl [] more fit each = absurd (omega (arith, more))
  in_view P t tl (h ∷ hs) more fit each = elim (cases_Bool (eqb t h.local.thread)) [
    | inl e ↦
        let named : t ≡ h.local.thread = eqb-true t h.local.thread e in
        subst P (here c t tl kept.run kept.by.after h.local
        (subst (λ u. h.local ≡ get_or kept.run.state.locals u h.local) (sym named) fit.0.1)) each.0
    | inr e ↦ in_view P t tl hs
        (let none : bit (eqb t h.local.thread) ≡ 0 = ap bit e in omega (arith, none, more))
        fit.1 each.1
  ]

  in_views : (P : LocalState → Type 0) (t : ℕ) → t < c.threads → (views : List View)
      → 0 < seats_of t views
      → ((id : ℕ) (v : View) → get_elem? views id ≡ some v
      → AllFit c kept.run v.threads × AllThreads P v.threads)
      → P (local_in c kept.run t)
  in_views P t tl [] more each = absurd (omega (arith, more))
  in_views P t tl (v ∷ vs) more each = elim (cases_lt 0 (threads_of t v.threads)) [
    | inl low ↦ in_view P t tl v.threads low (each 0 v refl).0 (each 0 v refl).1
    | inr none ↦ in_views P t tl vs (omega (arith, none, more)) (λ id w at. each (suc id) w at)
  ]

  of_each : (P : LocalState → Type 0) → AllSeats P s → (t : ℕ) → t < c.threads
      → P (local_in c kept.run t)
  of_each P each t tl = in_views P t tl s.views (omega (arith, kept.once t tl))
      (λ id v at. ((kept.each id v at).0, each id v at))

  own_of : (h : ThreadView) → Fits c kept.run h → h.local ≡ local_in c kept.run h.local.thread
  own_of h fit = here c h.local.thread fit.0 kept.run kept.by.after h.local fit.1

  module _ (rows : IsRowHeap a k.config) (scripts : List (List Op))
      (execute : Execute a k.config s scripts) where
    abbrev script : ℕ → List Op
    script t = slice_index_or scripts t []

    abbrev fits : FitsOneHistory c s
    fits = fits_one k s kept

    same : fits.order ≡ history
    same = fits_order k s kept

    abbrev own : (t : ℕ) → t < c.threads
        → LocalKept c (get_or kept.by.after.traces t []) (replay c history) history
        (heap_in c kept.run.state) kept.run.names t (local_in c kept.run t)
    own t tl = all.locals t tl

    first_of : (t : ℕ) → t < c.threads → (rest : List Command)
        × ((local_in c kept.run t).trace ≡ commands_in (part t history) ++ rest)
    first_of t tl = first_commands (replay c history) (local_in c kept.run t) (part t history)
        (own t tl).told (own t tl).fits (own t tl).said

    others : (u : ℕ) → c.threads ≤ u → part u history ≡ []
    others u high = all.foreign u high

    -- what was done of a script, and the commands that are left of it
    script_so_far : (t : ℕ) → t < c.threads
        → (rest : List Command) × (commands_of a (script t) ≡ commands_in (part t history) ++ rest)
    script_so_far t tl =
        let at : IsAt a scripts (local_in c kept.run t) =
        of_each (IsAt a scripts) execute.each t tl in
        let first = first_of t tl in (
          first.0 ++ at.0,
          ap (λ u. commands_of a (script u)) (sym (own t tl).thread) ∙ at.1
              ∙ ap (λ ks. ks ++ at.0) first.1
              ∙ append_assoc (commands_in (part t history)) first.0 at.0,
        )

    -- ---- its run

    abbrev firsts : List (List Command)
    firsts = map commands_in (parts c.threads history)

    firsts_at : (t : ℕ) → get_or firsts t [] ≡ commands_in (part t history)
    firsts_at t = elim (cases_lt t c.threads) [
      | inl low ↦ get_or-map commands_in (parts c.threads history) t []
          ∙ ap commands_in (sym (logged c.threads history (parts c.threads history) t refl low))
      | inr high ↦ get_or_past firsts t []
          (omega (
            arith,
            length-map (parts c.threads history) commands_in,
            parts_count 0 c.threads history,
          ))
          ∙ ap commands_in (sym (others t high))
    ]

    trace_at : (t : ℕ) → get_or (traces_of a.rows_of a.command_at scripts) t [] ≡ commands_of a (script t)
    trace_at t =
        get_or-map (λ (ops : List Op). map a.command_at (flat_map a.rows_of ops)) scripts t []

    begins : (t : ℕ) → (rest : List Command)
        × (get_or (traces_of a.rows_of a.command_at scripts) t [] ≡ get_or firsts t [] ++ rest)
    begins t = elim (cases_lt t c.threads) [
      | inl low ↦
          let so = script_so_far t low in
          (so.0, trace_at t ∙ so.1 ∙ ap (λ ks. ks ++ so.0) (sym (firsts_at t)))
      | inr high ↦ (
        commands_of a (script t),
        trace_at t ∙ ap (λ ks. ks ++ commands_of a (script t))
            (sym (firsts_at t ∙ ap commands_in (others t high))),
      )
    ]

    abbrev rate : ℕ
    rate = kept.by.after.by_turns.opening.rate

    run : IsRunSoFar c rate (traces_of a.rows_of a.command_at scripts) history
    run = record {
      firsts = firsts;
      run = record {
        legal = all.names.ordered.legal;
        traces_whole = λ t. sym (firsts_at t);
        licensed = subst (λ o. Licensed c o) same fits.licensed;
        right_work = subst (λ o. RightWork c.width rate o) same
            (fits.right rate kept.by.after.by_turns.opening.planned);
      };
      begins = begins;
    }

    abbrev orders : (order : List (Call Op Answer))
        × IsLinearizationSoFar a.rows_of a.decides a.ends a.say a.act (a.empty c.shared) scripts
        history order
        × NoFulls history
    orders = law.so_far c.threads c.shared c.blocks rate scripts history execute.count
        execute.inside
        (subst (λ (k : Config).
        IsRunSoFar k rate (traces_of a.rows_of a.command_at scripts) history) rows run)

    -- ---- a worker between two operations

    module _ (h : ThreadView) (fit : Fits c kept.run h) (at : IsAt a scripts h.local) (w : WorkerState)
        (its : w.thread ≡ h.local) (between : IsRowWorker a w) where
      abbrev l : LocalState
      l = h.local

      abbrev done : List Op
      done = a.operations_of l.thread l.trace

      asked : l.trace ≡ commands_of a done
      asked = subst (λ (x : LocalState). x.trace ≡ commands_of a (a.operations_of x.thread x.trace)) its
          between.asked

      inside : a.AreDone l.config.shared l.thread done
      inside = subst (λ (x : LocalState). a.AreDone x.config.shared x.thread
          (a.operations_of x.thread x.trace)) its between.inside

      long : length l.log ≡ length l.trace
      long = subst (λ (x : LocalState). length x.log ≡ length x.trace) its between.long

      is : l ≡ local_in c kept.run l.thread
      is = own_of h fit

      told : part l.thread history ≡ l.log ++ entries_waiting (replay c history) l
      told = subst (λ (x : LocalState).
          part l.thread history ≡ x.log ++ entries_waiting (replay c history) x) (sym is)
          (own l.thread fit.0).told

      first : (rest : List Command) × (l.trace ≡ commands_in (part l.thread history) ++ rest)
      first = subst (λ (x : LocalState).
          (rest : List Command) × (x.trace ≡ commands_in (part l.thread history) ++ rest)) (sym is)
          (first_of l.thread fit.0)

      -- its part is its log, whose commands are those of its operations
      part_is : part l.thread history ≡ l.log
      part_is = none_left l.log (entries_waiting (replay c history) l) (part l.thread history) told
          (omega (
            arith,
            long,
            ap length told,
            length-append l.log (entries_waiting (replay c history) l),
            ap length first.1,
            length-append (commands_in (part l.thread history)) first.0,
            length-map (part l.thread history) (λ (e : Entry). e.command),
          ))

      rows_long : length (part l.thread history) ≡ length (flat_map a.rows_of done)
      rows_long = omega (
        arith,
        ap length part_is,
        long,
        ap length asked,
        length-map (flat_map a.rows_of done) a.command_at,
      )

      more : (more : List Op) × (script l.thread ≡ done ++ more)
      more = begins_so a law l.thread done (script l.thread) at.0
          (law.read l.config.shared l.thread done inside)
          (law.read c.shared l.thread (script l.thread) (execute.inside l.thread)) (at.1 ∙ ap (λ ks. ks ++ at.0) asked)

      done_is : operations_in l.thread orders.0 ≡ done
      done_is =
          ops_of_calls a l.thread orders.0
          ∙ ap (ops_of a l.thread) orders.1.deciding
          ∙ decided_so_far a law scripts history l.thread done more.0 0 more.1
          (omega (arith, rows_long))
          ∙ append-nil done

      enough : length (replies_in l.thread history) ≡ length (flat_map a.rows_of done)
      enough = omega (arith, rows_long, length-map (part l.thread history) (λ (e : Entry). e.reply))

      as_told : answers_of a (script l.thread) (replies_in l.thread history)
          ≡ answers_of a done (replies l.log)
      as_told =
          let rs : List Reply = replies_in l.thread history in
          ap (λ ops. answers_of a ops rs) more.1
          ∙ ap (λ rows. answers_told a.ends [] rows rs) (rows_more a done more.0)
          ∙ told_within a (flat_map a.rows_of done) (flat_map a.rows_of more.0) [] rs enough
          ∙ ap (λ es. answers_of a done (replies es)) part_is

      answers_are : answers_in l.thread orders.0 ≡ answers_of a done (replies l.log)
      answers_are =
          let t = orders.1.told l.thread in
          let calls : List (Call Op Answer) = calls_of l.thread orders.0 in
          none_left (answers_of a done (replies l.log)) t.0 (answers_in l.thread orders.0)
          (t.1 ∙ ap (λ xs. xs ++ t.0) as_told)
          (omega (
            arith,
            length-map calls (λ (d : Call Op Answer). d.answer),
            length-map calls (λ (d : Call Op Answer). d.operation),
            ap length done_is,
            ap (λ es. length (answers_of a done (replies es))) part_is,
            as_many_answers a law done (replies_in l.thread history) enough,
          ))

      has_calls : HasCalls orders.0 (row_worker a w)
      has_calls = subst (λ (x : LocalState).
          HasCalls orders.0 (row_worker a (record w { thread = x }))) (sym its)
          (record { done = done_is; answers = answers_are })

    all_have_calls : (hs : List ThreadView) → AllFit c kept.run hs → AllThreads (IsAt a scripts) hs
        → AllHaveCalls a orders.0 hs
    all_have_calls [] fit at = tt
    all_have_calls (h ∷ hs) fit at =
        (λ w its between. has_calls h fit.0 at.0 w its between, all_have_calls hs fit.1 at.1)

    all_invoked : (hs : List ThreadView) → AllFit c kept.run hs
        → AllThreads (HaveInvoked kept.timeline) hs
    all_invoked [] fit = tt
    all_invoked (h ∷ hs) fit = (
      kept.timeline_of.invoked h.local.thread fit.0.0
          ∙ sym (ap (λ (l : LocalState). l.trace) (own_of h fit.0)),
      all_invoked hs fit.1,
    )

    pub fits_order_of : FitsOneOrder a c s scripts history
    fits_order_of = record {
      timeline = kept.timeline;
      order = orders.0;
      rate = rate;
      planned = kept.by.after.by_turns.opening.planned;
      run = run;
      linear = orders.1;
      none_full = orders.2;
      each = λ id v at. (
        all_have_calls v.threads (kept.each id v at).0 (execute.each id v at),
        (kept.each id v at).3,
        (kept.each id v at).1,
        all_invoked v.threads (kept.each id v at).0,
      );
      ordered = kept.timeline_of.ordered;
      formed = kept.timeline_of.formed;
      real_time = keeps_real_time a law scripts history orders.0 orders.1.deciding kept.timeline
          kept.timeline_of.ordered kept.timeline_of.formed;
    }

  -- ---- a moment at which all workers are between two operations

  module _ (between : AllSeats (IsBetween a) s) where
    abbrev done_by : LocalState → List Op
    done_by l = a.operations_of l.thread l.trace

    abbrev done_scripts : List (List Op)
    done_scripts = map done_by kept.run.state.locals

    script_is : (t : ℕ) → t < c.threads
        → slice_index_or done_scripts t [] ≡ done_by (local_in c kept.run t)
    script_is t tl = get_or_map done_by kept.run.state.locals t [] (no_local c)
        (omega (arith, tl, all.threads))

    done_count : length done_scripts ≡ c.threads
    done_count = length-map kept.run.state.locals done_by ∙ all.threads

    in_table : (t : ℕ) → t < c.threads → a.AreDone c.shared t (done_by (local_in c kept.run t))
    in_table t tl =
        let b : IsBetween a (local_in c kept.run t) = of_each (IsBetween a) between t tl in
        let own = all.locals t tl in
        subst (λ (u : ℕ). a.AreDone c.shared u (done_by (local_in c kept.run t))) own.thread
        (subst (λ (x : Config). a.AreDone x.shared (local_in c kept.run t).thread
        (done_by (local_in c kept.run t))) own.config
        (subst (λ (x : LocalState). a.AreDone x.config.shared x.thread (done_by x)) b.1 b.2.inside))

    done_inside : (t : ℕ) → a.AreDone c.shared t (slice_index_or done_scripts t [])
    done_inside t = elim (cases_lt t c.threads) [
      | inl low ↦ subst (λ (l : List Op). a.AreDone c.shared t l) (sym (script_is t low))
          (in_table t low)
      | inr high ↦ subst (λ (l : List Op). a.AreDone c.shared t l)
          (sym (get_or_past done_scripts t [] (omega (arith, done_count, high))))
          (law.none c.shared t)
    ]

    is_at : (h : ThreadView) → Fits c kept.run h → IsBetween a h.local → IsAt a done_scripts h.local
    is_at h fit b = (
      [],
      ap (commands_of a) (script_is h.local.thread fit.0 ∙ ap done_by (sym (own_of h fit)))
          ∙ sym (subst (λ (x : LocalState). x.trace ≡ commands_of a (done_by x)) b.1 b.2.asked)
          ∙ sym (append-nil h.local.trace),
    )

    are_at : (hs : List ThreadView) → AllFit c kept.run hs → AllThreads (IsBetween a) hs
        → AllThreads (IsAt a done_scripts) hs
    are_at [] fit b = tt
    are_at (h ∷ hs) fit b = (is_at h fit.0 b.0, are_at hs fit.1 b.1)

    executed : Execute a c s done_scripts
    executed = record {
      count = done_count;
      inside = done_inside;
      each = λ id v at. are_at v.threads (kept.each id v at).0 (between id v at);
    }

    pub fits_between : IsRowHeap a c
        → (scripts : List (List Op)) × FitsOneOrder a c s scripts kept.run.order
    fits_between rows = (done_scripts, fits_order_of rows done_scripts executed)

  -- ---- any moment

  module _ (working : AllSeats (IsWorking a) s) where
    abbrev locals : List LocalState
    locals = kept.run.state.locals

    does_at : (t : ℕ) → t < length locals
        → (ops : List Op) × Does a (local_in c kept.run t) ops
    does_at t tl = does a law (local_in c kept.run t)
        (of_each (IsWorking a) working t (omega (arith, tl, all.threads)))

    abbrev choice : (ys : List (List Op)) × (length ys ≡ length locals)
        × ((i : ℕ) (e : List Op) → i < length locals
        → Does a (get_or locals i (no_local c)) (get_or ys i e))
    choice = chosen (Does a) (no_local c) locals does_at

    chosen_for : (t : ℕ) → t < c.threads
        → Does a (local_in c kept.run t) (slice_index_or choice.0 t [])
    chosen_for t tl = choice.2 t [] (omega (arith, tl, all.threads))

    choice_inside : (t : ℕ) → a.AreDone c.shared t (slice_index_or choice.0 t [])
    choice_inside t = elim (cases_lt t c.threads) [
      | inl low ↦
          let own = all.locals t low in
          let ops : List Op = slice_index_or choice.0 t [] in
          subst (λ (u : ℕ). a.AreDone c.shared u ops) own.thread
          (subst (λ (x : Config). a.AreDone x.shared (local_in c kept.run t).thread ops) own.config
          (chosen_for t low).0)
      | inr high ↦ subst (λ (l : List Op). a.AreDone c.shared t l)
          (sym (get_or_past choice.0 t [] (omega (arith, choice.1, all.threads, high))))
          (law.none c.shared t)
    ]

    choice_at : (h : ThreadView) → Fits c kept.run h → IsAt a choice.0 h.local
    choice_at h fit =
        let d = chosen_for h.local.thread fit.0 in
        (d.1, d.2 ∙ ap (λ (l : LocalState). l.trace ++ d.1) (sym (own_of h fit)))

    choices_at : (hs : List ThreadView) → AllFit c kept.run hs → AllThreads (IsAt a choice.0) hs
    choices_at [] fit = tt
    choices_at (h ∷ hs) fit = (choice_at h fit.0, choices_at hs fit.1)

    working_execute : Execute a c s choice.0
    working_execute = record {
      count = choice.1 ∙ all.threads;
      inside = choice_inside;
      each = λ id v at. choices_at v.threads (kept.each id v at).0;
    }

    pub fits_working : IsRowHeap a c
        → (scripts : List (List Op)) × FitsOneOrder a c s scripts kept.run.order
    fits_working rows = (choice.0, fits_order_of rows choice.0 working_execute)
