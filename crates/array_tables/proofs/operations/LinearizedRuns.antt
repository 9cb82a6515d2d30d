-- The walk along a run whose threads do operations: what an application owes at each row, and what
-- then holds of every run.
use Rattle.std.proofs.Common.{◌≡◌, ◌≢◌, ℕ, ◌≤◌, ◌==◌, inl, inr, Bool, true, false, Option, Some, None, cond, List, [], ◌∷◌, ◌++◌, length, map, drop, get_or, slice_index_or, eq-eqb, ne_eqb, sym, refl, ap, ◌∙◌, subst, append_assoc, append-nil, length-append, arith}
use Rattle.std.specs.Prelude.{flat_map}
use Rattle.std.proofs.lemmas.Bool.{cases_eq, both_ways}
use Rattle.std.proofs.lemmas.List.{map-append, drop-map, drop-drop, drop-append-le, length-drop}
use Rattle.std.proofs.Math.ListN.{get_or-map}
use Rattle.std.proofs.Math.Path.{subst₃}
use Rattle.block_store.specs.declared.Config.{Config}
use Rattle.never_heap.specs.declared.Command.{Command}
use Rattle.never_heap.specs.declared.Entry.{Entry}
use Rattle.never_heap.specs.declared.Reply.{Reply}
use Rattle.never_heap.specs.Graphs.{Graph, start_graph}
use Rattle.never_heap.specs.Histories.{HistoryItem, Started, Did, is_full, replay, IsAnswered, part}
use Rattle.never_heap.specs.Licensed.{NoFulls}
use Rattle.never_heap.specs.LiveBlocks.{live_blocks}
use Rattle.never_heap.specs.Runs.{IsRun}
use Rattle.never_heap.specs.Coming.{left_of, IsNext, MayCome, IsNoFull}
use Rattle.never_heap.specs.Steps.{step}
use Rattle.never_heap.proofs.Lemmas.{none_left, part_append, replay_more, walk_all}
use Rattle.array_tables.specs.operations.Applications.{Progress, said, acted, kept_next, Tells, op_by, ops_in, moved, fresh, Application}
use Rattle.array_tables.specs.operations.Linearizations.{Call, calls_of, after_calls, AreAnswered, rows_left, traces_of, decided_by, decided_next, decided_at, decided_behind, told_next, seen_next, answers_told, replies_in, IsLinearization}
use Rattle.array_tables.specs.operations.RunPrefixes.{IsRunSoFar, IsLinearizationSoFar}

-- the call that a row of thread t makes, if it decides an operation
abbrev pub calls_by :
    {Op Answer S : Type 0} → (Op → S → Answer) → ℕ → Option Op → S → List (Call Op Answer)
calls_by say t None s = []
calls_by say t (Some op) s = record { thread = t; operation = op; answer = say op s } ∷ []

-- ---- lists of calls

calls_cons : {Op Answer : Type 0} (b : Bool) (d : Call Op Answer) (xs ys zs : List (Call Op Answer))
    → xs ≡ ys ++ zs → cond b (d ∷ xs) xs ≡ cond b (d ∷ ys) ys ++ zs
calls_cons true d xs ys zs h = ap (λ r. d ∷ r) h
calls_cons false d xs ys zs h = h

calls_append : {Op Answer : Type 0} (t : ℕ) (xs ys : List (Call Op Answer))
    → calls_of t (xs ++ ys) ≡ calls_of t xs ++ calls_of t ys
calls_append t [] ys = refl
calls_append t (d ∷ xs) ys = calls_cons (d.thread == t) d _ _ _ (calls_append t xs ys)

module _ {Op Answer S : Type 0} (say : Op → S → Answer) (act : Op → S → S) where
  calls_same : (t : ℕ) (d : Option Op) (s : S)
      → calls_of t (calls_by say t d s) ≡ calls_by say t d s
  calls_same t None s = refl
  calls_same t (Some op) s = rw (eq-eqb t t refl)

  calls_other : (t u : ℕ) (d : Option Op) (s : S) → t ≢ u
      → calls_of u (calls_by say t d s) ≡ []
  calls_other t u None s ne = refl
  calls_other t u (Some op) s ne = rw (ne_eqb t u ne)

  after_more : (t : ℕ) (d : Option Op) (s0 s : S) (order : List (Call Op Answer))
      → after_calls act s0 (order ++ calls_by say t d s) ≡ acted act d (after_calls act s0 order)
  after_more t None s0 s [] = refl
  after_more t (Some op) s0 s [] = refl
  after_more t d s0 s (x ∷ order) = after_more t d (act x.operation s0) s order

  answered_more : (t : ℕ) (d : Option Op) (s0 : S) (order : List (Call Op Answer))
      → AreAnswered say act s0 order
      → AreAnswered say act s0 (order ++ calls_by say t d (after_calls act s0 order))
  answered_more t None s0 [] a = tt
  answered_more t (Some op) s0 [] a = (refl, tt)
  answered_more t d s0 (x ∷ order) a = (a.0, answered_more t d (act x.operation s0) order a.1)

  parts_of : (t : ℕ) (d : Option Op) (s : S) (ops : List Op)
      → (map (λ (x : Call Op Answer). x.answer) (calls_by say t d s) ≡ said say d s)
      × (map (λ (x : Call Op Answer). (x.thread, x.operation)) (calls_by say t d s)
      ≡ decided_by t d)
      × (map (λ (x : Call Op Answer). x.operation) (calls_by say t d s) ++ ops ≡ op_by d ops)
  parts_of t None s ops = (refl, refl, refl)
  parts_of t (Some op) s ops = (refl, refl, refl)

told_split : {Answer : Type 0} (o : Option (List Reply → Answer)) (seen : List Reply)
    (told pending : List Answer) → Tells o seen pending
    → told ++ pending ≡ (told ++ told_next o seen) ++ kept_next o pending
told_split None seen told pending h = ap (λ l. l ++ pending) (sym (append-nil told))
told_split (Some f) seen told pending h =
    ap (λ l. told ++ l) h ∙ sym (append-nil (told ++ f seen ∷ []))

-- ---- rows and what is left of them

-- what may come in a run of the first commands of each trace may come in one of the traces
may_come_in : (c : Config) (rate : ℕ) (firsts traces : List (List Command))
    (past : List HistoryItem) (i : HistoryItem)
    → ((t : ℕ) → (rest : List Command)
    × (slice_index_or traces t [] ≡ slice_index_or firsts t [] ++ rest))
    → MayCome c rate firsts past i → MayCome c rate traces past i
may_come_in c rate firsts traces past i begins may = record {
  first = may.first;
  next = item i may.next;
  answered = may.answered;
  licensed = may.licensed;
  right_work = may.right_work;
}
  where
    item : (i : HistoryItem) → IsNext firsts past i → IsNext traces past i
    item Started next = tt
    item (Did e) next =
        let n = length (part e.thread past) in
        let xs = slice_index_or firsts e.thread [] in
        let ys = (begins e.thread).0 in
        let within = drop-append-le n xs ys (omega (arith, length-drop n xs, ap length next.1)) in
        (next.0 ++ ys, ap (drop n) (begins e.thread).1 ∙ within ∙ ap (λ l. l ++ ys) next.1)

none_told : {Row Answer : Type 0} (ends : Row → Option (List Reply → Answer)) (seen : List Reply)
    (rows : List Row) → answers_told ends seen rows [] ≡ []
none_told ends seen [] = refl
none_told ends seen (row ∷ rows) = refl

next_of : {Row : Type 0} (command_at : Row → Command) (rows : List Row) (command : Command)
    (rest : List Command) → map command_at rows ≡ command ∷ rest
    → (row : Row) × (more : List Row) × (rows ≡ row ∷ more) × (command_at row ≡ command)
next_of command_at [] command rest e = absurd cc
next_of command_at (row ∷ rows) command rest e =
    (row, rows, refl, ap (λ (l : List Command). get_or l 0 command) e)

none_of : {Row : Type 0} (command_at : Row → Command) (rows : List Row)
    → map command_at rows ≡ [] → rows ≡ []
none_of command_at [] e = refl
none_of command_at (row ∷ rows) e = absurd cc

part_same : (t : ℕ) (e : Entry) (past : List HistoryItem) → e.thread ≡ t
    → part t (past ++ Did e ∷ []) ≡ part t past ++ e ∷ []
part_same t e past is =
    part_append t past (Did e ∷ []) ∙ ap (λ l. part t past ++ l) (rw (eq-eqb e.thread t is))

part_other : (t : ℕ) (e : Entry) (past : List HistoryItem) → e.thread ≢ t
    → part t (past ++ Did e ∷ []) ≡ part t past
part_other t e past ne =
    part_append t past (Did e ∷ [])
    ∙ ap (λ l. part t past ++ l) (rw (ne_eqb e.thread t ne)) ∙ append-nil (part t past)

part_start : (t : ℕ) (past : List HistoryItem) → part t (past ++ Started ∷ []) ≡ part t past
part_start t past = part_append t past (Started ∷ []) ∙ append-nil (part t past)

module _ {Op Row : Type 0} (rows_of : Op → List Row) (command_at : Row → Command)
    (decides : Row → Option Op) (scripts : List (List Op)) where
  left_rows : (past : List HistoryItem) (t : ℕ)
      → left_of (traces_of rows_of command_at scripts) past t
      ≡ map command_at (rows_left rows_of scripts past t)
  left_rows past t =
      ap (drop (length (part t past)))
      (get_or-map (λ (ops : List Op). map command_at (flat_map rows_of ops)) scripts t [])
      ∙ drop-map command_at (length (part t past)) (flat_map rows_of (slice_index_or scripts t []))

  decided_more : (before past : List HistoryItem) (i : HistoryItem)
      → decided_behind rows_of decides scripts before (past ++ i ∷ [])
      ≡ decided_behind rows_of decides scripts before past
      ++ decided_at rows_of decides scripts (before ++ past) i
  decided_more before [] i =
      append-nil (decided_at rows_of decides scripts before i)
      ∙ ap (λ (p : List HistoryItem). decided_at rows_of decides scripts p i)
      (sym (append-nil before))
  decided_more before (x ∷ past) i =
      ap (λ l. decided_at rows_of decides scripts before x ++ l)
      (decided_more (before ++ x ∷ []) past i
      ∙ ap (λ (p : List HistoryItem).
      decided_behind rows_of decides scripts (before ++ x ∷ []) past
      ++ decided_at rows_of decides scripts p i) (append_assoc before (x ∷ []) past))
      ∙ sym (append_assoc (decided_at rows_of decides scripts before x)
      (decided_behind rows_of decides scripts (before ++ x ∷ []) past)
      (decided_at rows_of decides scripts (before ++ x ∷ past) i))

-- ---- the walk

module _ {Op Row Answer S : Type 0} {c : Config} {rows_of : Op → List Row}
    {command_at : Row → Command} {decides : Row → Option Op}
    {ends : Row → Option (List Reply → Answer)} {say : Op → S → Answer} {act : Op → S → S}
    {empty : S}
    {scripts : List (List Op)}
    {Holds : Graph → (ℕ → Progress Row Answer) → S → Type 0}
    (app : Application c rows_of command_at decides ends say act empty scripts Holds) where
  -- the operations of thread t, and their rows
  abbrev script : ℕ → List Op
  script t = slice_index_or scripts t []

  abbrev script_rows : ℕ → List Row
  script_rows t = flat_map rows_of (script t)

  abbrev traces : List (List Command)
  traces = traces_of rows_of command_at scripts

  abbrev left : List HistoryItem → ℕ → List Row
  left past t = rows_left rows_of scripts past t

  -- what holds of one thread's entries and calls
  record Own (p : List Entry) (calls : List (Call Op Answer)) (m : Progress Row Answer) (t : ℕ)
      : Type 0 where
    todo : m.todo ≡ drop (length p) (script_rows t)
    each : map (λ (d : Call Op Answer). d.operation) calls ++ ops_in decides m.todo ≡ script t
    told : List Answer
    pends : map (λ (d : Call Op Answer). d.answer) calls ≡ told ++ m.pending
    tells : (more : List Reply)
        → answers_told ends [] (script_rows t) (map (λ (e : Entry). e.reply) p ++ more)
        ≡ told ++ answers_told ends m.seen m.todo more

  record Inv (past : List HistoryItem) : Type 0 where
    order : List (Call Op Answer)
    at : ℕ → Progress Row Answer
    holds : Holds (replay c past) at (after_calls act empty order)
    answered : AreAnswered say act empty order
    deciding : map (λ (d : Call Op Answer). (d.thread, d.operation)) order
        ≡ decided_behind rows_of decides scripts [] past
    own : (t : ℕ) → Own (part t past) (calls_of t order) (at t) t

  whole_script : (ops : List Op) → ops_in decides (flat_map rows_of ops) ≡ ops
  whole_script [] = refl
  whole_script (op ∷ ops) =
      app.whole op (flat_map rows_of ops) ∙ ap (λ l. op ∷ l) (whole_script ops)

  first : Inv []
  first = record {
    order = [];
    at = fresh rows_of scripts;
    holds = app.starts;
    answered = tt;
    deciding = refl;
    own = λ t. record {
      todo = refl;
      each = whole_script (script t);
      told = [];
      pends = refl;
      tells = λ more. refl;
    };
  }

  -- an entry takes the thread's next row
  own_next : (t : ℕ) (p : List Entry) (e : Entry) (calls : List (Call Op Answer))
      (m : Progress Row Answer) (row : Row) (rows : List Row) (s : S) → m.todo ≡ row ∷ rows
      → Tells (ends row) (m.seen ++ e.reply ∷ []) (m.pending ++ said say (decides row) s)
      → Own p calls m t → Own (p ++ e ∷ []) (calls ++ calls_by say t (decides row) s)
      (moved decides ends say m row rows e.reply s) t
  own_next t p e calls m row rows s next tells o =
      let new : List (Call Op Answer) = calls_by say t (decides row) s in
      let op : Call Op Answer → Op = λ x. x.operation in
      let ans : Call Op Answer → Answer = λ x. x.answer in
      let rep : Entry → Reply = λ x. x.reply in
      let seen : List Reply = m.seen ++ e.reply ∷ [] in
      let parts = parts_of say act t (decides row) s (ops_in decides rows) in
      record {
        todo = ap (drop 1) (sym next ∙ o.todo) ∙ drop-drop 1 (length p) (script_rows t)
            ∙ ap (λ (n : ℕ). drop n (script_rows t)) (sym (length-append p (e ∷ [])));
        each = ap (λ (l : List Op). l ++ ops_in decides rows) (map-append op calls new)
            ∙ append_assoc (map op calls) (map op new) (ops_in decides rows)
            ∙ ap (λ (l : List Op). map op calls ++ l) parts.2
            ∙ ap (λ (l : List Row). map op calls ++ ops_in decides l) (sym next) ∙ o.each;
        told = o.told ++ told_next (ends row) seen;
        pends = map-append ans calls new
            ∙ (λ i. o.pends i ++ parts.0 i)
            ∙ append_assoc o.told m.pending (said say (decides row) s)
            ∙ told_split (ends row) seen o.told (m.pending ++ said say (decides row) s) tells;
        tells = λ more. ap (λ (l : List Reply). answers_told ends [] (script_rows t) (l ++ more))
            (map-append rep p (e ∷ []))
            ∙ ap (answers_told ends [] (script_rows t))
            (append_assoc (map rep p) (e.reply ∷ []) more)
            ∙ o.tells (e.reply ∷ more)
            ∙ ap (λ (l : List Row). o.told ++ answers_told ends m.seen l (e.reply ∷ more)) next
            ∙ sym (append_assoc o.told (told_next (ends row) seen)
            (answers_told ends (seen_next (ends row) seen) rows more));
      }

  -- who has this row next, after the entry
  abbrev places : (ℕ → Progress Row Answer) → ℕ → Progress Row Answer → ℕ → Progress Row Answer
  places at t m u = cond (t == u) m (at u)

  answer_is : (g : Graph) (e : Entry) → IsNoFull (Did e) → IsAnswered g (Did e)
      → e.reply ≡ (step g e.thread e.command).1
  answer_is g e nf (inl r) = r
  answer_is g e nf (inr f) = absurd (both_ways (is_full e.reply) nf f.0)

  module _ (rate : ℕ) where
    entry_step : (past : List HistoryItem) (e : Entry) → MayCome c rate traces past (Did e)
        → IsNoFull (Did e) → Inv past → Inv (past ++ Did e ∷ [])
    entry_step past e may nf inv =
        let t : ℕ = e.thread in
        let g : Graph = replay c past in
        let s : S = after_calls act empty inv.order in
        let m : Progress Row Answer = inv.at t in
        let o = inv.own t in
        let found = next_of command_at (left past t) e.command may.next.0
        (sym (left_rows rows_of command_at decides scripts past t) ∙ may.next.1) in
        let row : Row = found.0 in
        let rows : List Row = found.1 in
        let is_row : command_at row ≡ e.command = found.3 in
        let next : m.todo ≡ row ∷ rows = o.todo ∙ found.2 in
        let reply : e.reply ≡ (step g t (command_at row)).1 =
        answer_is g e nf may.answered ∙ ap (λ (k : Command). (step g t k).1) (sym is_row) in
        let graph : (step g t (command_at row)).0 ≡ replay c (past ++ Did e ∷ []) =
        ap (λ (k : Command). (step g t k).0) is_row
        ∙ sym (replay_more (start_graph c) past (Did e)
        ∙ ap (λ (b : Bool). cond b g (step g t e.command).0) nf) in
        let after : Progress Row Answer = moved decides ends say m row rows e.reply s in
        let new : ℕ → Progress Row Answer = places inv.at t after in
        let same : new t ≡ after = rw (eq-eqb t t refl) refl in
        let other : (u : ℕ) → t ≢ u → new u ≡ inv.at u = λ u ne. rw (ne_eqb t u ne) refl in
        let order : List (Call Op Answer) = inv.order ++ calls_by say t (decides row) s in
        let pending : List Answer = m.pending ++ said say (decides row) s in
        let tells : Tells (ends row) (m.seen ++ e.reply ∷ []) pending =
        subst (λ (r : Reply). Tells (ends row) (m.seen ++ r ∷ []) pending) (sym reply)
        (app.tells g inv.at s t row rows inv.holds next) in
        record {
          order = order;
          at = new;
          holds = subst (λ (k : Graph). Holds k new (after_calls act empty order)) graph
              (subst (Holds (step g t (command_at row)).0 new)
              (sym (after_more say act t (decides row) empty s inv.order))
              (app.goes g inv.at new s t row rows inv.holds next other
              (same ∙ ap (λ (r : Reply). moved decides ends say m row rows r s) reply)));
          answered = answered_more say act t (decides row) empty inv.order inv.answered;
          deciding = map-append (λ (d : Call Op Answer). (d.thread, d.operation)) inv.order
              (calls_by say t (decides row) s)
              ∙ (λ i. inv.deciding i ++ (parts_of say act t (decides row) s []).1 i)
              ∙ ap (λ l. decided_behind rows_of decides scripts [] past ++ l)
              (sym (ap (λ (l : List Row). decided_next decides t l) (sym o.todo ∙ next)))
              ∙ sym (decided_more rows_of command_at decides scripts [] past (Did e));
          own = λ u. elim (cases_eq t u) [
            | inl is ↦ subst (λ k. Own (part k (past ++ Did e ∷ [])) (calls_of k order) (new k) k)
                is (subst₃ (λ p ds x. Own p ds x t) (sym (part_same t e past refl))
                (sym (calls_append t inv.order (calls_by say t (decides row) s)
                ∙ ap (λ l. calls_of t inv.order ++ l) (calls_same say act t (decides row) s)))
                (sym same)
                (own_next t (part t past) e (calls_of t inv.order) m row rows s next tells o))
            | inr ne ↦ subst₃ (λ p ds x. Own p ds x u) (sym (part_other u e past ne))
                (sym (calls_append u inv.order (calls_by say t (decides row) s)
                ∙ ap (λ l. calls_of u inv.order ++ l) (calls_other say act t u (decides row) s ne)
                ∙ append-nil (calls_of u inv.order))) (sym (other u ne)) (inv.own u)
          ];
        }

    start_step : (past : List HistoryItem) → Inv past → Inv (past ++ Started ∷ [])
    start_step past inv = record {
      order = inv.order;
      at = inv.at;
      holds = subst (λ (g : Graph). Holds g inv.at (after_calls act empty inv.order))
          (sym (replay_more (start_graph c) past Started)) inv.holds;
      answered = inv.answered;
      deciding = inv.deciding
          ∙ sym (decided_more rows_of command_at decides scripts [] past Started
          ∙ append-nil (decided_behind rows_of decides scripts [] past));
      own = λ t. subst (λ (p : List Entry). Own p (calls_of t inv.order) (inv.at t) t)
          (sym (part_start t past)) (inv.own t);
    }

    item_step : (past : List HistoryItem) (i : HistoryItem) → MayCome c rate traces past i
        → IsNoFull i → Inv past → Inv (past ++ i ∷ [])
    item_step past Started may nf inv = start_step past inv
    item_step past (Did e) may nf inv = entry_step past e may nf inv

    within : (past : List HistoryItem) → Inv past → live_blocks c.width (replay c past) ≤ c.live
    within past inv =
        app.few (replay c past) inv.at (after_calls act empty inv.order) inv.holds

    ended : (h : List HistoryItem) → IsRun c rate traces h → (inv : Inv h) → (t : ℕ)
        → (inv.at t).todo ≡ []
    ended h run inv t =
        (inv.own t).todo
        ∙ none_of command_at (left h t)
        (sym (left_rows rows_of command_at decides scripts h t) ∙ none_left c rate traces h t run)

    abbrev so_far : (h : List HistoryItem) → (inv : Inv h)
        → IsLinearizationSoFar rows_of decides ends say act empty scripts h inv.order
    so_far h inv = record {
      each = λ t. (ops_in decides (inv.at t).todo, (inv.own t).each);
      deciding = inv.deciding;
      answered = inv.answered;
      told = λ t. let o = inv.own t in (
        (inv.at t).pending,
        o.pends
            ∙ ap (λ (l : List Answer). l ++ (inv.at t).pending)
            (sym (ap (λ (l : List Reply). answers_told ends [] (script_rows t) l)
            (sym (append-nil (replies_in t h)))
            ∙ o.tells []
            ∙ ap (λ (l : List Answer). o.told ++ l)
            (none_told ends (inv.at t).seen (inv.at t).todo)
            ∙ append-nil o.told)),
      );
    }

    done : (h : List HistoryItem) → IsRun c rate traces h → (inv : Inv h)
        → IsLinearization rows_of decides ends say act empty scripts h inv.order
    done h run inv = let s = so_far h inv in record {
      each = λ t. sym (append-nil (map (λ (d : Call Op Answer). d.operation)
          (calls_of t inv.order)))
          ∙ ap (λ (l : List Row). map (λ (d : Call Op Answer). d.operation) (calls_of t inv.order)
          ++ ops_in decides l) (sym (ended h run inv t)) ∙ (s.each t).1;
      deciding = inv.deciding;
      answered = inv.answered;
      told = λ t. (s.told t).1
          ∙ ap (λ (l : List Answer). answers_told ends [] (script_rows t) (replies_in t h) ++ l)
          (app.rests (replay c h) inv.at (after_calls act empty inv.order) t inv.holds
          (ended h run inv t)) ∙ append-nil _;
    }

    -- every run does all operations in one order, and has no full
    pub linearized : (h : List HistoryItem) → IsRun c rate traces h
        → (order : List (Call Op Answer))
        × IsLinearization rows_of decides ends say act empty scripts h order
        × NoFulls h
    linearized h run =
        let both = walk_all c rate traces Inv within item_step h first run in
        (both.0.order, done h run both.0, both.1)

    -- so does the beginning of every run
    pub linearized_so_far : (h : List HistoryItem) → IsRunSoFar c rate traces h
        → (order : List (Call Op Answer))
        × IsLinearizationSoFar rows_of decides ends say act empty scripts h order
        × NoFulls h
    linearized_so_far h begun =
        let both = walk_all c rate begun.firsts Inv within
        (λ past i may nf inv.
        item_step past i (may_come_in c rate begun.firsts traces past i begun.begins may) nf inv)
        h first begun.run in
        (both.0.order, so_far h both.0, both.1)
