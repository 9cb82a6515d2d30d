-- A prefix of a history decides a prefix of the order.
use Rattle.std.proofs.Common.{◌≡◌, ◌≢◌, ℕ, zero, suc, ◌+◌, ◌==◌, inl, inr, Bool, true, false, Option, Some, None, cond, List, [], ◌∷◌, ◌++◌, length, map, take, drop, get_or, slice_index_or, eq-eqb, ne_eqb, sym, refl, ap, ◌∙◌, append_assoc, arith}
use Rattle.std.specs.Prelude.{flat_map}
use Rattle.std.proofs.lemmas.Bool.{cases_eq}
use Rattle.std.proofs.lemmas.List.{append-nil, length-append, length-map, map-append}
use Rattle.std.proofs.Math.ListN.{get_or-map}
use Rattle.never_heap.specs.declared.Command.{Command}
use Rattle.never_heap.specs.declared.Entry.{Entry}
use Rattle.never_heap.specs.Histories.{HistoryItem, Started, Did, HasTraces, part}
use Rattle.never_heap.proofs.Lemmas.{part_append}
use Rattle.array_tables.specs.operations.Applications.{ops_in, op_by}
use Rattle.array_tables.specs.operations.Linearizations.{Call, calls_of, rows_left, traces_of, decided_by, decided_next, decided_at, decided_behind}
use Rattle.shared_heap.specs.Shared.{IsStartOf}
use Rattle.live_tables.specs.rows.Behind.{StandsBehind, operations_in}
use Rattle.live_tables.specs.rows.Rows.{Rows, commands_in, commands_of}
use Rattle.live_tables.specs.rows.Lawful.{Lawful}
use Rattle.live_tables.proofs.rows.AnswersOfOperations.{rows_more}

-- ---- lists

-- a list whose image is two appended lists is two appended lists
pub record IsSplit {A B : Type 0} (f : A → B) (xs : List A) (front back : List B) : Type 0 where
  pub first : List A
  pub later : List A
  pub split : xs ≡ first ++ later
  pub is_first : map f first ≡ front

pub split_map : {A B : Type 0} (f : A → B) (xs : List A) (front back : List B) → map f xs ≡ front ++ back
    → IsSplit f xs front back
split_map f xs [] back e = record { first = []; later = xs; split = refl; is_first = refl }
split_map f [] (a ∷ front) back e = absurd (let z : 0 ≡ length (a ∷ front ++ back) = ap length e in omega (arith, z))
split_map f (x ∷ xs) (a ∷ front) back e =
    let rest = split_map f xs front back (ap (drop 1) e) in
    let head : f x ≡ a = ap (λ l. get_or l 0 a) e in
    record {
      first = x ∷ rest.first;
      later = rest.later;
      split = ap (λ l. x ∷ l) rest.split;
      is_first = λ i. head i ∷ rest.is_first i;
    }

take_past : {X : Type 0} (xs ys : List X) (k : ℕ) → take (length xs + k) (xs ++ ys) ≡ xs ++ take k ys
take_past [] ys k = let e : 0 + k ≡ k = omega arith in ap (λ n. take n ys) e
take_past (x ∷ xs) ys k =
    let e : length (x ∷ xs) + k ≡ suc (length xs + k) = omega arith in
    ap (λ n. take n (x ∷ xs ++ ys)) e ∙ ap (λ l. x ∷ l) (take_past xs ys k)

module _ {Op Row Answer S : Type 0} (a : Rows Op Row Answer S) where
  -- ---- operations of one thread among decided ones

  abbrev pub ops_of : ℕ → List (ℕ × Op) → List Op
  ops_of u [] = []
  ops_of u (p ∷ ps) = cond (p.0 == u) (p.1 ∷ ops_of u ps) (ops_of u ps)

  ops_cons : (b : Bool) (op : Op) (xs ys zs : List Op) → xs ≡ ys ++ zs
      → cond b (op ∷ xs) xs ≡ cond b (op ∷ ys) ys ++ zs
  ops_cons true op xs ys zs h = ap (λ r. op ∷ r) h
  ops_cons false op xs ys zs h = h

  ops_append : (u : ℕ) (xs ys : List (ℕ × Op))
      → ops_of u (xs ++ ys) ≡ ops_of u xs ++ ops_of u ys
  ops_append u [] ys = refl
  ops_append u (p ∷ xs) ys = ops_cons (p.0 == u) p.1 _ _ _ (ops_append u xs ys)

  abbrev pub pair_of_call : Call Op Answer → ℕ × Op
  pair_of_call d = (d.thread, d.operation)

  mapped_cond : (b : Bool) (d : Call Op Answer) (xs : List (Call Op Answer))
      → map (λ (x : Call Op Answer). x.operation) (cond b (d ∷ xs) xs)
      ≡ cond b (d.operation ∷ map (λ (x : Call Op Answer). x.operation) xs)
      (map (λ (x : Call Op Answer). x.operation) xs)
  mapped_cond true d xs = refl
  mapped_cond false d xs = refl

  pub ops_of_calls : (u : ℕ) (xs : List (Call Op Answer))
      → map (λ (x : Call Op Answer). x.operation) (calls_of u xs) ≡ ops_of u (map pair_of_call xs)
  ops_of_calls u [] = refl
  ops_of_calls u (d ∷ xs) =
      mapped_cond (d.thread == u) d (calls_of u xs)
      ∙ ap (λ l. cond (d.thread == u) (d.operation ∷ l) l) (ops_of_calls u xs)

  ops_same : (u t : ℕ) (o : Option Op) → t ≡ u → ops_of u (decided_by t o) ≡ op_by o []
  ops_same u t None e = refl
  ops_same u t (Some op) e = rw (eq-eqb t u e)

  ops_other : (u t : ℕ) (o : Option Op) → t ≢ u → ops_of u (decided_by t o) ≡ []
  ops_other u t None ne = refl
  ops_other u t (Some op) ne = rw (ne_eqb t u ne)

  ops_other_next : (u t : ℕ) (rows : List Row) → t ≢ u → ops_of u (decided_next a.decides t rows) ≡ []
  ops_other_next u t [] ne = refl
  ops_other_next u t (row ∷ rows) ne = ops_other u t (a.decides row) ne

  op_by_more : (o : Option Op) (ops : List Op) → op_by o [] ++ ops ≡ op_by o ops
  op_by_more None ops = refl
  op_by_more (Some op) ops = refl

  drop_one : {X : Type 0} (n : ℕ) (xs : List X) → drop (suc n) xs ≡ drop 1 (drop n xs)
  drop_one zero xs = refl
  drop_one (suc n) [] = refl
  drop_one (suc n) (x ∷ xs) = drop_one n xs

  -- what the next row of thread t decides, and then those after it
  next_ops : (u t : ℕ) (rows : List Row) (n : ℕ) → t ≡ u
      → ops_of u (decided_next a.decides t rows) ++ ops_in a.decides (take n (drop 1 rows))
      ≡ ops_in a.decides (take (suc n) rows)
  next_ops u t [] zero e = refl
  next_ops u t [] (suc n) e = refl
  next_ops u t (row ∷ rows) n e =
      ap (λ l. l ++ ops_in a.decides (take n rows)) (ops_same u t (a.decides row) e)
      ∙ op_by_more (a.decides row) (ops_in a.decides (take n rows))

  module _ (scripts : List (List Op)) where
    abbrev pub behind : List HistoryItem → List HistoryItem → List (ℕ × Op)
    behind past items = decided_behind a.rows_of a.decides scripts past items

    abbrev left : List HistoryItem → ℕ → List Row
    left past u = rows_left a.rows_of scripts past u

    pub split_behind : (past xs ys : List HistoryItem)
        → behind past (xs ++ ys) ≡ behind past xs ++ behind (past ++ xs) ys
    split_behind past [] ys = ap (λ p. behind p ys) (sym (append-nil past))
    split_behind past (i ∷ xs) ys =
        let here = decided_at a.rows_of a.decides scripts past i in
        ap (λ l. here ++ l) (split_behind (past ++ i ∷ []) xs ys)
        ∙ ap (λ p. here ++ (behind (past ++ i ∷ []) xs ++ behind p ys))
        (append_assoc past (i ∷ []) xs)
        ∙ sym (append_assoc here (behind (past ++ i ∷ []) xs) (behind (past ++ i ∷ xs) ys))

    -- an entry of thread u takes the next of its rows, and any other leaves them
    left_same : (past : List HistoryItem) (e : Entry) (u : ℕ) → e.thread ≡ u
        → left (past ++ Did e ∷ []) u ≡ drop 1 (left past u)
    left_same past e u is =
        let rows : List Row = flat_map a.rows_of (slice_index_or scripts u []) in
        let one : part u (Did e ∷ []) ≡ e ∷ [] = rw (eq-eqb e.thread u is) in
        let long : length (part u (past ++ Did e ∷ [])) ≡ suc (length (part u past)) =
        omega (
          arith,
          ap length (part_append u past (Did e ∷ [])),
          length-append (part u past) (part u (Did e ∷ [])),
          ap length one,
        ) in
        ap (λ n. drop n rows) long ∙ drop_one (length (part u past)) rows

    left_other : (past : List HistoryItem) (e : Entry) (u : ℕ) → e.thread ≢ u
        → left (past ++ Did e ∷ []) u ≡ left past u
    left_other past e u ne =
        let rows : List Row = flat_map a.rows_of (slice_index_or scripts u []) in
        let none : part u (Did e ∷ []) ≡ [] = rw (ne_eqb e.thread u ne) in
        ap (λ es. drop (length es) rows)
        (part_append u past (Did e ∷ []) ∙ ap (λ l. part u past ++ l) none
        ∙ append-nil (part u past))

    -- the operations of thread u that are decided in these items
    pub ops_behind : (u : ℕ) (past xs : List HistoryItem)
        → ops_of u (behind past xs) ≡ ops_in a.decides (take (length (part u xs)) (left past u))
    ops_behind u past [] = refl
    ops_behind u past (Started ∷ xs) =
        ops_behind u (past ++ Started ∷ []) xs
        ∙ ap (λ es. ops_in a.decides (take (length (part u xs))
        (drop (length es) (flat_map a.rows_of (slice_index_or scripts u [])))))
        (part_append u past (Started ∷ []) ∙ append-nil (part u past))
    ops_behind u past (Did e ∷ xs) =
        let here = decided_next a.decides e.thread (left past e.thread) in
        let went : ops_of u (behind past (Did e ∷ xs))
        ≡ ops_of u here ++ ops_of u (behind (past ++ Did e ∷ []) xs) =
        ops_append u here (behind (past ++ Did e ∷ []) xs) in
        let next = ops_behind u (past ++ Did e ∷ []) xs in
        elim (cases_eq e.thread u) [
          | inl is ↦
              let one : part u (Did e ∷ xs) ≡ e ∷ part u xs = rw (eq-eqb e.thread u is) in
              let own : left past e.thread ≡ left past u = ap (left past) is in
              went
              ∙ ap (λ l. ops_of u here ++ l) next
              ∙ ap (λ l. ops_of u here ++ ops_in a.decides (take (length (part u xs)) l))
              (left_same past e u is)
              ∙ ap (λ l. ops_of u (decided_next a.decides e.thread l)
              ++ ops_in a.decides (take (length (part u xs)) (drop 1 (left past u)))) own
              ∙ next_ops u e.thread (left past u) (length (part u xs)) is
              ∙ ap (λ es. ops_in a.decides (take (length es) (left past u))) (sym one)
          | inr ne ↦
              let none : part u (Did e ∷ xs) ≡ part u xs = rw (ne_eqb e.thread u ne) in
              went
              ∙ ap (λ l. l ++ ops_of u (behind (past ++ Did e ∷ []) xs))
              (ops_other_next u e.thread (left past e.thread) ne)
              ∙ next
              ∙ ap (λ l. ops_in a.decides (take (length (part u xs)) l)) (left_other past e u ne)
              ∙ ap (λ es. ops_in a.decides (take (length es) (left past u))) (sym none)
        ]

  -- ---- the operations of whole rows

  module _ (law : Lawful a) where
    pub whole_ops : (ops : List Op) (rows : List Row)
        → ops_in a.decides (flat_map a.rows_of ops ++ rows) ≡ ops ++ ops_in a.decides rows
    whole_ops [] rows = refl
    whole_ops (op ∷ ops) rows =
        ap (ops_in a.decides) (append_assoc (a.rows_of op) (flat_map a.rows_of ops) rows)
        ∙ law.whole op (flat_map a.rows_of ops ++ rows)
        ∙ ap (λ l. op ∷ l) (whole_ops ops rows)

    -- the commands of a script begin with those of its first operations alone
    pub begins_so : (t : ℕ) (ops script : List Op) (ks : List Command) → a.AreRead t ops
        → a.AreRead t script → commands_of a script ≡ commands_of a ops ++ ks
        → (more : List Op) × (script ≡ ops ++ more)
    begins_so t ops script ks read all e =
        let r = law.begins t ops ks read in
        (r.0, sym (law.decoded t script all) ∙ ap (a.operations_of t) e ∙ r.1)

    -- what thread u has decided at a start in which it has done these operations and so many rows
    -- more
    pub decided_so_far : (scripts : List (List Op)) (start : List HistoryItem) (u : ℕ)
        (done more : List Op) (n : ℕ) → slice_index_or scripts u [] ≡ done ++ more
        → length (part u start) ≡ length (flat_map a.rows_of done) + n
        → ops_of u (behind scripts [] start) ≡ done ++ ops_in a.decides (take n (flat_map a.rows_of more))
    decided_so_far scripts start u done more n script long =
        let rows_are : flat_map a.rows_of (slice_index_or scripts u [])
        ≡ flat_map a.rows_of done ++ flat_map a.rows_of more =
        ap (flat_map a.rows_of) script ∙ rows_more a done more in
        ops_behind scripts u [] start
        ∙ (λ i. ops_in a.decides (take (long i) (rows_are i)))
        ∙ ap (ops_in a.decides) (take_past (flat_map a.rows_of done) (flat_map a.rows_of more) n)
        ∙ whole_ops done (take n (flat_map a.rows_of more))

    -- ---- the cut

    module _ (scripts : List (List Op)) (h : List HistoryItem) (order : List (Call Op Answer))
        (deciding : map pair_of_call order ≡ decided_behind a.rows_of a.decides scripts [] h)
        (whole : HasTraces (traces_of a.rows_of a.command_at scripts) h)
        (start : List HistoryItem) (begins : IsStartOf start h)
        (read : (t : ℕ) → a.AreRead t (slice_index_or scripts t [])) where
      abbrev cut : IsSplit pair_of_call order (behind scripts [] start) (behind scripts start begins.0)
      cut = split_map pair_of_call order (behind scripts [] start) (behind scripts start begins.0)
          (deciding ∙ ap (λ x. behind scripts [] x) begins.1
          ∙ split_behind scripts [] start begins.0)

      -- what thread u had done when it had this log, where its log is a prefix of its part of the
      -- start
      done_in : (u : ℕ) (done : List Op) (log : List Entry) (rest : List Entry)
          → a.AreRead u done → part u start ≡ log ++ rest
          → commands_in log ≡ commands_of a done
          → (more : List Row) × (operations_in u cut.first
          ≡ done ++ ops_in a.decides (take (length rest) more))
      done_in u done log rest own part_is rows =
          let script : List Op = slice_index_or scripts u [] in
          let all : commands_in (part u h) ≡ commands_of a script =
          whole u ∙ get_or-map (λ (ops : List Op). map a.command_at (flat_map a.rows_of ops)) scripts u [] in
          let parts : part u h ≡ log ++ (rest ++ part u begins.0) =
          ap (part u) begins.1 ∙ part_append u start begins.0
          ∙ ap (λ l. l ++ part u begins.0) part_is ∙ append_assoc log rest (part u begins.0) in
          let so : commands_of a script ≡ commands_of a done ++ commands_in (rest ++ part u begins.0) =
          sym all ∙ ap commands_in parts ∙ map-append (λ (e : Entry). e.command) log (rest ++ part u begins.0)
          ∙ ap (λ l. l ++ commands_in (rest ++ part u begins.0)) rows in
          let m = begins_so u done script (commands_in (rest ++ part u begins.0)) own (read u) so in
          let long : length (part u start) ≡ length (flat_map a.rows_of done) + length rest =
          omega (
            arith,
            ap length part_is,
            length-append log rest,
            length-map log (λ (e : Entry). e.command),
            ap length rows,
            length-map (flat_map a.rows_of done) a.command_at,
          ) in (
            flat_map a.rows_of m.0,
            ops_of_calls u cut.first
                ∙ ap (ops_of u) cut.is_first
                ∙ decided_so_far scripts start u done m.0 (length rest) m.1 long,
          )

      pub stands : (u t : ℕ) (these those : List Op) (log rest own : List Entry)
          → a.AreRead u these → a.AreRead t those → part u start ≡ log ++ rest → commands_in log ≡ commands_of a these
          → part t start ≡ own → commands_in own ≡ commands_of a those
          → StandsBehind order u these t those
      stands u t these those log rest own read_u read_t part_u rows_u part_t rows_t =
          let u_done = done_in u these log rest read_u part_u rows_u in
          let t_done = done_in t those own [] read_t (part_t ∙ sym (append-nil own)) rows_t in
          record {
            first = cut.first;
            later = cut.later;
            split = cut.split;
            more = ops_in a.decides (take (length rest) u_done.0);
            seen = u_done.1;
            own = t_done.1 ∙ append-nil those;
          }
