-- The order of a closed table is one of the logs of its workers, and keeps the order of their stamps.
use Rattle.std.proofs.Common.{◌≡◌, ◌≢◌, ℕ, zero, suc, ◌<◌, ◌≤◌, inl, inr, List, [], ◌∷◌, ◌++◌, length, map, take, slice_index_or, append_assoc, eq-eqb, ne_eqb, sym, refl, ap, ◌∙◌, subst, arith}
use Rattle.std.proofs.lemmas.Bool.{cases_eq}
use Rattle.std.proofs.lemmas.List.{append-nil, length-map, map-append}
use Rattle.std.specs.List.{AllByRecursion}
use Rattle.array_tables.specs.operations.Linearizations.{Call, calls_of}
use Rattle.array_tables.specs.declared.tag_table.operation.Operation.{Operation}
use Rattle.array_tables.specs.tag_table.Tables.{Tag}
use Rattle.shared_heap.specs.declared.rules.Moment.{Moment}
use Rattle.shared_heap.specs.Shared.{stamps_in}
use Rattle.shared_heap.proofs.Lemmas.{starts_on}
use Rattle.live_tables.specs.rows.Behind.{operations_in}
use Rattle.live_tables.specs.rows.Stamped.{IsStampAfter}
use Rattle.live_tables.specs.tags.Live.{HasScript, TagWorkerState, opened_config, tags}
use Rattle.live_tables.specs.rows.Workers.{thread_of}
use Rattle.live_tables.proofs.rows.Closing.{stands_behind}
use Rattle.live_tables.proofs.rows.Stamped.{stamp_later, stamps_keep_order}
use Rattle.live_tables.proofs.tags.Decoded.{law}
use Rattle.plantrun_core.specs.declared.calls.Done.{Done}
use Rattle.plantrun_core.specs.declared.calls.Logs.{Logs}
use Rattle.plantrun_core.specs.declared.hand.Hand.{Hand}
use Rattle.plantrun_core.specs.PlantWorkers.{HasPlant, IsPlantOf}
use Rattle.plantrun_core.specs.Logs.{AllStamped, BeganAfter, IsLog, answer_of, call_by, operation_of}
use Rattle.plantrun_core.specs.PlantOrders.{ActsOnLast, IsPlainOrder, KeepsStamps, log_of}
use Rattle.plantrun_core.specs.Works.{HasActedAfter}

calls_mine : (t : ℕ) (x : Call Operation Tag) (m : List (Call Operation Tag)) → x.thread ≡ t
    → calls_of t (x ∷ m) ≡ x ∷ calls_of t m
calls_mine t x m e = rw (eq-eqb x.thread t e) refl

calls_other : (t : ℕ) (x : Call Operation Tag) (m : List (Call Operation Tag)) → x.thread ≢ t
    → calls_of t (x ∷ m) ≡ calls_of t m
calls_other t x m n = rw (ne_eqb x.thread t n) refl

abbrev Calls : Type 0
Calls = List (Call Operation Tag)

abbrev IsBy : ℕ → Calls → Type 0
IsBy t m = AllByRecursion (λ (c : Call Operation Tag). c.thread ≡ t) m

by_them : (t : ℕ) (m : Calls) → IsBy t (calls_of t m)
by_them t [] = tt
by_them t (c ∷ m) = elim (cases_eq c.thread t) [
  | inl is ↦ subst (IsBy t) (sym (calls_mine t c m is)) (is, by_them t m)
  | inr not ↦ subst (IsBy t) (sym (calls_other t c m not)) (by_them t m)
]

paired : (t : ℕ) (m : Calls) (log : List Done) → IsBy t m
    → map (λ (c : Call Operation Tag). c.operation) m ≡ map operation_of log
    → map (λ (c : Call Operation Tag). c.answer) m ≡ map answer_of log → m ≡ map (call_by t) log
paired t [] [] by ops answers = refl
paired t [] (d ∷ log) by ops answers = absurd (cc ops)
paired t (c ∷ m) [] by ops answers = absurd (cc ops)
paired t (c ∷ m) (d ∷ log) by ops answers =
    let op : c.operation ≡ d.operation = cc in
    let others : map (λ (c : Call Operation Tag). c.operation) m ≡ map operation_of log = cc in
    let tag : c.answer ≡ d.answer = cc in
    let tags : map (λ (c : Call Operation Tag). c.answer) m ≡ map answer_of log = cc in
    let head : c ≡ call_by t d =
    λ i. record { thread = by.0 i; operation = op i; answer = tag i } in
    λ i. head i ∷ paired t m log by.1 others tags i

nothing_by : (t : ℕ) (m : Calls) → map (λ (c : Call Operation Tag). c.operation) m ≡ [] → m ≡ []
nothing_by t [] e = refl
nothing_by t (c ∷ m) e = absurd cc

past_end : (scripts : List (List Operation)) (t : ℕ) → length scripts ≤ t
    → slice_index_or scripts t [] ≡ []
past_end [] t le = refl
past_end (x ∷ scripts) zero le = absurd (omega arith)
past_end (x ∷ scripts) (suc t) le = past_end scripts t (omega arith)

-- what was stamped within a log
stamped_at : (timeline : List Moment) (t : ℕ) (front : List Operation) (earlier rest : List Done)
    (d : Done) → AllStamped timeline t front (earlier ++ d ∷ rest)
    → IsStampAfter tags timeline t (front ++ map operation_of (earlier ++ d ∷ [])) d.stamp
stamped_at timeline t front [] rest d all = all.0
stamped_at timeline t front (x ∷ earlier) rest d all =
    subst (λ (ops : List Operation). IsStampAfter tags timeline t ops d.stamp)
    (append_assoc front (x.operation ∷ []) (map operation_of (earlier ++ d ∷ [])))
    (stamped_at timeline t (front ++ x.operation ∷ []) earlier rest d all.1)

take_front : {A : Type 0} (xs ys : List A) → take (length xs) (xs ++ ys) ≡ xs
take_front [] ys = refl
take_front (x ∷ xs) ys = ap (λ l. x ∷ l) (take_front xs ys)

module _ (a b c d : TagWorkerState) (l : Logs) (cycles : ℕ)
    (p : IsPlantOf a b c d l cycles) where
  worker_at : (t : ℕ) (w : TagWorkerState) → t < 4
      → w ≡ slice_index_or (a ∷ b ∷ c ∷ d ∷ []) t a
      → HasScript p.table.scripts p.table.timeline p.table.history p.table.order t w
  worker_at t w low is =
      let e = p.table.each t low in
      let s : HasScript p.table.scripts p.table.timeline p.table.history p.table.order t
      (slice_index_or (a ∷ b ∷ c ∷ d ∷ []) e.0 a) = e.2 a in
      let j : e.0 ≡ t = at e.0 e.1 s.thread in
      subst (HasScript p.table.scripts p.table.timeline p.table.history p.table.order t)
      (ap (λ (k : ℕ). slice_index_or (a ∷ b ∷ c ∷ d ∷ []) k a) j ∙ sym is) s
    where
      at : (j : ℕ) → j < 4 → thread_of (slice_index_or (a ∷ b ∷ c ∷ d ∷ []) j a) ≡ t → j ≡ t
      at zero lt th = sym p.threads.0 ∙ th
      at (suc zero) lt th = sym p.threads.1 ∙ th
      at (suc (suc zero)) lt th = sym p.threads.2 ∙ th
      at (suc (suc (suc zero))) lt th = sym p.threads.3 ∙ th
      at (suc (suc (suc (suc j)))) lt th = absurd (omega arith)

  calls_are : (t : ℕ) (w : TagWorkerState) (log : List Done) → t < 4
      → w ≡ slice_index_or (a ∷ b ∷ c ∷ d ∷ []) t a → IsLog w log
      → calls_of t p.table.order ≡ map (call_by t) log
  calls_are t w log low is logged =
      let s : HasScript p.table.scripts p.table.timeline p.table.history p.table.order t w = worker_at t w low is in
      paired t (calls_of t p.table.order) log (by_them t p.table.order)
      (p.table.linear.each t ∙ sym s.script ∙ logged.operations)
      (sym s.answers ∙ logged.answers)

  abbrev worker_of : ℕ → TagWorkerState
  worker_of t = slice_index_or (a ∷ b ∷ c ∷ d ∷ []) t a

  logged : (t : ℕ) → t < 4 → IsLog (worker_of t) (log_of l t)
  logged zero low = p.input_log
  logged (suc zero) low = p.control_log
  logged (suc (suc zero)) low = p.alarms_log
  logged (suc (suc (suc zero))) low = p.history_log
  logged (suc (suc (suc (suc t)))) low = absurd (omega arith)

  no_script : (t : ℕ) → 4 ≤ t → slice_index_or p.table.scripts t [] ≡ []
  no_script t high = past_end p.table.scripts t (omega (arith, p.table.count, high))

  plain : IsPlainOrder l p.table.order
  plain = record { plain = p.table.linear.answered; each = each }
    where
      each : (t : ℕ) → calls_of t p.table.order ≡ map (call_by t) (log_of l t)
      each zero = calls_are 0 a l.input.items (omega arith) refl p.input_log
      each (suc zero) = calls_are 1 b l.control.items (omega arith) refl p.control_log
      each (suc (suc zero)) = calls_are 2 c l.alarms.items (omega arith) refl p.alarms_log
      each (suc (suc (suc zero))) = calls_are 3 d l.history.items (omega arith) refl p.history_log
      each (suc (suc (suc (suc t)))) =
          nothing_by (suc (suc (suc (suc t)))) (calls_of (suc (suc (suc (suc t)))) p.table.order)
          (p.table.linear.each (suc (suc (suc (suc t))))
          ∙ no_script (suc (suc (suc (suc t)))) (omega arith))

  -- the operations up to one of a thread are the first of its script
  first_ops : (t : ℕ) (low : t < 4) (earlier rest : List Done) (e : Done)
      → log_of l t ≡ earlier ++ e ∷ rest
      → take (length (earlier ++ e ∷ [])) (slice_index_or p.table.scripts t [])
      ≡ map operation_of (earlier ++ e ∷ [])
  first_ops t low earlier rest e is =
      let s = worker_at t (worker_of t) low refl in
      let ops : slice_index_or p.table.scripts t []
      ≡ map operation_of (earlier ++ e ∷ []) ++ map operation_of rest =
      sym s.script ∙ (logged t low).operations ∙ ap (map operation_of) is
      ∙ ap (map operation_of) (sym (append_assoc earlier (e ∷ []) rest))
      ∙ map-append operation_of (earlier ++ e ∷ []) rest in
      ap (λ (xs : List Operation). take (length (earlier ++ e ∷ [])) xs) ops
      ∙ ap (λ (n : ℕ). take n (map operation_of (earlier ++ e ∷ []) ++ map operation_of rest))
      (sym (length-map (earlier ++ e ∷ []) operation_of))
      ∙ take_front (map operation_of (earlier ++ e ∷ [])) (map operation_of rest)

  stamp_there : (t : ℕ) (low : t < 4) (earlier rest : List Done) (e : Done)
      → log_of l t ≡ earlier ++ e ∷ rest
      → IsStampAfter tags p.table.timeline t
      (take (length (earlier ++ e ∷ [])) (slice_index_or p.table.scripts t [])) e.stamp
  stamp_there t low earlier rest e is =
      let s = worker_at t (worker_of t) low refl in
      let w = worker_of t in
      subst (λ (ops : List Operation). IsStampAfter tags p.table.timeline t ops e.stamp)
      (sym (first_ops t low earlier rest e is))
      (stamp_later tags w.worker.timeline p.table.timeline t (map operation_of (earlier ++ e ∷ []))
      e.stamp
      (subst (λ (u : ℕ). IsStampAfter tags w.worker.timeline u (map operation_of (earlier ++ e ∷ [])) e.stamp)
      s.thread
      (stamped_at w.worker.timeline (thread_of w) [] earlier rest e
      (subst (AllStamped w.worker.timeline (thread_of w) []) is (logged t low).stamped)))
      s.on_timeline)

  no_call : {X : Type 0} (earlier rest : List X) (e : X) → [] ≡ earlier ++ e ∷ rest → ⊥
  no_call [] rest e is = cc is
  no_call (x ∷ earlier) rest e is = cc is

  is_thread : (t : ℕ) (earlier rest : List Done) (e : Done) → log_of l t ≡ earlier ++ e ∷ rest
      → t < 4
  is_thread zero earlier rest e is = omega arith
  is_thread (suc zero) earlier rest e is = omega arith
  is_thread (suc (suc zero)) earlier rest e is = omega arith
  is_thread (suc (suc (suc zero))) earlier rest e is = omega arith
  is_thread (suc (suc (suc (suc t)))) earlier rest e is = absurd (no_call earlier rest e is)

  in_time : KeepsStamps l p.table.order (stamps_in p.table.timeline)
  in_time t u earlier rest before after x y is so low =
      let t_low = is_thread t earlier rest x is in
      let u_low = is_thread u before after y so in
      elim (stamps_keep_order tags (opened_config 4 48) (a ∷ b ∷ c ∷ d ∷ []) cycles p.table t
      (length (earlier ++ x ∷ [])) u (length (before ++ y ∷ [])) x.stamp y.stamp
      (stamp_there t t_low earlier rest x is) (stamp_there u u_low before after y so) low) [
        | inr many ↦ inr many
        | inl cut ↦ inl (record {
          first = cut.first;
          later = cut.later;
          split = cut.split;
          more = cut.more;
          many = cut.many
              ∙ ap (λ (ops : List Operation). ops ++ cut.more) (first_ops t t_low earlier rest x is);
          rest = cut.rest;
          few = sym (first_ops u u_low before after y so) ∙ cut.few;
        })
      ]

  acts_last : (hand : Hand) → hand.who ≡ b → hand.calls ≡ l.control
      → HasActedAfter a.worker.seen hand → ActsOnLast l p.table.order
  acts_last hand who calls acted =
      let is : BeganAfter a.worker.seen (map operation_of acted.earlier) b =
      subst (BeganAfter a.worker.seen (map operation_of acted.earlier)) who acted.began in
      let next = is.on.next in
      let script : HasScript p.table.scripts p.table.timeline p.table.history p.table.order 1 b =
      worker_at 1 b (omega arith) refl in
      let seen = starts_on next.worker.seen b.worker.seen p.table.history is.on.later script.seen in
      let cut = stands_behind tags law (opened_config 4 48) (a ∷ b ∷ c ∷ d ∷ []) cycles p.table
      is.old next a is.on.operation is.on.answer is.on.did p.input_log.seen is.after seen in
      let at : List (Call Operation Tag) → ℕ → List Operation =
      λ order t. operations_in t order in
      record {
        earlier = acted.earlier;
        tick = acted.tick;
        split = sym (ap (λ v. v.items) calls) ∙ acted.split;
        three = acted.three;
        behind = record {
          first = cut.first;
          later = cut.later;
          split = cut.split;
          more = cut.more;
          many = ap (at cut.first) (sym p.threads.0) ∙ cut.seen
              ∙ ap (λ (ops : List Operation). ops ++ cut.more) p.input_log.operations;
          rest = [];
          few = sym is.done ∙ sym cut.own
              ∙ ap (at cut.first) (sym is.thread ∙ p.threads.1)
              ∙ sym (append-nil (operations_in 1 cut.first));
        };
      }

  pub has_plant : (hand : Hand) → hand.who ≡ b → hand.calls ≡ l.control
      → HasActedAfter a.worker.seen hand → HasPlant l cycles
  has_plant hand who calls acted = record {
    input = a;
    control = b;
    alarms = c;
    history = d;
    plant = p;
    ordered = plain;
    in_time = in_time;
    last = acts_last hand who calls acted;
  }
