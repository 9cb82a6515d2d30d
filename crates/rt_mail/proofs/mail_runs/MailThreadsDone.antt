-- What the mail threads of a mail board leave.
use Rattle.std.proofs.Common.{ℕ, suc, ◌+◌, ◌≡◌, ◌<◌, ◌≤◌, ◌==◌, Bool, true, false, cond, nat_lt, List, [], ◌∷◌, length, map, get_or, arith, subst, refl, sym, ap, ◌∙◌, inl, inr, Option, Some, None, ne_eqb, eq-eqb, lt-ltb, le-ltb, zero-add}
use Rattle.std.specs.Prelude.{count_by, if◌then◌else◌}
use Rattle.std.specs.List.{range_with_len}
use Rattle.std.proofs.lemmas.Bool.{cases_lt}
use Rattle.std.proofs.lemmas.List.Sums.{sum_by-append}
use Rattle.std.proofs.lemmas.List.FromFn.{length-range_with_len}
use Rattle.std.proofs.lemmas.List.{same_lists, length-map, get_or_default}
use Rattle.block_store.specs.declared.Config.{Config}
use Rattle.never_heap.specs.declared.Command.{Command}
use Rattle.never_heap.specs.declared.Entry.{Entry}
use Rattle.never_heap.proofs.Lemmas.{parts_count}
use Rattle.heap_system.specs.Systems.{IsFinished}
use Rattle.heap_system.specs.Locals.{is_done}
use Rattle.atom_board.specs.Mutators.{BoardState, MutatorState, AreInOrder, AllAreDone, AreLogsOf, log_of}
use Rattle.atom_board.proofs.AllMutators.{get_or_map, map_map}
use Rattle.atom_board.proofs.MutatorsInOrder.{nobody}
use Rattle.rt_mail.specs.mail_post.Letters.{sent_by}
use Rattle.rt_mail.specs.mail_post.PostStates.{SenderState, TakerState, OfPost, AreAll, whole_of, all_sent, fresh_taker}
use Rattle.rt_mail.specs.said_numbers.Said.{numbers_said}
use Rattle.rt_mail.specs.declared.mail_runs.mail_board.MailBoard.{MailBoard}
use Rattle.rt_mail.specs.declared.mail_runs.mail_thread.MailThread.{MailThread}
use Rattle.rt_mail.specs.mail_runs.MailThreads.{Each, HasSentAll, said_by, mutator_of, sender_of, IsReceived}
use Rattle.rt_mail.proofs.mail_runs.EachInOrder.{each_first}

count_no : {A : Type 0} (p : A → Bool) (x : A) (xs : List A) → p x ≡ false
    → count_by p (x ∷ xs) ≡ count_by p xs
count_no p x xs is =
    sum_by-append (λ y. cond (p y) 1 0) (x ∷ []) xs
    ∙ ap (λ b. (0 + cond b 1 0) + count_by p xs) is
    ∙ zero-add (count_by p xs)

count_yes : {A : Type 0} (p : A → Bool) (x : A) (xs : List A) → p x ≡ true
    → count_by p (x ∷ xs) ≡ 1 + count_by p xs
count_yes p x xs is =
    sum_by-append (λ y. cond (p y) 1 0) (x ∷ []) xs
    ∙ ap (λ b. (0 + cond b 1 0) + count_by p xs) is

abbrev is_of : ℕ → SenderState → Bool
is_of u s = s.thread == u

module _ (o : MailBoard) where
  pub of_post : (t : ℕ) (rs : List MailThread) → Each (HasSentAll o) t rs
      → OfPost o.post.id (map sender_of rs)
  of_post t [] e = tt
  of_post t (r ∷ rs) e = (e.0.0.post, of_post (t + 1) rs e.1)

  none_below : (t u : ℕ) (rs : List MailThread) → Each (HasSentAll o) t rs → u < t
      → count_by (is_of u) (map sender_of rs) ≡ 0
  none_below t u [] e low = refl
  none_below t u (r ∷ rs) e low =
      count_no (is_of u) r.sender (map sender_of rs)
      (ne_eqb r.sender.thread u (λ same. omega (arith, e.0.0.number)))
      ∙ none_below (t + 1) u rs e.1 (omega arith)

  once_each : (t u : ℕ) (rs : List MailThread) → Each (HasSentAll o) t rs → t ≤ u
      → count_by (is_of u) (map sender_of rs) ≡ (if nat_lt u (t + length rs) then 1 else 0)
  once_each t u [] e low = rw (le-ltb u (t + 0) (omega arith)) refl
  once_each t u (r ∷ rs) e low = elim (cases_lt t u) [
    | inl less ↦
        (let more : t + 1 + length rs ≡ t + suc (length rs) = omega arith in
        count_no (is_of u) r.sender (map sender_of rs)
        (ne_eqb r.sender.thread u (λ same. omega (arith, e.0.0.number)))
        ∙ once_each (t + 1) u rs e.1 (omega arith)
        ∙ ap (λ k. if nat_lt u k then 1 else 0) more)
    | inr least ↦
        (let same : t ≡ u = omega arith in
        count_yes (is_of u) r.sender (map sender_of rs)
        (eq-eqb r.sender.thread u (e.0.0.number ∙ same))
        ∙ ap (λ n. 1 + n) (none_below (t + 1) u rs e.1 (omega arith))
        ∙ sym (ap (λ b. cond b 1 0) (lt-ltb u (t + suc (length rs)) (omega arith))))
  ]

  pub are_all : (rs : List MailThread) → Each (HasSentAll o) 0 rs
      → AreAll (length rs) (map sender_of rs)
  are_all rs e u =
      once_each 0 u rs e (omega arith)
      ∙ ap (λ k. if nat_lt u k then 1 else 0) (zero-add (length rs))

  pub in_order : (rs : List MailThread) → Each (HasSentAll o) 0 rs
      → length rs ≡ o.board.config.threads → AreInOrder o.board (map mutator_of rs)
  in_order rs e long = record {
    count = length-map rs mutator_of ∙ long;
    each = λ t d low.
        (let r : MailThread = record { mutator = d; sender = record { post = o.post.id; thread = 0; sent = [] } } in
        let tl : t < length rs = omega (arith, length-map rs mutator_of) in
        let is : get_or (map mutator_of rs) t d ≡ (get_or rs t r).mutator = get_or_map mutator_of rs t d r tl in
        let h : HasSentAll o t (get_or rs t r) = each_first (HasSentAll o) rs e t r tl in (
          ap (λ (m : MutatorState). m.board) is ∙ h.0.board,
          ap (λ (m : MutatorState). m.local.thread) is ∙ h.0.thread,
        ));
  }

  pub all_done : (rs : List MailThread) → Each (HasSentAll o) 0 rs → AllAreDone (map mutator_of rs)
  all_done rs e t d low =
      let r : MailThread = record { mutator = d; sender = record { post = o.post.id; thread = 0; sent = [] } } in
      let tl : t < length rs = omega (arith, length-map rs mutator_of) in
      ap (λ (m : MutatorState). is_done m.local) (get_or_map mutator_of rs t d r tl)
      ∙ (each_first (HasSentAll o) rs e t r tl).1

  -- what each is found to have sent, where f tells it of the threads from t on
  sent_from : (f : ℕ → List ℕ) (t : ℕ) (rs : List MailThread) → Each (HasSentAll o) t rs
      → ((i : ℕ) → i < length rs → f (t + i) ≡ sent_by (t + i) (map whole_of (map sender_of rs)))
      → map f (range_with_len t (length rs)) ≡ map said_by (map mutator_of rs)
  sent_from f t [] e tells = refl
  sent_from f t (r ∷ rs) e tells =
      let zero_more : t + 0 ≡ t = omega arith in
      let own : f t ≡ sent_by t (map whole_of (map sender_of (r ∷ rs))) = subst (λ k. f k ≡ sent_by k (map whole_of (map sender_of (r ∷ rs)))) zero_more (tells 0 (omega arith)) in
      let mine : f t ≡ r.sender.sent = own ∙ ap (λ b. cond b r.sender.sent (sent_by t (map whole_of (map sender_of rs)))) (eq-eqb r.sender.thread t e.0.0.number) in
      let others = sent_from f (t + 1) rs e.1 (λ i low.
      (let k : t + suc i ≡ t + 1 + i = omega arith in
      subst (λ n. f n ≡ sent_by n (map whole_of (map sender_of rs))) k
      (tells (suc i) (omega arith)
      ∙ ap (λ b. cond b r.sender.sent (sent_by (t + suc i) (map whole_of (map sender_of rs)))) (ne_eqb r.sender.thread (t + suc i) (λ same. omega (arith, e.0.0.number)))))) in
      ap (λ x. x ∷ map f (range_with_len (t + 1) (length rs))) (mine ∙ e.0.0.sent)
      ∙ ap (λ xs. said_by r.mutator ∷ xs) others

  pub all_is_said : (rs : List MailThread) → Each (HasSentAll o) 0 rs
      → all_sent (length rs) (map whole_of (map sender_of rs)) ≡ map said_by (map mutator_of rs)
  all_is_said rs e = sent_from (λ t. sent_by t (map whole_of (map sender_of rs))) 0 rs e (λ i low. refl)

  -- what is left when all was taken after the senders' end
  pub received : (rs : List MailThread) (ms : List MutatorState) (ss : List SenderState)
      (last : TakerState) (n : ℕ) → Each (HasSentAll o) 0 rs
      → length rs ≡ o.board.config.threads → ms ≡ map mutator_of rs → ss ≡ map sender_of rs
      → n ≡ length rs → last.post ≡ o.post.id
      → last.taken ≡ all_sent n (map whole_of ss)
      → last.sent ≡ Some (all_sent n (map whole_of ss)) → IsReceived o ms last
  received rs ms ss last n e long mutators senders count post taken sent =
      let said : all_sent n (map whole_of ss) ≡ map said_by ms =
      ap (λ k. all_sent k (map whole_of ss)) count
      ∙ ap (λ (us : List SenderState). all_sent (length rs) (map whole_of us)) senders
      ∙ all_is_said rs e ∙ ap (map said_by) (sym mutators) in record {
        mutators = subst (AreInOrder o.board) (sym mutators) (in_order rs e long);
        done = subst AllAreDone (sym mutators) (all_done rs e);
        post = post;
        taken = taken ∙ said;
        sent = sent ∙ ap Some said;
      }

  -- a new taker has a list for each sender
  pub fresh_count : (n : ℕ) (k : TakerState) → k ≡ fresh_taker o.post.id n → length k.taken ≡ n
  fresh_count n k is =
      ap (λ (t : TakerState). length t.taken) is
      ∙ length-map (range_with_len 0 n) (λ t. []) ∙ length-range_with_len 0 n

pub logs_count : (c : Config) (traces : List (List Command)) (logs : List (List Entry))
    (cycles : ℕ) → IsFinished c traces logs cycles → length logs ≡ c.threads
logs_count c traces logs cycles e =
    ap length e.parts_logged ∙ parts_count 0 c.threads e.run.order

-- what is in an option
abbrev pub held : Option (List (List ℕ)) → List (List ℕ)
held None = []
held (Some xs) = xs

-- the logs of mutators in order
pub logs_in_order : (b : BoardState) (ms : List MutatorState) (logs : List (List Entry))
    → AreInOrder b ms → AreLogsOf logs ms → length logs ≡ b.config.threads → logs ≡ map log_of ms
logs_in_order b ms logs order are long =
    same_lists logs (map log_of ms) (long ∙ sym order.count ∙ sym (length-map ms log_of)) at
  where
    at : (k : ℕ) (d : List Entry) → k < length logs → get_or logs k d ≡ get_or (map log_of ms) k d
    at k d low =
        let h = are k low in
        let own : (get_or ms h.0 nobody).local.thread ≡ k = (h.2 nobody).0 in
        let first : (get_or ms h.0 nobody).local.thread ≡ h.0 = (order.each h.0 nobody h.1).1 in
        let same : h.0 ≡ k = sym first ∙ own in
        let low' : k < length ms = omega (arith, long, order.count) in
        get_or_default logs k d [] low ∙ (h.2 nobody).1
        ∙ ap (λ j. (get_or ms j nobody).local.log) same
        ∙ sym (get_or_map log_of ms k d nobody low')

pub logs_say : (b : BoardState) (ms : List MutatorState) (logs : List (List Entry))
    → AreInOrder b ms → AreLogsOf logs ms → length logs ≡ b.config.threads
    → map said_by ms ≡ map numbers_said logs
logs_say b ms logs order are long =
    sym (map_map log_of numbers_said ms)
    ∙ ap (map numbers_said) (sym (logs_in_order b ms logs order are long))
