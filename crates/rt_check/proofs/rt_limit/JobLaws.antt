-- Orders of the commands of a job: each command is in its ranges, and there are not too many.
use Rattle.std.proofs.Common.{ℕ, zero, suc, ◌+◌, ◌*◌, ◌^◌, ◌≡◌, ◌≢◌, ◌<◌, ◌≤◌, inl, inr, Bool, true, false, cond, ltb, List, [], ◌∷◌, ◌++◌, length, take, drop, get_or, ap, sym, ◌∙◌, refl, subst, arith, eq-eqb, ne_eqb, append_assoc, append-nil, length-append, length-take, add-one, suc-mul}
use Rattle.std.specs.List.{All, AllByRecursion}
use Rattle.std.proofs.lemmas.Bool.{cases_eq, cases_lt, lt-ltb, le-ltb}
use Rattle.std.proofs.lemmas.List.{map-append, take-append-drop, get_or_past}
use Rattle.std.proofs.Math.Seq.{take-suc}
use Rattle.block_store.specs.declared.Config.{Config}
use Rattle.never_heap.specs.declared.Command.{Command}
use Rattle.never_heap.specs.declared.Command.TheVariants.{New}
use Rattle.never_heap.specs.declared.Entry.{Entry}
use Rattle.never_heap.specs.Bounds.{IsCommandInBounds}
use Rattle.never_heap.specs.Coming.{left_of}
use Rattle.never_heap.specs.Histories.{HistoryItem, Started, Did, part}
use Rattle.never_heap.specs.Jobs.{IsTraceInBounds}
use Rattle.never_heap.proofs.Lemmas.{part_append}
use Rattle.trace_text.specs.Jobs.{Job, IsJobInBounds}
use Rattle.rt_check.specs.declared.moves.Move.{Move}
use Rattle.rt_check.specs.Moves.{moves_in, commands_of, AreMovesOf}
use Rattle.rt_check.specs.Taken.{IsTaken, AreTaken, AreMoves}
use Rattle.rt_check.proofs.GoodLaws.{all_or}
use Rattle.rt_check.proofs.AnswerSoFar.{moves_append}
use Rattle.rt_check.specs.rt_limit.Counting.{IsMoveInRange}
use Rattle.rt_check.specs.rt_limit.Moments.{moves_of, by_threads}
use Rattle.rt_check.proofs.rt_limit.OrderLaws.{commands_append}

abbrev move_of : ℕ → Command → Move
move_of t c = record { thread = t; command = c }

-- ---- one thread after the other

pub own_moves : (t : ℕ) (trace : List Command) → commands_of t (moves_of t trace) ≡ trace
own_moves t [] = refl
own_moves t (c ∷ trace) =
    ap (λ (b : Bool). cond b (c ∷ commands_of t (moves_of t trace)) (commands_of t (moves_of t trace)))
    (eq-eqb t t refl)
    ∙ ap (λ (cs : List Command). c ∷ cs) (own_moves t trace)

other_moves : (t u : ℕ) (trace : List Command) → u ≢ t → commands_of t (moves_of u trace) ≡ []
other_moves t u [] ne = refl
other_moves t u (c ∷ trace) ne =
    ap (λ (b : Bool). cond b (c ∷ commands_of t (moves_of u trace)) (commands_of t (moves_of u trace)))
    (ne_eqb u t ne)
    ∙ other_moves t u trace ne

none_before : (t u : ℕ) (traces : List (List Command)) → t < u
    → commands_of t (by_threads u traces) ≡ []
none_before t u [] l = refl
none_before t u (x ∷ traces) l =
    commands_append t (moves_of u x) (by_threads (u + 1) traces)
    ∙ ap (λ (cs : List Command). cs ++ commands_of t (by_threads (u + 1) traces))
    (other_moves t u x (λ e. omega arith))
    ∙ none_before t (u + 1) traces (omega arith)

thread_moves : (t u k : ℕ) (traces : List (List Command)) → t ≡ u + k
    → commands_of t (by_threads u traces) ≡ get_or traces k []
thread_moves t u k [] e = refl
thread_moves t u zero (x ∷ traces) e =
    let same : u ≡ t = omega arith in
    commands_append t (moves_of u x) (by_threads (u + 1) traces)
    ∙ ap (λ (cs : List Command). commands_of t (moves_of u x) ++ cs)
    (none_before t (u + 1) traces (omega arith))
    ∙ append-nil (commands_of t (moves_of u x))
    ∙ ap (λ (n : ℕ). commands_of t (moves_of n x)) same ∙ own_moves t x
thread_moves t u (suc k) (x ∷ traces) e =
    commands_append t (moves_of u x) (by_threads (u + 1) traces)
    ∙ ap (λ (cs : List Command). cs ++ commands_of t (by_threads (u + 1) traces))
    (other_moves t u x (λ same. omega arith))
    ∙ thread_moves t (u + 1) k traces (omega arith)

pub all_by_threads : (traces : List (List Command)) → AreMovesOf traces (by_threads 0 traces)
all_by_threads traces t = thread_moves t 0 t traces (omega arith)

pub threads_more : (u : ℕ) (xs : List (List Command)) (x : List Command)
    → by_threads u (xs ++ x ∷ []) ≡ by_threads u xs ++ moves_of (u + length xs) x
threads_more u [] x = append-nil (moves_of u x)
    ∙ ap (λ (n : ℕ). moves_of n x) (let e : u ≡ u + 0 = omega arith in e)
threads_more u (y ∷ xs) x =
    ap (λ (ms : List Move). moves_of u y ++ ms) (threads_more (u + 1) xs x)
    ∙ sym (append_assoc (moves_of u y) (by_threads (u + 1) xs) (moves_of ((u + 1) + length xs) x))
    ∙ ap (λ (n : ℕ). (moves_of u y ++ by_threads (u + 1) xs) ++ moves_of n x)
    (let e : (u + 1) + length xs ≡ u + length (y ∷ xs) = omega arith in e)

pub by_threads_more : (traces : List (List Command)) (i : ℕ) → i < length traces
    → by_threads 0 (take (i + 1) traces)
    ≡ by_threads 0 (take i traces) ++ moves_of i (get_or traces i [])
by_threads_more traces i low =
    ap (by_threads 0) (ap (λ (n : ℕ). take n traces) (add-one i) ∙ take-suc traces i [] low)
    ∙ threads_more 0 (take i traces) (get_or traces i [])
    ∙ ap (λ (n : ℕ). by_threads 0 (take i traces) ++ moves_of n (get_or traces i []))
    (let long = length-take i traces in let e : 0 + length (take i traces) ≡ i = omega arith in e)

pub trace_more : (t i : ℕ) (trace : List Command) (d : Command) → i < length trace
    → moves_of t (take (i + 1) trace)
    ≡ moves_of t (take i trace) ++ move_of t (get_or trace i d) ∷ []
trace_more t i trace d low =
    ap (moves_of t) (ap (λ (n : ℕ). take n trace) (add-one i) ∙ take-suc trace i d low)
    ∙ map-append (move_of t) (take i trace) (get_or trace i d ∷ [])

-- ---- an order that was given

take_next : (xs : List Command) (n : ℕ) (x : Command) (rest : List Command)
    → drop n xs ≡ x ∷ rest → take (suc n) xs ≡ take n xs ++ x ∷ []
take_next [] zero x rest e = absurd cc
take_next [] (suc n) x rest e = absurd cc
take_next (y ∷ xs) zero x rest e = ap (λ (c : Command). c ∷ []) (let f : y ≡ x = cc in f)
take_next (y ∷ xs) (suc n) x rest e = ap (λ (cs : List Command). y ∷ cs) (take_next xs n x rest e)

module _ (c : Config) (traces : List (List Command)) where
  -- the commands so far are the first ones of each trace
  abbrev AreFirst : List HistoryItem → Type 0
  AreFirst past = (t : ℕ) → commands_of t (moves_in past)
      ≡ take (length (part t past)) (get_or traces t [])

  first_more : (past : List HistoryItem) (line : List ℕ) (i : HistoryItem)
      → IsTaken c traces past line i → AreFirst past → AreFirst (past ++ i ∷ [])
  first_more past line Started taken first t =
      ap (commands_of t) (moves_append past (Started ∷ []) ∙ append-nil (moves_in past))
      ∙ first t
      ∙ ap (λ (es : List Entry). take (length es) (get_or traces t []))
      (sym (part_append t past (Started ∷ []) ∙ append-nil (part t past)))
  first_more past line (Did e) taken first t =
      let next = taken.good.may_come.next in
      let split : commands_of t (moves_in (past ++ Did e ∷ []))
      ≡ commands_of t (moves_in past) ++ commands_of t (move_of e.thread e.command ∷ []) =
      ap (commands_of t) (moves_append past (Did e ∷ []))
      ∙ commands_append t (moves_in past) (move_of e.thread e.command ∷ []) in
      elim (cases_eq e.thread t) [
        | inl same ↦
            let one : commands_of t (move_of e.thread e.command ∷ []) ≡ e.command ∷ [] =
            ap (λ (b : Bool). cond b (e.command ∷ []) []) (eq-eqb e.thread t same) in
            let long : length (part t (past ++ Did e ∷ [])) ≡ suc (length (part t past)) =
            ap length (part_append t past (Did e ∷ [])
            ∙ ap (λ (b : Bool). part t past ++ cond b (e ∷ []) []) (eq-eqb e.thread t same))
            ∙ length-append (part t past) (e ∷ []) ∙ add-one (length (part t past)) in
            split ∙ (λ i. first t i ++ one i)
            ∙ sym (take_next (get_or traces t []) (length (part t past)) e.command next.0
            (subst (λ (u : ℕ). left_of traces past u ≡ e.command ∷ next.0) same next.1))
            ∙ ap (λ (n : ℕ). take n (get_or traces t [])) (sym long)
        | inr other ↦
            let none : commands_of t (move_of e.thread e.command ∷ []) ≡ [] =
            ap (λ (b : Bool). cond b (e.command ∷ []) []) (ne_eqb e.thread t other) in
            let long : part t (past ++ Did e ∷ []) ≡ part t past =
            part_append t past (Did e ∷ [])
            ∙ ap (λ (b : Bool). part t past ++ cond b (e ∷ []) []) (ne_eqb e.thread t other)
            ∙ append-nil (part t past) in
            split ∙ ap (λ (cs : List Command). commands_of t (moves_in past) ++ cs) none
            ∙ append-nil (commands_of t (moves_in past)) ∙ first t
            ∙ ap (λ (es : List Entry). take (length es) (get_or traces t [])) (sym long)
      ]

  whole : (past : List HistoryItem) → AreFirst past → ((t : ℕ) → left_of traces past t ≡ [])
      → AreMovesOf traces (moves_in past)
  whole past first none t =
      first t
      ∙ sym (append-nil (take (length (part t past)) (get_or traces t [])))
      ∙ ap (λ (cs : List Command). take (length (part t past)) (get_or traces t []) ++ cs)
      (sym (none t))
      ∙ take-append-drop (length (part t past)) (get_or traces t [])

  all_taken : (past : List HistoryItem) (lines : List (List ℕ)) (h : List HistoryItem)
      → AreFirst past → AreTaken c traces past lines h → AreMovesOf traces (moves_in h)
  all_taken past [] h first taken = absurd taken
  all_taken past (l ∷ ls) h first (inl end) =
      subst (λ (k : List HistoryItem). AreMovesOf traces (moves_in k)) (sym end.2)
      (whole past first end.0.no_command)
  all_taken past (l ∷ ls) h first (inr more) =
      all_taken (past ++ more.0 ∷ []) ls h (first_more past l more.0 more.1 first) more.2

  -- the commands of an order that is taken are those of the job
  pub all_given : (lines : List (List ℕ)) (ms : List Move) → AreMoves c traces lines ms
      → AreMovesOf traces ms
  all_given lines ms are =
      subst (AreMovesOf traces) (sym are.2) (all_taken [] lines are.0 (λ t. refl) are.1)

-- ---- ranges, and how many there are

-- a command is among those of its thread
pub own_place : (ms : List Move) (k : ℕ) (d : Move) → k < length ms
    → (j : ℕ) × (j < length (commands_of (get_or ms k d).thread ms))
    × (get_or (commands_of (get_or ms k d).thread ms) j (New 0 0) ≡ (get_or ms k d).command)
own_place [] k d l = absurd (omega arith)
own_place (m ∷ ms) zero d l =
    let own : commands_of m.thread (m ∷ ms) ≡ m.command ∷ commands_of m.thread ms =
    ap (λ (b : Bool). cond b (m.command ∷ commands_of m.thread ms) (commands_of m.thread ms))
    (eq-eqb m.thread m.thread refl) in
    (0, omega (arith, ap length own), ap (λ (cs : List Command). get_or cs 0 (New 0 0)) own)
own_place (m ∷ ms) (suc k) d l =
    let n : Move = get_or ms k d in
    let place = own_place ms k d (omega arith) in
    elim (cases_eq m.thread n.thread) [
      | inl same ↦
          let here : commands_of n.thread (m ∷ ms) ≡ m.command ∷ commands_of n.thread ms =
          ap (λ (b : Bool). cond b (m.command ∷ commands_of n.thread ms) (commands_of n.thread ms))
          (eq-eqb m.thread n.thread same) in (
            suc place.0,
            (let low = place.1 in omega (arith, ap length here)),
            ap (λ (cs : List Command). get_or cs (suc place.0) (New 0 0)) here ∙ place.2,
          )
      | inr other ↦
          let here : commands_of n.thread (m ∷ ms) ≡ commands_of n.thread ms =
          ap (λ (b : Bool). cond b (m.command ∷ commands_of n.thread ms) (commands_of n.thread ms))
          (ne_eqb m.thread n.thread other) in (
            place.0,
            (let low = place.1 in omega (arith, ap length here)),
            ap (λ (cs : List Command). get_or cs place.0 (New 0 0)) here ∙ place.2,
          )
    ]

at_place : {X : Type 0} (P : X → Type 0) (xs : List X) (j : ℕ) (d : X) → j < length xs
    → AllByRecursion P xs → P (get_or xs j d)
at_place P [] j d l all = absurd (omega arith)
at_place P (x ∷ xs) zero d l all = all.0
at_place P (x ∷ xs) (suc j) d l all = at_place P xs j d (omega arith) all.1

abbrev one_if : Bool → ℕ
one_if true = 1
one_if false = 0

-- how many commands the first n threads have
abbrev total : ℕ → List Move → ℕ
total zero ms = 0
total (suc n) ms = total n ms + length (commands_of n ms)

total_more : (n : ℕ) (m : Move) (ms : List Move)
    → total n (m ∷ ms) ≡ total n ms + one_if (ltb m.thread n)
total_more zero m ms = (let none : ltb m.thread 0 ≡ false = le-ltb m.thread 0 (omega arith) in
    let is : one_if (ltb m.thread 0) ≡ 0 = ap one_if none in omega arith)
total_more (suc n) m ms =
    let rest = total_more n m ms in
    elim (cases_eq m.thread n) [
      | inl same ↦
          let own : length (commands_of n (m ∷ ms)) ≡ length (commands_of n ms) + 1 =
          ap (λ (b : Bool). length (cond b (m.command ∷ commands_of n ms) (commands_of n ms)))
          (eq-eqb m.thread n same) ∙ sym (add-one (length (commands_of n ms))) in
          let a : one_if (ltb m.thread n) ≡ 0 =
          ap one_if (le-ltb m.thread n (omega arith)) in
          let b : one_if (ltb m.thread (suc n)) ≡ 1 =
          ap one_if (lt-ltb m.thread (suc n) (omega arith)) in
          omega arith
      | inr other ↦
          let own : length (commands_of n (m ∷ ms)) ≡ length (commands_of n ms) =
          ap (λ (b : Bool). length (cond b (m.command ∷ commands_of n ms) (commands_of n ms)))
          (ne_eqb m.thread n other) in
          elim (cases_lt m.thread n) [
            | inl low ↦
                let a : one_if (ltb m.thread n) ≡ 1 =
                ap one_if (lt-ltb m.thread n low) in
                let b : one_if (ltb m.thread (suc n)) ≡ 1 =
                ap one_if (lt-ltb m.thread (suc n) (omega arith)) in
                omega arith
            | inr high ↦
                let a : one_if (ltb m.thread n) ≡ 0 =
                ap one_if (le-ltb m.thread n high) in
                let b : one_if (ltb m.thread (suc n)) ≡ 0 =
                ap one_if (le-ltb m.thread (suc n) (omega arith)) in
                omega arith
          ]
    ]

total_all : (n : ℕ) (ms : List Move) → All (λ (m : Move). m.thread < n) ms → length ms ≤ total n ms
total_all n [] all = omega arith
total_all n (m ∷ ms) all =
    let rest = total_all n ms (λ k d l. all (suc k) d (omega arith)) in
    let low : m.thread < n = all 0 m (omega arith) in
    let one : one_if (ltb m.thread n) ≡ 1 = ap one_if (lt-ltb m.thread n low) in
    omega (arith, total_more n m ms)

total_few : (n k : ℕ) (ms : List Move) → ((t : ℕ) → length (commands_of t ms) ≤ k)
    → total n ms ≤ n * k
total_few zero k ms few = omega arith
total_few (suc n) k ms few = let rest = total_few n k ms few in let last = few n in
    let step : suc n * k ≡ n * k + k = suc-mul n k in omega arith

module _ (job : Job) (ms : List Move) (b : IsJobInBounds job) (are : AreMovesOf job.traces ms) where
  none_in_bounds : IsTraceInBounds job.config []
  none_in_bounds = record { few = omega arith; commands = tt }

  trace_in_bounds : (t : ℕ) → IsTraceInBounds job.config (get_or job.traces t [])
  trace_in_bounds t = all_or (IsTraceInBounds job.config) job.traces [] t b.each none_in_bounds

  pub moves_few : (t : ℕ) → length (commands_of t ms) ≤ 131072
  moves_few t = let few = (trace_in_bounds t).few in omega (arith, ap length (are t))

  pub moves_in_range : All (IsMoveInRange job.config) ms
  moves_in_range = λ k d l.
      let m : Move = get_or ms k d in
      let place = own_place ms k d l in
      let trace : List Command = get_or job.traces m.thread [] in
      let low : place.0 < length trace = (let p = place.1 in omega (arith, ap length (are m.thread))) in
      let is : get_or trace place.0 (New 0 0) ≡ m.command =
      ap (λ (cs : List Command). get_or cs place.0 (New 0 0)) (sym (are m.thread)) ∙ place.2 in
      record {
        thread = elim (cases_lt m.thread (length job.traces)) [
          | inl there ↦ (let threads = b.threads in omega arith)
          | inr past ↦ absurd (let none : length trace ≡ 0 =
              ap length (get_or_past job.traces m.thread [] past) in omega arith)
        ];
        command = subst (IsCommandInBounds job.config) is
            (at_place (IsCommandInBounds job.config) trace place.0 (New 0 0) low
            (trace_in_bounds m.thread).commands);
      }

  pub moves_short : length ms ≤ 2 ^ 26
  moves_short =
      let all = total_all job.config.threads ms (λ k d l. (moves_in_range k d l).thread) in
      let few = total_few job.config.threads 131072 ms moves_few in
      let threads = b.config.threads in
      omega arith
