-- One thread after the other: each ends its commands within their bounds, so all are done.
use Rattle.std.proofs.Common.{◌≡◌, ℕ, zero, suc, ◌+◌, ◌≤◌, ◌<◌, ◌⊎◌, inl, inr, true, false, cond, ◌&&◌, eqb, eq-eqb, ne_eqb, le-ltb, List, [], ◌∷◌, ◌++◌, length, get_or, replicate, length-append, refl, sym, ap, ◌∙◌, subst, arith}
use Rattle.std.proofs.lemmas.Bool.{cases_eq, cases_lt, cases_Bool}
use Rattle.std.proofs.lemmas.List.{get_or-set_other, length-replicate}
use Rattle.block_store.specs.declared.Config.{Config}
use Rattle.block_store.specs.Counts.{changed, times, total}
use Rattle.block_store.specs.Phases.{bit}
use Rattle.block_store.proofs.Lemmas.{bit_zero, total_changed, total_none, total_same}
use Rattle.rate_plan.specs.Rates.{IsRate}
use Rattle.never_heap.specs.declared.Command.{Command}
use Rattle.never_heap.specs.declared.Command.TheVariants as commands
use Rattle.heap_machine.specs.Gating.{is_inside, is_closing}
use Rattle.heap_system.specs.Parts.{Rest}
use Rattle.heap_system.specs.declared.Turn.TheVariants.{Went, Done}
use Rattle.heap_system.specs.Alone.{IsQuiet, HasCommand, EndsWithin, after_alone, command_bound}
use Rattle.heap_system.specs.Locals.{LocalState, command_of, is_done, is_rest, turn_of}
use Rattle.heap_system.specs.Machines.{State, Run, no_local, local_at, local_in, has_event, event_done, turned, answer, next, next_effect, after_turns, starts_from, IsOpening, IsJob, opened, IsRunOf}
use Rattle.heap_system.specs.Pictures.{stand_of}
use Rattle.heap_system.specs.Serials.{IsSerial, trace_bound, job_bound}
use Rattle.heap_system.specs.Systems.{AllDone, IsLeastUndone}
use Rattle.heap_system.proofs.invariant.InvariantHolds.{run_kept}
use Rattle.heap_system.proofs.invariant.Invariant.{Kept}
use Rattle.heap_system.proofs.step_rows.LawsOfParts.{laws_of}
use Rattle.heap_system.proofs.work.WaitingTurns.{done_stays}
use Rattle.heap_system.proofs.alone.Runs.{lone_ends}

-- the bounds of the commands of a trace from the n-th on
abbrev bound_from : Config → ℕ → ℕ → List Command → ℕ
bound_from c rate zero ks = trace_bound c rate ks
bound_from c rate (suc n) [] = 0
bound_from c rate (suc n) (k ∷ ks) = bound_from c rate n ks

bound_next : (c : Config) (rate n : ℕ) (ks : List Command) → n < length ks → bound_from c rate n ks ≡ command_bound c rate (get_or ks n (commands.Nil 0)) + bound_from c rate (suc n) ks
bound_next c rate n [] low = absurd (omega arith)
bound_next c rate zero (k ∷ ks) low = refl
bound_next c rate (suc n) (k ∷ ks) low = bound_next c rate n ks (omega arith)

abbrev left_of : Config → ℕ → LocalState → ℕ
left_of c rate l = bound_from c rate (length l.log) l.trace

abbrev all_left : Config → ℕ → State → ℕ
all_left c rate s = total c.threads (λ t. left_of c rate (local_at c s t))

-- a turn leaves the other threads
turned_other : (c : Config) (t u : ℕ) (s : State) → (t ≡ u → ⊥) → local_at c (turned c t s) u ≡ local_at c s u
turned_other c t u s other = elim (cases_Bool (has_event c t s)) [
  | inl some ↦ ap (λ b. local_at c (cond b (event_done c t s) s) u) some ∙ get_or-set_other s.locals t u _ (no_local c) (λ e. other (sym e))
  | inr none ↦ ap (λ b. local_at c (cond b (event_done c t s) s) u) none
]

alone_other : (c : Config) (t u k : ℕ) (r : Run) → (t ≡ u → ⊥) → local_at c (after_alone c t r k).state u ≡ local_at c r.state u
alone_other c t u zero r other = refl
alone_other c t u (suc k) r other = alone_other c t u k (next c t r) other ∙ turned_other c t u r.state other

-- a thread that goes is not done
went_on : (c : Config) (t : ℕ) (s : State) → answer c t s ≡ Went → is_done (local_at c s t) ≡ false
went_on c t s went = elim (cases_Bool (is_done (local_at c s t))) [
  | inl done ↦ absurd (let z : Done ≡ Went = sym (ap (λ b. cond b Done (turn_of (next_effect c s t).step)) done) ∙ went in cc)
  | inr going ↦ going
]

-- there is one least thread that is not done
one_least : (c : Config) (s : State) (t u : ℕ) → IsLeastUndone c s t → is_done (local_at c s u) ≡ false → ((v : ℕ) → v < u → is_done (local_at c s v) ≡ true) → t ≡ u
one_least c s t u least going below = elim (cases_eq t u) [
  | inl e ↦ e
  | inr ne ↦ elim (cases_lt t u) [
    | inl low ↦ absurd (let z : true ≡ false = sym (below t low) ∙ least.undone in cc)
    | inr high ↦ absurd (let z : true ≡ false = sym (least.least u (omega arith)) ∙ going in cc)
  ]
]

-- A serial list of turns begins with those of a thread that goes, below which all are done, as long
-- as it goes on.
record Split (c : Config) (s : State) (ts : List ℕ) (m : ℕ) : Type 0 where
  rest : List ℕ
  long : length ts ≡ m + length rest
  serial : IsSerial c s rest

splits : (c : Config) (t m : ℕ) (r : Run) (ts : List ℕ) → t < c.threads → ((k : ℕ) → k < m → answer c t (after_alone c t r k).state ≡ Went) → ((u : ℕ) → u < t → is_done (local_at c r.state u) ≡ true)
    → IsSerial c r.state ts → length ts ≤ m ⊎ Split c (after_alone c t r m).state ts m
splits c t zero r ts low went below serial = inr (record { rest = ts; long = omega arith; serial = serial })
splits c t (suc m) r [] low went below serial = inl (omega arith)
splits c t (suc m) r (u ∷ us) low went below serial =
    let same : u ≡ t = one_least c r.state u t serial.0 (went_on c t r.state (went 0 (omega arith))) below in
    let on : IsSerial c (turned c t r.state) us = subst (λ v. IsSerial c (turned c v r.state) us) same serial.1 in
    let more = splits c t m (next c t r) us low (λ k kl. went (suc k) (omega arith)) (λ v vl. ap is_done (turned_other c t v r.state (λ e. omega (arith, e, vl))) ∙ below v vl) on in
    elim more [
      | inl few ↦ inl (omega (arith, few))
      | inr rest ↦ inr (record { rest = rest.rest; long = omega (arith, rest.long); serial = rest.serial })
    ]

-- turns after turns
turns_join : (c : Config) (xs ys : List ℕ) (r : Run) → after_turns c (after_turns c r xs) ys ≡ after_turns c r (xs ++ ys)
turns_join c [] ys r = refl
turns_join c (x ∷ xs) ys r = turns_join c xs ys (next c x r)

-- between commands: every thread is at rest, and so nobody is inside and the gate is open
record Resting (c : Config) (traces : List (List Command)) (r : Run) : Type 0 where
  turns : List ℕ
  run : IsRunOf c traces turns r
  quiet : IsQuiet c r
  rest : (t : ℕ) → t < c.threads → is_rest (local_at c r.state t).part ≡ true

-- a thread at rest that is not done has a command left
has_command : (l : LocalState) → is_rest l.part ≡ true → is_done l ≡ false → length l.log ≤ length l.trace → HasCommand l
has_command l rest going low = record {
  rest = rest;
  left = elim (cases_eq (length l.log) (length l.trace)) [
    | inl e ↦ absurd (let z : true ≡ false = sym (ap (λ b. b && eqb (length l.log) (length l.trace)) rest ∙ eq-eqb (length l.log) (length l.trace) e) ∙ going in cc)
    | inr ne ↦ omega arith
  ];
}

module _ (c : Config) (traces : List (List Command)) (job : IsJob c traces) (rate : ℕ) (planned : IsRate c rate) where
  kept_of : (r : Run) (ts : List ℕ) → IsRunOf c traces ts r → Kept c traces r
  kept_of r ts is = run_kept c traces (laws_of c) job ts r is

  -- one command of thread t
  module _ (r : Run) (at : Resting c traces r) (t : ℕ) (tl : t < c.threads) (going : is_done (local_at c r.state t) ≡ false) where
    abbrev l : LocalState
    l = local_at c r.state t

    kept : Kept c traces r
    kept = kept_of r at.turns at.run

    command : HasCommand l
    command = has_command l (at.rest t tl) going (kept.locals t tl).fits.log

    abbrev bound : ℕ
    bound = command_bound c rate (command_of l)

    ends : EndsWithin c t r bound
    ends = lone_ends c traces job rate planned t tl r kept at.quiet command

    abbrev after : EndsWithin c t r bound → Run
    after e = after_alone c t r e.turns

    module _ (e : EndsWithin c t r bound) where
      on : IsRunOf c traces (at.turns ++ replicate e.turns t) (after e)
      on = record {
        first = at.run.first;
        opening = at.run.opening;
        turns = ap (λ x. after_alone c t x e.turns) at.run.turns ∙ turns_join c at.turns (replicate e.turns t) (opened c at.run.first);
      }

      rests : Resting c traces (after e)
      rests = record {
        turns = at.turns ++ replicate e.turns t;
        run = on;
        quiet = e.quiet;
        rest = λ u ul. elim (cases_eq t u) [
          | inl same ↦ subst (λ v. is_rest (local_at c (after e).state v).part ≡ true) same e.rest
          | inr other ↦ ap (λ (x : LocalState). is_rest x.part) (alone_other c t u e.turns r other) ∙ at.rest u ul
        ];
      }

      -- its command is done
      trace_same : (local_at c (after e).state t).trace ≡ l.trace
      trace_same = ((kept_of (after e) (at.turns ++ replicate e.turns t) on).locals t tl).trace ∙ sym (kept.locals t tl).trace

      longer : length (local_at c (after e).state t).log ≡ suc (length l.log)
      longer = ap length e.log ∙ length-append l.log (e.entry ∷ []) ∙ omega arith

      own_less : left_of c rate l ≡ bound + left_of c rate (local_at c (after e).state t)
      own_less = bound_next c rate (length l.log) l.trace command.left
          ∙ ap (λ n. bound + bound_from c rate n l.trace) (sym longer)
          ∙ ap (λ ks. bound + bound_from c rate (length (local_at c (after e).state t).log) ks) (sym trace_same)

      all_less : all_left c rate r.state ≡ bound + all_left c rate (after e).state
      all_less =
          let same : all_left c rate (after e).state ≡ total c.threads (λ u. left_of c rate (changed (local_at c r.state) t (local_at c (after e).state t) u)) =
          total_same c.threads (λ u. left_of c rate (local_at c (after e).state u)) (λ u. left_of c rate (changed (local_at c r.state) t (local_at c (after e).state t) u)) (λ u ul. elim (cases_eq t u) [
            | inl is ↦ rw (eq-eqb t u is) (ap (λ v. left_of c rate (local_at c (after e).state v)) (sym is))
            | inr ne ↦ rw (ne_eqb t u ne) (ap (left_of c rate) (alone_other c t u e.turns r ne))
          ]) in
          omega (arith, same, own_less, total_changed (left_of c rate) c.threads (local_at c r.state) t (local_at c (after e).state t) tl)

      some_turns : 1 ≤ e.turns
      some_turns = some e.turns longer
        where
          some : (m : ℕ) → length (local_at c (after_alone c t r m).state t).log ≡ suc (length l.log) → 1 ≤ m
          some zero is = absurd (omega (arith, is))
          some (suc m) is = omega arith

  -- a serial list of turns is short
  few_turns : (fuel : ℕ) (r : Run) (ts : List ℕ) → length ts ≤ fuel → Resting c traces r → IsSerial c r.state ts → length ts ≤ all_left c rate r.state
  few_turns fuel r [] short at serial = omega arith
  few_turns zero r (t ∷ ts) short at serial = absurd (omega (arith, short))
  few_turns (suc fuel) r (t ∷ ts) short at serial =
      let least = serial.0 in
      let e = ends r at t least.there least.undone in
      let less = all_less r at t least.there least.undone e in
      elim (splits c t e.turns r (t ∷ ts) least.there e.went least.least serial) [
        | inl few ↦ omega (arith, few, e.few, less)
        | inr more ↦
            let some = some_turns r at t least.there least.undone e in
            let rest = few_turns fuel (after_alone c t r e.turns) more.rest (omega (arith, short, more.long, some)) (rests r at t least.there least.undone e) more.serial in
            omega (arith, more.long, rest, e.few, less)
      ]

-- a thread of an opening: at rest, with nothing in its log
record IsFresh (l : LocalState) (given : List Command) : Type 0 where
  rest : l.part ≡ Rest
  log : l.log ≡ []
  trace : l.trace ≡ given

fresh_at : (c : Config) (rate : ℕ) (space : ℕ → ℕ) (t i : ℕ) (traces : List (List Command)) → i < length traces → IsFresh (get_or (starts_from c rate space t traces) i (no_local c)) (get_or traces i [])
fresh_at c rate space t i [] low = absurd (omega arith)
fresh_at c rate space t zero (trace ∷ traces) low = record { rest = refl; log = refl; trace = refl }
fresh_at c rate space t (suc i) (trace ∷ traces) low = fresh_at c rate space (t + 1) i traces (omega arith)

module _ (c : Config) (traces : List (List Command)) (first : State) (job : IsJob c traces) (start : IsOpening c traces first) where
  fresh : (t : ℕ) → t < c.threads → IsFresh (local_at c first t) (get_or traces t [])
  fresh t low = subst (λ ls. IsFresh (get_or ls t (no_local c)) (get_or traces t [])) (sym start.locals) (fresh_at c start.rate start.space 0 t traces (omega (arith, job.bounds.threads, low)))

  opens : IsRunOf c traces [] (opened c first)
  opens = record { first = first; opening = start; turns = refl }

  quiet : IsQuiet c (opened c first)
  quiet =
      let kept = run_kept c traces (laws_of c) job [] (opened c first) opens in
      record {
        nobody = sym kept.gate.count ∙ total_none c.threads _ (λ t tl. ap (λ p. bit (is_inside (stand_of c p))) (fresh t tl).rest);
        opened = bit_zero _ (sym kept.gate.closers ∙ total_none c.threads _ (λ t tl. ap (λ p. bit (is_closing (stand_of c p))) (fresh t tl).rest));
      }

  resting : Resting c traces (opened c first)
  resting = record { turns = []; run = opens; quiet = quiet; rest = λ t tl. ap is_rest (fresh t tl).rest }

  all_is : (rate : ℕ) → all_left c rate first ≡ job_bound c rate traces
  all_is rate = total_same c.threads _ _ (λ t tl. ap (λ n. bound_from c rate n (local_at c first t).trace) (ap length (fresh t tl).log) ∙ ap (trace_bound c rate) (fresh t tl).trace)

  -- a serial list of turns from an opening is within the bound
  pub serial_few : (rate : ℕ) → IsRate c rate → (ts : List ℕ) → IsSerial c first ts → length ts ≤ job_bound c rate traces
  serial_few rate planned ts serial = omega (arith, few_turns c traces job rate planned (length ts) (opened c first) ts (omega arith) resting serial, all_is rate)

-- all of the first n threads are done, or there is a least one that is not
pub least_of : (c : Config) (s : State) (n : ℕ) → n ≤ c.threads → ((u : ℕ) → u < n → is_done (local_at c s u) ≡ true) ⊎ ((u : ℕ) × IsLeastUndone c s u)
least_of c s zero low = inl (λ u ul. absurd (omega arith))
least_of c s (suc n) low = elim (least_of c s n (omega arith)) [
  | inl below ↦ elim (cases_Bool (is_done (local_at c s n))) [
    | inl done ↦ inl (λ u ul. elim (cases_eq u n) [
      | inl e ↦ ap (λ v. is_done (local_at c s v)) e ∙ done
      | inr ne ↦ below u (omega arith)
    ])
    | inr going ↦ inr (n, record { there = omega arith; undone = going; least = below })
  ]
  | inr found ↦ inr found
]

serial_more : (c : Config) (r : Run) (ts : List ℕ) (u : ℕ) → IsSerial c r.state ts → IsLeastUndone c (after_turns c r ts).state u → IsSerial c r.state (ts ++ u ∷ [])
serial_more c r [] u serial least = (least, tt)
serial_more c r (t ∷ ts) u serial least = (serial.0, serial_more c (next c t r) ts u serial.1 least)

-- and after as many turns as the bound all threads are done
pub serial_ends : (c : Config) (traces : List (List Command)) (first : State) (rate : ℕ) → IsJob c traces → IsOpening c traces first → IsRate c rate → (ts : List ℕ) → IsSerial c first ts → job_bound c rate traces ≤ length ts
    → AllDone c (after_turns c (opened c first) ts).state
serial_ends c traces first rate job start planned ts serial long t low =
    elim (least_of c (after_turns c (opened c first) ts).state c.threads (omega arith)) [
      | inl done ↦ done t low
      | inr least ↦ absurd (omega (
        arith,
        long,
        length-append ts (least.0 ∷ []),
        serial_few c traces first job start rate planned (ts ++ least.0 ∷ []) (serial_more c (opened c first) ts least.0 serial least.1),
      ))
    ]

-- where there is one thread
module _ (c : Config) (one : c.threads ≡ 1) where
  -- what another number names has no event
  nobody_else : (u : ℕ) (s : State) → (0 ≡ u → ⊥) → turned c u s ≡ s
  nobody_else u s other = (let none : has_event c u s ≡ false = rw (le-ltb u c.threads (omega arith)) refl in ap (λ b. cond b (event_done c u s) s) none)

  done_on : (ts : List ℕ) (r : Run) → is_done (local_at c r.state 0) ≡ true → is_done (local_at c (after_turns c r ts).state 0) ≡ true
  done_on [] r done = done
  done_on (u ∷ us) r done = done_on us (next c u r) (elim (cases_eq 0 u) [
    | inl e ↦ subst (λ v. is_done (local_at c (turned c v r.state) 0) ≡ true) e (ap (λ s. is_done (local_at c s 0)) (done_stays c 0 r.state done) ∙ done)
    | inr ne ↦ ap (λ s. is_done (local_at c s 0)) (nobody_else u r.state ne) ∙ done
  ])

  at_start_going : (ts : List ℕ) (r : Run) → is_done (local_at c (after_turns c r ts).state 0) ≡ false → is_done (local_at c r.state 0) ≡ false
  at_start_going ts r going = elim (cases_Bool (is_done (local_at c r.state 0))) [
    | inl done ↦ absurd (let z : true ≡ false = sym (done_on ts r done) ∙ going in cc)
    | inr still ↦ still
  ]

  is_least : (s : State) → is_done (local_at c s 0) ≡ false → IsLeastUndone c s 0
  is_least s going = record { there = omega (arith, one); undone = going; least = λ u ul. absurd (omega arith) }

  -- its turns, and one more, are a serial list while it is not done
  own_serial : (ts : List ℕ) (r : Run) → is_done (local_at c (after_turns c r ts).state 0) ≡ false → IsSerial c r.state (replicate (suc (times 0 ts)) 0)
  own_serial [] r going = (is_least r.state going, tt)
  own_serial (u ∷ us) r going =
      let rest = own_serial us (next c u r) going in
      elim (cases_eq 0 u) [
        | inl e ↦
            let more : times 0 (u ∷ us) ≡ suc (times 0 us) = (let b : bit (eqb 0 u) ≡ 1 = ap bit (eq-eqb 0 u e) in omega (arith, b)) in
            subst (λ n. IsSerial c r.state (replicate (suc n) 0)) (sym more)
            (is_least r.state (at_start_going (u ∷ us) r going), subst (λ v. IsSerial c (turned c v r.state) (replicate (suc (times 0 us)) 0)) (sym e) rest)
        | inr ne ↦
            let same : times 0 (u ∷ us) ≡ times 0 us = (let b : bit (eqb 0 u) ≡ 0 = ap bit (ne_eqb 0 u ne) in omega (arith, b)) in
            subst (λ n. IsSerial c r.state (replicate (suc n) 0)) (sym same)
            (subst (λ s. IsSerial c s (replicate (suc (times 0 us)) 0)) (nobody_else u r.state ne) rest)
      ]

  -- so it had fewer than the bound
  pub single_few : (traces : List (List Command)) (first : State) (rate : ℕ) → IsJob c traces → IsOpening c traces first → IsRate c rate → (ts : List ℕ) → is_done (local_in c (after_turns c (opened c first) ts) 0) ≡ false → times 0 ts < job_bound c rate traces
  single_few traces first rate job start planned ts going =
      let nought : ℕ = 0 in
      omega (arith, length-replicate (suc (times 0 ts)) nought, serial_few c traces first job start rate planned (replicate (suc (times 0 ts)) 0) (own_serial ts (opened c first) going))
