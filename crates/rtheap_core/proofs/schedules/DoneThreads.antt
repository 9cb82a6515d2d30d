-- Threads that are done stay done, and where all are done no turn changes anything.
use Rattle.std.proofs.Common.{◌≡◌, ℕ, zero, suc, ◌+◌, ◌≤◌, Bool, true, false, cond, ltb, le-ltb, Option, Some, None, List, [], ◌∷◌, ◌++◌, append-nil, get_or-set_other, refl, sym, ap, ◌∙◌, arith, inl, inr}
use Rattle.std.proofs.lemmas.Bool.{cases_Bool, cases_lt, cases_eq}
use Rattle.block_store.specs.declared.Config.{Config}
use Rattle.heap_system.specs.Locals.{is_done, local_got}
use Rattle.heap_system.specs.Machines.{State, Run, local_at, no_local, word_read, next_effect, items_by, event_done, has_event, turned, next, after_turns, heap_in}
use Rattle.heap_system.specs.Locals.{command_of}
use Rattle.heap_system.specs.Naming.{renamed}
use Rattle.heap_system.specs.Systems.{AllDone}
use Rattle.never_heap.specs.Histories.{replay}
use Rattle.rtheap_core.specs.declared.schedules.Schedule.{Schedule}
use Rattle.rtheap_core.specs.schedules.Schedules.{thread_of, turns_on, turns_from}

-- a thread that is done has no event
pub no_event : (c : Config) (s : State) (t : ℕ) → is_done (local_at c s t) ≡ true → has_event c t s ≡ false
no_event c s t done = elim (cases_Bool (ltb t c.threads)) [
  | inl low ↦ rw (low, done) refl
  | inr out ↦ rw out refl
]

pub no_event_at : (c : Config) (s : State) (t : ℕ) → AllDone c s → has_event c t s ≡ false
no_event_at c s t all = elim (cases_lt t c.threads) [
  | inl low ↦ no_event c s t (all t low)
  | inr out ↦ rw (le-ltb t c.threads out) refl
]

pub still : (c : Config) (s : State) (t : ℕ) → has_event c t s ≡ false → turned c t s ≡ s
still c s t none = ap (λ b. cond b (event_done c t s) s) none

-- a thread that is done stays so
pub done_stays : (c : Config) (s : State) (t u : ℕ) → is_done (local_at c s u) ≡ true → is_done (local_at c (turned c t s) u) ≡ true
done_stays c s t u done = elim (cases_eq u t) [
  | inl same ↦ ap (λ x. is_done (local_at c x u)) (still c s t (ap (λ k. has_event c k s) (sym same) ∙ no_event c s u done)) ∙ done
  | inr other ↦ by (has_event c t s) other
]
  where
    by : (b : Bool) → (u ≡ t → ⊥) → is_done (local_at c (cond b (event_done c t s) s) u) ≡ true
    by true other = ap is_done (get_or-set_other s.locals t u (local_got (local_at c s t) (word_read c s (local_at c s t))) (no_local c) other) ∙ done
    by false other = done

-- where all are done a run stays as it is
next_stays : (c : Config) (t : ℕ) (r : Run) → AllDone c r.state → next c t r ≡ r
next_stays c t r all =
    let none = no_event_at c r.state t all in
    (λ i. record {
      state = still c r.state t none i;
      order = r.order ++ cond (none i) (items_by c t (command_of (local_at c r.state t)) (local_at c r.state t).spent r.order (next_effect c r.state t)) [];
      names = cond (none i) (renamed t (replay c r.order) (heap_in c r.state) (next_effect c r.state t).naming r.names) r.names;
    }) ∙ ap (λ order. record r { order = order }) (append-nil r.order)

all_stay : (c : Config) (r : Run) (ts : List ℕ) → AllDone c r.state → after_turns c r ts ≡ r
all_stay c r [] all = refl
all_stay c r (t ∷ ts) all = ap (λ q. after_turns c q ts) (next_stays c t r all) ∙ all_stay c r ts all

stops_on : (c : Config) (r : Run) (o : Option ℕ) (few many : ℕ → List ℕ) → ((t : ℕ) → AllDone c (after_turns c (next c t r) (few t)).state → after_turns c (next c t r) (many t) ≡ after_turns c (next c t r) (few t))
    → AllDone c (after_turns c r (turns_on o few)).state → after_turns c r (turns_on o many) ≡ after_turns c r (turns_on o few)
stops_on c r None few many each all = refl
stops_on c r (Some t) few many each all = each t all

pub stops : (schedule : Schedule) (c : Config) (j : ℕ) (r : Run) (few many : ℕ) → few ≤ many → AllDone c (after_turns c r (turns_from schedule c j r.state few)).state
    → after_turns c r (turns_from schedule c j r.state many) ≡ after_turns c r (turns_from schedule c j r.state few)
stops schedule c j r zero many low all = all_stay c r (turns_from schedule c j r.state many) all
stops schedule c j r (suc few) zero low all = absurd (omega arith)
stops schedule c j r (suc few) (suc many) low all =
    stops_on c r (thread_of schedule c.threads j r.state) (λ t. turns_from schedule c (j + 1) (turned c t r.state) few) (λ t. turns_from schedule c (j + 1) (turned c t r.state) many)
    (λ t over. stops schedule c (j + 1) (next c t r) few many (omega arith) over) all
