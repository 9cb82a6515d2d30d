-- The turns of a serial schedule are a serial list, which goes on until all threads are done; and
-- where there is one thread it has all turns.
use Rattle.std.proofs.Common.{◌≡◌, ℕ, zero, suc, ◌+◌, ◌%◌, ◌≤◌, ◌⊎◌, inl, inr, Bool, not, cond, ltb, lt-ltb, le-ltb, Some, None, List, length, length-set, refl, sym, ap, ◌∙◌, subst, arith}
use Rattle.std.proofs.lemmas.Bool.{cases_Bool}
use Rattle.std.proofs.lemmas.Nat.{mod_below}
use Rattle.std.proofs.lemmas.List.Sums.{position_or_len_is}
use Rattle.std.specs.List.{position_or_len}
use Rattle.block_store.specs.declared.Config.{Config}
use Rattle.block_store.specs.Counts.{times}
use Rattle.rate_plan.specs.Rates.{IsRate}
use Rattle.never_heap.specs.declared.Command.{Command}
use Rattle.heap_system.specs.Locals.{LocalState, is_done, local_got}
use Rattle.heap_system.specs.Machines.{State, Run, local_at, no_local, word_read, has_event, event_done, turned, next, opened, after_turns, IsJob, IsOpening}
use Rattle.heap_system.specs.Serials.{IsSerial, job_bound}
use Rattle.heap_system.specs.Systems.{AllDone, IsLeastUndone}
use Rattle.heap_system.proofs.Lemmas.{least_of, length_starts, serial_ends, single_few}
use Rattle.rtheap_core.specs.declared.schedules.Schedule.{Schedule}
use Rattle.rtheap_core.specs.declared.schedules.Schedule.TheVariants.{Robin, Serial, Key}
use Rattle.rtheap_core.specs.schedules.Schedules.{least_undone, thread_of, turns_on, turns_from, turns_of, word_of}
use Rattle.rtheap_core.specs.schedules.Replays.{IsReplayed}

abbrev undone : LocalState → Bool
undone l = not (is_done l)

-- the least thread that is not done, or none
module _ (c : Config) (s : State) (many : length s.locals ≡ c.threads) where
  some_least : (t : ℕ) → IsLeastUndone c s t → least_undone s ≡ Some t
  some_least t is =
      let at : position_or_len undone s.locals ≡ t = position_or_len_is undone s.locals t (no_local c) (omega (arith, is.there, many)) (λ u ul. ap not (is.least u ul)) (λ _. ap not is.undone) in
      ap (λ n. cond (ltb n (length s.locals)) (Some n) None) at ∙ ap (λ b. cond b (Some t) None) (lt-ltb t (length s.locals) (omega (arith, is.there, many)))

  none_least : AllDone c s → least_undone s ≡ None
  none_least all =
      let at : position_or_len undone s.locals ≡ c.threads = position_or_len_is undone s.locals c.threads (no_local c) (omega (arith, many)) (λ u ul. ap not (all u ul)) (λ low. absurd (omega (arith, low, many))) in
      ap (λ n. cond (ltb n (length s.locals)) (Some n) None) at ∙ ap (λ b. cond b (Some c.threads) None) (le-ltb c.threads (length s.locals) (omega (arith, many)))

turned_many : (c : Config) (t : ℕ) (s : State) → length (turned c t s).locals ≡ length s.locals
turned_many c t s = elim (cases_Bool (has_event c t s)) [
  | inl some ↦ ap (λ b. length (cond b (event_done c t s) s).locals) some ∙ length-set s.locals t (local_got (local_at c s t) (word_read c s (local_at c s t)))
  | inr none ↦ ap (λ b. length (cond b (event_done c t s) s).locals) none
]

-- a list of turns that is serial, and is as long as it may be unless all threads are done after it
abbrev Goes : Config → Run → ℕ → List ℕ → Type 0
Goes c r n ts = IsSerial c r.state ts × ((length ts ≡ n) ⊎ AllDone c (after_turns c r ts).state)

goes : (c : Config) (j n : ℕ) (r : Run) → length r.state.locals ≡ c.threads → Goes c r n (turns_from Serial c j r.state n)
goes c j zero r many = (tt, inl refl)
goes c j (suc n) r many = elim (least_of c r.state c.threads (omega arith)) [
  | inl all ↦ subst (λ o. Goes c r (suc n) (turns_on o (λ t. turns_from Serial c (j + 1) (turned c t r.state) n))) (sym (none_least c r.state many all)) (tt, inr all)
  | inr least ↦
      let rest = goes c (j + 1) n (next c least.0 r) (turned_many c least.0 r.state ∙ many) in
      subst (λ o. Goes c r (suc n) (turns_on o (λ t. turns_from Serial c (j + 1) (turned c t r.state) n))) (sym (some_least c r.state many least.0 least.1))
      ((least.1, rest.0), elim rest.1 [ inl long ↦ inl (ap suc long) | inr all ↦ inr all ])
]

pub opening_many : (c : Config) (traces : List (List Command)) (first : State) → IsJob c traces → IsOpening c traces first → length first.locals ≡ c.threads
opening_many c traces first job start = ap length start.locals ∙ length_starts c start.rate start.space 0 traces ∙ job.bounds.threads

-- the turns of the serial schedule, from a state with all threads on
pub serial_turns : (c : Config) (s : State) (turns : ℕ) → length s.locals ≡ c.threads → IsSerial c s (turns_of Serial c s turns)
serial_turns c s turns many = (goes c 0 turns (opened c s) many).0

pub serial_replay_ends : (c : Config) (traces : List (List Command)) (turns rate : ℕ) (r : Run) → IsJob c traces → IsRate c rate → IsReplayed c traces Serial turns r → job_bound c rate traces ≤ turns → AllDone c r.state
serial_replay_ends c traces turns rate r job planned is long =
    let on = goes c 0 turns (opened c is.first) (opening_many c traces is.first job is.opening) in
    subst (λ (x : Run). AllDone c x.state) (sym is.replayed) (elim on.1 [
      | inl all ↦ serial_ends c traces is.first rate job is.opening planned (turns_of Serial c is.first turns) on.0 (omega (arith, long, all))
      | inr done ↦ done
    ])

-- where there is one thread, each turn of another schedule is its own
module _ (c : Config) (one : c.threads ≡ 1) where
  none_of_one : (j : ℕ) → j % c.threads ≡ 0
  none_of_one j = omega (arith, one, mod_below j c.threads (omega (arith, one)))

  own_turns : (schedule : Schedule) → ((j : ℕ) (s : State) → thread_of schedule c.threads j s ≡ Some 0) → (j n : ℕ) (s : State) → times 0 (turns_from schedule c j s n) ≡ n
  own_turns schedule own j zero s = refl
  own_turns schedule own j (suc n) s = subst (λ o. times 0 (turns_on o (λ t. turns_from schedule c (j + 1) (turned c t s) n)) ≡ suc n) (sym (own j s)) (omega (arith, own_turns schedule own (j + 1) n (turned c 0 s)))

  own_ends : (traces : List (List Command)) (schedule : Schedule) (turns rate : ℕ) (r : Run) → ((j : ℕ) (s : State) → thread_of schedule c.threads j s ≡ Some 0) → IsJob c traces → IsRate c rate → IsReplayed c traces schedule turns r → job_bound c rate traces ≤ turns → AllDone c r.state
  own_ends traces schedule turns rate r own job planned is long = λ t low. elim (cases_Bool (is_done (local_at c r.state 0))) [
    | inl done ↦ (let at : t ≡ 0 = omega (arith, low, one) in ap (λ u. is_done (local_at c r.state u)) at ∙ done)
    | inr going ↦ absurd (omega (
      arith,
      long,
      own_turns schedule own 0 turns is.first,
      single_few c one traces is.first rate job is.opening planned (turns_of schedule c is.first turns) (ap (λ (x : Run). is_done (local_at c x.state 0)) (sym is.replayed) ∙ going),
    ))
  ]

  pub single_replay_ends : (traces : List (List Command)) (schedule : Schedule) (turns rate : ℕ) (r : Run) → IsJob c traces → IsRate c rate → IsReplayed c traces schedule turns r → job_bound c rate traces ≤ turns → AllDone c r.state
  single_replay_ends traces Robin turns rate r = own_ends traces Robin turns rate r (λ j s. ap Some (none_of_one j))
  single_replay_ends traces Serial turns rate r = serial_replay_ends c traces turns rate r
  single_replay_ends traces (Key key) turns rate r = own_ends traces (Key key) turns rate r (λ j s. ap Some (none_of_one (word_of key j)))
