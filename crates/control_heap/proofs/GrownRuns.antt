-- Turns that are events do not look after the traces.
use Rattle.std.proofs.Common.{◌≡◌, ℕ, ◌+◌, ◌-◌, ◌<◌, Bool, true, false, cond, eqb, lt-ltb, le-ltb, eq-eqb, ne_eqb, subst, not, ◌&&◌, List, [], ◌∷◌, ◌++◌, length, length-append, get_or, set, map, refl, sym, ap, ◌∙◌, arith, inl, inr, ◌⊎◌}
use Rattle.std.proofs.Math.ListN.{get_or-map, get_or-append}
use Rattle.std.proofs.lemmas.Bool.{cases_lt}
use Rattle.std.proofs.lemmas.List.{map-set}
use Rattle.block_store.specs.declared.Config.{Config}
use Rattle.block_store.specs.Places.{extent}
use Rattle.never_heap.specs.declared.Command.{Command}
use Rattle.never_heap.specs.declared.Command.TheVariants as commands
use Rattle.never_heap.specs.Histories.{HistoryItem, replay}
use Rattle.never_heap.specs.RightWork.{units_owed, requested_units}
use Rattle.never_heap.specs.Steps.{blocks_of}
use Rattle.heap_machine.specs.Operations.{op_at, op_place, words_after}
use Rattle.heap_system.specs.Parts.{Part, Rest, Enter, Access, Mark, Sweep, Build, Retry, LeaveToChangePhase, PhaseChange, Leave}
use Rattle.heap_system.specs.Locals.{LocalState, Effect, IsLocal, PartFits, command_of, entries_of, balance_got, made_got, effect, part_want, part_got, local_got, is_done, is_rest}
use Rattle.heap_system.specs.Machines.{State, Run, IsJob, local_at, no_local, heap_in, word_read, next_effect, event_done, has_event, items_by, next, after_turns}
use Rattle.heap_system.specs.Naming.{renamed}
use Rattle.heap_system.proofs.Lemmas.{Kept, laws_of, turn_kept}
use Rattle.control_heap.specs.Growth.{given, grown, state_grown, run_grown, AllGo}

-- a thread that is not done has its command, or goes out
abbrev Looks : LocalState → Type 0
Looks l = (length l.log < length l.trace) ⊎ (l.part ≡ Leave)

looks : (l : LocalState) → IsLocal l → is_done l ≡ false → Looks l
looks l fits going = by l.part fits.part going
  where
    by : (p : Part) → PartFits l.config (length l.log) (length l.trace) l.pass p → (is_rest p && eqb (length l.log) (length l.trace)) ≡ false → (length l.log < length l.trace) ⊎ (p ≡ Leave)
    by Rest f e = elim (cases_lt (length l.log) (length l.trace)) [
      | inl low ↦ inl low
      | inr over ↦ (let b : true ≡ false = sym (eq-eqb (length l.log) (length l.trace) (omega (arith, over, fits.log))) ∙ e in cc)
    ]
    by (Enter g) f e = inl f.2
    by (Access s) f e = inl f.1
    by (Mark m) f e = inl f.1
    by (Sweep s) f e = inl f.1
    by (Build b) f e = inl f.1
    by Retry f e = inl f
    by LeaveToChangePhase f e = inl f.0
    by (PhaseChange g) f e = inl f.3
    by Leave f e = inr refl

module _ (t : ℕ) (k : Command) where
  command_same : (l : LocalState) → length l.log < length l.trace → command_of (given k l) ≡ command_of l
  command_same l low = get_or-append l.trace (k ∷ []) (commands.Nil 0) (length l.log) low

  abbrev with_command : LocalState → Command → ℕ → LocalState
  with_command l m w =
      let e = effect l.config l.part w in
      record (local_got l w) {
        trace = l.trace ++ k ∷ [];
        log = l.log ++ entries_of l.thread m l.spent e.reply;
        balance = balance_got e (requested_units m) (blocks_of l.config.width m) l.balance;
        made = made_got m e.reply l.made;
        part = part_got l.config l.thread (record {
          command = m;
          due = units_owed l.config.width l.rate m - l.spent;
          serial = l.made + 1;
          space = l.space;
        }) l.pass l.part w;
      }

  given_got : (l : LocalState) (w : ℕ) → Looks l → local_got (given k l) w ≡ given k (local_got l w)
  given_got l w (inl low) = ap (λ m. with_command l m w) (command_same l low)
  given_got l w (inr out) = subst (λ p. local_got (given k (record l { part = p })) w ≡ given k (local_got (record l { part = p }) w)) (sym out) refl

  given_going : (l : LocalState) → Looks l → is_done l ≡ false → is_done (given k l) ≡ false
  given_going l (inl low) e = ap (λ b. is_rest l.part && b) (ne_eqb (length l.log) (length (l.trace ++ k ∷ [])) (λ q. let n : length (l.trace ++ k ∷ []) ≡ length l.trace + 1 = length-append l.trace (k ∷ []) in omega (arith))) ∙ off (is_rest l.part)
    where
      off : (b : Bool) → (b && false) ≡ false
      off true = refl
      off false = refl
  given_going l (inr out) e = subst (λ p. (is_rest p && eqb (length l.log) (length (l.trace ++ k ∷ []))) ≡ false) (sym out) refl

  given_items : (c : Config) (u : ℕ) (l : LocalState) (w : ℕ) (order : List HistoryItem) → Looks l
      → items_by c u (command_of (given k l)) l.spent order (effect c l.part w) ≡ items_by c u (command_of l) l.spent order (effect c l.part w)
  given_items c u l w order (inl low) = ap (λ m. items_by c u m l.spent order (effect c l.part w)) (command_same l low)
  given_items c u l w order (inr out) = subst (λ p. items_by c u (command_of (given k l)) l.spent order (effect c p w) ≡ items_by c u (command_of l) l.spent order (effect c p w)) (sym out) refl

  -- the same of a thread that may be t or not
  abbrev one : Bool → LocalState → LocalState
  one b l = cond b (given k l) l

  one_got : (b : Bool) (l : LocalState) (w : ℕ) → Looks l → local_got (one b l) w ≡ one b (local_got l w)
  one_got true l w o = given_got l w o
  one_got false l w o = refl

  one_going : (b : Bool) (l : LocalState) → Looks l → is_done l ≡ false → is_done (one b l) ≡ false
  one_going true l o e = given_going l o e
  one_going false l o e = e

  one_part : (b : Bool) (l : LocalState) → (one b l).part ≡ l.part
  one_part true l = refl
  one_part false l = refl

  one_items : (b : Bool) (c : Config) (u : ℕ) (l : LocalState) (w : ℕ) (order : List HistoryItem) → Looks l
      → items_by c u (command_of (one b l)) (one b l).spent order (effect c l.part w) ≡ items_by c u (command_of l) l.spent order (effect c l.part w)
  one_items true c u l w order o = given_items c u l w order o
  one_items false c u l w order o = refl

  module _ (c : Config) (tl : t < c.threads) where
    none_grown : grown t k (no_local c) ≡ no_local c
    none_grown = rw (ne_eqb c.threads t (λ e. omega arith)) refl

    pub local_grown : (s : State) (u : ℕ) → local_at c (state_grown t k s) u ≡ grown t k (local_at c s u)
    local_grown s u = ap (get_or (map (grown t k) s.locals) u) (sym none_grown) ∙ get_or-map (grown t k) s.locals u (no_local c)

    module _ (r : Run) (u : ℕ) (ul : u < c.threads) (fits : IsLocal (local_at c r.state u)) (goes : is_done (local_at c r.state u) ≡ false) where
      abbrev l : LocalState
      l = local_at c r.state u

      abbrev is : Bool
      is = eqb l.thread t

      abbrev w : ℕ
      w = word_read c r.state l

      here : local_at c (state_grown t k r.state) u ≡ one is l
      here = local_grown r.state u

      sees : Looks l
      sees = looks l fits goes

      part_here : (local_at c (state_grown t k r.state) u).part ≡ l.part
      part_here = ap (λ (x : LocalState). x.part) here ∙ one_part is l

      event : has_event c u r.state ≡ true
      event = rw (lt-ltb u c.threads ul, goes) refl

      event_grown : has_event c u (state_grown t k r.state) ≡ true
      event_grown = rw (lt-ltb u c.threads ul) (ap (λ x. not (is_done x)) here ∙ ap not (one_going is l sees goes))

      effect_same : next_effect c (state_grown t k r.state) u ≡ next_effect c r.state u
      effect_same = ap (λ p. effect c p (get_or r.state.words (op_place (op_at (extent c) (part_want c p))) 0)) part_here

      got_same : local_got (local_at c (state_grown t k r.state) u) (word_read c (state_grown t k r.state) (local_at c (state_grown t k r.state) u)) ≡ grown t k (local_got l w)
      got_same = ap (λ p. local_got (local_at c (state_grown t k r.state) u) (get_or r.state.words (op_place (op_at (extent c) (part_want c p))) 0)) part_here
          ∙ ap (λ x. local_got x w) here ∙ one_got is l w sees

      done_same : event_done c u (state_grown t k r.state) ≡ state_grown t k (event_done c u r.state)
      done_same = λ i. record {
        words = words_after (op_at (extent c) (part_want c (part_here i))) r.state.words;
        locals = (ap (set (map (grown t k) r.state.locals) u) got_same ∙ sym (map-set (grown t k) r.state.locals u (local_got l w))) i;
      }

      items_same : items_by c u (command_of (local_at c (state_grown t k r.state) u)) (local_at c (state_grown t k r.state) u).spent r.order (next_effect c (state_grown t k r.state) u)
          ≡ items_by c u (command_of l) l.spent r.order (next_effect c r.state u)
      items_same = ap (items_by c u (command_of (local_at c (state_grown t k r.state) u)) (local_at c (state_grown t k r.state) u).spent r.order) effect_same
          ∙ ap (λ (x : LocalState). items_by c u (command_of x) x.spent r.order (next_effect c r.state u)) here
          ∙ one_items is c u l w r.order sees

      pub next_grown : next c u (run_grown t k r) ≡ run_grown t k (next c u r)
      next_grown = λ i. record {
        state = (ap (λ b. cond b (event_done c u (state_grown t k r.state)) (state_grown t k r.state)) event_grown ∙ done_same
            ∙ ap (λ b. state_grown t k (cond b (event_done c u r.state) r.state)) (sym event)) i;
        order = r.order ++ (ap (λ b. cond b (items_by c u (command_of (local_at c (state_grown t k r.state) u)) (local_at c (state_grown t k r.state) u).spent r.order (next_effect c (state_grown t k r.state) u)) []) event_grown
            ∙ items_same ∙ ap (λ b. cond b (items_by c u (command_of l) l.spent r.order (next_effect c r.state u)) []) (sym event)) i;
        names = (ap (λ b. cond b (renamed u (replay c r.order) (heap_in c r.state) (next_effect c (state_grown t k r.state) u).naming r.names) r.names) event_grown
            ∙ ap (λ (e : Effect). renamed u (replay c r.order) (heap_in c r.state) e.naming r.names) effect_same
            ∙ ap (λ b. cond b (renamed u (replay c r.order) (heap_in c r.state) (next_effect c r.state u).naming r.names) r.names) (sym event)) i;
      }

    -- an event is of a thread that there is and that is not done
    goes_on : (s : State) (u : ℕ) → has_event c u s ≡ true → (u < c.threads) × (is_done (local_at c s u) ≡ false)
    goes_on s u e = elim (cases_lt u c.threads) [
      | inl low ↦ (low, by (is_done (local_at c s u)) (sym (ap (λ b. cond b (not (is_done (local_at c s u))) false) (lt-ltb u c.threads low)) ∙ e))
      | inr out ↦ (let z : false ≡ true = sym (ap (λ b. cond b (not (is_done (local_at c s u))) false) (le-ltb u c.threads out)) ∙ e in cc)
    ]
      where
        by : (b : Bool) → not b ≡ true → b ≡ false
        by false h = refl
        by true h = sym h

    pub after_grown : (traces : List (List Command)) → IsJob c traces → (us : List ℕ) (r : Run) → Kept c traces r → AllGo c r us
        → after_turns c (run_grown t k r) us ≡ run_grown t k (after_turns c r us)
    after_grown traces job [] r kept go = refl
    after_grown traces job (u ∷ us) r kept go =
        let g = goes_on r.state u go.0 in
        ap (λ q. after_turns c q us) (next_grown r u g.0 (kept.locals u g.0).fits g.1)
        ∙ after_grown traces job us (next c u r) (turn_kept c traces (laws_of c) job r kept u) go.1

    -- and the turns are events there too
    pub go_grown : (traces : List (List Command)) → IsJob c traces → (us : List ℕ) (r : Run) → Kept c traces r → AllGo c r us → AllGo c (run_grown t k r) us
    go_grown traces job [] r kept go = tt
    go_grown traces job (u ∷ us) r kept go =
        let g = goes_on r.state u go.0 in
        let fits = (kept.locals u g.0).fits in (
          event_grown r u g.0 fits g.1,
          subst (λ q. AllGo c q us) (sym (next_grown r u g.0 fits g.1)) (go_grown traces job us (next c u r) (turn_kept c traces (laws_of c) job r kept u) go.1),
        )

    -- one event more
    pub go_more : (us : List ℕ) (r : Run) (u : ℕ) → AllGo c r us → has_event c u (after_turns c r us).state ≡ true → AllGo c r (us ++ u ∷ [])
    go_more [] r u go e = (e, tt)
    go_more (v ∷ us) r u go e = (go.0, go_more us (next c v r) u go.1 e)
