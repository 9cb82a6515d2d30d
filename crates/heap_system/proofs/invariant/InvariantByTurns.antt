-- A turn keeps what every list of turns keeps.
use Rattle.std.proofs.Common.{zero, suc, ◌*◌, ◌^◌, ◌≡◌, ℕ, ◌+◌, ◌-◌, ◌<◌, ◌≤◌, Bool, true, false, cond, eqb, lt-ltb, eq-eqb, ne_eqb, ◌&&◌, List, [], ◌++◌, length, get_or, append-nil, length-set, refl, sym, ap, ◌∙◌, subst, arith, inl, inr}
use Rattle.std.proofs.lemmas.Bool.{cases_Bool, cases_eq}
use Rattle.std.specs.List.{AllByRecursion}
use Rattle.block_store.specs.declared.Config.{Config}
use Rattle.block_store.specs.Configs.{IsInBounds}
use Rattle.block_store.specs.Counts.{changed, total}
use Rattle.block_store.specs.Heaps.{Heap}
use Rattle.block_store.specs.Phases.{bit, is_closed, is_sweep, cycle_of}
use Rattle.block_store.specs.Places.{Phase, Cursor, extent, in_range}
use Rattle.block_store.proofs.Lemmas.{bit_one, bit_zero, funext, total_changed, total_parts, total_same}
use Rattle.rate_plan.specs.Rates.{IsAdmitted}
use Rattle.never_heap.specs.declared.Command.{Command}
use Rattle.never_heap.specs.Bounds.{IsCommandInBounds}
use Rattle.never_heap.specs.Graphs.{Graph}
use Rattle.never_heap.specs.RightWork.{units_owed}
use Rattle.never_heap.specs.Histories.{HistoryItem, replay}
use Rattle.never_heap.proofs.Lemmas.{bounds_at, get_or_set}
use Rattle.heap_machine.specs.Gating.{GateOf, is_closing}
use Rattle.heap_machine.specs.WorkInHand.{WorkInHand, sweep_held}
use Rattle.heap_machine.specs.Operations.{heap_after, place_of, op_at, op_place, SumFits}
use Rattle.heap_machine.specs.PhaseKept.{PhaseKept}
use Rattle.heap_machine.specs.Readings.{IsHeld}
use Rattle.heap_machine.specs.Sweeping.{IsRange}
use Rattle.heap_machine.specs.declared.pass.Pass.{Pass}
use Rattle.heap_machine.proofs.Lemmas.{heap_of-after, length-after, op_place_below, sum_fits, word_before}
use Rattle.heap_invariant.specs.name_invariant.Invariant.{Invariant}
use Rattle.heap_invariant.specs.name_invariant.Pictures.{Names, picture}
use Rattle.heap_system.specs.Parts.{Part, Rest}
use Rattle.sweep_steps.specs.SweepUnits.{unpassed}
use Rattle.heap_system.specs.Locals.{LocalState, Effect, command_of, owed, errand_of, effect, is_rest, is_done, part_want, part_got, pass_got, spent_got, local_got, entries_of, works, task, unit_to_come, PartFits, PartReads, IsRoomy}
use Rattle.heap_system.specs.Machines.{Run, no_local, local_at, word_read, next_effect, event_done, has_event, items_by, heap_in, next}
use Rattle.heap_system.specs.Naming.{renamed}
use Rattle.heap_system.specs.Pictures.{gating, stand_of, work_in_hand, gates_in, work_in_hand_of, tasks_in, kept_state}
use Rattle.heap_system.specs.Systems.{logs_of, units_of}
use Rattle.heap_system.proofs.accounting.Balances.{replied_made}
use Rattle.heap_system.proofs.history.OrderGrowth.{order_after, items_are, part_grows, part_stays, work_grows, registers_stay, counts_stay, units_grow}
use Rattle.heap_system.proofs.invariant.Invariant.{LocalKept, progress, Kept}
use Rattle.heap_system.proofs.step_rows.LocalAfterEvent.{moved_on, local_moves, local_stays}
use Rattle.heap_system.proofs.step_rows.PartLaws.{AtPart, PartEvent, PartLaws}
use Rattle.heap_system.proofs.accounting.OwedAndPaid.{works_append, worked_low, paid_low, objects_next}
use Rattle.heap_system.proofs.step_rows.WantedPlaces.{place_at}
use Rattle.heap_system.proofs.invariant.SeenAndKept.{lead, Seen, graph_decided}

-- a thread at rest that is not done has a command left
rest_low : (l : LocalState) → length l.log ≤ length l.trace → is_done l ≡ false → l.part ≡ Rest → length l.log < length l.trace
rest_low l low going rest = elim (cases_eq (length l.log) (length l.trace)) [
  | inl e ↦ absurd (let z : true ≡ false = sym (ap (λ p. is_rest p && eqb (length l.log) (length l.trace)) rest ∙ eq-eqb _ _ e) ∙ going in cc)
  | inr n ↦ omega arith
]

cond_of : {A B : Type 0} (f : A → B) (b : Bool) (x y : A) → f (cond b x y) ≡ cond b (f x) (f y)
cond_of f true x y = refl
cond_of f false x y = refl

-- a sum of n parts that are small
pub total_most : (n : ℕ) (f : ℕ → ℕ) (m : ℕ) → ((u : ℕ) → u < n → f u ≤ m) → total n f ≤ n * m
total_most zero f m each = omega arith
total_most (suc n) f m each = omega (arith, total_most n f m (λ u ul. each u (omega arith)), each n (omega arith))

claimed_few : (cursor : ℕ) (w : WorkInHand) → IsRange cursor (sweep_held w) → unpassed w ≤ cursor
claimed_few cursor w (inl none) = omega (arith, none.1)
claimed_few cursor w (inr some) = omega (arith, some.2)

-- more blocks were passed or claimed than cycles before
lead_cycles : (c : Config) (h : Heap) → 1 ≤ c.blocks → cycle_of (h Phase) - 1 ≤ lead c h
lead_cycles c h some = by (cycle_of (h Phase) - 1) c.blocks some
  where
    by : (n m : ℕ) → 1 ≤ m → n ≤ n * m + cond (is_sweep (h Phase)) (h Cursor - 1) 0
    by n zero one = absurd (omega arith)
    by n (suc m) one = omega arith

-- one thread's part of a sum grows by more than the sum's bound
leads_on : (c : Config) (n t : ℕ) (f g : ℕ → LocalState) (new : LocalState) (old later more : ℕ) → t < n → ((u : ℕ) → g u ≡ changed f t new u) → old ≤ total n (λ u. progress c (f u)) → later + progress c (f t) ≤ old + progress c new → later ≤ total n (λ u. progress c (g u))
leads_on c n t f g new old later more low is lead grows =
    let same = total_same n (λ u. progress c (g u)) (λ u. progress c (changed f t new u)) (λ u ul. ap (progress c) (is u)) in
    let moved = total_changed (progress c) n f t new low in
    omega (arith, same, moved, lead, grows)

module _ (c : Config) (traces : List (List Command)) (laws : (p : Part) → PartLaws c p) (bounds : IsInBounds c) (plan : IsAdmitted c) (r : Run) (kept : Kept c traces r) (t : ℕ) (tl : t < c.threads) where
  pub fits_at : (u : ℕ) → u < c.threads → PartFits c (length (local_at c r.state u).log) (length (local_at c r.state u).trace) (local_at c r.state u).pass (local_at c r.state u).part
  fits_at u ul = subst (λ x. PartFits x (length (local_at c r.state u).log) (length (local_at c r.state u).trace) (local_at c r.state u).pass (local_at c r.state u).part) (kept.locals u ul).config (kept.locals u ul).fits.part

  pub inside : IsCommandInBounds c (command_of (local_at c r.state t))
  inside = bounds_at c (local_at c r.state t).trace (length (local_at c r.state t).log) (subst (λ x. AllByRecursion (IsCommandInBounds x) (local_at c r.state t).trace) (kept.locals t tl).config (kept.locals t tl).fits.trace.commands)

  pub owes_of : owed (local_at c r.state t) ≡ units_owed c.width (local_at c r.state t).rate (command_of (local_at c r.state t))
  owes_of = ap (λ (x : Config). units_owed x.width (local_at c r.state t).rate (command_of (local_at c r.state t))) (kept.locals t tl).config

  pub cycle_low : cycle_of (heap_in c r.state Phase) ≤ 2 ^ 54 - 3
  cycle_low =
      let each : (u : ℕ) → u < c.threads → progress c (local_at c r.state u) ≤ 35184506523648 =
      λ u ul. omega (arith, worked_low (local_at c r.state u) (kept.locals u ul).fits, paid_low (local_at c r.state u) (kept.locals u ul).fits, claimed_few (heap_in c r.state Cursor) (work_in_hand_of c r.state u) (kept.rules.reuse.sweep.ranges u ul), kept.rules.reuse.sweep.cursor_in.1, bounds.blocks) in
      omega (arith, lead_cycles c (heap_in c r.state) bounds.some_block, kept.leads, total_most c.threads (λ u. progress c (local_at c r.state u)) 35184506523648 each, bounds.threads)

  pub room_of : c.object ≤ (local_at c r.state t).space
  room_of = subst (λ (x : Config). x.object ≤ (local_at c r.state t).space) (kept.locals t tl).config (kept.locals t tl).fits.space

  -- what the turn sees
  abbrev pub seen : Seen c
  seen = record {
    graph = replay c r.order;
    order = r.order;
    names = r.names;
    heap = heap_in c r.state;
    gatings = gates_in c r.state;
    tasks = tasks_in c r.state;
    holds = work_in_hand_of c r.state;
    thread = t;
    pass = (local_at c r.state t).pass;
    command = command_of (local_at c r.state t);
    done = length (local_at c r.state t).log;
    all = length (local_at c r.state t).trace;
    rate = (local_at c r.state t).rate;
    due = owed (local_at c r.state t);
    balance = (local_at c r.state t).balance;
    spent = (local_at c r.state t).spent;
    made = (local_at c r.state t).made;
    space = (local_at c r.state t).space;
    bounds = bounds;
    plan = plan;
    low = tl;
    inside = inside;
    count = (kept.locals t tl).made;
    few = omega (arith, (kept.locals t tl).fits.made, objects_next (local_at c r.state t));
    room = room_of;
    owes = owes_of;
    account = (kept.locals t tl).fits.account;
    gate = kept.gate;
    held = kept.held;
    beyond = λ x out. rw out refl;
    rules = kept.rules;
    kept = kept.names;
    unshaded = kept.unshaded;
    cycle = cycle_low;
    behind = (kept.locals t tl).behind;
    resting = λ u ul out. (laws (local_at c r.state u).part).idle out;
    empty = λ u ul out. (laws (local_at c r.state u).part).empty out;
    builders = λ u ul. (laws (local_at c r.state u).part).builds _ _ _ (fits_at u ul);
  }

  roomy : IsRoomy (local_at c r.state t).space (local_at c r.state t).part
  roomy = (kept.locals t tl).fits.roomy

  pays : (local_at c r.state t).spent + unit_to_come c (local_at c r.state t).part ≤ owed (local_at c r.state t)
  pays = subst (λ (x : Config). (local_at c r.state t).spent + unit_to_come x (local_at c r.state t).part ≤ owed (local_at c r.state t)) (kept.locals t tl).config (kept.locals t tl).fits.paid

  pub at_part : AtPart c seen (local_at c r.state t).part
  at_part = record {
    gating = refl;
    task = refl;
    holds = refl;
    part = (kept.locals t tl).stands;
    knows = (kept.locals t tl).knows;
    fits = fits_at t tl;
    roomy = roomy;
    pays = pays;
    settled = (kept.locals t tl).settled;
  }

  -- the place of the next event, and the word that is read there
  pub place : in_range (extent c) (place_of (part_want c (local_at c r.state t).part)) ≡ true
  place = place_at c _ _ _ (local_at c r.state t).part (fits_at t tl)

  pub word_is : word_read c r.state (local_at c r.state t) ≡ heap_in c r.state (place_of (part_want c (local_at c r.state t).part))
  word_is = word_before (extent c) r.state.words (part_want c (local_at c r.state t).part) place

  pub cell : op_place (op_at (extent c) (part_want c (local_at c r.state t).part)) < length r.state.words
  cell = op_place_below (extent c) r.state.words (part_want c (local_at c r.state t).part) place (omega (arith, kept.long))

  pub reads : PartReads c (local_at c r.state t).part (word_read c r.state (local_at c r.state t))
  reads = subst (λ w. PartReads c (local_at c r.state t).part w) (sym word_is) ((laws (local_at c r.state t).part).reads seen at_part)

  pub sums : SumFits (op_at (extent c) (part_want c (local_at c r.state t).part)) (word_read c r.state (local_at c r.state t))
  sums = subst (λ w. SumFits (op_at (extent c) (part_want c (local_at c r.state t).part)) w) (sym word_is) (sum_fits (extent c) (part_want c (local_at c r.state t).part) _ ((laws (local_at c r.state t).part).sum seen at_part))

  abbrev pub word_here : ℕ
  word_here = heap_in c r.state (place_of (part_want c (local_at c r.state t).part))

  abbrev pub effect_here : Effect
  effect_here = effect c (local_at c r.state t).part word_here

  abbrev pub new_pass : Pass
  new_pass = pass_got effect_here.entered t c.threads (local_at c r.state t).pass

  abbrev pub new_heap : Heap
  new_heap = heap_after (heap_in c r.state) (part_want c (local_at c r.state t).part)

  abbrev pub new_part : Part
  new_part = part_got c t (errand_of (local_at c r.state t)) (local_at c r.state t).pass (local_at c r.state t).part word_here

  abbrev pub new_graph : Graph
  new_graph = graph_decided (replay c r.order) t (command_of (local_at c r.state t)) effect_here.verdict

  abbrev pub new_order : List HistoryItem
  new_order = order_after c r.order t (command_of (local_at c r.state t)) (local_at c r.state t).spent effect_here.verdict effect_here.naming

  abbrev pub new_names : Names
  new_names = renamed t (replay c r.order) (heap_in c r.state) effect_here.naming r.names

  abbrev pub new_local : LocalState
  new_local = moved_on (local_at c r.state t) t c word_here

  abbrev pub new_run : Run
  new_run = record { state = event_done c t r.state; order = new_order; names = new_names }

  pub paid_new : new_local.spent ≡ spent_got effect_here.reply effect_here.unit (local_at c r.state t).spent
  paid_new = refl

  module _ (going : is_done (local_at c r.state t) ≡ false) where
    pub event : PartEvent c seen (local_at c r.state t).part
    event = (laws (local_at c r.state t).part).event seen at_part (rest_low (local_at c r.state t) (kept.locals t tl).fits.log going)

    there : t < length (replay c r.order).mutators
    there = omega (arith, kept.names.follows.shows.sized.threads, tl)

    moved : LocalKept c (get_or traces t []) new_graph new_order new_heap new_names t new_local
    moved = local_moves c (get_or traces t []) (replay c r.order) r.order new_order (heap_in c r.state) new_heap r.names new_names t (local_at c r.state t) effect_here.verdict effect_here.entered effect_here.unit new_pass new_part (kept.locals t tl) effect_here.reply (record {
      more = part_grows c r.order t (command_of (local_at c r.state t)) (local_at c r.state t).spent effect_here.verdict effect_here.naming;
      stands = event.part;
      knows = event.knows;
      fits = event.fits;
      roomy = event.roomy;
      behind = event.behind;
      over = event.over;
      told = event.told;
      low = event.low;
      settled = event.settled;
      exact = event.exact;
      whole = λ x e. replied_made c _ _ (local_at c r.state t).part word_here x (kept.locals t tl).fits.settled e;
      counts = event.counts;
      some = λ x e. (laws (local_at c r.state t).part).low _ _ _ _ x (fits_at t tl) e;
    })

    moved_is : local_got (local_at c r.state t) (word_read c r.state (local_at c r.state t)) ≡ new_local
    moved_is =
        ap (moved_on (local_at c r.state t) (local_at c r.state t).thread (local_at c r.state t).config) word_is
        ∙ ap (λ u. moved_on (local_at c r.state t) u (local_at c r.state t).config word_here) (kept.locals t tl).thread
        ∙ ap (λ (x : Config). moved_on (local_at c r.state t) t x word_here) (kept.locals t tl).config

    pub local_new : (u : ℕ) → local_at c (event_done c t r.state) u ≡ cond (eqb t u) new_local (local_at c r.state u)
    local_new u = get_or_set r.state.locals t u (local_got (local_at c r.state t) (word_read c r.state (local_at c r.state t))) (no_local c) (omega (arith, kept.threads, tl)) ∙ ap (λ l. cond (eqb t u) l (local_at c r.state u)) moved_is

    gates_new : gates_in c (event_done c t r.state) ≡ changed (gates_in c r.state) t (gating c new_pass new_part)
    gates_new = funext _ _ (λ u. ap (λ (l : LocalState). gating c l.pass l.part) (local_new u) ∙ cond_of (λ (l : LocalState). gating c l.pass l.part) (eqb t u) new_local (local_at c r.state u))

    work_in_hand_new : work_in_hand_of c (event_done c t r.state) ≡ changed (work_in_hand_of c r.state) t (work_in_hand c new_part)
    work_in_hand_new = funext _ _ (λ u. ap (λ (l : LocalState). work_in_hand c l.part) (local_new u) ∙ cond_of (λ (l : LocalState). work_in_hand c l.part) (eqb t u) new_local (local_at c r.state u))

    tasks_new : tasks_in c (event_done c t r.state) ≡ changed (tasks_in c r.state) t (task c new_part)
    tasks_new = funext _ _ (λ u. ap (λ (l : LocalState). task c l.part) (local_new u) ∙ cond_of (λ (l : LocalState). task c l.part) (eqb t u) new_local (local_at c r.state u))

    logs_new : units_of (logs_of (event_done c t r.state)) ≡ units_of (logs_of r.state) + works (entries_of t (command_of (local_at c r.state t)) (local_at c r.state t).spent effect_here.reply)
    logs_new = units_grow r.state.locals t (local_got (local_at c r.state t) (word_read c r.state (local_at c r.state t))) (no_local c) (entries_of t (command_of (local_at c r.state t)) (local_at c r.state t).spent effect_here.reply) (omega (arith, kept.threads, tl))
        (ap (λ (x : LocalState). x.log) moved_is)

    pub heap_new : heap_in c (event_done c t r.state) ≡ new_heap
    heap_new = heap_of-after (extent c) r.state.words (part_want c (local_at c r.state t).part) place (omega (arith, kept.long))

    -- the event's picture, in the order as the table says it
    named : Invariant c (picture new_graph new_order new_heap new_names (changed (tasks_in c r.state) t (task c new_part)))
    named = subst (λ x. Invariant c (picture new_graph (r.order ++ x) new_heap new_names (changed (tasks_in c r.state) t (task c new_part))))
        (items_are c r.order t (command_of (local_at c r.state t)) (local_at c r.state t).spent effect_here.verdict effect_here.naming) event.kept

    pub graph_new : new_graph ≡ replay c new_order
    graph_new = named.ordered.replayed

    names_kept : Invariant c (kept_state c new_run)
    names_kept = subst (λ s. Invariant c s)
        (ap (λ g. picture g new_order new_heap new_names (changed (tasks_in c r.state) t (task c new_part))) graph_new
        ∙ ap (λ h. picture (replay c new_order) new_order h new_names (changed (tasks_in c r.state) t (task c new_part))) (sym heap_new)
        ∙ ap (λ ts. picture (replay c new_order) new_order (heap_in c (event_done c t r.state)) new_names ts) (sym tasks_new)) named

    leads_new : lead c (heap_in c (event_done c t r.state)) ≤ total c.threads (λ u. progress c (local_at c (event_done c t r.state) u))
    leads_new =
        let works_new : works new_local.log ≡ works (local_at c r.state t).log + works (entries_of t (command_of (local_at c r.state t)) (local_at c r.state t).spent effect_here.reply) = works_append (local_at c r.state t).log _ in
        let more : lead c new_heap + progress c (local_at c r.state t) ≤ lead c (heap_in c r.state) + progress c new_local = omega (arith, event.leads, works_new, paid_new) in
        subst (λ h. lead c h ≤ total c.threads (λ u. progress c (local_at c (event_done c t r.state) u))) (sym heap_new)
        (leads_on c c.threads t (local_at c r.state) (local_at c (event_done c t r.state)) new_local (lead c (heap_in c r.state)) (lead c new_heap) 0 tl local_new kept.leads more)

    -- while another thread has closed the gate, nothing changes
    rests : (u : ℕ) → u < c.threads → (t ≡ u → ⊥) → is_closing (stand_of c (local_at c r.state u).part) ≡ true → (new_heap ≡ heap_in c r.state) × (new_names ≡ r.names)
    rests u ul other closes =
        let one : bit (is_closing (gates_in c r.state u).stand) ≡ 1 = ap bit closes in
        let both = total_parts c.threads (λ v. bit (is_closing (gates_in c r.state v).stand)) t u tl ul other in
        let closed : is_closed (heap_in c r.state Phase) ≡ true = bit_one (is_closed (heap_in c r.state Phase)) (omega (arith, one, both, kept.gate.closers)) in
        let shut : bit (is_closed (heap_in c r.state Phase)) ≡ 1 = ap bit closed in
        let none : is_closing (stand_of c (local_at c r.state t).part) ≡ false = bit_zero _ (omega (arith, one, both, kept.gate.closers, shut)) in
        let still = (laws (local_at c r.state t).part).rests seen at_part closed none in
        (still.0, ap (λ n. renamed t (replay c r.order) (heap_in c r.state) n r.names) still.1)

    stayed : (u : ℕ) → u < c.threads → (t ≡ u → ⊥) → LocalKept c (get_or traces u []) new_graph new_order new_heap new_names u (local_at c r.state u)
    stayed u ul other = local_stays c (get_or traces u []) (replay c r.order) new_graph r.order new_order (heap_in c r.state) new_heap r.names new_names u (local_at c r.state u) (laws (local_at c r.state u).part) (kept.locals u ul)
        (λ q. registers_stay (replay c r.order) t (command_of (local_at c r.state t)) effect_here.verdict u q there other)
        (counts_stay (replay c r.order) t (command_of (local_at c r.state t)) effect_here.verdict u there other)
        (part_stays c r.order t (command_of (local_at c r.state t)) (local_at c r.state t).spent effect_here.verdict effect_here.naming u other)
        event.forward event.rules.reuse.sweep.cursor_in.1 (rests u ul other)

    each : (u : ℕ) → u < c.threads → LocalKept c (get_or traces u []) (replay c new_order) new_order (heap_in c (event_done c t r.state)) new_names u (local_at c (event_done c t r.state) u)
    each u ul = subst (λ g. LocalKept c (get_or traces u []) g new_order (heap_in c (event_done c t r.state)) new_names u (local_at c (event_done c t r.state) u)) graph_new
        (subst (λ h. LocalKept c (get_or traces u []) new_graph new_order h new_names u (local_at c (event_done c t r.state) u)) (sym heap_new)
        (subst (λ x. LocalKept c (get_or traces u []) new_graph new_order new_heap new_names u x) (sym (local_new u))
        (elim (cases_eq t u) [
          | inl e ↦ rw (eq-eqb t u e) (subst (λ v. LocalKept c (get_or traces v []) new_graph new_order new_heap new_names v new_local) e moved)
          | inr n ↦ rw (ne_eqb t u n) (stayed u ul n)
        ])))

    -- after the event
    pub event_kept : Kept c traces new_run
    event_kept = record {
      long = length-after (extent c) r.state.words (part_want c (local_at c r.state t).part) ∙ kept.long;
      threads = length-set r.state.locals t _ ∙ kept.threads;
      gate = subst (λ x. GateOf c.threads (x Phase) (gates_in c (event_done c t r.state))) (sym heap_new) (subst (λ gs. GateOf c.threads (new_heap Phase) gs) (sym gates_new) event.gate);
      held = subst (λ x. IsHeld c x) (sym heap_new) event.held;
      rules = subst (λ x. PhaseKept (extent c) x (work_in_hand_of c (event_done c t r.state))) (sym heap_new) (subst (λ hs. PhaseKept (extent c) new_heap hs) (sym work_in_hand_new) event.rules);
      names = names_kept;
      unshaded = subst (λ x. is_sweep (x Phase) ≡ true → is_closed (x Phase) ≡ false → (u : ℕ) → u < c.threads → new_names.shaded u ≡ false) (sym heap_new) event.unshaded;
      leads = leads_new;
      locals = each;
      foreign = λ u ul. part_stays c r.order t (command_of (local_at c r.state t)) (local_at c r.state t).spent effect_here.verdict effect_here.naming u (λ e. omega (arith, e, tl, ul)) ∙ kept.foreign u ul;
      counted = omega (arith, work_grows c r.order t (command_of (local_at c r.state t)) (local_at c r.state t).spent effect_here.verdict effect_here.naming, kept.counted, event.counted, logs_new);
    }

  -- the run after a turn, by whether there is an event, and by the word that it reads
  abbrev next_if : Bool → Run
  next_if b = record {
    state = cond b (event_done c t r.state) r.state;
    order = r.order ++ cond b (items_by c t (command_of (local_at c r.state t)) (local_at c r.state t).spent r.order (next_effect c r.state t)) [];
    names = cond b (renamed t (replay c r.order) (heap_in c r.state) (next_effect c r.state t).naming r.names) r.names;
  }

  abbrev next_at : ℕ → Run
  next_at w = record {
    state = event_done c t r.state;
    order = r.order ++ items_by c t (command_of (local_at c r.state t)) (local_at c r.state t).spent r.order (effect c (local_at c r.state t).part w);
    names = renamed t (replay c r.order) (heap_in c r.state) (effect c (local_at c r.state t).part w).naming r.names;
  }

  -- where there is an event
  pub next_is : is_done (local_at c r.state t) ≡ false → next c t r ≡ new_run
  next_is going = (let some : has_event c t r.state ≡ true = rw (lt-ltb t c.threads tl, going) refl in ap next_if some ∙ ap next_at word_is)

  -- a turn that has an event, or none
  pub next_kept : Kept c traces (next c t r)
  next_kept = elim (cases_Bool (is_done (local_at c r.state t))) [
    | inl done ↦
        let none : has_event c t r.state ≡ false = rw (lt-ltb t c.threads tl, done) refl in
        subst (λ x. Kept c traces (next_if x)) (sym none)
        (subst (λ o. Kept c traces (record { state = r.state; order = o; names = r.names })) (sym (append-nil r.order)) kept)
    | inr going ↦ subst (λ x. Kept c traces x) (sym (next_is going)) (event_kept going)
  ]
