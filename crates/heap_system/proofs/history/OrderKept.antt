-- The order that a system keeps: which items an event adds, and that there is room for them.
use Rattle.std.proofs.Common.{◌≡◌, ℕ, zero, suc, ◌+◌, ◌-◌, ◌*◌, ◌/◌, ◌<◌, ◌≤◌, Bool, true, false, cond, eqb, ltb, lt-ltb, le-ltb, eq-eqb, ne_eqb, Option, IfSome, Some, None, List, [], ◌∷◌, ◌++◌, length, get_or, take, length-append, map, refl, sym, ap, ◌∙◌, subst, arith, inl, inr}
use Rattle.std.specs.Vec.{vec_capacity}
use Rattle.std.proofs.Math.Nat.{le-div_iff_mul-le}
use Rattle.std.proofs.lemmas.Bool.{cases_Bool, cases_eq}
use Rattle.std.proofs.lemmas.List.{map-append, length-map}
use Rattle.block_store.specs.declared.Config.{Config}
use Rattle.block_store.specs.Counts.{changed, total}
use Rattle.block_store.specs.Phases.{bit, cycle_of}
use Rattle.block_store.specs.Places.{Phase, extent, words_count}
use Rattle.block_store.proofs.Lemmas.{bit_le, total_below, total_changed, total_none, total_plus, total_same}
use Rattle.never_heap.specs.declared.Command.{Command}
use Rattle.never_heap.specs.declared.Item.{Item}
use Rattle.never_heap.specs.declared.Item.TheVariants as items
use Rattle.never_heap.specs.Graphs.{Graph}
use Rattle.never_heap.specs.Histories.{HistoryItem, Started, Did, replay, part, starts_in}
use Rattle.never_heap.specs.HistoryOfOrder.{item_of, IsHistoryOf}
use Rattle.never_heap.proofs.Lemmas.{starts_append}
use Rattle.barrier_steps.specs.Rows.{field_decided}
use Rattle.barrier_steps.proofs.RepliesDue.{none_due, some_due}
use Rattle.heap_invariant.specs.cycle_tally.Entries.{InThreads}
use Rattle.heap_machine.specs.Readings.{CanHold}
use Rattle.heap_machine.specs.declared.pass.Pass.{Pass}
use Rattle.heap_system.specs.Parts.{Part, Access}
use Rattle.heap_system.specs.Costs.{units_so_far}
use Rattle.heap_system.specs.Locals.{LocalState, Effect, Verdict, Open, AsStep, Refused, PartFits, entries_of, decided_in, commands_decided, is_done}
use Rattle.heap_system.specs.Machines.{State, Run, IsJob, IsOpening, opened, no_local, local_at, local_in, heap_in, turned, next, next_effect, has_event, entries_by, starts_by, items_by}
use Rattle.heap_system.specs.Naming.{Naming, Begun}
use Rattle.heap_system.specs.declared.orders.KeptOrder.{KeptOrder}
use Rattle.heap_system.specs.Ordering.{ordered, ordered_of, IsOrderOf, IsOrderIn, IsInOrder}
use Rattle.heap_system.specs.Pictures.{waiting}
use Rattle.heap_system.specs.Systems.{Ordered, opening_order, entry_item, start_item, items_by_effect, items_added, after_event, ordered_after, commands_in, traces_of, logs_of, items_kept, AllDone, IsReached, IsReachedInOrder, IsFinishedInOrder}
use Rattle.heap_system.specs.Units.{made_by}
use Rattle.heap_system.proofs.invariant.InvariantHolds.{here, run_kept, turn_kept}
use Rattle.heap_system.proofs.accounting.RunBounds.{in_threads, least, by_thread}
use Rattle.heap_system.proofs.history.FinishedRun.{all_done, done_run, logged_all}
use Rattle.heap_system.proofs.history.OrderGrowth.{part_grows, entries_start_none}
use Rattle.heap_system.proofs.invariant.Invariant.{Kept}
use Rattle.heap_system.proofs.step_rows.LawsOfParts.{laws_of}
use Rattle.heap_system.proofs.accounting.UnitsOfTurns.{turn_makes}
use Rattle.heap_system.proofs.work.TurnFacts.{reached_kept, turned_reached, turned_traces, turn_facts}
use Rattle.heap_system.proofs.invariant.SeenAndKept.{told_by}
use Rattle.heap_system.proofs.openings.SystemStart.{opened_traces, opened_reached}
use Rattle.heap_system.proofs.accounting.TalliesOfParts.{tallies_of}

-- the decided command that has no entry in the log yet
waits_long : (t : ℕ) (k : Command) (w : ℕ) (g : Graph) (p : Part) → length (entries_of t k w (waiting g p)) ≡ decided_in p
waits_long t k w g (Access f) = elim (cases_Bool (field_decided f.row)) [
  | inl e ↦ rw e (ap (λ o. length (entries_of t k w o)) (some_due g f.pass.thread f.command f.row e).1)
  | inr e ↦ rw e (ap (λ o. length (entries_of t k w o)) (none_due g f.pass.thread f.command f.row e).0)
]
waits_long t k w g _ = refl

told_long : (g : Graph) (t : ℕ) (k : Command) (w : ℕ) (v : Verdict) → length (told_by g t k w v) ≡ length (entry_item t v)
told_long g t k w Open = refl
told_long g t k w AsStep = refl
told_long g t k w (Refused r) = refl

-- an entry is added where one command more is decided than before, and a start where one cycle more
-- was started
pub entry_by : (t : ℕ) (v : Verdict) (a b : ℕ) → b ≡ a + length (entry_item t v) → cond (ltb a b) (items.Entry t ∷ []) [] ≡ entry_item t v
entry_by t Open a b e = rw (le-ltb a b (omega (arith, e))) refl
entry_by t AsStep a b e = rw (lt-ltb a b (omega (arith, e))) refl
entry_by t (Refused r) a b e = rw (lt-ltb a b (omega (arith, e))) refl

pub start_by : (n : Naming) (a b : ℕ) → b ≡ a + length (start_item n) → cond (ltb a b) (items.Start ∷ []) [] ≡ start_item n
start_by Begun a b e = rw (lt-ltb a b (omega (arith, e))) refl
start_by _ a b e = rw (le-ltb a b (omega (arith, e))) refl

starts_long : (n : Naming) → starts_in (starts_by n) ≡ length (start_item n)
starts_long Begun = refl
starts_long _ = refl

starts_grow : (c : Config) (t : ℕ) (k : Command) (w : ℕ) (order : List HistoryItem) (v : Verdict) (n : Naming) → starts_in (order ++ (entries_by c t k w order v ++ starts_by n)) ≡ starts_in order + length (start_item n)
starts_grow c t k w order v n = omega (arith, starts_append order (entries_by c t k w order v ++ starts_by n), starts_append (entries_by c t k w order v) (starts_by n), entries_start_none c t k w order v, starts_long n)

-- the items of an order are its starts and its parts
order_long : (n : ℕ) (h : List HistoryItem) → InThreads n h → length h ≡ total n (λ t. length (part t h)) + starts_in h
order_long n [] in_ = omega (arith, total_none n (λ t. 0) (λ t tl. refl))
order_long n (Started ∷ h) in_ = omega (arith, order_long n h in_)
order_long n (Did e ∷ h) in_ =
    let f : ℕ → ℕ = λ t. length (part t h) in
    let one = total_changed (λ (x : ℕ). x) n f e.thread (suc (f e.thread)) in_.0 in
    let same = total_same n (λ t. length (part t (Did e ∷ h))) (changed f e.thread (suc (f e.thread))) (λ t tl. own t) in
    omega (arith, order_long n h in_.1, one, same)
  where
    own : (t : ℕ) → length (part t (Did e ∷ h)) ≡ changed (λ u. length (part u h)) e.thread (suc (length (part e.thread h))) t
    own t = elim (cases_eq e.thread t) [
      | inl is ↦ rw (eq-eqb e.thread t is) (ap (λ u. suc (length (part u h))) (sym is))
      | inr ne ↦ rw (ne_eqb e.thread t ne) refl
    ]

module _ (c : Config) (traces : List (List Command)) (r : Run) (kept : Kept c traces r) (t : ℕ) (tl : t < c.threads) where
  -- the commands of a thread that are decided are those of its part of the order
  pub part_long : length (part t r.order) ≡ commands_decided (local_at c r.state t)
  part_long = ap length (kept.locals t tl).told ∙ length-append (local_at c r.state t).log _ ∙ ap (λ n. length (local_at c r.state t).log + n) (waits_long _ _ _ (replay c r.order) (local_at c r.state t).part)

-- an event of thread t: what it adds, and what that makes of the commands decided and of the cycles
-- started
abbrev of : List Item → ℕ → Ordered
of xs a = record { items = xs; left = a }

of_parts : (xs ys : List Item) (a b : ℕ) → xs ≡ ys → a ≡ b → of xs a ≡ of ys b
of_parts xs ys a b e f = ap (λ z. of z a) e ∙ ap (of ys) f

both : {X : Type 0} (xs ys us vs : List X) → xs ≡ us → ys ≡ vs → xs ++ ys ≡ us ++ vs
both xs ys us vs e f = ap (λ z. z ++ ys) e ∙ ap (λ z. us ++ z) f

module _ (c : Config) (traces : List (List Command)) (job : IsJob c traces) (r : Run) (kept : Kept c traces r) (t : ℕ) (tl : t < c.threads) (going : is_done (local_at c r.state t) ≡ false) where
  abbrev e : Effect
  e = next_effect c r.state t

  has : has_event c t r.state ≡ true
  has = rw (lt-ltb t c.threads tl, going) refl

  later : Kept c traces (next c t r)
  later = turn_kept c traces (laws_of c) job r kept t

  part_more : length (part t (next c t r).order) ≡ length (part t r.order) + length (entry_item t e.verdict)
  part_more = rw has (ap length (part_grows c r.order t _ _ e.verdict e.naming) ∙ length-append (part t r.order) _ ∙ ap (λ n. length (part t r.order) + n) (told_long (replay c r.order) t _ _ e.verdict))

  decided_more : commands_decided (local_at c (next c t r).state t) ≡ commands_decided (local_at c r.state t) + length (entry_item t e.verdict)
  decided_more = omega (arith, part_more, part_long c traces r kept t tl, part_long c traces (next c t r) later t tl)

  starts_more : starts_in (next c t r).order ≡ starts_in r.order + length (start_item e.naming)
  starts_more = rw has (starts_grow c t _ _ r.order e.verdict e.naming)

  added_first : items_added c t r.state ≡ entry_item t e.verdict ++ start_item e.naming
  added_first = rw has refl

  -- one command more is decided than before, and one cycle more was started
  abbrev pub decides : Bool
  decides = ltb (commands_decided (local_at c r.state t)) (commands_decided (local_at c (next c t r).state t))

  abbrev pub starts : Bool
  starts = ltb (starts_in r.order) (starts_in (next c t r).order)

  pub added_is : cond decides (items.Entry t ∷ []) [] ++ cond starts (items.Start ∷ []) [] ≡ items_added c t r.state
  added_is = both _ _ _ _ (entry_by t e.verdict _ _ decided_more) (start_by e.naming _ _ starts_more) ∙ sym added_first

-- one number is one more at most
sum_more : (n : ℕ) (f g : ℕ → ℕ) (u : ℕ) → u < n → ((t : ℕ) → t < n → g t ≤ f t + changed (λ x. 0) u 1 t) → total n g ≤ total n f + 1
sum_more n f g u low h =
    let one = total_changed (λ (x : ℕ). x) n (λ x. 0) u 1 low in
    let none = total_none n (λ x. 0) (λ t tl. refl) in
    omega (arith, total_below n g (λ t. f t + changed (λ x. 0) u 1 t) h, total_plus n f (changed (λ x. 0) u 1), one, none)

total_front : (n : ℕ) (f : ℕ → ℕ) → total (suc n) f ≡ f 0 + total n (λ t. f (suc t))
total_front zero f = omega arith
total_front (suc n) f = omega (arith, total_front n f)

-- the commands of all threads
commands_are : (traces : List (List Command)) → total (length traces) (λ t. length (get_or traces t [])) ≡ commands_in traces
commands_are [] = refl
commands_are (trace ∷ traces) = omega (arith, total_front (length traces) (λ t. length (get_or (trace ∷ traces) t [])), commands_are traces)

decided_low : (c : Config) (log all : ℕ) (q : Pass) (p : Part) → PartFits c log all q p → log ≤ all → log + decided_in p ≤ all
decided_low c log all q (Access f) fits low = omega (arith, fits.1, bit_le (field_decided f.row))
decided_low c log all q _ fits low = omega (arith, low)

parts_low : (c : Config) (traces : List (List Command)) (job : IsJob c traces) (r : Run) → Kept c traces r → total c.threads (λ t. length (part t r.order)) ≤ commands_in traces
parts_low c traces job r kept =
    let below = total_below c.threads (λ t. length (part t r.order)) (λ t. length (get_or traces t [])) (λ t tl.
    (let own = kept.locals t tl in
    let l = local_at c r.state t in
    omega (arith, part_long c traces r kept t tl, ap length own.trace, decided_low l.config (length l.log) (length l.trace) l.pass l.part own.fits.part own.fits.log))) in
    let same : total (length traces) (λ t. length (get_or traces t [])) ≡ total c.threads (λ t. length (get_or traces t [])) = ap (λ n. total n (λ t. length (get_or traces t []))) job.bounds.threads in
    omega (arith, below, same, commands_are traces)

-- few starts where few units were made
starts_few : (starts units events blocks : ℕ) → (starts - 1) * blocks ≤ units → units ≤ events → 1 ≤ blocks → starts ≤ 1 + events / blocks
starts_few starts units events blocks least most some =
    let few : starts - 1 ≤ events / blocks = (le-div_iff_mul-le {k = blocks} {x = starts - 1} {y = events} (omega (arith, some))).1 (omega (arith, least, most)) in omega (arith, few)

-- what a reached order holds
order_few : (c : Config) (s : State) (k : IsReached c s) (events : ℕ) → units_so_far c k.run ≤ events → length k.run.order ≤ commands_in (traces_of s) + 1 + events / c.blocks
order_few c s k events few =
    let kept = run_kept c (traces_of s) (laws_of c) k.job k.turns k.run k.by_turns in
    let o = k.by_turns.opening in
    omega (
      arith,
      order_long c.threads k.run.order (in_threads c (traces_of s) (laws_of c) (tallies_of c) k.job k.turns k.run k.by_turns o.rate o.planned),
      parts_low c (traces_of s) k.job k.run kept,
      starts_few (starts_in k.run.order) (units_so_far c k.run) events c.blocks (least c (traces_of s) (laws_of c) (tallies_of c) k.job k.turns k.run k.by_turns o.rate o.planned) few k.job.bounds.config.some_block,
    )

-- a turn makes one unit at most
units_rise : (c : Config) (s : State) (k : IsReached c s) (t : ℕ) → t < c.threads → units_so_far c (next c t k.run) ≤ units_so_far c k.run + 1
units_rise c s k t tl =
    let later = turned_reached c s t k in
    let o = k.by_turns.opening in
    let kept = run_kept c (traces_of s) (laws_of c) k.job k.turns k.run k.by_turns in
    let old : units_so_far c k.run ≡ total c.threads (λ u. made_by c u k.run) = by_thread c (traces_of s) (laws_of c) (tallies_of c) k.job k.turns k.run k.by_turns o.rate o.planned in
    let new : units_so_far c (next c t k.run) ≡ total c.threads (λ u. made_by c u (next c t k.run)) = by_thread c (traces_of (turned c t s)) (laws_of c) (tallies_of c) later.job later.turns later.run later.by_turns o.rate o.planned in
    let more : total c.threads (λ u. made_by c u (next c t k.run)) ≤ total c.threads (λ u. made_by c u k.run) + 1 =
    sum_more c.threads (λ u. made_by c u k.run) (λ u. made_by c u (next c t k.run)) t tl (λ u ul. at_most (eqb t u) _ _ _ (turn_makes c (traces_of s) k.job k.run kept u t)) in
    omega (arith, old, new, more)
  where
    at_most : (b d : Bool) (new old : ℕ) → new ≡ old + cond b (bit d) 0 → new ≤ old + cond b 1 0
    at_most true d new old is = omega (arith, is, bit_le d)
    at_most false d new old is = omega (arith, is)

-- a turn adds to the order, as items, what it adds to the items
entry_items : (c : Config) (t : ℕ) (k : Command) (w : ℕ) (order : List HistoryItem) (v : Verdict) → map item_of (entries_by c t k w order v) ≡ entry_item t v
entry_items c t k w order Open = refl
entry_items c t k w order AsStep = refl
entry_items c t k w order (Refused reply) = refl

start_items : (n : Naming) → map item_of (starts_by n) ≡ start_item n
start_items Begun = refl
start_items _ = refl

event_items : (c : Config) (t : ℕ) (k : Command) (w : ℕ) (order : List HistoryItem) (e : Effect) (b : Bool) → map item_of (cond b (items_by c t k w order e) []) ≡ cond b (items_by_effect t e) []
event_items c t k w order e true = map-append item_of (entries_by c t k w order e.verdict) (starts_by e.naming) ∙ both _ _ _ _ (entry_items c t k w order e.verdict) (start_items e.naming)
event_items c t k w order e false = refl

pub items_grow : (c : Config) (t : ℕ) (r : Run) → map item_of (next c t r).order ≡ map item_of r.order ++ items_added c t r.state
items_grow c t r = map-append item_of r.order _ ∙ ap (λ xs. map item_of r.order ++ xs) (event_items c t _ _ r.order (next_effect c r.state t) (has_event c t r.state))

-- what is added, as the code finds it: whether one command more is decided, and one cycle more was
-- started
abbrev pub cycle_at : Config → State → ℕ
cycle_at c s = cycle_of (heap_in c s Phase)

abbrev pub is_decided : Config → ℕ → State → State → Bool
is_decided c t s new = ltb (commands_decided (local_at c s t)) (commands_decided (local_at c new t))

abbrev pub is_started : Config → State → State → Bool
is_started c s new = ltb (cycle_at c s) (cycle_at c new)

abbrev pub items_if : ℕ → Bool → Bool → List Item
items_if t decides starts = cond decides (items.Entry t ∷ []) [] ++ cond starts (items.Start ∷ []) []

items_bits : (t : ℕ) (decides starts : Bool) → length (items_if t decides starts) ≡ bit decides + bit starts
items_bits t true true = refl
items_bits t true false = refl
items_bits t false true = refl
items_bits t false false = refl

module _ (c : Config) (s : State) (k : IsReached c s) (t : ℕ) (tl : t < c.threads) (going : is_done (local_at c s t) ≡ false) where
  added_there : items_if t (is_decided c t k.run.state (turned c t k.run.state)) (ltb (starts_in k.run.order) (starts_in (next c t k.run).order)) ≡ items_added c t k.run.state
  added_there = added_is c (traces_of s) k.job k.run (run_kept c (traces_of s) (laws_of c) k.job k.turns k.run k.by_turns) t tl (subst (λ x. is_done (local_at c x t) ≡ false) k.state going)

  pub added_here : items_if t (is_decided c t s (turned c t s)) (is_started c s (turned c t s)) ≡ items_added c t s
  added_here =
      let was : starts_in k.run.order ≡ cycle_at c s = (reached_kept c s k).names.ordered.started in
      let is : starts_in (next c t k.run).order ≡ cycle_at c (turned c t s) = (reached_kept c (turned c t s) (turned_reached c s t k)).names.ordered.started in
      ap (λ n. items_if t (is_decided c t s (turned c t s)) (ltb n (cycle_at c (turned c t s)))) (sym was)
      ∙ ap (λ n. items_if t (is_decided c t s (turned c t s)) (ltb (starts_in k.run.order) n)) (sym is)
      ∙ subst (λ x. items_if t (is_decided c t x (turned c t x)) (ltb (starts_in k.run.order) (starts_in (next c t k.run).order)) ≡ items_added c t x) (sym k.state) added_there

  grown : map item_of (next c t k.run).order ≡ map item_of k.run.order ++ items_added c t s
  grown = items_grow c t k.run ∙ ap (λ x. map item_of k.run.order ++ items_added c t x) (sym k.state)

  module _ (o : KeptOrder) (kept : IsOrderOf c (commands_in (traces_of s)) k.run o) (left : 0 < o.left) where
    same_commands : commands_in (traces_of (turned c t s)) ≡ commands_in (traces_of s)
    same_commands = ap commands_in (turned_traces c t s)

    pub room_here : length o.items.items + (bit (is_decided c t s (turned c t s)) + bit (is_started c s (turned c t s))) ≤ vec_capacity o.items
    room_here =
        let long : length k.run.order + length (items_added c t s) ≡ length (next c t k.run).order =
        ap (λ n. n + length (items_added c t s)) (sym (length-map k.run.order item_of)) ∙ sym (length-append (map item_of k.run.order) (items_added c t s)) ∙ ap length (sym grown) ∙ length-map (next c t k.run).order item_of in
        let few = order_few c (turned c t s) (turned_reached c s t k) kept.events (omega (arith, units_rise c s k t tl, kept.few, left)) in
        let bits : length (items_added c t s) ≡ bit (is_decided c t s (turned c t s)) + bit (is_started c s (turned c t s)) = ap length (sym added_here) ∙ items_bits t (is_decided c t s (turned c t s)) (is_started c s (turned c t s)) in
        omega (arith, ap length kept.items, length-map k.run.order item_of, long, few, bits, kept.room, same_commands)

    module _ (n : KeptOrder) (put : n.items.items ≡ o.items.items ++ items_if t (is_decided c t s (turned c t s)) (is_started c s (turned c t s))) (room : vec_capacity n.items ≡ vec_capacity o.items) (fewer : n.left ≡ o.left - 1) where
      added : n.items.items ≡ o.items.items ++ items_added c t s
      added = put ∙ ap (λ xs. o.items.items ++ xs) added_here

      pub order_here : ordered_of n ≡ after_event c t s (ordered_of o)
      order_here = of_parts _ _ _ _ added fewer

      pub kept_here : IsInOrder c (turned c t s) (Some n)
      kept_here = record {
        reached = turned_reached c s t k;
        kept = record {
          items = added ∙ ap (λ xs. xs ++ items_added c t s) kept.items ∙ sym grown;
          events = kept.events;
          few = omega (arith, units_rise c s k t tl, kept.few, left, fewer);
          room = omega (arith, kept.room, same_commands, room);
        };
      }

-- the order that is kept, as contracts see it
pub reached_in_order : (c : Config) (s : State) (order : Option KeptOrder) → IsInOrder c s order → IsReachedInOrder c s (items_kept (ordered order))
reached_in_order c s None is = record { reached = is.reached; items = tt }
reached_in_order c s (Some o) is = record { reached = is.reached; items = is.kept.items }

-- what the code of a turn finds: thread t before and after its event, the commands that it has
-- decided, and the cycles
module _ (c : Config) (s : State) (k : IsReached c s) (t : ℕ) (tl : t < c.threads) (open_ : (d : LocalState) → is_done (get_or s.locals t d) ≡ false) (o : KeptOrder) (kept : IsOrderOf c (commands_in (traces_of s)) k.run o) (left : 0 < o.left) (new : State) (state : new ≡ turned c t s) (l m : LocalState) (was : l ≡ get_or s.locals t l) (is : m ≡ get_or new.locals t m) (a b y z : ℕ) (decided_was : a ≡ commands_decided l) (decided_is : b ≡ commands_decided m) (cycle_was : y ≡ cycle_at c s) (cycle_is : z ≡ cycle_at c new) where
  l_is : l ≡ local_at c s t
  l_is = (turn_facts c s t l k tl was).same

  m_is : m ≡ local_at c (turned c t s) t
  m_is = (turn_facts c (turned c t s) t m (turned_reached c s t k) tl (is ∙ ap (λ (x : State). get_or x.locals t m) state)).same

  decides_is : ltb a b ≡ is_decided c t s (turned c t s)
  decides_is = ap (λ n. ltb n b) (decided_was ∙ ap commands_decided l_is) ∙ ap (ltb (commands_decided (local_at c s t))) (decided_is ∙ ap commands_decided m_is)

  starts_is : ltb y z ≡ is_started c s (turned c t s)
  starts_is = ap (λ n. ltb n z) cycle_was ∙ ap (ltb (cycle_at c s)) (cycle_is ∙ ap (cycle_at c) state)

  going : is_done (local_at c s t) ≡ false
  going = open_ (no_local c)

  pub room_met : length o.items.items + (bit (ltb a b) + bit (ltb y z)) ≤ vec_capacity o.items
  room_met = rw (decides_is, starts_is) (room_here c s k t tl going o kept left)

  module _ (n : KeptOrder) (put : n.items.items ≡ o.items.items ++ items_if t (ltb a b) (ltb y z)) (room : vec_capacity n.items ≡ vec_capacity o.items) (fewer : n.left ≡ o.left - 1) where
    puts : n.items.items ≡ o.items.items ++ items_if t (is_decided c t s (turned c t s)) (is_started c s (turned c t s))
    puts = put ∙ ap (λ d. o.items.items ++ items_if t d (ltb y z)) decides_is ∙ ap (λ d. o.items.items ++ items_if t (is_decided c t s (turned c t s)) d) starts_is

    pub kept_on : IsInOrder c new (Some n)
    kept_on = subst (λ x. IsInOrder c x (Some n)) (sym state) (kept_here c s k t tl going o kept left n puts room fewer)

    pub order_on : ordered_of n ≡ after_event c t s (ordered_of o)
    order_on = order_here c s k t tl going o kept left n puts room fewer

-- the words that are read for the cycle
module _ (c : Config) (s : State) (k : IsReached c s) where
  pub long_here : length s.words ≡ words_count (extent c)
  long_here = (reached_kept c s k).long

  pub phase_here : CanHold (extent c) Phase (heap_in c s Phase)
  phase_here = (reached_kept c s k).held Phase refl

module _ (c : Config) (s : State) (k : IsReached c s) (t : ℕ) (new : State) (state : new ≡ turned c t s) where
  pub long_after : length new.words ≡ words_count (extent c)
  long_after = long_here c new (subst (λ x. IsReached c x) (sym state) (turned_reached c s t k))

  pub phase_after : CanHold (extent c) Phase (heap_in c new Phase)
  phase_after = phase_here c new (subst (λ x. IsReached c x) (sym state) (turned_reached c s t k))

-- where no order is kept a turn leaves none
pub none_on : (c : Config) (s : State) (order : Option KeptOrder) → IsInOrder c s order → order ≡ None → (t : ℕ) (new : State) → new ≡ turned c t s → IsInOrder c new order
none_on c s order k none t new state = subst (λ o. IsInOrder c new o) (sym none) (record { reached = subst (λ x. IsReached c x) (sym state) (turned_reached c s t k.reached); kept = tt })

-- the commands of the first traces
commands_suc : {V : Type 0} (f : V → List Command) (xs : List V) (i : ℕ) (d : V) → i < length xs → commands_in (map f (take (suc i) xs)) ≡ commands_in (map f (take i xs)) + length (f (get_or xs i d))
commands_suc f [] i d low = absurd (omega arith)
commands_suc f (x ∷ xs) zero d low = omega arith
commands_suc f (x ∷ xs) (suc i) d low = omega (arith, commands_suc f xs i d (omega arith))

pub commands_at : {V : Type 0} (f : V → List Command) (xs : List V) (i : ℕ) (x : V) → i < length xs → x ≡ get_or xs i x → commands_in (map f (take (i + 1) xs)) ≡ commands_in (map f (take i xs)) + length (f x)
commands_at f xs i x low is =
    let e : i + 1 ≡ suc i = omega arith in
    ap (λ n. commands_in (map f (take n xs))) e ∙ commands_suc f xs i x low ∙ ap (λ y. commands_in (map f (take i xs)) + length (f y)) (sym is)

pub commands_low : {V : Type 0} (f : V → List Command) (xs : List V) (n : ℕ) → commands_in (map f (take n xs)) ≤ commands_in (map f xs)
commands_low f [] zero = omega arith
commands_low f [] (suc n) = omega arith
commands_low f (x ∷ xs) zero = omega arith
commands_low f (x ∷ xs) (suc n) = omega (arith, commands_low f xs n)

-- the order of an opening
pub opening_in_order : (c : Config) (s : State) (traces : List (List Command)) → IsJob c traces → IsOpening c traces s → (turns : ℕ) (o : KeptOrder) → ordered_of o ≡ opening_order turns → commands_in traces + 2 + turns / c.blocks ≤ vec_capacity o.items → IsInOrder c s (Some o)
opening_in_order c s traces job start turns o is room = record {
  reached = opened_reached c traces s job start;
  kept = record {
    items = ap (λ (x : Ordered). x.items) is;
    events = turns;
    few = omega (arith, no_units, ap (λ (x : Ordered). x.left) is);
    room = omega (arith, room, ap commands_in (opened_traces c traces s start));
  };
}
  where
    no_units : units_so_far c (opened c s) ≡ 0
    no_units = omega (arith, total_none c.threads (λ t. (local_in c (opened c s) t).spent) (λ t tl. ap (λ (l : LocalState). l.spent) (here c traces job s start t tl)))

-- a finished run makes the history that its order says
pub finished_in_order : (c : Config) (s : State) (order : Option KeptOrder) → IsInOrder c s order → AllDone c s → (n : ℕ) → n ≡ cycle_at c s → IsFinishedInOrder c (traces_of s) (logs_of s) n (items_kept (ordered order))
finished_in_order c s order is done n cycles = subst (λ y. IsFinishedInOrder c (traces_of s) (logs_of s) y (items_kept (ordered order))) (sym cycles) (by order is.kept)
  where
    by : (o : Option KeptOrder) → IsOrderIn c (commands_in (traces_of s)) is.reached.run o → IsFinishedInOrder c (traces_of s) (logs_of s) (cycle_at c s) (items_kept (ordered o))
    by None kept = record { finished = all_done c s is.reached done; history = tt }
    by (Some o) kept = record {
      finished = all_done c s is.reached done;
      history = subst (λ (r : Run). IsHistoryOf o.items.items (logs_of s) r.order) (sym (done_run c s is.reached done)) (record {
        items = sym kept.items;
        logged = logged_all c s is.reached done;
      });
    }

pub none_after : (c : Config) (t : ℕ) (s : State) (o : Option Ordered) → o ≡ None → ordered_after c t s o ≡ None
none_after c t s o e = ap (ordered_after c t s) e

-- one event less is left
left_if : (b : Bool) (c : Config) (t : ℕ) (s : State) (o : Ordered) (n : ℕ) → n < o.left → n ≤ (cond b (after_event c t s o) o).left
left_if true c t s o n more = omega arith
left_if false c t s o n more = omega arith

pub left_after : (c : Config) (t : ℕ) (s : State) (o : Option Ordered) (n : ℕ) → IfSome o (λ x. n < x.left) → IfSome (ordered_after c t s o) (λ x. n ≤ x.left)
left_after c t s None n more = tt
left_after c t s (Some o) n more = left_if (has_event c t s) c t s o n more
