-- A lone thread comes to the end of its command.
use Rattle.std.proofs.Common.{◌≡◌, ℕ, zero, suc, ◌+◌, ◌-◌, ◌*◌, ◌≤◌, ◌<◌, Bool, true, false, cond, eqb, ◌&&◌, eq-eqb, ne_eqb, Option, Some, None, is_some, List, [], ◌∷◌, ◌++◌, length, get_or, append-nil, refl, sym, ap, ◌∙◌, subst, arith, inl, inr, ltb, ltb-true, ltb-false}
use Rattle.std.proofs.lemmas.Bool.{cases_Bool}
use Rattle.block_store.specs.declared.Config.{Config}
use Rattle.block_store.specs.Configs.{IsInBounds}
use Rattle.block_store.specs.declared.Width.{Width}
use Rattle.block_store.specs.declared.Width.TheVariants.{Four, Eight}
use Rattle.block_store.specs.Heaps.{Heap}
use Rattle.block_store.specs.Phases.{bit, is_closed}
use Rattle.block_store.specs.Places.{Phase}
use Rattle.block_store.specs.Widths.{payloads}
use Rattle.block_store.proofs.Lemmas.{total_part}
use Rattle.rate_plan.specs.Rates.{IsRate}
use Rattle.rate_plan.proofs.Rates.{one_rate}
use Rattle.never_heap.specs.declared.Command.{Command}
use Rattle.never_heap.specs.declared.Command.TheVariants as commands
use Rattle.never_heap.specs.declared.Entry.{Entry}
use Rattle.never_heap.specs.declared.Reply.{Reply}
use Rattle.never_heap.specs.RightWork.{requested_units, units_owed}
use Rattle.never_heap.specs.Steps.{blocks_of}
use Rattle.never_heap.proofs.Lemmas.{blocks_untold, owes_told}
use Rattle.heap_machine.specs.Gating.{is_outside, is_inside, is_closing}
use Rattle.heap_machine.specs.Operations.{place_of}
use Rattle.heap_machine.proofs.Lemmas.{stand_out}
use Rattle.rate_plan.specs.solo_bound.Moves.{Terms, Moves}
use Rattle.rate_plan.specs.solo_bound.Prices.{left, at_look, allocation_bound, idle_bound, other_bound}
use Rattle.rate_plan.proofs.solo_bound.Prices.{lower, within, one_event}
use Rattle.barrier_steps.specs.Operands.{is_idle}
use Rattle.barrier_steps.specs.Rows.{first_row}
use Rattle.heap_system.specs.Parts.{Part, Rest, Leave}
use Rattle.heap_system.specs.declared.Turn.TheVariants as turns
use Rattle.heap_system.specs.Alone.{IsQuiet, HasCommand, EndsWithin, command_bound, after_alone}
use Rattle.heap_system.specs.Locals.{LocalState, command_of, owed, effect, is_rest, is_done, entry_of, entries_of, waits, part_want, part_got, errand_of}
use Rattle.heap_system.specs.Machines.{Run, IsJob, local_at, local_in, heap_in, next, answer, word_read}
use Rattle.heap_system.specs.Pictures.{gating, gates_in}
use Rattle.heap_system.proofs.invariant.Invariant.{Kept}
use Rattle.heap_system.proofs.step_rows.LawsOfParts.{laws_of}
use Rattle.heap_system.proofs.work.TurnFacts.{rest_is}
use Rattle.heap_system.proofs.invariant.SeenAndKept.{IsSettled, Seen}
use Rattle.heap_system.proofs.invariant.InvariantByTurns.{seen, at_part, event, event_kept, word_is, local_new, heap_new, paid_new, new_local, new_heap, new_run, next_is}
use Rattle.heap_system.proofs.work.WaitingTurns.{part_waits}
use Rattle.heap_system.proofs.alone.FieldsLeft.{events_few, field_left, fields_first}
use Rattle.heap_system.proofs.alone.Heads.{open_here}
use Rattle.heap_system.proofs.alone.Laws.{lone_law}
use Rattle.heap_system.proofs.alone.ObjectSizes.{order_objects}
use Rattle.heap_system.proofs.alone.LoneThread.{terms_of, spot_of, lone_of, LoneKnows, LoneStep, Alone, is_out, paid_left}

-- a price of a unit that serves both widths
abbrev unit : Config → ℕ
unit c = 8 * c.threads + 64

pub wide : (w : Width) → (2 ≤ payloads w) × (payloads w ≤ 8)
wide Four = (omega arith, omega arith)
wide Eight = (omega arith, omega arith)

-- a thread that is not at the end of its trace is not done
not_done : (p : Part) (len all : ℕ) → (is_rest p ≡ true → len < all) → (is_rest p && eqb len all) ≡ false
not_done Rest len all low = ne_eqb len all (λ e. (let l = low refl in omega arith))
not_done p len all low = refl

-- that goes out has one turn left
out_one : (e : Terms) (u : ℕ) (c : Config) (h : Heap) (t o : ℕ) (p : Part) → is_out p ≡ true
    → left e u (lone_of c h t o p) ≡ 1
out_one e u c h t o Leave out = refl
out_one e u c h t o p out = absurd (let z : false ≡ true = out in cc)

rest_stays : (p : Part) → is_rest p ≡ true → is_out p ≡ false
rest_stays Rest is = refl
rest_stays p is = absurd (let z : false ≡ true = is in cc)

pub out_is : (p : Part) → is_out p ≡ true → p ≡ Leave
out_is Leave is = refl
out_is p is = absurd (let z : false ≡ true = is in cc)

-- thread t in command k, with this log before it
module _ (c : Config) (traces : List (List Command)) (job : IsJob c traces) (rate : ℕ)
    (planned : IsRate c rate) (t : ℕ) (tl : t < c.threads) (old : List Entry) (k : Command) where
  abbrev pub e : Terms
  e = terms_of c k

  abbrev pub due : ℕ
  due = units_owed c.width rate k

  abbrev price : Heap → LocalState → ℕ
  price h l = left e (unit c) (lone_of c h t (due - l.spent) l.part)

  -- the log has the entry once the thread goes out
  abbrev pub LogAt : List Entry → Part → Type 0
  LogAt log p =
      (is_out p ≡ false → log ≡ old)
      × (is_out p ≡ true → (x : Entry) × (log ≡ old ++ x ∷ []) × (x.command ≡ k))

  log_after : (log : List Entry) (paid : ℕ) (at : Command) (o : Option Reply) (p : Part)
      → is_out p ≡ is_some o → log ≡ old → at ≡ k → LogAt (log ++ entries_of t at paid o) p
  log_after log paid at None p out is same = (
    λ in_hand. append-nil log ∙ is,
    λ over. absurd (let z : true ≡ false = sym over ∙ out in cc),
  )
  log_after log paid at (Some r) p out is same = (
    λ in_hand. absurd (let z : true ≡ false = sym out ∙ in_hand in cc),
    λ over. (entry_of t at paid r, ap (λ x. x ++ entry_of t at paid r ∷ []) is, same),
  )

  -- what a lone thread has and knows, on this heap
  pub record Own (h : Heap) (l : LocalState) : Type 0 where
    pub knows : LoneKnows c h t l.pass due l.spent l.part
    pub log : LogAt l.log l.part

  pub record LoneRun (r : Run) : Type 0 where
    pub kept : Kept c traces r
    pub others : (u : ℕ) → u < c.threads → (t ≡ u → ⊥)
        → is_outside (gates_in c r.state u).stand ≡ true
    pub own : Own (heap_in c r.state) (local_at c r.state t)

  -- the end: at rest, with the entry
  pub record Ended (z : Run) : Type 0 where
    pub rest : is_rest (local_at c z.state t).part ≡ true
    pub entry : Entry
    pub log : (local_at c z.state t).log ≡ old ++ entry ∷ []
    pub command : entry.command ≡ k
    pub quiet : IsQuiet c z

  -- where every thread is outside, nobody is inside and the gate is open
  quiet_after : (z : Run) → Kept c traces z
      → ((u : ℕ) → u < c.threads → (t ≡ u → ⊥) → is_outside (gates_in c z.state u).stand ≡ true)
      → is_outside (gates_in c z.state t).stand ≡ true → IsQuiet c z
  quiet_after z kept others out =
      let free = open_here c (seen c traces (laws_of c) job.bounds.config job.plan z kept t tl)
      (record {
        others = others;
        low = order_objects c traces job.bounds.config job.plan z kept;
      }) out in
      record { nobody = free.nobody; opened = free.opened }

  -- the run's own
  module _ (left_some : length old < length (get_or traces t []))
      (command : get_or (get_or traces t []) (length old) (commands.Nil 0) ≡ k)
      (r : Run) (lone : LoneRun r) where
    abbrev pub l : LocalState
    l = local_at c r.state t

    abbrev pub h : Heap
    h = heap_in c r.state

    abbrev pub s : Seen c
    s = seen c traces (laws_of c) job.bounds.config job.plan r lone.kept t tl

    pub alone : Alone c s
    alone = record {
      others = lone.others;
      low = order_objects c traces job.bounds.config job.plan r lone.kept;
    }

    pub here : is_out l.part ≡ false → command_of l ≡ k
    here on =
        (λ i. get_or ((lone.kept.locals t tl).trace i) (length (lone.own.log.0 on i)) (commands.Nil 0))
        ∙ command

    rate_is : l.rate ≡ rate
    rate_is =
        one_rate c l.rate rate
        (subst (λ x. IsRate x l.rate) (lone.kept.locals t tl).config (lone.kept.locals t tl).fits.rate)
        planned

    pub due_is : is_out l.part ≡ false → owed l ≡ due
    due_is on =
        λ i. units_owed ((lone.kept.locals t tl).config i).width (rate_is i) (here on i)

    pub going : is_done l ≡ false
    going = not_done l.part (length l.log) (length l.trace) (λ rest.
        (let log : length l.log ≡ length old = ap length (lone.own.log.0 (rest_stays l.part rest)) in
        let trace : length l.trace ≡ length (get_or traces t []) = ap length (lone.kept.locals t tl).trace in
        omega arith))

    step : (on : is_out l.part ≡ false) → LoneStep c s l.part
    step on =
        lone_law c l.part on s
        (at_part c traces (laws_of c) job.bounds.config job.plan r lone.kept t tl) alone
        (event c traces (laws_of c) job.bounds.config job.plan r lone.kept t tl going)
        (subst (λ d. LoneKnows c h t l.pass d l.spent l.part) (sym (due_is on)) lone.own.knows)

    abbrev pub later : Run
    later = new_run c traces (laws_of c) job.bounds.config job.plan r lone.kept t tl

    abbrev pub moved : LocalState
    moved = new_local c traces (laws_of c) job.bounds.config job.plan r lone.kept t tl

    abbrev pub after : Heap
    after = new_heap c traces (laws_of c) job.bounds.config job.plan r lone.kept t tl

    pub own_is : local_at c later.state t ≡ moved
    own_is =
        local_new c traces (laws_of c) job.bounds.config job.plan r lone.kept t tl going t
        ∙ ap (λ b. cond b moved l) (eq-eqb t t refl)

    pub paid_is : moved.spent ≡ paid_left c s l.part
    paid_is = paid_new c traces (laws_of c) job.bounds.config job.plan r lone.kept t tl

    -- what holds of the thread after its event holds of the run
    pub carry : (P : Heap → LocalState → Type 0) → P after moved
        → P (heap_in c later.state) (local_at c later.state t)
    carry P x =
        subst (λ y. P y (local_at c later.state t))
        (sym (heap_new c traces (laws_of c) job.bounds.config job.plan r lone.kept t tl going))
        (subst (λ z. P after z) (sym own_is) x)

    kept_later : Kept c traces later
    kept_later = event_kept c traces (laws_of c) job.bounds.config job.plan r lone.kept t tl going

    others_later : (u : ℕ) → u < c.threads → (t ≡ u → ⊥)
        → is_outside (gates_in c later.state u).stand ≡ true
    others_later u ul ne =
        ap (λ (x : LocalState). is_outside (gating c x.pass x.part).stand)
        (local_new c traces (laws_of c) job.bounds.config job.plan r lone.kept t tl going u
        ∙ ap (λ b. cond b moved (local_at c r.state u)) (ne_eqb t u ne))
        ∙ lone.others u ul ne

    went : waits l.part (h (place_of (part_want c l.part))) ≡ false → answer c t r.state ≡ turns.Went
    went free = rw going
        (part_waits c l.part (word_read c r.state l)
        ∙ ap (λ w. cond (waits l.part w) turns.Waited turns.Went)
        (word_is c traces (laws_of c) job.bounds.config job.plan r lone.kept t tl)
        ∙ ap (λ b. cond b turns.Waited turns.Went) free)

    -- a turn in the command
    module _ (on : is_out l.part ≡ false) where
      own_later : Own after moved
      own_later = record {
        knows = subst (λ x. LoneKnows c after t moved.pass due x moved.part) (sym paid_is)
            (subst (λ d. LoneKnows c after t moved.pass d (paid_left c s l.part) moved.part)
            (due_is on) (step on).knows);
        log = log_after l.log l.spent (command_of l) (effect c l.part (h (place_of (part_want c l.part)))).reply
            moved.part (step on).out (lone.own.log.0 on) (here on);
      }

      pub moves : Moves e (spot_of c l.part) (lone_of c h t (due - l.spent) l.part)
          (lone_of c after t (due - moved.spent) moved.part)
      moves =
          subst (λ x. Moves e (spot_of c l.part) (lone_of c h t (due - l.spent) l.part)
          (lone_of c after t (due - x) moved.part)) (sym paid_is)
          (subst (λ d. Moves e (spot_of c l.part) (lone_of c h t (d - l.spent) l.part)
          (lone_of c after t (d - paid_left c s l.part) moved.part)) (due_is on)
          (subst (λ x. Moves (terms_of c x) (spot_of c l.part)
          (lone_of c h t (owed l - l.spent) l.part)
          (lone_of c after t (owed l - paid_left c s l.part) moved.part)) (here on) (step on).moves))

      less : price after moved < price h l
      less =
          let low = wide c.width in
          lower e (unit c) low.0 (let up = low.1 in omega arith) (spot_of c l.part)
          (lone_of c h t (due - l.spent) l.part) (lone_of c after t (due - moved.spent) moved.part) moves

      pub one_turn : (answer c t r.state ≡ turns.Went) × LoneRun (next c t r)
          × (price (heap_in c (next c t r).state) (local_at c (next c t r).state t) < price h l)
      one_turn =
          let to = sym (next_is c traces (laws_of c) job.bounds.config job.plan r lone.kept t tl going) in (
            went (step on).goes,
            subst (λ x. LoneRun x) to
                (record { kept = kept_later; others = others_later; own = carry Own own_later }),
            subst (λ (x : Run). price (heap_in c x.state) (local_at c x.state t) < price h l) to
                (carry (λ y z. price y z < price h l) less),
          )

    -- the last turn
    module _ (out : is_out l.part ≡ true) where
      rests : moved.part ≡ Rest
      rests = ap (λ p. part_got c t (errand_of l) l.pass p (h (place_of (part_want c p)))) (out_is l.part out)

      silent : moved.log ≡ l.log
      silent =
          ap (λ p. l.log ++ entries_of t (command_of l) l.spent
          (effect c p (h (place_of (part_want c p)))).reply) (out_is l.part out)
          ∙ append-nil l.log

      pub last_turn : (answer c t r.state ≡ turns.Went) × Ended (next c t r)
      last_turn =
          let entry = lone.own.log.1 out in
          let free : waits l.part (h (place_of (part_want c l.part))) ≡ false =
          ap (λ p. waits p (h (place_of (part_want c p)))) (out_is l.part out) in (
            went free,
            subst (λ x. Ended x)
                (sym (next_is c traces (laws_of c) job.bounds.config job.plan r lone.kept t tl going))
                (record {
                  rest = carry (λ y z. is_rest z.part ≡ true) (ap is_rest rests);
                  entry = entry.0;
                  log = carry (λ y z. z.log ≡ old ++ entry.0 ∷ []) (silent ∙ entry.1);
                  command = entry.2;
                  quiet = quiet_after later kept_later others_later
                      (carry (λ y z. is_outside (gating c z.pass z.part).stand ≡ true)
                      (ap (λ p. is_outside (gating c moved.pass p).stand) rests));
                }),
          )

  module _ (left_some : length old < length (get_or traces t []))
      (command : get_or (get_or traces t []) (length old) (commands.Nil 0) ≡ k) where
    -- the end after so many turns of r
    abbrev pub EndsIn : Run → ℕ → Type 0
    EndsIn r most =
        (n : ℕ) × (n ≤ most)
        × ((j : ℕ) → j < n → answer c t (after_alone c t r j).state ≡ turns.Went)
        × Ended (after_alone c t r n)

    abbrev rest : Run → ℕ
    rest r = price (heap_in c r.state) (local_at c r.state t)

    pub went_first : (r : Run) (n : ℕ) → answer c t r.state ≡ turns.Went
        → ((j : ℕ) → j < n → answer c t (after_alone c t (next c t r) j).state ≡ turns.Went)
        → (j : ℕ) → j < suc n → answer c t (after_alone c t r j).state ≡ turns.Went
    went_first r n one more zero low = one
    went_first r n one more (suc j) low = more j (omega arith)

    pub none_before : (r : Run) → answer c t r.state ≡ turns.Went
        → (j : ℕ) → j < 1 → answer c t (after_alone c t r j).state ≡ turns.Went
    none_before r one = went_first r 0 one (λ j low. absurd (omega arith))

    at_out : (most : ℕ) (r : Run) → LoneRun r → rest r ≤ most
        → is_out (local_at c r.state t).part ≡ true → EndsIn r most
    at_out most r lone low out =
        let one : rest r ≡ 1 =
        out_one e (unit c) c (heap_in c r.state) t (due - (local_at c r.state t).spent)
        (local_at c r.state t).part out in
        let last = last_turn left_some command r lone out in
        (1, omega arith, none_before r last.0, last.1)

    pub ends : (most : ℕ) (r : Run) → LoneRun r → rest r ≤ most → EndsIn r most
    ends zero r lone low = elim (cases_Bool (is_out (local_at c r.state t).part)) [
      | inl out ↦ at_out zero r lone low out
      | inr on ↦ absurd (let less = (one_turn left_some command r lone on).2 in omega arith)
    ]
    ends (suc most) r lone low = elim (cases_Bool (is_out (local_at c r.state t).part)) [
      | inl out ↦ at_out (suc most) r lone low out
      | inr on ↦
          let one = one_turn left_some command r lone on in
          let less = one.2 in
          let on_from = ends most (next c t r) one.1 (omega arith) in
          let few = on_from.1 in
          (suc on_from.0, omega arith, went_first r on_from.0 one.0 on_from.2, on_from.3)
    ]

-- where nobody is inside and the gate is open, every thread is outside
all_out : (c : Config) (traces : List (List Command)) (r : Run) → Kept c traces r → IsQuiet c r
    → (u : ℕ) → u < c.threads → is_outside (gates_in c r.state u).stand ≡ true
all_out c traces r kept quiet u ul =
    let inside = total_part c.threads (λ v. bit (is_inside (gates_in c r.state v).stand)) u ul in
    let closing = total_part c.threads (λ v. bit (is_closing (gates_in c r.state v).stand)) u ul in
    let none : bit (is_closed (heap_in c r.state Phase)) ≡ 0 = ap bit quiet.opened in
    ap is_outside (stand_out (gates_in c r.state u).stand
    (omega (arith, inside, kept.gate.count, quiet.nobody))
    (omega (arith, closing, kept.gate.closers, none)))

-- the first price is within the bound
serves_in : (e : Terms) (u b : ℕ) (sweep ready : Bool) → e.allocates ≡ false → e.most ≤ b + 61
    → at_look e u 0 sweep ready ≤ other_bound b
serves_in e u b sweep ready none few = rw none (omega arith)

-- an idle has one event, and only that is told of units
idles : (c : Config) (k : Command) → is_idle k ≡ true → field_left c k (first_row k) ≡ 1
idles c (commands.Idle u) e = refl
idles c _ e = absurd cc

pub untold : (k : Command) → is_idle k ≡ false → requested_units k ≡ 0
untold (commands.Idle u) e = absurd cc
untold _ e = refl

priced : (c : Config) (rate : ℕ) (k : Command) (owing : ℕ) (sweep ready : Bool) → IsInBounds c
    → owing ≡ units_owed c.width rate k
    → at_look (terms_of c k) (unit c) owing sweep ready ≤ command_bound c rate k
priced c rate k owing sweep ready bounds is = elim (cases_Bool (ltb 0 (blocks_of c.width k))) [
  | inl makes ↦
      let low = wide c.width in
      let bound : command_bound c rate k ≡ allocation_bound c.threads (blocks_of c.width k) rate =
      rw makes refl in
      subst (λ n. at_look (terms_of c k) (unit c) owing sweep ready ≤ n) (sym bound)
      (subst (λ d. at_look (terms_of c k) (unit c) d sweep ready
      ≤ allocation_bound c.threads (blocks_of c.width k) rate)
      (let z : owing ≡ rate * blocks_of c.width k = omega (arith, is, blocks_untold c.width k (ltb-true 0 (blocks_of c.width k) makes)) in sym z)
      (within (terms_of c k) rate sweep ready low.0 low.1 makes))
  | inr serves ↦
      let price : units_owed c.width rate k ≡ requested_units k =
      owes_told c.width rate k (omega (arith, ltb-false 0 (blocks_of c.width k) serves)) in
      elim (cases_Bool (is_idle k)) [
        | inl idle ↦
            let low = wide c.width in
            let bound : command_bound c rate k ≡ idle_bound c.threads (requested_units k) =
            rw (serves, idle) refl in
            subst (λ n. at_look (terms_of c k) (unit c) owing sweep ready ≤ n) (sym bound)
            (subst (λ d. at_look (terms_of c k) (unit c) d sweep ready ≤ idle_bound c.threads (requested_units k))
            (let z : owing ≡ requested_units k = omega (arith, is, price) in sym z)
            (one_event (terms_of c k) (requested_units k) sweep ready low.0 low.1 serves (idles c k idle)))
        | inr other ↦
            let bound : command_bound c rate k ≡ other_bound c.object = rw (serves, other) refl in
            let first = fields_first c k in
            let few = events_few c k bounds in
            subst (λ n. at_look (terms_of c k) (unit c) owing sweep ready ≤ n) (sym bound)
            (subst (λ d. at_look (terms_of c k) (unit c) d sweep ready ≤ other_bound c.object)
            (let z : owing ≡ 0 = omega (arith, is, price, untold k other) in sym z)
            (serves_in (terms_of c k) (unit c) c.object sweep ready serves (omega arith)))
      ]
]

-- at rest with a command left, where nobody is inside and the gate is open
module _ (c : Config) (traces : List (List Command)) (job : IsJob c traces) (rate : ℕ)
    (planned : IsRate c rate) (t : ℕ) (tl : t < c.threads) (r : Run) (kept : Kept c traces r)
    (quiet : IsQuiet c r) (has : HasCommand (local_in c r t)) where
  abbrev pub first : LocalState
  first = local_at c r.state t

  pub at_rest : first.part ≡ Rest
  at_rest = rest_is first.part has.rest

  pub begins : LoneRun c traces job rate planned t tl first.log (command_of first) r
  begins = record {
    kept = kept;
    others = λ u ul ne. all_out c traces r kept quiet u ul;
    own = record {
      knows = subst (λ p. LoneKnows c (heap_in c r.state) t first.pass
          (units_owed c.width rate (command_of first)) first.spent p) (sym at_rest) tt;
      log = subst (λ p. LogAt c traces job rate planned t tl first.log (command_of first)
          first.log p) (sym at_rest)
          (λ on. refl, λ out. absurd (let z : false ≡ true = out in cc));
    };
  }

  pub some_left : length first.log < length (get_or traces t [])
  some_left =
      let same : length first.trace ≡ length (get_or traces t []) =
      ap length (kept.locals t tl).trace in
      let low = has.left in omega arith

  pub command_is : get_or (get_or traces t []) (length first.log) (commands.Nil 0) ≡ command_of first
  command_is =
      ap (λ x. get_or x (length first.log) (commands.Nil 0)) (sym (kept.locals t tl).trace)

  -- nothing is paid
  pub none_paid : first.spent ≡ 0
  none_paid =
      let settled : IsSettled (owed first) first.spent Rest =
      subst (λ p. IsSettled (owed first) first.spent p) at_rest (kept.locals t tl).settled in
      settled

  first_price : left (terms_of c (command_of first)) (unit c)
      (lone_of c (heap_in c r.state) t (units_owed c.width rate (command_of first) - first.spent)
      first.part) ≤ command_bound c rate (command_of first)
  first_price =
      let none = none_paid in
      subst (λ p. left (terms_of c (command_of first)) (unit c)
      (lone_of c (heap_in c r.state) t (units_owed c.width rate (command_of first) - first.spent) p)
      ≤ command_bound c rate (command_of first)) (sym at_rest)
      (priced c rate (command_of first)
      (units_owed c.width rate (command_of first) - first.spent) _ _ job.bounds.config (omega arith))

  pub lone_ends : EndsWithin c t r (command_bound c rate (command_of (local_in c r t)))
  lone_ends =
      let ended =
      ends c traces job rate planned t tl first.log (command_of first) some_left command_is
      (command_bound c rate (command_of first)) r begins first_price in
      record {
        turns = ended.0;
        few = ended.1;
        went = ended.2;
        rest = ended.3.rest;
        entry = ended.3.entry;
        log = ended.3.log;
        command = ended.3.command;
        quiet = ended.3.quiet;
      }
