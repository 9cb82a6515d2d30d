-- A lone thread comes to the end of its command within the near bound.
use Rattle.std.proofs.Common.{◌≡◌, ℕ, zero, suc, ◌-◌, ◌*◌, ◌≤◌, ◌<◌, true, false, List, [], length, get_or, Bool, refl, sym, ◌∙◌, subst, arith, inl, inr, le-ltb, lt-ltb}
use Rattle.std.proofs.lemmas.Bool.{cases_Bool, cases_lt}
use Rattle.block_store.specs.declared.Config.{Config}
use Rattle.block_store.specs.declared.Width.{Width}
use Rattle.block_store.specs.declared.Width.TheVariants.{Four, Eight}
use Rattle.block_store.specs.Configs.{IsInBounds}
use Rattle.block_store.specs.Heaps.{Heap}
use Rattle.block_store.specs.Registers.{registers_end}
use Rattle.block_store.specs.Widths.{payloads}
use Rattle.rate_plan.specs.Rates.{IsRate, IsAdmitted}
use Rattle.rate_plan.proofs.Rates.{opening_room}
use Rattle.never_heap.specs.declared.Command.{Command}
use Rattle.never_heap.specs.declared.Command.TheVariants as commands
use Rattle.never_heap.specs.declared.Entry.{Entry}
use Rattle.never_heap.specs.RightWork.{units_owed, requested_units}
use Rattle.never_heap.specs.Steps.{blocks_of}
use Rattle.never_heap.proofs.Lemmas.{blocks_untold, owes_told}
use Rattle.barrier_steps.specs.Operands.{is_idle}
use Rattle.rate_plan.specs.solo_bound.Moves.{Look}
use Rattle.rate_plan.specs.solo_bound.Near.{Keeps, farthest, near_at, near_bound, near_left, near_other_bound}
use Rattle.rate_plan.specs.solo_bound.Prices.{allocation_bound, idle_bound, other_bound}
use Rattle.rate_plan.proofs.solo_bound.Near.{idle_within, lower, near, near_other, near_within}
use Rattle.heap_system.specs.Parts.{Part, Rest, Leave}
use Rattle.heap_system.specs.Alone.{IsQuiet, HasCommand, EndsWithin, command_bound, command_near, most_events}
use Rattle.heap_system.specs.Locals.{LocalState, command_of, owed, is_done}
use Rattle.heap_system.specs.Machines.{Run, IsJob, local_at, local_in, heap_in, next}
use Rattle.heap_system.proofs.invariant.Invariant.{Kept}
use Rattle.heap_system.proofs.step_rows.LawsOfParts.{laws_of}
use Rattle.heap_system.proofs.invariant.InvariantByTurns.{at_part, event, next_is}
use Rattle.heap_system.proofs.alone.WorkLeft.{scene_of, far_of, far_few, keep_law}
use Rattle.heap_system.proofs.alone.Runs
use Rattle.heap_system.proofs.alone.FieldsLeft.{events_few, fields_first}
use Rattle.heap_system.proofs.alone.Runs.{untold, wide}
use Rattle.heap_system.proofs.alone.LoneThread.{terms_of, spot_of, LoneKnows, is_out, paid_left, grey_heads}

module _ (c : Config) (traces : List (List Command)) (job : IsJob c traces) (rate : ℕ)
    (planned : IsRate c rate) (t : ℕ) (tl : t < c.threads) (old : List Entry) (k : Command) where
  abbrev due : ℕ
  due = units_owed c.width rate k

  abbrev price : Heap → LocalState → ℕ
  price h l = near_left (terms_of c k) c.blocks (scene_of c h t (due - l.spent) l.part)

  abbrev Lonely : Run → Type 0
  Lonely r = Runs.LoneRun c traces job rate planned t tl old k r

  out_one : (h : Heap) (o : ℕ) (p : Part) → is_out p ≡ true
      → near_left (terms_of c k) c.blocks (scene_of c h t o p) ≡ 1
  out_one h o Leave out = refl
  out_one h o p out = absurd (let z : false ≡ true = out in cc)

  module _ (left_some : length old < length (get_or traces t []))
      (command : get_or (get_or traces t []) (length old) (commands.Nil 0) ≡ k)
      (r : Run) (lone : Lonely r) (on : is_out (local_at c r.state t).part ≡ false) where
    abbrev l : LocalState
    l = local_at c r.state t

    abbrev h : Heap
    h = heap_in c r.state

    abbrev after : Heap
    after = Runs.after c traces job rate planned t tl old k left_some command r lone

    abbrev moved : LocalState
    moved = Runs.moved c traces job rate planned t tl old k left_some command r lone

    abbrev going : is_done l ≡ false
    going = Runs.going c traces job rate planned t tl old k left_some command r lone

    due_is : owed l ≡ due
    due_is = Runs.due_is c traces job rate planned t tl old k left_some command r lone on

    keeps : Keeps c.blocks (spot_of c l.part) (scene_of c h t (due - l.spent) l.part)
        (scene_of c after t (due - moved.spent) moved.part)
    keeps =
        subst (λ x. Keeps c.blocks (spot_of c l.part) (scene_of c h t (due - l.spent) l.part)
        (scene_of c after t (due - x) moved.part))
        (sym (Runs.paid_is c traces job rate planned t tl old k left_some command r lone))
        (subst (λ d. Keeps c.blocks (spot_of c l.part) (scene_of c h t (d - l.spent) l.part)
        (scene_of c after t
        (d - paid_left c (Runs.s c traces job rate planned t tl old k left_some command r lone) l.part)
        moved.part)) due_is
        (keep_law c l.part on
        (Runs.s c traces job rate planned t tl old k left_some command r lone)
        (at_part c traces (laws_of c) job.bounds.config job.plan r lone.kept t tl)
        (Runs.alone c traces job rate planned t tl old k left_some command r lone)
        (event c traces (laws_of c) job.bounds.config job.plan r lone.kept t tl going)
        (subst (λ d. LoneKnows c h t l.pass d l.spent l.part) (sym due_is) lone.own.knows)))

    less : price after moved < price h l
    less =
        let low = wide c.width in
        lower (terms_of c k) c.blocks low.0 job.bounds.config.some_block (spot_of c l.part)
        (scene_of c h t (due - l.spent) l.part)
        (scene_of c after t (due - moved.spent) moved.part)
        (Runs.moves c traces job rate planned t tl old k left_some command r lone on) keeps

    near_turn : price (heap_in c (next c t r).state) (local_at c (next c t r).state t) < price h l
    near_turn =
        subst (λ (x : Run). price (heap_in c x.state) (local_at c x.state t) < price h l)
        (sym (next_is c traces (laws_of c) job.bounds.config job.plan r lone.kept t tl going))
        (Runs.carry c traces job rate planned t tl old k left_some command r lone
        (λ y z. price y z < price h l) less)

  module _ (left_some : length old < length (get_or traces t []))
      (command : get_or (get_or traces t []) (length old) (commands.Nil 0) ≡ k) where
    abbrev EndsIn : Run → ℕ → Type 0
    EndsIn r most = Runs.EndsIn c traces job rate planned t tl old k left_some command r most

    abbrev rest : Run → ℕ
    rest r = price (heap_in c r.state) (local_at c r.state t)

    at_out : (most : ℕ) (r : Run) → Lonely r → rest r ≤ most
        → is_out (local_at c r.state t).part ≡ true → EndsIn r most
    at_out most r lone low out =
        let one : rest r ≡ 1 =
        out_one (heap_in c r.state) (due - (local_at c r.state t).spent)
        (local_at c r.state t).part out in
        let last = Runs.last_turn c traces job rate planned t tl old k left_some command r lone out in (
          1,
          omega arith,
          Runs.none_before c traces job rate planned t tl old k left_some command r last.0,
          last.1,
        )

    pub ends : (most : ℕ) (r : Run) → Lonely r → rest r ≤ most → EndsIn r most
    ends zero r lone low = elim (cases_Bool (is_out (local_at c r.state t).part)) [
      | inl out ↦ at_out zero r lone low out
      | inr on ↦ absurd (let less = near_turn left_some command r lone on in omega arith)
    ]
    ends (suc most) r lone low = elim (cases_Bool (is_out (local_at c r.state t).part)) [
      | inl out ↦ at_out (suc most) r lone low out
      | inr on ↦
          let one = Runs.one_turn c traces job rate planned t tl old k left_some command r lone on in
          let less = near_turn left_some command r lone on in
          let on_from = ends most (next c t r) one.1 (omega arith) in
          let few = on_from.1 in (
            suc on_from.0,
            omega arith,
            Runs.went_first c traces job rate planned t tl old k left_some command r on_from.0 one.0
                on_from.2,
            on_from.3,
          )
    ]

-- what a command owes
pub owes_blocks : (c : Config) (rate : ℕ) (k : Command) → 0 < blocks_of c.width k
    → units_owed c.width rate k ≡ rate * blocks_of c.width k
owes_blocks c rate k some = omega (arith, blocks_untold c.width k some)

-- the choice of its bound
pub makes_near : (c : Config) (k : Command) (rate : ℕ) → 0 < blocks_of c.width k → command_near c rate k
    ≡ near_bound c.threads (payloads c.width) c.blocks (rate * blocks_of c.width k) (blocks_of c.width k)
makes_near c k rate some = rw (lt-ltb 0 (blocks_of c.width k) some) refl

pub serves_near : (c : Config) (k : Command) (rate : ℕ) → blocks_of c.width k ≡ 0 → command_near c rate k
    ≡ near_other_bound c.threads (payloads c.width) c.blocks (requested_units k) (most_events c k)
serves_near c k rate none = rw (le-ltb 0 (blocks_of c.width k) (omega (arith, none))) refl

-- what is left at the look is within it
priced : (c : Config) (k : Command) (rate o room : ℕ) (far : ℕ → ℕ) (sweep : Bool) → IsInBounds c
    → o ≡ units_owed c.width rate k → ((v : ℕ) → far v ≤ farthest c.threads v)
    → near_at (terms_of c k) c.blocks Look o sweep room far ≤ command_near c rate k
priced c k rate o room far sweep bounds is few = elim (cases_lt 0 (blocks_of c.width k)) [
  | inl some ↦
      let same : o ≡ rate * blocks_of c.width k = is ∙ owes_blocks c rate k some in
      subst (λ n. near_at (terms_of c k) c.blocks Look o sweep room far ≤ n) (sym (makes_near c k rate some))
      (subst (λ d. near_at (terms_of c k) c.blocks Look d sweep room far
      ≤ near_bound c.threads (payloads c.width) c.blocks (rate * blocks_of c.width k) (blocks_of c.width k)) (sym same)
      (near (terms_of c k) c.blocks (wide c.width).0 bounds.some_block (rate * blocks_of c.width k) room far sweep
      (lt-ltb 0 (blocks_of c.width k) some) few))
  | inr none ↦
      let zero_is : blocks_of c.width k ≡ 0 = omega (arith, none) in
      let same : o ≡ requested_units k = is ∙ owes_told c.width rate k zero_is in
      let first = fields_first c k in
      let low = near_other (terms_of c k) c.blocks (wide c.width).0 bounds.some_block (requested_units k) room far sweep
      (le-ltb 0 (blocks_of c.width k) none) few in
      subst (λ n. near_at (terms_of c k) c.blocks Look o sweep room far ≤ n) (sym (serves_near c k rate zero_is))
      (subst (λ d. near_at (terms_of c k) c.blocks Look d sweep room far
      ≤ near_other_bound c.threads (payloads c.width) c.blocks (requested_units k) (most_events c k)) (sym same)
      (omega (arith, low, first)))
]

-- at rest with a command left, where nobody is inside and the gate is open
module _ (c : Config) (traces : List (List Command)) (job : IsJob c traces) (rate : ℕ)
    (planned : IsRate c rate) (t : ℕ) (tl : t < c.threads) (r : Run) (kept : Kept c traces r) (quiet : IsQuiet c r)
    (has : HasCommand (local_in c r t)) where
  abbrev first : LocalState
  first = local_at c r.state t

  at_rest : first.part ≡ Rest
  at_rest = Runs.at_rest c traces job rate planned t tl r kept quiet has

  first_price : near_left (terms_of c (command_of first)) c.blocks
      (scene_of c (heap_in c r.state) t
      (units_owed c.width rate (command_of first) - first.spent) first.part)
      ≤ command_near c rate (command_of first)
  first_price =
      let none = Runs.none_paid c traces job rate planned t tl r kept quiet has in
      subst (λ p. near_left (terms_of c (command_of first)) c.blocks
      (scene_of c (heap_in c r.state) t
      (units_owed c.width rate (command_of first) - first.spent) p) ≤ command_near c rate (command_of first)) (sym at_rest)
      (priced c (command_of first) rate (units_owed c.width rate (command_of first) - first.spent) _
      (far_of c (heap_in c r.state) t) _ job.bounds.config (omega (arith, none))
      (λ passes. far_few c.threads passes (grey_heads c (heap_in c r.state) t)))

  pub near_ends : EndsWithin c t r (command_near c rate (command_of (local_in c r t)))
  near_ends =
      let ended =
      ends c traces job rate planned t tl first.log (command_of first)
      (Runs.some_left c traces job rate planned t tl r kept quiet has)
      (Runs.command_is c traces job rate planned t tl r kept quiet has)
      (command_near c rate (command_of first)) r (Runs.begins c traces job rate planned t tl r kept quiet has) first_price in
      record {
        turns = ended.0;
        few = ended.1;
        went = ended.2;
        rest = ended.3.rest;
        entry = ended.3.entry;
        log = ended.3.log;
        command = ended.3.command;
        quiet = ended.3.quiet;
      }

-- an idle has one event
idle_events : (c : Config) (k : Command) → is_idle k ≡ true → most_events c k ≡ 1
idle_events c (commands.Idle u) e = refl
idle_events c _ e = absurd cc

-- a heap that has a rate has more blocks than threads
threads_low : (w : Width) (n m : ℕ) → registers_end w n ≤ m → n ≤ m
threads_low Four n m low = omega arith
threads_low Eight n m low = omega arith

-- the near bound is within the stated one
pub stated : (c : Config) (k : Command) (rate : ℕ) → IsInBounds c → IsAdmitted c
    → command_near c rate k ≤ command_bound c rate k
stated c k rate bounds plan = elim (cases_lt 0 (blocks_of c.width k)) [
  | inl some ↦
      let allocates : command_bound c rate k ≡ allocation_bound c.threads (blocks_of c.width k) rate =
      rw (lt-ltb 0 (blocks_of c.width k) some) refl in
      subst (λ n. command_near c rate k ≤ n) (sym allocates)
      (subst (λ n. n ≤ allocation_bound c.threads (blocks_of c.width k) rate) (sym (makes_near c k rate some))
      (near_within c.threads c.blocks (payloads c.width) rate (blocks_of c.width k) bounds.threads
      (wide c.width).1 more bounds.some_block))
  | inr none ↦
      let zero_is : blocks_of c.width k ≡ 0 = omega (arith, none) in
      subst (λ n. n ≤ command_bound c rate k) (sym (serves_near c k rate zero_is))
      (elim (cases_Bool (is_idle k)) [
        | inl idle ↦
            let bound : command_bound c rate k ≡ idle_bound c.threads (requested_units k) =
            rw (le-ltb 0 (blocks_of c.width k) none, idle) refl in
            subst (λ n. near_other_bound c.threads (payloads c.width) c.blocks (requested_units k) (most_events c k) ≤ n) (sym bound)
            (subst (λ e. near_other_bound c.threads (payloads c.width) c.blocks (requested_units k) e ≤ idle_bound c.threads (requested_units k)) (sym (idle_events c k idle))
            (idle_within c.threads c.blocks (payloads c.width) (requested_units k) bounds.threads (wide c.width).1 more bounds.some_block))
        | inr other ↦
            let bound : command_bound c rate k ≡ other_bound c.object =
            rw (le-ltb 0 (blocks_of c.width k) none, other) refl in
            let few = events_few c k bounds in
            subst (λ n. near_other_bound c.threads (payloads c.width) c.blocks (requested_units k) (most_events c k) ≤ n) (sym bound)
            (subst (λ u. near_other_bound c.threads (payloads c.width) c.blocks u (most_events c k) ≤ other_bound c.object) (sym (untold k other))
            (omega arith))
      ])
]
  where
    more : c.threads ≤ c.blocks
    more = threads_low c.width c.threads c.blocks (opening_room c plan)

-- what ends within a bound ends within a greater one
pub within : (c : Config) (t : ℕ) (r : Run) (few many : ℕ) → EndsWithin c t r few → few ≤ many
    → EndsWithin c t r many
within c t r few many ended low = record {
  turns = ended.turns;
  few = omega (arith, ended.few);
  went = ended.went;
  rest = ended.rest;
  entry = ended.entry;
  log = ended.log;
  command = ended.command;
  quiet = ended.quiet;
}
