-- A lone thread makes a unit between two changes of the phase.
use Rattle.std.proofs.Common.{◌≡◌, ◌≢◌, ℕ, zero, suc, ◌+◌, ◌-◌, ◌<◌, ◌⊎◌, Bool, true, false, cond, lt-ltb, eq-eqb, Option, Some, None, List, [], length, get_or, refl, sym, ap, ◌∙◌, subst, arith, inl, inr}
use Rattle.std.proofs.lemmas.Bool.{cases_Bool, cases_lt}
use Rattle.block_store.specs.declared.Config.{Config}
use Rattle.block_store.specs.Phases.{is_sweep}
use Rattle.block_store.specs.Places.{Phase}
use Rattle.rate_plan.specs.Rates.{IsRate}
use Rattle.never_heap.specs.declared.Command.{Command}
use Rattle.never_heap.specs.declared.Command.TheVariants as commands
use Rattle.never_heap.specs.declared.Entry.{Entry}
use Rattle.never_heap.specs.declared.Reply.{Reply}
use Rattle.heap_machine.specs.Operations.{place_of}
use Rattle.heap_machine.specs.declared.gate.GateRow.{GateRow}
use Rattle.heap_machine.specs.declared.gate.GateRow.TheVariants as gates
use Rattle.rate_plan.specs.solo_bound.Moves.{Lone, Terms, Moves, Turns, Fresh}
use Rattle.rate_plan.proofs.solo_bound.Fresh as lone_fresh
use Rattle.heap_system.specs.Parts.{Part, PhaseChange, Leave}
use Rattle.heap_system.specs.Alone.{IsQuiet, HasCommand, after_alone, ChangesPhase, UnitBetween}
use Rattle.heap_system.specs.Locals.{LocalState, command_of, is_rest, is_done, effect, makes_unit, spent_got, part_want}
use Rattle.heap_system.specs.Machines.{Run, IsJob, local_at, heap_in, next, has_event, word_read}
use Rattle.heap_system.specs.Rounds.{turns_phase, flips_or_starts}
use Rattle.heap_system.specs.Units.{is_unit}
use Rattle.heap_system.proofs.invariant.InvariantHolds.{turn_kept}
use Rattle.heap_system.proofs.step_rows.FlipAndStart.{phase_same}
use Rattle.heap_system.proofs.invariant.Invariant.{Kept}
use Rattle.heap_system.proofs.step_rows.LawsOfParts.{laws_of}
use Rattle.heap_system.proofs.invariant.InvariantByTurns.{word_is, next_is}
use Rattle.heap_system.proofs.work.WaitingTurns.{done_stays}
use Rattle.heap_system.proofs.alone.Runs
use Rattle.heap_system.proofs.alone.LoneThread.{spot_of, gate_spot, lone_of, is_out}

-- after a change of phase the next pass will make a unit
turned_fresh : (s z : Lone) (sweep : Bool) → Turns s z sweep → Fresh z.spot z
turned_fresh s z sweep move = subst (λ (q : Lone). Fresh q.spot q) (sym move.1) (refl, move.0)

row_changes : (e : Terms) (g : GateRow) (s z : Lone) → flips_or_starts g ≡ true
    → Moves e (gate_spot g) s z → Fresh z.spot z
row_changes e (gates.Flip p) s z is move = turned_fresh s z true move
row_changes e (gates.Start p) s z is move = turned_fresh s z false move
row_changes e g s z is move = absurd (let q : false ≡ true = is in cc)

part_changes : (e : Terms) (c : Config) (p : Part) (s z : Lone) → turns_phase p ≡ true
    → Moves e (spot_of c p) s z → Fresh z.spot z
part_changes e c (PhaseChange g) s z is move = row_changes e g s z is move
part_changes e c p s z is move = absurd (let q : false ≡ true = is in cc)

-- and before that unit comes no other
row_stays : (g : GateRow) (s : Lone) → Fresh (gate_spot g) s → flips_or_starts g ≡ false
row_stays (gates.Flip p) s is = absurd is
row_stays (gates.Start p) s is = absurd is
row_stays g s is = refl

part_stays : (c : Config) (p : Part) (s : Lone) → Fresh (spot_of c p) s → turns_phase p ≡ false
part_stays c (PhaseChange g) s is = row_stays g s is
part_stays c p s is = refl

not_out : (c : Config) (p : Part) (s : Lone) → Fresh (spot_of c p) s → is_out p ≡ false
not_out c Leave s is = absurd is
not_out c p s is = refl

changing_stays : (p : Part) → turns_phase p ≡ true → is_out p ≡ false
changing_stays Leave is = absurd (let q : false ≡ true = is in cc)
changing_stays p is = refl

-- what is owed falls by a unit alone
unit_made : (o : Option Reply) (unit : Bool) (due paid : ℕ)
    → suc (due - spent_got o unit paid) ≡ due - paid → unit ≡ true
unit_made o true due paid less = refl
unit_made None false due paid less = absurd (omega arith)
unit_made (Some r) false due paid less = absurd (omega arith)

-- after i turns and d more
after_add : (c : Config) (t : ℕ) (r : Run) (i d n : ℕ) → n ≡ i + d
    → after_alone c t (after_alone c t r i) d ≡ after_alone c t r n
after_add c t r zero d n same = ap (after_alone c t r) (let e : d ≡ n = omega arith in e)
after_add c t r (suc i) d n same =
    after_add c t (next c t r) i d (i + d) refl
    ∙ ap (after_alone c t r) (let e : suc (i + d) ≡ n = omega arith in e)

module _ (c : Config) (traces : List (List Command)) (job : IsJob c traces) (rate : ℕ)
    (planned : IsRate c rate) (t : ℕ) (tl : t < c.threads) where
  abbrev Lonely : List Entry → Command → Run → Type 0
  Lonely = Runs.LoneRun c traces job rate planned t tl

  abbrev lone_at : Command → Run → Lone
  lone_at k r =
      lone_of c (heap_in c r.state) t
      (Runs.due c traces job rate planned t tl [] k - (local_at c r.state t).spent)
      (local_at c r.state t).part

  abbrev IsFresh : Command → Run → Type 0
  IsFresh k r = Fresh (spot_of c (local_at c r.state t).part) (lone_at k r)

  same_phase : (r : Run) → Kept c traces r → turns_phase (local_at c r.state t).part ≡ false
      → is_sweep (heap_in c (next c t r).state Phase) ≡ is_sweep (heap_in c r.state Phase)
  same_phase r kept still = (phase_same c traces job r kept t tl still).1

  -- a turn in a command
  module _ (old : List Entry) (k : Command) (left_some : length old < length (get_or traces t []))
      (command : get_or (get_or traces t []) (length old) (commands.Nil 0) ≡ k)
      (r : Run) (lone : Lonely old k r) where
    abbrev l : LocalState
    l = local_at c r.state t

    abbrev moved : LocalState
    moved = Runs.moved c traces job rate planned t tl old k left_some command r lone

    abbrev fresh_local : Lone → Type 0
    fresh_local z = Fresh z.spot z

    -- what is so of the thread after its event is so of the run
    fresh_later : Fresh (spot_of c moved.part)
        (lone_of c (Runs.after c traces job rate planned t tl old k left_some command r lone) t
        (Runs.due c traces job rate planned t tl old k - moved.spent) moved.part)
        → IsFresh k (next c t r)
    fresh_later fresh =
        subst (λ x. IsFresh k x)
        (sym (next_is c traces (laws_of c) job.bounds.config job.plan r lone.kept t tl
        (Runs.going c traces job rate planned t tl old k left_some command r lone)))
        (Runs.carry c traces job rate planned t tl old k left_some command r lone
        (λ h z. Fresh (spot_of c z.part)
        (lone_of c h t (Runs.due c traces job rate planned t tl old k - z.spent) z.part)) fresh)

    changes_fresh : turns_phase l.part ≡ true → IsFresh k (next c t r)
    changes_fresh is =
        fresh_later (part_changes (Runs.e c traces job rate planned t tl old k) c l.part _ _ is
        (Runs.moves c traces job rate planned t tl old k left_some command r lone
        (changing_stays l.part is)))

    is_unit_here : makes_unit c l.part (heap_in c r.state (place_of (part_want c l.part))) ≡ true
        → is_unit c t r.state ≡ true
    is_unit_here made =
        let going = Runs.going c traces job rate planned t tl old k left_some command r lone in
        let some : has_event c t r.state ≡ true = rw (lt-ltb t c.threads tl, going) refl in
        ap (λ b. cond b (makes_unit c l.part (word_read c r.state l)) false) some
        ∙ ap (makes_unit c l.part)
        (word_is c traces (laws_of c) job.bounds.config job.plan r lone.kept t tl)
        ∙ made

    -- a turn before the unit makes it, or is followed by another
    fresh_turn : IsFresh k r → (is_unit c t r.state ≡ true) ⊎ IsFresh k (next c t r)
    fresh_turn fresh =
        let on : is_out l.part ≡ false = not_out c l.part (lone_at k r) fresh in
        let w = heap_in c r.state (place_of (part_want c l.part)) in
        elim (lone_fresh.fresh (Runs.e c traces job rate planned t tl old k) (spot_of c l.part)
        (lone_at k r) _
        (Runs.moves c traces job rate planned t tl old k left_some command r lone on) fresh) [
          | inl more ↦ inr (fresh_later more.0)
          | inr unit ↦ inl (is_unit_here (unit_made (effect c l.part w).reply (effect c l.part w).unit
              (Runs.due c traces job rate planned t tl old k) l.spent
              (subst (λ x. suc (Runs.due c traces job rate planned t tl old k - x)
              ≡ Runs.due c traces job rate planned t tl old k - l.spent)
              (Runs.paid_is c traces job rate planned t tl old k left_some command r lone) unit)))
        ]

  -- from before a unit on, the phase does not change until it is made
  waits_for_unit : (old : List Entry) (k : Command)
      → length old < length (get_or traces t [])
      → get_or (get_or traces t []) (length old) (commands.Nil 0) ≡ k
      → (d : ℕ) (r : Run) → Lonely old k r → IsFresh k r → ChangesPhase c t r d
      → (m : ℕ) × (m < d) × (is_unit c t (after_alone c t r m).state ≡ true)
  waits_for_unit old k some command zero r lone fresh changes =
      absurd (changes (same_phase r lone.kept
      (part_stays c (local_at c r.state t).part (lone_at k r) fresh)))
  waits_for_unit old k some command (suc d) r lone fresh changes =
      let on : is_out (local_at c r.state t).part ≡ false =
      not_out c (local_at c r.state t).part (lone_at k r) fresh in
      let more : Lonely old k (next c t r) =
      (Runs.one_turn c traces job rate planned t tl old k some command r lone on).1 in
      elim (fresh_turn old k some command r lone fresh) [
        | inl unit ↦ (0, omega arith, unit)
        | inr again ↦
            let m = waits_for_unit old k some command d (next c t r) more again changes in
            let low = m.1 in
            (suc m.0, omega arith, m.2)
      ]

  -- in a command, or done
  abbrev pub InCommand : Run → Type 0
  InCommand r =
      (old : List Entry) × (k : Command) × (length old < length (get_or traces t []))
      × (get_or (get_or traces t []) (length old) (commands.Nil 0) ≡ k) × Lonely old k r

  abbrev pub AtWork : Run → Type 0
  AtWork r = InCommand r ⊎ (is_done (local_at c r.state t) ≡ true)

  pub at_rest : (r : Run) → Kept c traces r → IsQuiet c r
      → is_rest (local_at c r.state t).part ≡ true → AtWork r
  at_rest r kept quiet rest = elim (cases_lt (length (local_at c r.state t).log) (length (local_at c r.state t).trace)) [
    | inl low ↦
        let has : HasCommand (local_at c r.state t) = record { rest = rest; left = low } in
        inl (
          (local_at c r.state t).log,
          command_of (local_at c r.state t),
          Runs.some_left c traces job rate planned t tl r kept quiet has,
          Runs.command_is c traces job rate planned t tl r kept quiet has,
          Runs.begins c traces job rate planned t tl r kept quiet has,
        )
    | inr over ↦
        let most = (kept.locals t tl).fits.log in
        inr (rw (rest, eq-eqb (length (local_at c r.state t).log) (length (local_at c r.state t).trace) (omega arith)) refl)
  ]

  still_at_work : (r : Run) → Kept c traces r → AtWork r → AtWork (next c t r)
  still_at_work r kept (inl work) =
      elim (cases_Bool (is_out (local_at c r.state t).part)) [
        | inl out ↦
            let ended = (Runs.last_turn c traces job rate planned t tl work.0 work.1 work.2 work.3 r work.4 out).1 in
            at_rest (next c t r) (turn_kept c traces (laws_of c) job r kept t) ended.quiet ended.rest
        | inr on ↦
            inl (
              work.0,
              work.1,
              work.2,
              work.3,
              (Runs.one_turn c traces job rate planned t tl work.0 work.1 work.2 work.3 r work.4 on).1,
            )
      ]
  still_at_work r kept (inr done) =
      inr (ap (λ s. is_done (local_at c s t)) (done_stays c t r.state done) ∙ done)

  at_work : (i : ℕ) (r : Run) → Kept c traces r → AtWork r → AtWork (after_alone c t r i) × Kept c traces (after_alone c t r i)
  at_work zero r kept work = (work, kept)
  at_work (suc i) r kept work =
      at_work i (next c t r) (turn_kept c traces (laws_of c) job r kept t) (still_at_work r kept work)

  -- after a change of the phase a unit comes before the next
  unit_after : (d : ℕ) (r : Run) → Kept c traces r → AtWork r → ChangesPhase c t r 0 → ChangesPhase c t r (suc d)
      → (m : ℕ) × (m < d) × (is_unit c t (after_alone c t (next c t r) m).state ≡ true)
  unit_after d r kept (inr done) one other =
      absurd (one (ap (λ s. is_sweep (heap_in c s Phase)) (done_stays c t r.state done)))
  unit_after d r kept (inl work) one other = elim (cases_Bool (turns_phase (local_at c r.state t).part)) [
    | inl turning ↦
        let on = changing_stays (local_at c r.state t).part turning in
        waits_for_unit work.0 work.1 work.2 work.3 d (next c t r)
        (Runs.one_turn c traces job rate planned t tl work.0 work.1 work.2 work.3 r work.4 on).1
        (changes_fresh work.0 work.1 work.2 work.3 r work.4 turning) other
    | inr still ↦ absurd (one (same_phase r kept still))
  ]

  pub unit_between : (r : Run) → Kept c traces r → AtWork r → (i j : ℕ) → i < j
      → ChangesPhase c t r i → ChangesPhase c t r j → UnitBetween c t r i j
  unit_between r kept work i j low one other =
      let there = at_work i r kept work in
      let here : (n : ℕ) → n ≡ i + 0 → after_alone c t (after_alone c t r i) 0 ≡ after_alone c t r n = λ n same. after_add c t r i 0 n same in
      let d = j - suc i in
      let sooner : ChangesPhase c t (after_alone c t r i) 0 =
      subst (λ (x : Run). is_sweep (heap_in c x.state Phase) ≢ is_sweep (heap_in c (after_alone c t r i).state Phase))
      (sym (after_add c t r i 1 (suc i) (omega arith))) one in
      let later : ChangesPhase c t (after_alone c t r i) (suc d) =
      subst (λ (x : Run). is_sweep (heap_in c x.state Phase) ≢ is_sweep (heap_in c (after_alone c t (after_alone c t r i) (suc d)).state Phase))
      (sym (after_add c t r i (suc (suc d)) (suc j) (omega arith)))
      (subst (λ (x : Run). is_sweep (heap_in c (after_alone c t r (suc j)).state Phase) ≢ is_sweep (heap_in c x.state Phase))
      (sym (after_add c t r i (suc d) j (omega arith))) other) in
      let m = unit_after d (after_alone c t r i) there.1 there.0 sooner later in
      let few = m.1 in
      record {
        turn = i + suc m.0;
        later = omega arith;
        sooner = omega arith;
        unit = subst (λ (x : Run). is_unit c t x.state ≡ true)
            (after_add c t r i (suc m.0) (i + suc m.0) refl) m.2;
      }

pub changes_apart : (c : Config) (traces : List (List Command)) (job : IsJob c traces) (r : Run)
    (t : ℕ) → t < c.threads → Kept c traces r → IsQuiet c r
    → is_rest (local_at c r.state t).part ≡ true → (i j : ℕ) → i < j
    → ChangesPhase c t r i → ChangesPhase c t r j → UnitBetween c t r i j
changes_apart c traces job r t tl kept quiet rest i j low one other =
    let l : LocalState = local_at c r.state t in
    let planned : IsRate c l.rate =
    subst (λ x. IsRate x l.rate) (kept.locals t tl).config (kept.locals t tl).fits.rate in
    unit_between c traces job l.rate planned t tl r kept
    (at_rest c traces job l.rate planned t tl r kept quiet rest) i j low one other
