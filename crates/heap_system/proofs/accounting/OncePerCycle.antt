-- How often each block is scanned and passed in each cycle of a run.
use Rattle.std.proofs.Common.{◌≡◌, ℕ, suc, ◌+◌, ◌-◌, ◌<◌, ◌≤◌, Bool, true, false, not, ◌&&◌, cond, eqb, leb, ltb, is_some, eq-eqb, ne_eqb, lt-ltb, le-ltb, List, [], ◌∷◌, refl, sym, ap, ◌∙◌, subst, arith, inl, inr}
use Rattle.std.proofs.lemmas.Bool.{cases_Bool, cases_eq, cases_lt, and_right}
use Rattle.block_store.specs.declared.Config.{Config}
use Rattle.block_store.specs.Colours.{black_word}
use Rattle.block_store.specs.Counts.{total}
use Rattle.block_store.specs.Heaps.{Heap}
use Rattle.block_store.specs.Phases.{bit, is_sweep, cycle_of}
use Rattle.block_store.specs.Places.{Place, Phase, Cursor, ColourOf, same_place}
use Rattle.block_store.proofs.Lemmas.{one_place, total_same}
use Rattle.rate_plan.specs.Rates.{IsRate}
use Rattle.never_heap.specs.declared.Command.{Command}
use Rattle.never_heap.specs.Histories.{replay, starts_in, work_in}
use Rattle.heap_machine.specs.WorkInHand.{sweep_held}
use Rattle.heap_machine.specs.Operations.{Operation, Load, Exchange, CompareExchange, FetchAdd, FetchSub, place_of, heap_after}
use Rattle.heap_machine.specs.Sweeping.{claims}
use Rattle.heap_machine.specs.declared.gate.GateRow.{GateRow}
use Rattle.heap_machine.specs.declared.gate.GateRow.TheVariants as gates
use Rattle.grey_steps.specs.MarkUnits.{is_blackening}
use Rattle.sweep_steps.specs.SweepUnits.{row_passes}
use Rattle.sweep_steps.specs.Rows.{row_want, sweep_want, sweep_in_hand}
use Rattle.sweep_steps.specs.declared.rows.SweepRow.{SweepRow}
use Rattle.sweep_steps.specs.declared.rows.SweepRow.TheVariants as sweeps
use Rattle.build_steps.specs.LinearizationPoints.{is_publishing}
use Rattle.heap_invariant.specs.cycle_tally.Bounds.{Bound, IsSwept}
use Rattle.heap_invariant.specs.cycle_tally.Tallies.{Spending, Tally, units_now, made_now}
use Rattle.heap_invariant.specs.cycle_tally.Tallies as tallying
use Rattle.heap_invariant.proofs.Lemmas.{bound_of}
use Rattle.heap_system.specs.Parts.{Part, Mark, Sweep, Build, PhaseChange}
use Rattle.heap_system.specs.Costs.{units_so_far}
use Rattle.heap_system.specs.Cycles.{is_at_block, scans_block, passes_block, times_that, is_behind}
use Rattle.heap_system.specs.Locals.{effect, part_want, command_of, is_done}
use Rattle.heap_system.specs.Machines.{State, Run, local_at, local_in, heap_in, word_read, has_event, next, after_turns, opened, starts_by, IsJob, IsOpening, IsRunOf}
use Rattle.heap_system.specs.Naming.{Begun, Made, Same}
use Rattle.heap_system.specs.Pictures.{work_in_hand, work_in_hand_of}
use Rattle.heap_system.specs.Units.{turns_black, blackens, passes}
use Rattle.heap_system.proofs.invariant.InvariantHolds.{opening_kept, turn_kept, run_kept}
use Rattle.heap_system.proofs.invariant.Invariant.{Kept}
use Rattle.heap_system.proofs.accounting.UnitsOfTurns.{idle_next}
use Rattle.heap_system.proofs.step_rows.PartLaws.{AtPart, PartLaws, word_at}
use Rattle.heap_system.proofs.invariant.SeenAndKept.{Seen}
use Rattle.heap_system.proofs.accounting.CycleCounts.{IsTaken, taken_of, same_taken, turn_taken}
use Rattle.heap_system.proofs.accounting.RunTally.{RunTallied, opening_tallied, counted, after, event_tallied, spent_is}
use Rattle.heap_system.proofs.accounting.TallyLaw.{TallyLaw, Counted, scans_at, passes_at}
use Rattle.heap_system.proofs.invariant.InvariantByTurns.{seen, at_part, effect_here, new_run, next_is, word_is}
use Rattle.heap_system.proofs.parts.ClosedGate.{in_phase, behind_last}
use Rattle.heap_system.proofs.parts.InPass.{pass_is, grey_or_black}
use Rattle.heap_system.proofs.tallies.PhaseChange.{empty}
use Rattle.heap_system.proofs.history.OrderGrowth.{starts_after}

-- what is one or none is so where nothing else makes it one
exactly : (n k : ℕ) (b : Bool) → n + k ≡ bit b → n ≡ bit (b && eqb k 0)
exactly n k true e = elim (cases_eq k 0) [ inl none ↦ rw (eq-eqb k 0 none) (omega arith) | inr some ↦ rw (ne_eqb k 0 some) (omega arith) ]
exactly n k false e = omega arith

and_true : (b : Bool) → (b && true) ≡ b
and_true true = refl
and_true false = refl

-- an event makes no block black but the one whose colour it writes
new_at : (h new : Heap) (p : Place) (x z : ℕ) → ((q : Place) → same_place p q ≡ false → new q ≡ h q) → turns_black z (ColourOf x) (h (ColourOf x)) (new (ColourOf x)) ≡ (turns_black z p (h p) (new p) && same_place p (ColourOf x))
new_at h new p x z else = elim (cases_Bool (same_place p (ColourOf x))) [
  | inl is ↦ rw is (subst (λ q. turns_black z (ColourOf x) (h (ColourOf x)) (new (ColourOf x)) ≡ (turns_black z q (h q) (new q) && true)) (sym (one_place p (ColourOf x) is)) (sym (and_true _)))
  | inr other ↦ rw (other, else (ColourOf x) other) (grey_or_black z (h (ColourOf x)) ∙ sym (and_right _ false refl))
]

heap_else : (h : Heap) (o : Operation) (q : Place) → same_place (place_of o) q ≡ false → heap_after h o q ≡ h q
heap_else h (Load p) q other = refl
heap_else h (Exchange p v) q other = rw other refl
heap_else h (CompareExchange p old v) q other = elim (cases_Bool (eqb (h p) old)) [ inl is ↦ rw (is, other) refl | inr is ↦ rw is refl ]
heap_else h (FetchAdd p v) q other = rw other refl
heap_else h (FetchSub p v) q other = rw other refl

black_at : (h : Heap) (o : Operation) (x : ℕ) → turns_black (cycle_of (h Phase)) (ColourOf x) (h (ColourOf x)) (heap_after h o (ColourOf x)) ≡ (blackens h o && same_place (place_of o) (ColourOf x))
black_at h o x = new_at h (heap_after h o) (place_of o) x (cycle_of (h Phase)) (heap_else h o)

with_unit : (u n b p : Bool) → b ≡ (u && n) → (u && (b && p)) ≡ (b && p)
with_unit true n b p e = refl
with_unit false n b p e = rw e refl

-- a unit of marking scans the block whose colour it writes
scan_is : (c : Config) (s : Seen c) (p : Part) → AtPart c s p → PartLaws c p → (x : ℕ) → scans_at s.heap (heap_after s.heap (part_want c p)) (effect c p (word_at c s p)) x ≡ (blackens s.heap (part_want c p) && same_place (place_of (part_want c p)) (ColourOf x))
scan_is c s p at laws x = ap (λ b. (effect c p (word_at c s p)).unit && b) (black_at s.heap (part_want c p) x)
    ∙ with_unit (effect c p (word_at c s p)).unit (not (passes c p (word_at c s p))) (blackens s.heap (part_want c p)) (same_place (place_of (part_want c p)) (ColourOf x)) (laws.black s at)

-- and one of the sweep passes the first block of the claim, whose colour it reads or writes
row_is : (r : SweepRow) (t z w low x : ℕ) → low ≡ (sweep_in_hand r).low → (is_some (row_passes z r w) && eqb low x) ≡ (is_some (row_passes z r w) && same_place (place_of (row_want t z r)) (ColourOf x))
row_is (sweeps.PassBlock y high a b f) t z w low x e = ap (λ v. is_some (row_passes z (sweeps.PassBlock y high a b f) w) && eqb v x) e
row_is (sweeps.FreeBlock y high a b f) t z w low x e = ap (λ v. eqb v x) e
row_is _ t z w low x e = refl

passes_is : (c : Config) (s : Seen c) (p : Part) → AtPart c s p → (w : Spending) → w.low ≡ (work_in_hand c p).low → (x : ℕ) → passes_at s.heap (effect c p (word_at c s p)) w x ≡ (passes c p (word_at c s p) && same_place (place_of (part_want c p)) (ColourOf x))
passes_is c s (Sweep q) at w low x =
    let now : is_sweep (s.heap Phase) ≡ true = sym (pass_is c s (Sweep q) at refl).1 ∙ at.part.sweep in
    rw now (row_is q.row q.thread q.cycle (s.heap (place_of (sweep_want q))) w.low x low)
passes_is c s (Mark m) at w low x =
    let now : is_sweep (s.heap Phase) ≡ false = sym (pass_is c s (Mark m) at refl).1 ∙ at.part.mark in
    rw now (and_right (is_blackening m.row) false refl)
passes_is c s _ at w low x = refl

-- the start of a cycle makes no unit, and finds the sweep at its end
never_begun : (b : Bool) (blocks : ℕ → ℕ) → cond b (Made blocks) Same ≡ Begun → ⊥
never_begun true blocks e = absurd cc
never_begun false blocks e = absurd cc

no_unit : (c : Config) (p : Part) (w : ℕ) → (effect c p w).naming ≡ Begun → (effect c p w).unit ≡ false
no_unit c (Mark m) w e = absurd cc
no_unit c (Sweep q) w e = absurd cc
no_unit c _ w e = refl

module _ (c : Config) (rate : ℕ) (s : Seen c) where
  swept_row : (g : GateRow) (at : AtPart c s (PhaseChange g)) (before : Tally) → Counted c rate s (PhaseChange g) before → (effect c (PhaseChange g) (word_at c s (PhaseChange g))).naming ≡ Begun → IsSwept c before
  swept_row (gates.Start q) at before k e = record {
    sweep = k.of.sweep ∙ sym (in_phase c s (gates.Start q) at refl).1 ∙ at.part.0.1;
    cursor = (let last = behind_last c s q at in omega (arith, k.of.cursor, last));
    empty = empty c rate s q at before k;
  }
  swept_row _ at before k e = absurd cc

  swept_at : (p : Part) (at : AtPart c s p) (before : Tally) → Counted c rate s p before → (effect c p (word_at c s p)).naming ≡ Begun → IsSwept c before
  swept_at (PhaseChange g) at before k e = swept_row g at before k e
  swept_at (Build b) at before k e = absurd (never_begun (is_publishing b.row) _ e)
  swept_at _ at before k e = absurd cc

-- A tally of a run, and the counts of its turns.
pub record RunTaken (c : Config) (rate : ℕ) (r : Run) (scans passed : ℕ → ℕ → ℕ) : Type 0 where
  pub counts : RunTallied c rate r
  pub taken : IsTaken c.blocks counts.tally.cycle counts.tally.scanned counts.tally.passed counts.tally.past scans passed

-- counts with those of a turn of thread t
abbrev with_scan : Config → ℕ → State → (ℕ → ℕ → ℕ) → ℕ → ℕ → ℕ
with_scan c t s f z x = f z x + bit (scans_block c z x t s)

abbrev with_pass : Config → ℕ → State → (ℕ → ℕ → ℕ) → ℕ → ℕ → ℕ
with_pass c t s f z x = f z x + bit (passes_block c z x t s)

-- a turn that has no event takes no block
idle_scan : (c : Config) (t : ℕ) (s : State) (z x : ℕ) → has_event c t s ≡ false → bit (scans_block c z x t s) ≡ 0
idle_scan c t s z x none = ap (λ b. bit ((cond b (blackens (heap_in c s) (part_want c (local_at c s t).part)) false && is_at_block c x t s) && eqb (cycle_of (heap_in c s Phase)) z)) none

idle_pass : (c : Config) (t : ℕ) (s : State) (z x : ℕ) → has_event c t s ≡ false → bit (passes_block c z x t s) ≡ 0
idle_pass c t s z x none = ap (λ b. bit ((cond b (passes c (local_at c s t).part (word_read c s (local_at c s t))) false && is_at_block c x t s) && eqb (cycle_of (heap_in c s Phase)) z)) none

module _ (c : Config) (traces : List (List Command)) (job : IsJob c traces) (rate : ℕ) (planned : IsRate c rate) (laws : (p : Part) → PartLaws c p) (tally_laws : (p : Part) → TallyLaw c p) where
  same_counts : (r : Run) (s p f g : ℕ → ℕ → ℕ) → ((z x : ℕ) → s z x ≡ f z x) → ((z x : ℕ) → p z x ≡ g z x) → RunTaken c rate r s p → RunTaken c rate r f g
  same_counts r s p f g a b k = record { counts = k.counts; taken = same_taken c.blocks k.counts.tally.cycle k.counts.tally.scanned k.counts.tally.passed k.counts.tally.past s p f g a b k.taken }

  module _ (r : Run) (kept : Kept c traces r) (scans passed : ℕ → ℕ → ℕ) (k : RunTaken c rate r scans passed) (t : ℕ) where
    idle_taken : has_event c t r.state ≡ false → RunTaken c rate (next c t r) (with_scan c t r.state scans) (with_pass c t r.state passed)
    idle_taken none = subst (λ x. RunTaken c rate x (with_scan c t r.state scans) (with_pass c t r.state passed)) (sym (idle_next c t r none))
        (same_counts r scans passed _ _ (λ z x. (let e = idle_scan c t r.state z x none in omega (arith, e))) (λ z x. (let e = idle_pass c t r.state z x none in omega (arith, e))) k)

    module _ (tl : t < c.threads) (going : is_done (local_at c r.state t) ≡ false) where
      abbrev sees : Seen c
      sees = seen c traces laws job.bounds.config job.plan r kept t tl

      abbrev part : Part
      part = (local_at c r.state t).part

      abbrev at : AtPart c sees part
      at = at_part c traces laws job.bounds.config job.plan r kept t tl

      abbrev before : Tally
      before = k.counts.tally

      some : has_event c t r.state ≡ true
      some = rw (lt-ltb t c.threads tl, going) refl

      cycle : before.cycle ≡ cycle_of (heap_in c r.state Phase)
      cycle = k.counts.of.cycle

      -- the event, as the turns count it
      scan : (z x : ℕ) → bit (scans_at sees.heap (heap_after sees.heap (part_want c part)) (effect c part (word_at c sees part)) x && eqb before.cycle z) ≡ bit (scans_block c z x t r.state)
      scan z x =
          ap (λ b. bit (b && eqb before.cycle z)) (scan_is c sees part at (laws part) x)
          ∙ ap (λ y. bit ((blackens (heap_in c r.state) (part_want c part) && is_at_block c x t r.state) && eqb y z)) cycle
          ∙ ap (λ b. bit ((cond b (blackens (heap_in c r.state) (part_want c part)) false && is_at_block c x t r.state) && eqb (cycle_of (heap_in c r.state Phase)) z)) (sym some)

      pass : (z x : ℕ) → bit (passes_at sees.heap (effect c part (word_at c sees part)) (before.threads t) x && eqb before.cycle z) ≡ bit (passes_block c z x t r.state)
      pass z x =
          ap (λ b. bit (b && eqb before.cycle z)) (passes_is c sees part at (before.threads t) (k.counts.threads t tl).low x)
          ∙ ap (λ w. bit ((passes c part w && is_at_block c x t r.state) && eqb before.cycle z)) (sym (word_is c traces laws job.bounds.config job.plan r kept t tl))
          ∙ ap (λ y. bit ((passes c part (word_read c r.state (local_at c r.state t)) && is_at_block c x t r.state) && eqb y z)) cycle
          ∙ ap (λ b. bit ((cond b (passes c part (word_read c r.state (local_at c r.state t))) false && is_at_block c x t r.state) && eqb (cycle_of (heap_in c r.state Phase)) z)) (sym some)

      event_taken : RunTaken c rate (new_run c traces laws job.bounds.config job.plan r kept t tl) (with_scan c t r.state scans) (with_pass c t r.state passed)
      event_taken =
          let e = effect_here c traces laws job.bounds.config job.plan r kept t tl in
          let then = after c traces job rate planned laws tally_laws r kept k.counts t tl going in
          let bound : Bound c rate before = bound_of c rate black_word planned.some before k.counts.kept in
          let cycles : then.tally.cycle ≡ before.cycle + starts_in (starts_by e.naming) =
          sym then.kept.starts ∙ ap starts_in then.of.order ∙ starts_after (replay c r.order) t (command_of (local_at c r.state t)) (local_at c r.state t).spent e.verdict r.order (starts_by e.naming)
          ∙ ap (λ n. n + starts_in (starts_by e.naming)) (ap starts_in (sym k.counts.of.order) ∙ k.counts.kept.starts) in
          record {
            counts = event_tallied c traces job rate planned laws tally_laws r kept k.counts t tl going;
            taken = same_taken c.blocks then.tally.cycle then.tally.scanned then.tally.passed then.tally.past _ _ _ _ (λ z x. ap (λ n. scans z x + n) (scan z x)) (λ z x. ap (λ n. passed z x + n) (pass z x))
                (turn_taken c.blocks before.cycle before.scanned before.passed before.past scans passed k.taken e.naming
                (scans_at sees.heap (heap_after sees.heap (part_want c part)) e) (passes_at sees.heap e (before.threads t)) then.tally.cycle then.tally.scanned then.tally.passed then.tally.past
                k.counts.kept.some bound.scanned_once bound.passed_once
                (λ begun. (
                  λ x. ap (λ u. u && turns_black (cycle_of (sees.heap Phase)) (ColourOf x) (sees.heap (ColourOf x)) (heap_after sees.heap (part_want c part) (ColourOf x))) (no_unit c part (word_at c sees part) begun),
                  λ x. ap (λ u. u && (is_sweep (sees.heap Phase) && eqb (before.threads t).low x)) (no_unit c part (word_at c sees part) begun),
                  bound.all_passed (swept_at c rate sees part at before (counted c traces job rate planned laws tally_laws r kept k.counts t tl) begun),
                ))
                cycles then.scanned then.passed then.past);
          }

      going_taken : RunTaken c rate (next c t r) (with_scan c t r.state scans) (with_pass c t r.state passed)
      going_taken = subst (λ x. RunTaken c rate x (with_scan c t r.state scans) (with_pass c t r.state passed)) (sym (next_is c traces laws job.bounds.config job.plan r kept t tl going)) event_taken

    one_taken : RunTaken c rate (next c t r) (with_scan c t r.state scans) (with_pass c t r.state passed)
    one_taken = elim (cases_lt t c.threads) [
      | inl tl ↦ elim (cases_Bool (is_done (local_at c r.state t))) [
        | inl done ↦ idle_taken (rw (lt-ltb t c.threads tl, done) refl)
        | inr going ↦ going_taken tl going
      ]
      | inr out ↦ idle_taken (rw (le-ltb t c.threads out) refl)
    ]

  -- the counts of a list of turns
  abbrev then_scans : List ℕ → Run → (ℕ → ℕ → ℕ) → ℕ → ℕ → ℕ
  then_scans ts r f z x = f z x + times_that (scans_block c z x) c r ts

  abbrev then_passes : List ℕ → Run → (ℕ → ℕ → ℕ) → ℕ → ℕ → ℕ
  then_passes ts r f z x = f z x + times_that (passes_block c z x) c r ts

  turns_taken : (ts : List ℕ) (r : Run) → Kept c traces r → (scans passed : ℕ → ℕ → ℕ) → RunTaken c rate r scans passed → RunTaken c rate (after_turns c r ts) (then_scans ts r scans) (then_passes ts r passed)
  turns_taken [] r kept scans passed k = same_counts r scans passed _ _ (λ z x. omega arith) (λ z x. omega arith) k
  turns_taken (t ∷ ts) r kept scans passed k =
      same_counts (after_turns c (next c t r) ts) _ _ _ _ (λ z x. omega arith) (λ z x. omega arith)
      (turns_taken ts (next c t r) (turn_kept c traces laws job r kept t) (with_scan c t r.state scans) (with_pass c t r.state passed) (one_taken r kept scans passed k t))

  opening_taken : (s : State) (start : IsOpening c traces s) → RunTaken c rate (opened c s) (λ z x. 0) (λ z x. 0)
  opening_taken s start = record {
    counts = opening_tallied c traces job rate planned s start;
    taken = record {
      scans_now = λ x. refl;
      passes_now = λ x. refl;
      scans_before = λ z x low. omega arith;
      passes_before = λ z x low there. omega arith;
      ended = λ z x begun low there in_. absurd (omega arith);
      later = λ z x high. (refl, refl);
      sums = refl;
    };
  }

  module _ (ts : List ℕ) (r : Run) (is : IsRunOf c traces ts r) where
    -- every run
    run_taken : RunTaken c rate r (λ z x. times_that (scans_block c z x) c (opened c is.first) ts) (λ z x. times_that (passes_block c z x) c (opened c is.first) ts)
    run_taken = subst (λ y. RunTaken c rate y (λ z x. times_that (scans_block c z x) c (opened c is.first) ts) (λ z x. times_that (passes_block c z x) c (opened c is.first) ts)) (sym is.turns)
        (same_counts (after_turns c (opened c is.first) ts) _ _ _ _ (λ z x. omega arith) (λ z x. omega arith)
        (turns_taken ts (opened c is.first) (opening_kept c traces job is.first is.opening) (λ z x. 0) (λ z x. 0) (opening_taken is.first is.opening)))

    abbrev tally : Tally
    tally = run_taken.counts.tally

    bound : Bound c rate tally
    bound = bound_of c rate black_word planned.some tally run_taken.counts.kept

    cycles : starts_in r.order ≡ tally.cycle
    cycles = ap starts_in (sym run_taken.counts.of.order) ∙ bound.cycles

    pub scanned_once : (z x : ℕ) → times_that (scans_block c z x) c (opened c is.first) ts ≤ 1
    scanned_once z x = elim (cases_lt z tally.cycle) [
      | inl low ↦ run_taken.taken.scans_before z x low
      | inr high ↦ elim (cases_eq tally.cycle z) [
        | inl e ↦ subst (λ y. times_that (scans_block c y x) c (opened c is.first) ts ≤ 1) e (omega (arith, run_taken.taken.scans_now x, bound.scanned_once x))
        | inr ne ↦ omega (arith, (run_taken.taken.later z x (omega arith)).0)
      ]
    ]

    pub passed_once : (z x : ℕ) → 1 ≤ x → times_that (passes_block c z x) c (opened c is.first) ts ≤ 1
    passed_once z x there = elim (cases_lt z tally.cycle) [
      | inl low ↦ run_taken.taken.passes_before z x low there
      | inr high ↦ elim (cases_eq tally.cycle z) [
        | inl e ↦ subst (λ y. times_that (passes_block c y x) c (opened c is.first) ts ≤ 1) e (omega (arith, run_taken.taken.passes_now x, bound.passed_once x there))
        | inr ne ↦ omega (arith, (run_taken.taken.later z x (omega arith)).1)
      ]
    ]

    pub passed_all : (z x : ℕ) → 1 ≤ z → z < starts_in r.order → 1 ≤ x → x ≤ c.blocks → times_that (passes_block c z x) c (opened c is.first) ts ≡ 1
    passed_all z x begun low there in_ = run_taken.taken.ended z x begun (omega (arith, low, cycles)) there in_

    -- in the present cycle
    now_passed : (x : ℕ) → times_that (passes_block c (starts_in r.order) x) c (opened c is.first) ts ≡ tally.passed x
    now_passed x = ap (λ y. times_that (passes_block c y x) c (opened c is.first) ts) cycles ∙ sym (run_taken.taken.passes_now x)

    abbrev claimed : ℕ → ℕ
    claimed x = claims c.threads (λ t. sweep_held (work_in_hand_of c r.state t)) x

    claims_are : (x : ℕ) → total c.threads (λ t. tallying.claims x (tally.threads t)) ≡ claimed x
    claims_are x = total_same c.threads _ _ (λ t tl. (let own = run_taken.counts.threads t tl in λ i. bit (leb (own.low i) x && ltb x (own.high i))))

    pub in_mark : (x : ℕ) → 1 ≤ x → is_sweep (heap_in c r.state Phase) ≡ false → times_that (passes_block c (starts_in r.order) x) c (opened c is.first) ts ≡ 0
    in_mark x there mark =
        let none : bit (tally.sweep && ltb x tally.cursor) ≡ 0 = ap (λ b. bit (b && ltb x tally.cursor)) (run_taken.counts.of.sweep ∙ mark) in
        omega (arith, none, now_passed x, run_taken.counts.kept.passes x there)

    pub in_sweep : (x : ℕ) → 1 ≤ x → is_sweep (heap_in c r.state Phase) ≡ true → times_that (passes_block c (starts_in r.order) x) c (opened c is.first) ts ≡ bit (is_behind c r.state x)
    in_sweep x there sweep =
        let all : bit (tally.sweep && ltb x tally.cursor) ≡ bit (ltb x (heap_in c r.state Cursor)) = (λ i. bit ((run_taken.counts.of.sweep ∙ sweep) i && ltb x (run_taken.counts.of.cursor i))) in
        now_passed x ∙ exactly (tally.passed x) (claimed x) (ltb x (heap_in c r.state Cursor)) (omega (arith, all, claims_are x, run_taken.counts.kept.passes x there))

    -- the units are those of all cycles
    abbrev taken_in : ℕ → ℕ
    taken_in z = taken_of c.blocks (λ y x. times_that (scans_block c y x) c (opened c is.first) ts) (λ y x. times_that (passes_block c y x) c (opened c is.first) ts) z

    now_taken : units_now c.blocks tally ≡ taken_in tally.cycle
    now_taken = omega (
      arith,
      total_same c.blocks (λ x. tally.scanned (suc x)) (λ x. times_that (scans_block c tally.cycle (suc x)) c (opened c is.first) ts) (λ x low. run_taken.taken.scans_now (suc x)),
      total_same c.blocks (λ x. tally.passed (suc x)) (λ x. times_that (passes_block c tally.cycle (suc x)) c (opened c is.first) ts) (λ x low. run_taken.taken.passes_now (suc x)),
    )

    pub units_taken : units_so_far c r ≡ total (starts_in r.order) (λ z. taken_in (suc z))
    units_taken =
        let paid : made_now c.threads tally ≡ total c.threads (λ t. (local_in c r t).spent) = total_same c.threads _ _ (λ t tl. spent_is c (local_at c r.state t) (tally.threads t) (run_taken.counts.threads t tl) ((run_kept c traces laws job ts r is).locals t tl).fits.account) in
        let work : work_in tally.order ≡ work_in r.order = ap work_in run_taken.counts.of.order in
        let one : suc (tally.cycle - 1) ≡ tally.cycle = (let some = run_taken.counts.kept.some in omega arith) in
        let last : taken_in (suc (tally.cycle - 1)) ≡ taken_in tally.cycle = ap taken_in one in
        let all : total (starts_in r.order) (λ z. taken_in (suc z)) ≡ total (tally.cycle - 1) (λ z. taken_in (suc z)) + taken_in (suc (tally.cycle - 1)) = ap (λ y. total y (λ z. taken_in (suc z))) (cycles ∙ sym one) in
        omega (arith, run_taken.counts.kept.works, paid, work, run_taken.taken.sums, now_taken, last, all)
