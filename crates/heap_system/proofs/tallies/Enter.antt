-- A thread at rest or on its way in: the tally moves where it goes in.
use Rattle.std.proofs.Common.{◌≡◌, ℕ, ◌+◌, Bool, true, false, cond, eqb, ltb, eqb-true, Some, [], ◌∷◌, refl, sym, ap, ◌∙◌, inl, inr}
use Rattle.std.proofs.lemmas.Bool.{cases_Bool}
use Rattle.block_store.specs.declared.Config.{Config}
use Rattle.block_store.specs.declared.PhaseWord.{PhaseWord}
use Rattle.block_store.specs.Heaps.{put_at}
use Rattle.block_store.specs.Phases.{phase_of, is_closed, is_sweep, cycle_of}
use Rattle.block_store.specs.Places.{Phase, extent}
use Rattle.block_store.proofs.Lemmas.{changed_else, phase-more}
use Rattle.never_heap.specs.declared.Command.{Command}
use Rattle.never_heap.specs.declared.Command.TheVariants as commands
use Rattle.never_heap.specs.Steps.{blocks_of}
use Rattle.heap_machine.specs.Operations.{heap_after}
use Rattle.heap_machine.specs.declared.Step.TheVariants as steps
use Rattle.heap_machine.specs.declared.gate.GateRow.{GateRow}
use Rattle.heap_machine.specs.declared.gate.GateRow.TheVariants as gates
use Rattle.heap_machine.specs.Gates.{is_going_in}
use Rattle.heap_machine.specs.declared.pass.Pass.{Pass}
use Rattle.barrier_steps.specs.Rows.{at_first_row, field_in_hand}
use Rattle.grey_steps.specs.Rows.{scanning}
use Rattle.sweep_steps.specs.Rows.{sweeping}
use Rattle.build_steps.specs.Rows.{building}
use Rattle.work_account.specs.Accounts.{Balance, entered}
use Rattle.heap_invariant.specs.cycle_tally.Events as events
use Rattle.heap_invariant.specs.cycle_tally.Tallies.{Spending, Tally}
use Rattle.heap_invariant.proofs.Lemmas.{spends_here}
use Rattle.heap_system.specs.Parts.{Part, Rest, Enter, Access, Mark, Sweep, Build}
use Rattle.heap_system.specs.Locals.{Errand, plain, first_part, pass_by, effect, part_want, part_got}
use Rattle.heap_system.proofs.step_rows.GatePassage.{phase_is}
use Rattle.heap_system.proofs.step_rows.PartLaws.{word_at}
use Rattle.heap_system.proofs.invariant.SeenAndKept.{Seen, IsEntering, errand}
use Rattle.heap_system.proofs.accounting.TallyLaw.{IsSpending, Counted, TallyEvent, TallyLaw, Asking, asking}
use Rattle.heap_system.proofs.tallies.Moves.{spends_on, same_words, told_none, stays, moves}

-- a command begins with nothing claimed
first_claims : (c : Config) (q : Pass) (k : Command) → ((field_in_hand (extent c) (at_first_row q k)).low ≡ 0) × ((field_in_hand (extent c) (at_first_row q k)).high ≡ 0)
first_claims c q (commands.New d f) = (refl, refl)
first_claims c q _ = (refl, refl)

-- a pass begins inside, with nothing claimed or reserved
module _ (c : Config) (q : Pass) (e : Errand) (b : Balance) (asked : Asking) (w : Spending) (inside : w.inside ≡ true) (pays : w.balance ≡ b) (asks : w.asked ≡ asked.blocks) (tells : w.requested ≡ asked.requested) (idles : w.idled ≡ asked.idled) (low : w.low ≡ 0) (high : w.high ≡ 0) (reserved : w.reserved ≡ 0) where
  owing : (y : Bool) → IsSpending c (cond y (Sweep (sweeping q.thread q.cycle c.blocks e.due)) (Mark (scanning q))) b asked w
  owing true = record { inside = inside; account = pays; asked = asks; requested = tells; idled = idles; low = low; high = high; reserved = reserved }
  owing false = record { inside = inside; account = pays; asked = asks; requested = tells; idled = idles; low = low; high = high; reserved = reserved }

  paying : (y : Bool) → IsSpending c (cond y (Build (building c.width q.thread q.threads q.cycle e.serial e.command e.space)) (Access (at_first_row q e.command))) b asked w
  paying true = record { inside = inside; account = pays; asked = asks; requested = tells; idled = idles; low = low; high = high; reserved = reserved }
  paying false = record { inside = inside; account = pays; asked = asks; requested = tells; idled = idles; low = low ∙ sym (first_claims c q e.command).0; high = high ∙ sym (first_claims c q e.command).1; reserved = reserved }

  either : (y : Bool) → IsSpending c (cond y (cond q.sweep (Sweep (sweeping q.thread q.cycle c.blocks e.due)) (Mark (scanning q))) (cond (ltb 0 (blocks_of c.width e.command)) (Build (building c.width q.thread q.threads q.cycle e.serial e.command e.space)) (Access (at_first_row q e.command)))) b asked w
  either true = owing q.sweep
  either false = paying (ltb 0 (blocks_of c.width e.command))

  begins : IsSpending c (first_part c q e) b asked w
  begins = either (ltb 0 e.due)

module _ (c : Config) (rate : ℕ) (s : Seen c) (p : Part) (before : Tally) (k : Counted c rate s p before) (next : Asking) (own : IsSpending c Rest s.balance (asking c s.command s.spent) (before.threads s.thread)) where
  stands : (g : GateRow) → is_going_in g ≡ true → IsSpending c (Enter g) s.balance (asking c s.command s.spent) (before.threads s.thread)
  stands g in_ = spends_on c Rest (Enter g) s.balance (asking c s.command s.spent) (before.threads s.thread) refl refl refl refl own

  -- a look at the gate
  looks : TallyEvent c rate s s.heap (effect c (Enter gates.Look) (s.heap Phase)) (part_got c s.thread (errand c s) s.pass (Enter gates.Look) (s.heap Phase)) next before
  looks = elim (cases_Bool (is_closed (s.heap Phase))) [
    | inl e ↦ rw e (stays c rate s p before k s.heap _ (Enter gates.Look) next (same_words s.heap) refl refl refl (stands gates.Look refl))
    | inr e ↦ rw e (stays c rate s p before k s.heap _ (Enter (gates.Enter (s.heap Phase))) next (same_words s.heap) refl refl refl (stands (gates.Enter (s.heap Phase)) refl))
  ]

  -- the exchange that goes in is won
  won : (seen : ℕ) → s.heap Phase ≡ seen → TallyEvent c rate s (put_at s.heap Phase (seen + 1)) (record (plain steps.Over) { entered = Some (phase_of seen) }) (first_part c (pass_by s.thread c.threads (phase_of seen)) (errand c s)) next before
  won seen same =
      let more = phase-more (s.heap Phase) (phase_is c s).inside in
      let cycle : cycle_of (seen + 1) ≡ cycle_of (s.heap Phase) = ap (λ w. cycle_of (w + 1)) (sym same) ∙ ap (λ (w : PhaseWord). w.cycle) more in
      let sweep : is_sweep (seen + 1) ≡ is_sweep (s.heap Phase) = ap (λ w. is_sweep (w + 1)) (sym same) ∙ ap (λ (w : PhaseWord). w.sweep) more in
      let w : Spending = before.threads s.thread in
      let same_cycle : before.cycle ≡ cycle_of seen = k.of.cycle ∙ ap cycle_of same in
      moves c rate s p before k (events.Enter s.thread ∷ []) (s.low, tt) (put_at s.heap Phase (seen + 1)) (record (plain steps.Over) { entered = Some (phase_of seen) }) (first_part c (pass_by s.thread c.threads (phase_of seen)) (errand c s)) next
      (record { cycle = k.of.cycle ∙ sym cycle; sweep = k.of.sweep ∙ sym sweep; cursor = k.of.cursor; free = k.of.free; colour = k.of.colour; order = told_none c rate s p before k (record (plain steps.Over) { entered = Some (phase_of seen) }) refl refl })
      (spends_here (IsSpending c (first_part c (pass_by s.thread c.threads (phase_of seen)) (errand c s)) (entered (cycle_of seen) s.balance) (asking c s.command s.spent)) before.threads s.thread (record w { inside = true; balance = entered before.cycle w.balance })
      (begins c (pass_by s.thread c.threads (phase_of seen)) (errand c s) (entered (cycle_of seen) s.balance) (asking c s.command s.spent) (record w { inside = true; balance = entered before.cycle w.balance }) refl (λ i. entered (same_cycle i) (own.account i)) own.asked own.requested own.idled own.low own.high own.reserved))
      (λ u other. changed_else before.threads s.thread u _ other) (λ x. refl) (λ x. refl) refl

  enters : (seen : ℕ) → TallyEvent c rate s (cond (eqb (s.heap Phase) seen) (put_at s.heap Phase (seen + 1)) s.heap) (effect c (Enter (gates.Enter seen)) (s.heap Phase)) (part_got c s.thread (errand c s) s.pass (Enter (gates.Enter seen)) (s.heap Phase)) next before
  enters seen = elim (cases_Bool (eqb (s.heap Phase) seen)) [
    | inl e ↦ rw e (won seen (eqb-true (s.heap Phase) seen e))
    | inr e ↦ rw e (stays c rate s p before k s.heap _ (Enter gates.Look) next (same_words s.heap) refl refl refl (stands gates.Look refl))
  ]

pub rest_tallied : (c : Config) → TallyLaw c Rest
rest_tallied c rate s at next few before k = looks c rate s Rest before k next k.own

entering : (c : Config) (rate : ℕ) (s : Seen c) (next : Asking) (before : Tally) (g : GateRow) → IsEntering g → Counted c rate s (Enter g) before → IsSpending c Rest s.balance (asking c s.command s.spent) (before.threads s.thread)
    → TallyEvent c rate s (heap_after s.heap (part_want c (Enter g))) (effect c (Enter g) (word_at c s (Enter g))) (part_got c s.thread (errand c s) s.pass (Enter g) (word_at c s (Enter g))) next before
entering c rate s next before gates.Look kept k own = looks c rate s (Enter gates.Look) before k next own
entering c rate s next before (gates.Enter seen) kept k own = enters c rate s (Enter (gates.Enter seen)) before k next own seen
entering c rate s next before _ kept k own = absurd kept

pub enter_tallied : (c : Config) (g : GateRow) → TallyLaw c (Enter g)
enter_tallied c g rate s at next few before k = entering c rate s next before g at.part k (spends_on c (Enter g) Rest s.balance (asking c s.command s.spent) (before.threads s.thread) refl refl refl refl k.own)
