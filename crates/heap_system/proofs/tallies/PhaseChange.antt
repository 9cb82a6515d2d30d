-- A thread that closes the gate: the tally has the cursor that it sets, the flip, the roots that it
-- shades and the start.
use Rattle.std.proofs.Common.{◌≡◌, ℕ, suc, ◌+◌, ◌<◌, ◌≤◌, Bool, true, false, cond, eqb, [], ◌∷◌, ◌++◌, refl, sym, ap, ◌∙◌, subst, arith, inl, inr}
use Rattle.std.proofs.lemmas.Bool.{cases_eq}
use Rattle.block_store.specs.declared.Config.{Config}
use Rattle.block_store.specs.Colours.{is_free, grey_word}
use Rattle.block_store.specs.Counts.{total}
use Rattle.block_store.specs.Heaps.{Heap, put_at}
use Rattle.block_store.specs.Phases.{bit, is_sweep, cycle_of}
use Rattle.block_store.specs.Places.{Phase, Cursor, FreeCount, ColourOf}
use Rattle.block_store.proofs.Lemmas.{total_none}
use Rattle.never_heap.specs.Cycles.{graph_at}
use Rattle.never_heap.specs.GivenBlocks.{given}
use Rattle.never_heap.specs.Histories.{Started}
use Rattle.never_heap.specs.LiveBlocks.{live_blocks}
use Rattle.heap_machine.specs.Gates.{gate_want, gate_got, gate_step}
use Rattle.heap_machine.specs.Gating.{is_inside}
use Rattle.heap_machine.specs.WorkInHand.{WorkInHand, holds_nothing}
use Rattle.heap_machine.specs.Operations.{CompareExchange, place_of, heap_after}
use Rattle.heap_machine.specs.ChangingPhase.{changing_gating, changing_in_hand}
use Rattle.heap_machine.specs.declared.Step.{Step}
use Rattle.heap_machine.specs.declared.gate.GateRow.{GateRow}
use Rattle.heap_machine.specs.declared.gate.GateRow.TheVariants as gates
use Rattle.heap_machine.specs.declared.pass.Pass.{Pass}
use Rattle.heap_machine.proofs.Lemmas.{changing_cycle, changing_phase, nobody_holds, open_parts}
use Rattle.heap_invariant.specs.name_invariant.Pictures.{picture}
use Rattle.heap_invariant.specs.cycle_tally.Entries.{InThreads}
use Rattle.heap_invariant.specs.cycle_tally.Events.{FewInUse}
use Rattle.heap_invariant.specs.cycle_tally.Events as events
use Rattle.heap_invariant.specs.cycle_tally.Tallies.{Tally}
use Rattle.heap_invariant.proofs.Lemmas.{few_at_start}
use Rattle.heap_system.specs.Parts.{PhaseChange}
use Rattle.heap_system.specs.Locals.{plain, is_last, if_turned, turn_naming}
use Rattle.heap_system.specs.Naming.{Naming, Same, Lost, Begun, Shaded}
use Rattle.heap_system.proofs.step_rows.PartLaws.{AtPart}
use Rattle.heap_system.proofs.invariant.SeenAndKept.{Seen}
use Rattle.heap_system.proofs.accounting.TallyLaw.{IsSpending, Counted, TallyEvent, TallyLaw, Asking, asking}
use Rattle.heap_system.proofs.parts.ClosedGate.{stands, in_phase, shut, alone, turning, behind_last, no_white, own_cycle, all_shaded}
use Rattle.heap_system.proofs.tallies.Moves.{SameWords, same_words, phase_words, told_none, stays, moves}

-- such a thread is not inside, and has claimed nothing
never_inside : (r : GateRow) → is_inside (changing_gating r).stand ≡ false
never_inside (gates.CloseLook p) = refl
never_inside (gates.Close p seen) = refl
never_inside (gates.CheckList p u) = refl
never_inside (gates.SetCursor p) = refl
never_inside (gates.Flip p) = refl
never_inside (gates.Reopen p) = refl
never_inside (gates.ShadeRoot p u list) = refl
never_inside (gates.PutRoots p list) = refl
never_inside (gates.Start p) = refl
never_inside _ = refl

no_claim : (r : GateRow) → ((changing_in_hand r).low ≡ 0) × ((changing_in_hand r).high ≡ 0)
no_claim (gates.ShadeRoot p u list) = (refl, refl)
no_claim (gates.PutRoots p list) = (refl, refl)
no_claim _ = (refl, refl)

-- an exchange of the phase word that leaves the cycle and the phase, won or lost
exchanged_words : (h : Heap) (old v : ℕ) → cycle_of (heap_after h (CompareExchange Phase old v) Phase) ≡ cycle_of (h Phase) → is_sweep (heap_after h (CompareExchange Phase old v) Phase) ≡ is_sweep (h Phase) → SameWords h (heap_after h (CompareExchange Phase old v))
exchanged_words h old v = by (eqb (h Phase) old)
  where
    by : (b : Bool) → cycle_of (cond b (put_at h Phase v) h Phase) ≡ cycle_of (h Phase) → is_sweep (cond b (put_at h Phase v) h Phase) ≡ is_sweep (h Phase) → SameWords h (cond b (put_at h Phase v) h)
    by true cycle sweep = phase_words h v cycle sweep
    by false cycle sweep = same_words h

module _ (c : Config) (rate : ℕ) (s : Seen c) (g : GateRow) (at : AtPart c s (PhaseChange g)) (before : Tally) (k : Counted c rate s (PhaseChange g) before) (next : Asking) where
  -- it is outside, with nothing claimed or reserved, before and after
  out : (over : Bool) (r : GateRow) → IsSpending c (if_turned over r) s.balance (asking c s.command s.spent) (before.threads s.thread)
  out true r = record { inside = k.own.inside ∙ never_inside g; account = k.own.account; asked = k.own.asked; requested = k.own.requested; idled = k.own.idled; low = k.own.low ∙ (no_claim g).0; high = k.own.high ∙ (no_claim g).1; reserved = k.own.reserved }
  out false r = record { inside = k.own.inside ∙ never_inside g ∙ sym (never_inside r); account = k.own.account; asked = k.own.asked; requested = k.own.requested; idled = k.own.idled; low = k.own.low ∙ (no_claim g).0 ∙ sym (no_claim r).0; high = k.own.high ∙ (no_claim g).1 ∙ sym (no_claim r).1; reserved = k.own.reserved }

  module _ (step : Step) (over : Bool) (r : GateRow) where
    abbrev Goes : Heap → Naming → Type 0
    Goes new n = TallyEvent c rate s new (record (plain step) { naming = n }) (if_turned over r) next before

    quiet : (new : Heap) → SameWords s.heap new → Goes new Same
    quiet new same = stays c rate s (PhaseChange g) before k new (record (plain step) { naming = Same }) (if_turned over r) next same refl refl refl (out over r)

    sets_cursor : before.sweep ≡ false → Goes (put_at s.heap Cursor 1) Same
    sets_cursor mark = moves c rate s (PhaseChange g) before k (events.SetCursor ∷ []) (mark, tt) (put_at s.heap Cursor 1) (record (plain step) { naming = Same }) (if_turned over r) next
        (record { cycle = k.of.cycle; sweep = k.of.sweep; cursor = refl; free = k.of.free; colour = k.of.colour; order = told_none c rate s (PhaseChange g) before k (record (plain step) { naming = Same }) refl refl })
        (out over r) (λ u other. refl) (λ x. refl) (λ x. refl) refl

    flips : (v : ℕ) → before.sweep ≡ false → s.heap Cursor ≡ 1 → cycle_of v ≡ cycle_of (s.heap Phase) → is_sweep v ≡ true → Goes (put_at s.heap Phase v) Lost
    flips v mark first cycle sweep = moves c rate s (PhaseChange g) before k (events.Flip ∷ []) ((mark, k.of.cursor ∙ first), tt) (put_at s.heap Phase v) (record (plain step) { naming = Lost }) (if_turned over r) next
        (record { cycle = k.of.cycle ∙ sym cycle; sweep = sym sweep; cursor = k.of.cursor; free = k.of.free; colour = k.of.colour; order = told_none c rate s (PhaseChange g) before k (record (plain step) { naming = Lost }) refl refl })
        (out over r) (λ u other. refl) (λ x. refl) (λ x. refl) refl

    shades : (u x list : ℕ) → before.sweep ≡ true → Goes (put_at s.heap (ColourOf x) (grey_word list)) (Shaded u)
    shades u x list sweep = moves c rate s (PhaseChange g) before k (events.Paint x (grey_word list) ∷ []) ((λ mark. absurd (let z : true ≡ false = sym sweep ∙ mark in cc)), tt) (put_at s.heap (ColourOf x) (grey_word list)) (record (plain step) { naming = Shaded u }) (if_turned over r) next
        (record { cycle = k.of.cycle; sweep = k.of.sweep; cursor = k.of.cursor; free = k.of.free; colour = λ y. (λ i. cond (eqb x y) (grey_word list) (k.of.colour y i)); order = told_none c rate s (PhaseChange g) before k (record (plain step) { naming = Shaded u }) refl refl })
        (out over r) (λ v other. refl) (λ x. refl) (λ x. refl) refl

    starts : (v : ℕ) → before.sweep ≡ true → s.heap Cursor ≡ c.blocks + 1 → events.IsEmpty c before → FewInUse c before → cycle_of v ≡ cycle_of (s.heap Phase) + 1 → is_sweep v ≡ false → Goes (put_at s.heap Phase v) Begun
    starts v sweep last empty few cycle mark = moves c rate s (PhaseChange g) before k (events.Start ∷ []) ((sweep, omega (arith, k.of.cursor, last), empty, few), tt) (put_at s.heap Phase v) (record (plain step) { naming = Begun }) (if_turned over r) next
        (record { cycle = omega (arith, k.of.cycle, cycle); sweep = sym mark; cursor = k.of.cursor; free = k.of.free; colour = k.of.colour; order = ap (λ o. o ++ Started ∷ []) k.of.order })
        (out over r) (λ u other. refl) (λ x. refl) (λ x. refl) refl

-- where nobody is inside the free count is the number of Free blocks, of which few are in use
module _ (c : Config) (rate : ℕ) (s : Seen c) (p : Pass) (at : AtPart c s (PhaseChange (gates.Start p))) (before : Tally) (k : Counted c rate s (PhaseChange (gates.Start p)) before) where
  nothing : (u : ℕ) → u < c.threads → s.holds u ≡ holds_nothing
  nothing = nobody_holds c s.heap s.gatings s.holds s.thread (gates.Start p) (turning c s (gates.Start p) at) refl refl

  counted : s.heap FreeCount ≡ total c.blocks (λ x. bit (is_free (s.heap (ColourOf (suc x)))))
  counted = omega (
    arith,
    s.rules.reuse.free.credit,
    total_none c.threads (λ u. (s.holds u).reserved) (λ u ul. ap (λ (w : WorkInHand). w.reserved) (nothing u ul)),
    total_none c.threads (λ u. (s.holds u).freed) (λ u ul. ap (λ (w : WorkInHand). w.freed) (nothing u ul)),
  )

  pub empty : events.IsEmpty c before
  empty u ul = elim (cases_eq s.thread u) [
    | inl e ↦ subst (λ v. (before.threads v).inside ≡ false) e k.own.inside
    | inr ne ↦ k.inside u ul ∙ ap is_inside ((shut c s (gates.Start p) at refl).2 u ul ne)
  ]

  few_in_use : FewInUse c before
  few_in_use =
      let sweep : is_sweep (s.heap Phase) ≡ true = sym (in_phase c s (gates.Start p) at refl).1 ∙ at.part.0.1 in
      let few : c.blocks ≤ before.free + live_blocks c.width (graph_at c s.order (cycle_of (s.heap Phase))) + given c.width s.order (cycle_of (s.heap Phase)) =
      few_at_start c (picture s.graph s.order s.heap s.names s.tasks) s.kept (sweep, alone c s (gates.Start p) at refl, no_white c s p at, all_shaded c s p at) before.free (subst (λ o. InThreads c.threads o) k.of.order k.kept.entries) (k.of.free ∙ counted) in
      subst (λ z. c.blocks ≤ before.free + live_blocks c.width (graph_at c before.order z) + given c.width before.order z) (sym k.of.cycle)
      (subst (λ o. c.blocks ≤ before.free + live_blocks c.width (graph_at c o (cycle_of (s.heap Phase))) + given c.width o (cycle_of (s.heap Phase))) (sym k.of.order) few)

by : (c : Config) (rate : ℕ) (s : Seen c) (g : GateRow) (at : AtPart c s (PhaseChange g)) (before : Tally) (k : Counted c rate s (PhaseChange g) before) (next : Asking) → (step : Step) (over : Bool) (r : GateRow) → Goes c rate s g at before k next step over r (heap_after s.heap (gate_want c.width g)) (turn_naming g)
by c rate s (gates.CloseLook p) at before k next step over r = quiet c rate s (gates.CloseLook p) at before k next step over r s.heap (same_words s.heap)
by c rate s (gates.Close p seen) at before k next step over r = quiet c rate s (gates.Close p seen) at before k next step over r _ (exchanged_words s.heap seen _
    (changing_cycle c.width c.threads s.heap s.gatings s.gate s.thread s.low (gates.Close p seen) refl at.fits.0 (stands c s (gates.Close p seen) at) (λ q e. absurd cc))
    (changing_phase c.width c.threads s.heap s.gatings s.gate s.thread s.low (gates.Close p seen) refl at.fits.0 (stands c s (gates.Close p seen) at) (λ q e. absurd cc) (λ q e. absurd cc)))
by c rate s (gates.CheckList p u) at before k next step over r = quiet c rate s (gates.CheckList p u) at before k next step over r s.heap (same_words s.heap)
by c rate s (gates.SetCursor p) at before k next step over r = sets_cursor c rate s (gates.SetCursor p) at before k next step over r (k.of.sweep ∙ sym (in_phase c s (gates.SetCursor p) at refl).1 ∙ at.part.0.1)
by c rate s (gates.Flip p) at before k next step over r =
    let phase = in_phase c s (gates.Flip p) at refl in
    let parts = open_parts p.cycle true in
    flips c rate s (gates.Flip p) at before k next step over r _ (k.of.sweep ∙ sym phase.1 ∙ at.part.0.1) at.knows.first (parts.3 ∙ ap (λ (q : Pass). q.cycle) at.part.0.0 ∙ phase.0) parts.1
by c rate s (gates.Reopen p) at before k next step over r = quiet c rate s (gates.Reopen p) at before k next step over r _ (phase_words s.heap _
    (changing_cycle c.width c.threads s.heap s.gatings s.gate s.thread s.low (gates.Reopen p) refl at.fits.0 (stands c s (gates.Reopen p) at) (λ q e. absurd cc))
    (changing_phase c.width c.threads s.heap s.gatings s.gate s.thread s.low (gates.Reopen p) refl at.fits.0 (stands c s (gates.Reopen p) at) (λ q e. absurd cc) (λ q e. absurd cc)))
by c rate s (gates.ShadeRoot p u list) at before k next step over r = shades c rate s (gates.ShadeRoot p u list) at before k next step over r u _ list (k.of.sweep ∙ sym (in_phase c s (gates.ShadeRoot p u list) at refl).1 ∙ at.part.0.1)
by c rate s (gates.PutRoots p list) at before k next step over r = quiet c rate s (gates.PutRoots p list) at before k next step over r _ (record { cycle = refl; sweep = refl; cursor = refl; free = refl; colour = λ x. refl })
by c rate s (gates.Start p) at before k next step over r =
    let parts = open_parts (p.cycle + 1) false in
    starts c rate s (gates.Start p) at before k next step over r _ (k.of.sweep ∙ sym (in_phase c s (gates.Start p) at refl).1 ∙ at.part.0.1) (behind_last c s p at) (empty c rate s p at before k) (few_in_use c rate s p at before k)
    (parts.3 ∙ ap (λ y. y + 1) (own_cycle c s p at)) parts.1
by c rate s _ at before k next step over r = absurd at.part.0

pub turn_over_tallied : (c : Config) (g : GateRow) → TallyLaw c (PhaseChange g)
turn_over_tallied c g rate s at next few before k =
    let w : ℕ = s.heap (place_of (gate_want c.width g)) in
    by c rate s g at before k next (gate_step g w) (is_last (gate_step g w)) (gate_got c.width g w)
