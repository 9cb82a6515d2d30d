-- A thread on its way out: the tally has it leave.
use Rattle.std.proofs.Common.{◌≡◌, ℕ, ◌-◌, ◌≤◌, false, [], ◌∷◌, refl, sym, ap, ◌∙◌, arith}
use Rattle.block_store.specs.declared.Config.{Config}
use Rattle.block_store.specs.declared.PhaseWord.{PhaseWord}
use Rattle.block_store.specs.Heaps.{put_at}
use Rattle.block_store.specs.Phases.{inside_of, is_sweep, cycle_of}
use Rattle.block_store.specs.Places.{Phase}
use Rattle.block_store.proofs.Lemmas.{changed_else, phase-less}
use Rattle.heap_machine.specs.Gating.{Gating, Inside}
use Rattle.heap_machine.specs.declared.Step.TheVariants as steps
use Rattle.heap_machine.specs.declared.gate.GateRow.TheVariants as gates
use Rattle.heap_machine.proofs.Lemmas.{inside_some}
use Rattle.heap_invariant.specs.cycle_tally.Events as events
use Rattle.heap_invariant.specs.cycle_tally.Tallies.{Spending, Tally}
use Rattle.heap_invariant.proofs.Lemmas.{spends_here}
use Rattle.heap_system.specs.Parts.{Part, Rest, Enter, Retry, LeaveToChangePhase, PhaseChange, Leave}
use Rattle.heap_system.specs.Locals.{plain}
use Rattle.heap_system.proofs.invariant.SeenAndKept.{Seen}
use Rattle.heap_system.proofs.accounting.TallyLaw.{IsSpending, Counted, TallyEvent, TallyLaw, Asking, asking}
use Rattle.heap_system.proofs.tallies.Moves.{spends_on, told_none, moves}

-- from a part that is inside with nothing claimed or reserved to Rest, or to one that is as
-- that
goes_out : (c : Config) (rate : ℕ) (s : Seen c) (before : Tally) (p : Part) → Counted c rate s p before → (s.gatings s.thread).stand ≡ Inside → IsSpending c Leave s.balance (asking c s.command s.spent) (before.threads s.thread) → (q : Part) (next : Asking)
    → ((w : Spending) → IsSpending c Rest s.balance (asking c s.command s.spent) w → IsSpending c q s.balance (asking c s.command s.spent) w) → TallyEvent c rate s (put_at s.heap Phase (s.heap Phase - 1)) (plain steps.Over) q next before
goes_out c rate s before p k stands own q next as_rest =
    let some : 1 ≤ inside_of (s.heap Phase) = inside_some c.threads (s.heap Phase) s.gatings s.gate s.thread s.low stands in
    let less = phase-less (s.heap Phase) some in
    let cycle : cycle_of (s.heap Phase - 1) ≡ cycle_of (s.heap Phase) = ap (λ (w : PhaseWord). w.cycle) less in
    let sweep : is_sweep (s.heap Phase - 1) ≡ is_sweep (s.heap Phase) = ap (λ (w : PhaseWord). w.sweep) less in
    let w : Spending = before.threads s.thread in
    moves c rate s p before k (events.Leave s.thread ∷ []) ((s.low, omega (arith, own.low, own.high), own.reserved), tt) (put_at s.heap Phase (s.heap Phase - 1)) (plain steps.Over) q next
    (record { cycle = k.of.cycle ∙ sym cycle; sweep = k.of.sweep ∙ sym sweep; cursor = k.of.cursor; free = k.of.free; colour = k.of.colour; order = told_none c rate s p before k (plain steps.Over) refl refl })
    (spends_here (IsSpending c q s.balance (asking c s.command s.spent)) before.threads s.thread (record w { inside = false })
    (as_rest (record w { inside = false }) (record { inside = refl; account = own.account; asked = own.asked; requested = own.requested; idled = own.idled; low = own.low; high = own.high; reserved = own.reserved })))
    (λ u other. changed_else before.threads s.thread u _ other) (λ x. refl) (λ x. refl) refl

pub again_tallied : (c : Config) → TallyLaw c Retry
again_tallied c rate s at next few before k = goes_out c rate s before Retry k (ap (λ (x : Gating). x.stand) at.gating) (spends_on c Retry Leave s.balance (asking c s.command s.spent) (before.threads s.thread) refl refl refl refl k.own) (Enter gates.Look) next
    (λ w own. spends_on c Rest (Enter gates.Look) s.balance (asking c s.command s.spent) w refl refl refl refl own)

pub idle_tallied : (c : Config) → TallyLaw c LeaveToChangePhase
idle_tallied c rate s at next few before k = goes_out c rate s before LeaveToChangePhase k (ap (λ (x : Gating). x.stand) at.gating) (spends_on c LeaveToChangePhase Leave s.balance (asking c s.command s.spent) (before.threads s.thread) refl refl refl refl k.own) (PhaseChange (gates.CloseLook s.pass)) next
    (λ w own. spends_on c Rest (PhaseChange (gates.CloseLook s.pass)) s.balance (asking c s.command s.spent) w refl refl refl refl own)

pub leave_tallied : (c : Config) → TallyLaw c Leave
leave_tallied c rate s at next few before k = goes_out c rate s before Leave k (ap (λ (x : Gating). x.stand) at.gating) k.own Rest next (λ w own. own)
