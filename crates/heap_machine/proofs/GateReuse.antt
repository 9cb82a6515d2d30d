-- The events of the gate keep where Free blocks are, what is claimed and what was passed.
use Rattle.std.proofs.Common.{◌≡◌, ℕ, ◌+◌, ◌-◌, ◌≤◌, ◌<◌, true, false, not, eqb, refl, arith, sym, ap, ◌∙◌, inl, inr, eqb-true}
use Rattle.std.proofs.lemmas.Bool.{cases_Bool, and_parts}
use Rattle.block_store.proofs.Lemmas.{black-white, grey-white, not_free_black, not_free_grey, phase-less, phase-more}
use Rattle.block_store.specs.declared.PhaseWord.{PhaseWord}
use Rattle.block_store.specs.declared.Width.{Width}
use Rattle.block_store.specs.Colours.{is_free, grey_word, white_word}
use Rattle.block_store.specs.Heaps.{Heap, put_at}
use Rattle.block_store.specs.Registers.{root_block}
use Rattle.block_store.specs.Phases.{inside_of, is_sweep, is_closed, cycle_of}
use Rattle.block_store.specs.Places.{Extent, Phase, Cursor, GreyList}
use Rattle.heap_machine.specs.Gates.{gate_want, is_empty, GateFits}
use Rattle.heap_machine.specs.Gating.{Gating, GateOf, is_closing, is_outside, closed_word, open_word}
use Rattle.heap_machine.specs.WorkInHand.{WorkInHand, sweep_held}
use Rattle.heap_machine.specs.Operations.{Exchange, heap_after}
use Rattle.heap_machine.specs.ReuseKept.{ReuseKept}
use Rattle.heap_machine.specs.Sweeping.{no_claim}
use Rattle.heap_machine.specs.ChangingPhase.{turns_over, changing_gating, MayTurn}
use Rattle.heap_machine.specs.declared.gate.GateRow.{GateRow}
use Rattle.heap_machine.specs.declared.gate.GateRow.TheVariants.{Look, Enter, Entered, Leave, Left, CloseLook, Close, CheckList, SetCursor, Flip, Reopen, ShadeRoot, PutRoots, Start, TurnedOver, StartedCycle, KeptOut}
use Rattle.heap_machine.specs.declared.pass.Pass.{Pass}
use Rattle.heap_machine.proofs.Gatings.{open_parts, closed_phase}
use Rattle.heap_machine.proofs.ReuseRules.{reuse_phase, reuse_turns, reuse_cursor, reuse_colour, reuse_other}

-- the word of an empty gate counts nobody
nobody : (w : ℕ) → is_empty w ≡ true → inside_of w ≡ 0
nobody w e = eqb-true (inside_of w) 0 (and_parts (not (is_closed w)) (eqb (inside_of w) 0) e).1

-- to go in or out keeps what a new phase word keeps, of the same cycle and phase
module _ (W : Width) (h : Heap) (P : Heap → Type 0) (k : P h)
    (stays : (v : ℕ) → cycle_of v ≡ cycle_of (h Phase) → is_sweep v ≡ is_sweep (h Phase)
    → P (put_at h Phase v)) where
  pub enter_keeps : (seen : ℕ) → inside_of seen < 255
      → P (heap_after h (gate_want W (Enter seen)))
  enter_keeps seen small = elim (cases_Bool (eqb (h Phase) seen)) [
    | inl is ↦
        let at : seen ≡ h Phase = sym (eqb-true (h Phase) seen is) in
        let more = phase-more seen small in
        rw is (stays (seen + 1)
        (ap (λ (p : PhaseWord). p.cycle) more ∙ ap cycle_of at)
        (ap (λ (p : PhaseWord). p.sweep) more ∙ ap is_sweep at))
    | inr is ↦ rw is k
  ]

  pub leave_keeps : 1 ≤ inside_of (h Phase) → P (heap_after h (gate_want W Leave))
  leave_keeps some =
      let less = phase-less (h Phase) some in
      stays (h Phase - 1) (ap (λ (p : PhaseWord). p.cycle) less)
      (ap (λ (p : PhaseWord). p.sweep) less)

module _ (e : Extent) (h : Heap) (hs : ℕ → WorkInHand) (k : ReuseKept e h hs) where
  -- nothing is claimed
  abbrev NoClaims : Type 0
  NoClaims = (u : ℕ) → u < e.threads → sweep_held (hs u) ≡ no_claim

  closes : (p : Pass) (seen : ℕ) → inside_of seen ≡ 0
      → ReuseKept e (heap_after h (gate_want e.width (Close p seen))) hs
  closes p seen none = elim (cases_Bool (eqb (h Phase) seen)) [
    | inl is ↦
        let at : seen ≡ h Phase = sym (eqb-true (h Phase) seen is) in
        let parts = closed_phase seen none in
        rw is (reuse_phase e h hs k (closed_word seen) (parts.0 ∙ ap cycle_of at)
        (parts.1 ∙ ap is_sweep at))
    | inr is ↦ rw is k
  ]

  -- in or out
  pub passing_keeps : (r : GateRow) → turns_over r ≡ false → GateFits r
      → (r ≡ Leave → 1 ≤ inside_of (h Phase))
      → ReuseKept e (heap_after h (gate_want e.width r)) hs
  passing_keeps Look away f some = k
  passing_keeps (Enter seen) away f some =
      enter_keeps e.width h (λ g. ReuseKept e g hs) k (reuse_phase e h hs k) seen f.word.inside
  passing_keeps (Entered seen) away f some = k
  passing_keeps Leave away f some =
      leave_keeps e.width h (λ g. ReuseKept e g hs) k (reuse_phase e h hs k) (some refl)
  passing_keeps Left away f some = k
  passing_keeps _ away f some = absurd cc

  -- and where the gate is closed
  pub changing_keeps : (gs : ℕ → Gating) → GateOf e.threads (h Phase) gs → (t : ℕ) → t < e.threads
      → (r : GateRow) → turns_over r ≡ true → GateFits r → gs t ≡ changing_gating r
      → (is_closing (changing_gating r).stand ≡ true → NoClaims)
      → ((p : Pass) → r ≡ Flip p → h Cursor ≡ 1) → MayTurn e r h
      → ReuseKept e (heap_after h (gate_want e.width r)) hs
  changing_keeps gs g t low (Close p seen) is f at none first may = closes p seen (nobody seen f.1.empty)
  changing_keeps gs g t low (SetCursor p) is f at none first may =
      let of = g.passes t low (ap (λ (w : Gating). is_outside w.stand) at) in
      let mark : is_sweep (h Phase) ≡ false = sym of.1 ∙ ap (λ (w : Gating). w.sweep) at ∙ f.mark in
      reuse_cursor e h hs k 1 (none refl) mark (omega arith, omega arith)
  changing_keeps gs g t low (Flip p) is f at none first may =
      reuse_turns e h hs k (open_word p.cycle true) (none refl) (λ _. first p refl)
  changing_keeps gs g t low (Reopen p) is f at none first may =
      let parts = open_parts p.cycle false in
      reuse_turns e h hs k (open_word p.cycle false) (none refl)
      (λ sweep. absurd (let z : false ≡ true = sym parts.1 ∙ sweep in cc))
  changing_keeps gs g t low (ShadeRoot p u list) is f at none first may =
      let of = g.passes t low (ap (λ (w : Gating). is_outside w.stand) at) in
      let cycle : p.cycle ≡ cycle_of (h Phase) = sym (ap (λ (w : Gating). w.cycle) at) ∙ of.0 in
      reuse_colour e h hs k (root_block e.width u) (grey_word list)
      (ap is_free may ∙ not_free_black p.cycle) (not_free_grey list) (λ _. (
        grey-white list (cycle_of (h Phase)),
        λ z. black-white p.cycle (sym may ∙ z ∙ ap white_word (sym cycle)),
      ))
  changing_keeps gs g t low (PutRoots p list) is f at none first may =
      reuse_other e h hs k (Exchange (GreyList p.thread) list) refl
  changing_keeps gs g t low (Start p) is f at none first may =
      let parts = open_parts (p.cycle + 1) false in
      reuse_turns e h hs k (open_word (p.cycle + 1) false) (none refl)
      (λ sweep. absurd (let z : false ≡ true = sym parts.1 ∙ sweep in cc))
  changing_keeps gs g t low (CloseLook p) is f at none first may = k
  changing_keeps gs g t low (CheckList p u) is f at none first may = k
  changing_keeps gs g t low TurnedOver is f at none first may = k
  changing_keeps gs g t low (StartedCycle y) is f at none first may = k
  changing_keeps gs g t low KeptOut is f at none first may = k
  changing_keeps gs g t low _ is f at none first may = absurd cc
