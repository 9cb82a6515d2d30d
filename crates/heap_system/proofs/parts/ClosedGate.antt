-- What a thread that closes the gate, to change the phase or to start the next cycle, knows of
-- the heap.
use Rattle.std.proofs.Common.{◌≡◌, ◌≢◌, ℕ, ◌+◌, ◌<◌, ◌≤◌, Bool, true, false, ltb, leb, ltb-true, leb-true, lt-ltb, le-ltb, refl, sym, ap, ◌∙◌, subst, arith, inl, inr}
use Rattle.std.proofs.lemmas.Bool.{cases_Bool, cases_eq, and_parts, and_right}
use Rattle.block_store.specs.declared.Config.{Config}
use Rattle.block_store.specs.Colours.{is_free, is_grey, black_word, white_word}
use Rattle.block_store.specs.Heaps.{Heap}
use Rattle.block_store.specs.Payloads.{target}
use Rattle.block_store.specs.Phases.{bit, inside_of, is_closed, is_sweep, cycle_of}
use Rattle.block_store.specs.Places.{Phase, Cursor, ColourOf, PayloadOf, extent, is_block}
use Rattle.block_store.specs.Registers.{root_block}
use Rattle.block_store.specs.Widths.{payloads}
use Rattle.block_store.proofs.Lemmas.{free-white, free_word-zero, not_free_black, one_root, total_none}
use Rattle.heap_machine.specs.Gates.{GateFits, GateAt}
use Rattle.heap_machine.specs.Gating.{Stand, Outside, Inside, Closing, is_outside, is_inside, is_closing, Gating}
use Rattle.heap_machine.specs.WorkInHand.{WorkInHand, holds_nothing, sweep_held}
use Rattle.heap_machine.specs.Sweeping.{has_claimed, claims}
use Rattle.heap_machine.specs.ChangingPhase as machine
use Rattle.heap_machine.specs.ChangingPhase.{turns_over, in_pass, changing_gating, changing_in_hand, roots_shaded, cursor_set, MayTurn, IsTurnOf, HasRoom}
use Rattle.heap_machine.specs.declared.gate.GateRow.{GateRow}
use Rattle.heap_machine.specs.declared.gate.GateRow.TheVariants as gates
use Rattle.heap_machine.specs.declared.pass.Pass.{Pass}
use Rattle.heap_machine.proofs.Lemmas.{empty_gate, gate_closing, nobody_holds, of_pass}
use Rattle.heap_invariant.specs.name_invariant.Colouring.{IsDark, IsColoured}
use Rattle.heap_invariant.specs.name_invariant.Events.{IsAlone}
use Rattle.heap_invariant.specs.name_invariant.Pictures.{Task, no_task, picture}
use Rattle.heap_invariant.proofs.Lemmas.{root_in}
use Rattle.sweep_steps.specs.SweepUnits.{unpassed}
use Rattle.heap_system.specs.Parts.{PhaseChange}
use Rattle.heap_system.specs.Locals.{task}
use Rattle.heap_system.specs.Pictures.{gating}
use Rattle.heap_system.proofs.step_rows.PartLaws.{AtPart}
use Rattle.heap_system.proofs.invariant.SeenAndKept.{stage, IsChangingPhase, IsAtFirst, HasShaded, Seen}

-- What a row of a pass says: it is of a part that turns over, where its thread is has the cycle
-- and phase of the pass, and the part is one of its thread.
abbrev pub IsRow : Config → Pass → ℕ → GateRow → Type 0
IsRow c q t g = (turns_over g ≡ true) × (gating c q (PhaseChange g) ≡ changing_gating g) × IsTurnOf t g

pub row_of : (c : Config) (q : Pass) (t : ℕ) (g : GateRow) → IsChangingPhase q g → q.thread ≡ t
    → IsRow c q t g
row_of c q t g e own = by g e
  where
    stands_in : (p : Pass) (x : Stand) → p ≡ q → in_pass q x ≡ in_pass p x
    stands_in p x e = ap (λ (r : Pass). in_pass r x) (sym e)

    owns : (p : Pass) → p ≡ q → p.thread ≡ t
    owns p e = ap (λ (r : Pass). r.thread) e ∙ own

    by : (g : GateRow) → IsChangingPhase q g → IsRow c q t g
    by (gates.CloseLook p) e = (refl, stands_in p Outside e, owns p e)
    by (gates.Close p seen) e = (refl, stands_in p Outside e, owns p e)
    by (gates.CheckList p u) e = (refl, stands_in p Closing e.0, owns p e.0)
    by (gates.SetCursor p) e = (refl, stands_in p Closing e.0, owns p e.0)
    by (gates.Flip p) e = (refl, stands_in p Closing e.0, owns p e.0)
    by (gates.Reopen p) e = (refl, stands_in p Closing e.0, owns p e.0)
    by (gates.ShadeRoot p u list) e = (refl, stands_in p Closing e.0, owns p e.0)
    by (gates.PutRoots p list) e = (refl, stands_in p Closing e.0, owns p e.0)
    by (gates.Start p) e = (refl, stands_in p Closing e.0, owns p e.0)
    by _ e = absurd e

-- it is at nothing, and has claimed nothing
pub at_nothing : (c : Config) (g : GateRow) → task c (PhaseChange g) ≡ no_task
at_nothing c (gates.ShadeRoot p u list) = refl
at_nothing c (gates.PutRoots p list) = refl
at_nothing c _ = refl

pub none_claimed : (g : GateRow) → unpassed (changing_in_hand g) ≡ 0
none_claimed (gates.ShadeRoot p u list) = refl
none_claimed (gates.PutRoots p list) = refl
none_claimed _ = refl

pub empty_outside : (g : GateRow) → is_outside (changing_gating g).stand ≡ true
    → changing_in_hand g ≡ holds_nothing
empty_outside (gates.ShadeRoot p u list) e = absurd cc
empty_outside (gates.PutRoots p list) e = absurd cc
empty_outside _ e = refl

is_closing_stand : (x : Stand) → is_closing x ≡ true → x ≡ Closing
is_closing_stand Outside e = absurd cc
is_closing_stand Inside e = absurd cc
is_closing_stand Closing e = refl

is_first : (h : Heap) (g : GateRow) → IsAtFirst h g → cursor_set g ≡ true → h Cursor ≡ 1
is_first h (gates.Flip p) k e = k
is_first h _ k e = absurd cc

pub at_first : (h : Heap) (g : GateRow) → (cursor_set g ≡ true → h Cursor ≡ 1) → IsAtFirst h g
at_first h (gates.Flip p) k = k refl
at_first h _ k = tt

-- which roots are shaded for the next cycle, in Sweep, with the gate closed
record RootShaded (n : ℕ) (shaded : ℕ → Bool) (q : Pass) (g : GateRow) (u : ℕ) : Type 0 where
  pub low : u < n
  pub is : shaded u ≡ true
  pub sweep : q.sweep ≡ true
  pub closing : is_closing (changing_gating g).stand ≡ true

root_shaded : (c : Config) (shaded : ℕ → Bool) (q : Pass) (g : GateRow) → IsChangingPhase q g
    → GateFits g → GateAt c g → HasShaded c.threads shaded g → (u : ℕ) → u < roots_shaded g
    → RootShaded c.threads shaded q g u
root_shaded c shaded q (gates.ShadeRoot p v list) e f a k u low =
    let ul : u < c.threads = omega (arith, low, f.1, a.0.threads) in
    record { low = ul; is = k u ul ∙ lt-ltb u v low; sweep = e.1; closing = refl }
root_shaded c shaded q (gates.PutRoots p list) e f a k u low =
    let ul : u < c.threads = omega (arith, low, a.0.threads) in
    record { low = ul; is = k u ul; sweep = e.1; closing = refl }
root_shaded c shaded q (gates.Start p) e f a k u low =
    let ul : u < c.threads = omega (arith, low, a.threads) in
    record { low = ul; is = k u ul; sweep = e.1; closing = refl }
root_shaded c shaded q _ e f a k u low = absurd (omega arith)

-- What the thread knows of the phase, the other threads and the heap, before its event.
module _ (c : Config) (s : Seen c) (g : GateRow) (at : AtPart c s (PhaseChange g)) where
  pub stands : s.gatings s.thread ≡ changing_gating g
  stands = at.gating ∙ (row_of c s.pass s.thread g at.part.0 at.part.1).1

  module _ (closing : is_closing (changing_gating g).stand ≡ true) where
    stands_closing : (s.gatings s.thread).stand ≡ Closing
    stands_closing =
        ap (λ (x : Gating). x.stand) stands ∙ is_closing_stand (changing_gating g).stand closing

    pub shut : (is_closed (s.heap Phase) ≡ true) × (inside_of (s.heap Phase) ≡ 0)
        × ((u : ℕ) → u < c.threads → (s.thread ≡ u → ⊥) → (s.gatings u).stand ≡ Outside)
    shut = gate_closing c.threads (s.heap Phase) s.gatings s.gate s.thread s.low stands_closing

    pub in_phase : (s.pass.cycle ≡ cycle_of (s.heap Phase))
        × (s.pass.sweep ≡ is_sweep (s.heap Phase))
    in_phase =
        let of = s.gate.passes s.thread s.low (ap is_outside stands_closing) in (
          sym (ap (λ (x : Gating). x.cycle) at.gating) ∙ of.0,
          sym (ap (λ (x : Gating). x.sweep) at.gating) ∙ of.1,
        )

    -- nobody is inside, so nobody is at anything
    nobody_inside : (u : ℕ) → u < c.threads → is_inside (s.gatings u).stand ≡ false
    nobody_inside u ul = elim (cases_eq s.thread u) [
      | inl e ↦ subst (λ v. is_inside (s.gatings v).stand ≡ false) e (ap is_inside stands_closing)
      | inr ne ↦ ap is_inside (shut.2 u ul ne)
    ]

    no_tasks : (u : ℕ) → u < c.threads → s.tasks u ≡ no_task
    no_tasks u ul = s.resting u ul (nobody_inside u ul)

    pub alone : IsAlone c (picture s.graph s.order s.heap s.names s.tasks)
    alone = record {
      loads = λ u ul. ap (λ (w : Task). w.loading) (no_tasks u ul);
      scans = λ u ul. ap (λ (w : Task). w.scan) (no_tasks u ul);
      builds = λ u ul. ap (λ (w : Task). w.build) (no_tasks u ul);
    }

  pub knows : machine.ChangingPhaseKnows c.width g s.heap
  knows = record {
    lists = at.knows.lists;
    cursor = is_first s.heap g at.knows.first;
    roots = λ u low.
        let r = root_shaded c s.names.shaded s.pass g at.part.0 at.fits.0 at.fits.1 at.knows.roots u
        low in
        let of = in_phase r.closing in
        (s.kept.sweeping (sym of.1 ∙ r.sweep)).roots u r.low r.is;
  }

  pub turning : machine.IsChangingPhase c s.heap s.gatings s.holds s.thread g
  turning = record {
    thread = s.low;
    turns = at.fits.2;
    fits = at.fits.0;
    at = at.fits.1;
    own = (row_of c s.pass s.thread g at.part.0 at.part.1).2;
    gate = s.gate;
    stands = stands;
    holds = at.holds;
    alone = λ closing u ul ne. s.empty u ul (let of = shut closing in ap is_outside (of.2 u ul ne));
    knows = knows;
  }

  -- in Sweep, while nobody has shaded a root, no block is grey
  none_grey : is_sweep (s.heap Phase) ≡ true → is_closed (s.heap Phase) ≡ false → (x : ℕ)
      → is_grey (s.heap (ColourOf x)) ≡ false
  none_grey sweep opened x = elim (cases_Bool (is_grey (s.heap (ColourOf x)))) [
    | inl grey ↦ absurd (
        let r = (s.kept.sweeping sweep).greys x grey in
        let z : true ≡ false = sym r.3 ∙ s.unshaded sweep opened r.0 r.1 in cc)
    | inr not_grey ↦ not_grey
  ]

-- a look at an empty gate of the pass is one at the phase of the pass, with the gate open
pub close_sees : (c : Config) (s : Seen c) (p : Pass) (seen : ℕ)
    → AtPart c s (PhaseChange (gates.Close p seen)) → s.heap Phase ≡ seen → p.sweep ≡ true
    → (is_sweep (s.heap Phase) ≡ true) × (is_closed (s.heap Phase) ≡ false)
close_sees c s p seen at same sweep =
    let of = of_pass p seen at.fits.0.1.pass in
    let gate = empty_gate seen at.fits.0.1.empty in
    (ap is_sweep same ∙ sym of.1 ∙ sweep, ap is_closed same ∙ gate.0)

-- the root that is shaded next is black
black_root : (c : Config) (s : Seen c) (p : Pass) (u list : ℕ)
    → AtPart c s (PhaseChange (gates.ShadeRoot p u list))
    → s.heap (ColourOf (root_block c.width u)) ≡ black_word p.cycle
black_root c s p u list at =
    by ((s.kept.sweeping sweep).arrays (root_block c.width u) (root_in c.width c.threads u low))
  where
    low : u < c.threads
    low = omega (arith, at.fits.0.1, at.fits.1.0.threads)

    phase : (s.pass.cycle ≡ cycle_of (s.heap Phase)) × (s.pass.sweep ≡ is_sweep (s.heap Phase))
    phase = in_phase c s (gates.ShadeRoot p u list) at refl

    sweep : is_sweep (s.heap Phase) ≡ true
    sweep = sym phase.1 ∙ at.part.0.1

    by : IsDark (cycle_of (s.heap Phase)) (s.heap (ColourOf (root_block c.width u)))
        → s.heap (ColourOf (root_block c.width u)) ≡ black_word p.cycle
    by (inl grey) = absurd (
        let r = (s.kept.sweeping sweep).greys (root_block c.width u) grey in
        let same : u ≡ r.0 = one_root c.width u r.0 r.2 in
        let below : r.0 < u = ltb-true r.0 u (sym (at.knows.roots r.0 r.1) ∙ r.3) in
        omega arith)
    by (inr black) =
        black ∙ ap black_word (sym phase.0 ∙ sym (ap (λ (r : Pass). r.cycle) at.part.0.0))

-- Where all is swept no block is white, and what is not Free refers to no Free block.
module _ (c : Config) (s : Seen c) (p : Pass) (at : AtPart c s (PhaseChange (gates.Start p))) where
  abbrev start : GateRow
  start = gates.Start p

  phase : (s.pass.cycle ≡ cycle_of (s.heap Phase)) × (s.pass.sweep ≡ is_sweep (s.heap Phase))
  phase = in_phase c s start at refl

  pub sweep : is_sweep (s.heap Phase) ≡ true
  sweep = sym phase.1 ∙ at.part.0.1

  pub behind_last : s.heap Cursor ≡ c.blocks + 1
  behind_last = at.knows.swept at.part.0.1 (sym (λ i. stage (phase.0 i) (phase.1 i)))

  none_claims : (x : ℕ) → claims c.threads (λ t. sweep_held (s.holds t)) x ≡ 0
  none_claims x = total_none c.threads (λ t. bit (has_claimed (sweep_held (s.holds t)) x)) (λ u ul.
      ap (λ (w : WorkInHand). bit (has_claimed (sweep_held w) x))
      (nobody_holds c s.heap s.gatings s.holds s.thread start (turning c s start at) refl refl u ul)
      ∙ ap bit (and_right (leb 0 x) (ltb x 0) (le-ltb x 0 (omega arith))))

  pub no_white : (x : ℕ) → s.heap (ColourOf x) ≢ white_word (cycle_of (s.heap Phase))
  no_white x white = elim (cases_Bool (is_block (extent c) x)) [
    | inl is ↦
        let parts = and_parts _ _ is in
        let first : 1 ≤ x = leb-true 1 x parts.0 in
        let last : x ≤ c.blocks = leb-true x c.blocks parts.1 in
        s.rules.reuse.sweep.passed sweep x first (omega (arith, last, behind_last)) (none_claims x)
        white
    | inr beyond ↦ free-white 0 (cycle_of (s.heap Phase))
        (free_word-zero ∙ sym (s.beyond x beyond) ∙ white)
  ]

  solid : (x j : ℕ) → is_free (s.heap (ColourOf x)) ≡ false → j < payloads c.width
      → target (s.heap (PayloadOf x j)) ≢ 0
      → is_free (s.heap (ColourOf (target (s.heap (PayloadOf x j))))) ≡ false
  solid x j not_free jl some = by (s.kept.painted.fits x)
    where
      Solid : Type 0
      Solid = is_free (s.heap (ColourOf (target (s.heap (PayloadOf x j))))) ≡ false

      dark : IsDark (cycle_of (s.heap Phase)) (s.heap (ColourOf x)) → Solid
      dark d =
          let black = (s.kept.sweeping sweep).darks x j d jl some in
          ap is_free black.0 ∙ not_free_black (cycle_of (s.heap Phase))

      by : IsColoured (cycle_of (s.heap Phase)) (s.heap (ColourOf x)) → Solid
      by (inl free) = absurd (let z : true ≡ false = sym free ∙ not_free in cc)
      by (inr (inl white)) = absurd (no_white x white)
      by (inr (inr d)) = dark d

  pub own_cycle : p.cycle ≡ cycle_of (s.heap Phase)
  own_cycle = ap (λ (r : Pass). r.cycle) at.part.0.0 ∙ phase.0

  pub all_shaded : (u : ℕ) → u < c.threads → s.names.shaded u ≡ true
  all_shaded u ul = at.knows.roots u ul

-- what the graph says where the event comes
pub may_turn : (c : Config) (s : Seen c) (g : GateRow) → AtPart c s (PhaseChange g)
    → MayTurn (extent c) g s.heap
may_turn c s (gates.Close p seen) at = λ is same. (
    let of = close_sees c s p seen at same is in
    none_grey c s (gates.Close p seen) at of.0 of.1)
may_turn c s (gates.ShadeRoot p u list) at = black_root c s p u list at
may_turn c s (gates.Start p) at = (
  λ x white. no_white c s p at x (white ∙ ap white_word (own_cycle c s p at)),
  solid c s p at,
)
may_turn c s _ at = tt

-- the cycle that a start begins is one that the phase word can hold
pub roomy : (c : Config) (s : Seen c) (g : GateRow) → AtPart c s (PhaseChange g) → HasRoom g
roomy c s (gates.Start p) at = omega (arith, own_cycle c s p at, s.cycle)
roomy c s _ at = tt
