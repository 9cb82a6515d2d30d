-- A thread that closes the gate, and changes the phase or starts the next cycle.
use Rattle.std.proofs.Common.{◌≡◌, ℕ, ◌+◌, ◌-◌, ◌*◌, ◌<◌, ◌≤◌, Bool, true, false, cond, eqb, ltb, eqb-true, eq-eqb, ne_eqb, lt-ltb, le-ltb, None, ◌++◌, append-nil, refl, sym, ap, ◌∙◌, subst, arith, inl, inr}
use Rattle.std.proofs.lemmas.Bool.{cases_Bool, cases_eq, cases_lt, and_right}
use Rattle.block_store.specs.declared.Config.{Config}
use Rattle.block_store.specs.Colours.{is_grey, grey_word, black_word}
use Rattle.block_store.specs.Counts.{changed}
use Rattle.block_store.specs.Heaps.{Heap, put_at}
use Rattle.block_store.specs.Phases.{bit, is_closed, is_sweep, cycle_of}
use Rattle.block_store.specs.Places.{Phase, Cursor, GreyList, ColourOf, extent}
use Rattle.block_store.specs.Registers.{root_block}
use Rattle.block_store.proofs.Lemmas.{changed_else, changed_here, changed_self, funext, grey-black}
use Rattle.heap_machine.specs.Gates.{gate_want, gate_got, gate_step, is_of_pass, is_empty, GateFits, GateAt}
use Rattle.heap_machine.specs.Gating.{Outside, is_closing, Gating, GateOf, closed_word, open_word}
use Rattle.heap_machine.specs.WorkInHand.{holds_nothing}
use Rattle.heap_machine.specs.Operations.{Fits, place_of, heap_after}
use Rattle.heap_machine.specs.PhaseKept.{PhaseKept}
use Rattle.heap_machine.specs.Readings.{CanHold, IsHeld}
use Rattle.heap_machine.specs.ChangingPhase.{turns_over, changing_gating, changing_in_hand, lists_read}
use Rattle.heap_machine.specs.declared.gate.GateRow.{GateRow}
use Rattle.heap_machine.specs.declared.gate.GateRow.TheVariants as gates
use Rattle.heap_machine.specs.declared.pass.Pass.{Pass}
use Rattle.heap_machine.proofs.Lemmas.{changing_held, changing_kept, changing_knows, changing_rules, close_parts, empty_gate, gate_at, gate_fits, gate_place, gate_stays, none_at_flip, open_parts}
use Rattle.heap_invariant.specs.name_invariant.Events.{apply}
use Rattle.heap_invariant.specs.name_invariant.Events.KeptEvent.{Flip, ShadeRoot, Start}
use Rattle.heap_invariant.specs.name_invariant.Invariant.{Invariant}
use Rattle.heap_invariant.specs.name_invariant.Pictures.{Names, no_task, picture}
use Rattle.heap_invariant.specs.name_invariant.States.{KeptState}
use Rattle.heap_invariant.proofs.name_invariant.Steps.{step_kept}
use Rattle.sweep_steps.specs.SweepUnits.{unpassed}
use Rattle.heap_system.specs.Parts.{Enter, PhaseChange}
use Rattle.heap_system.specs.Locals.{part_want, task, is_last, if_turned, turn_naming, entries_of, unit_to_come, PartFits, IsRoomy}
use Rattle.heap_system.specs.Machines.{starts_by}
use Rattle.heap_system.specs.Naming.{Naming, Same, Lost, Begun, Shaded, renamed}
use Rattle.heap_system.specs.Pictures.{gating, work_in_hand, waiting}
use Rattle.heap_system.specs.Units.{blackens}
use Rattle.heap_system.proofs.step_rows.PartLaws.{AtPart, PartEvent, PartLaws}
use Rattle.heap_system.proofs.step_rows.GatePassage.{began, picture_stays, same_stage}
use Rattle.heap_system.proofs.invariant.SeenAndKept.{stage, stage_of, lead, PartKept, Knows, IsSettled, IsChangingPhase, IsAtFirst, HasShaded, TurnKnows, Forward, Seen}
use Rattle.heap_system.proofs.parts.Enter.{gate_turns}
use Rattle.heap_system.proofs.parts.LeaveToChangePhase.{swept_stays}
use Rattle.heap_system.proofs.parts.ClosedGate.{row_of, at_nothing, none_claimed, empty_outside, at_first, stands, shut, in_phase, alone, knows, turning, close_sees, sweep, behind_last, no_white, own_cycle, all_shaded, may_turn, roomy}

-- What its event keeps of the names.
module _ (c : Config) (s : Seen c) (g : GateRow) (at : AtPart c s (PhaseChange g)) where
  abbrev now : KeptState
  now = picture s.graph s.order s.heap s.names s.tasks

  -- what they are after it, on a heap
  abbrev Pictured : Heap → Naming → Type 0
  Pictured new naming =
      Invariant c (picture s.graph (s.order ++ starts_by naming) new
      (renamed s.thread s.graph s.heap naming s.names) s.tasks)

  same_names : (new : Heap) → picture s.graph s.order new s.names s.tasks ≡ now → Pictured new Same
  same_names new same =
      subst (λ o. Invariant c (picture s.graph o new s.names s.tasks)) (sym (append-nil s.order))
      (subst (λ x. Invariant c x) (sym same) s.kept)

-- at the flip the names are lost that were not found
flipped : (c : Config) (s : Seen c) (p : Pass) (at : AtPart c s (PhaseChange (gates.Flip p)))
    → Pictured c s (gates.Flip p) at (put_at s.heap Phase (open_word p.cycle true)) Lost
flipped c s p at =
    let phase = in_phase c s (gates.Flip p) at refl in
    let parts = open_parts p.cycle true in
    let mark : is_sweep (s.heap Phase) ≡ false = sym phase.1 ∙ at.part.0.1 in
    let cycle : cycle_of (open_word p.cycle true) ≡ cycle_of (s.heap Phase) =
    parts.3 ∙ ap (λ (r : Pass). r.cycle) at.part.0.0 ∙ phase.0 in
    let state = now c s (gates.Flip p) at in
    let kept : Invariant c (apply c state Flip) = step_kept c s.bounds state Flip s.kept (
      mark,
      alone c s (gates.Flip p) at refl,
      none_at_flip c s.heap s.gatings s.holds s.thread s.rules p (turning c s (gates.Flip p) at),
      λ x j black jl. (s.rules.tricolour mark).black x j black jl,
    ) in
    subst (λ o. Invariant c (picture s.graph o (put_at s.heap Phase (open_word p.cycle true))
    (renamed s.thread s.graph s.heap Lost s.names) s.tasks)) (sym (append-nil s.order))
    (subst (λ x. Invariant c x)
    (sym (λ i. record (apply c state Flip) { cycle = cycle i; sweep = parts.1 i })) kept)

-- a root is shaded
shaded_next : (c : Config) (s : Seen c) (p : Pass) (u list : ℕ)
    (at : AtPart c s (PhaseChange (gates.ShadeRoot p u list)))
    → Pictured c s (gates.ShadeRoot p u list) at
    (put_at s.heap (ColourOf (root_block c.width u)) (grey_word list)) (Shaded u)
shaded_next c s p u list at =
    let g = gates.ShadeRoot p u list in
    let phase = in_phase c s g at refl in
    let low : u < c.threads = omega (arith, at.fits.0.1, at.fits.1.0.threads) in
    let state = now c s g at in
    let kept : Invariant c (apply c state (ShadeRoot u list)) =
    step_kept c s.bounds state (ShadeRoot u list) s.kept (sym phase.1 ∙ at.part.0.1, low) in
    subst (λ o. Invariant c (picture s.graph o
    (put_at s.heap (ColourOf (root_block c.width u)) (grey_word list))
    (renamed s.thread s.graph s.heap (Shaded u) s.names) s.tasks))
    (sym (append-nil s.order)) kept

-- and the next cycle starts
begun : (c : Config) (s : Seen c) (p : Pass) (at : AtPart c s (PhaseChange (gates.Start p)))
    → Pictured c s (gates.Start p) at (put_at s.heap Phase (open_word (p.cycle + 1) false)) Begun
begun c s p at =
    let parts = open_parts (p.cycle + 1) false in
    let cycle : cycle_of (open_word (p.cycle + 1) false) ≡ cycle_of (s.heap Phase) + 1 =
    parts.3 ∙ ap (λ y. y + 1) (own_cycle c s p at) in
    let state = now c s (gates.Start p) at in
    let kept : Invariant c (apply c state Start) = step_kept c s.bounds state Start s.kept (
      sweep c s p at,
      alone c s (gates.Start p) at refl,
      no_white c s p at,
      all_shaded c s p at,
    ) in
    subst (λ x. Invariant c x)
    (sym (λ i. record (apply c state Start) { cycle = cycle i; sweep = parts.1 i })) kept

-- a close that is won, or the gate opened again, leaves the phase and the cycle
closed_same : (h : Heap) (p : Pass) (seen : ℕ) → GateFits (gates.Close p seen) → h Phase ≡ seen
    → (cycle_of (closed_word seen) ≡ cycle_of (h Phase))
    × (is_sweep (closed_word seen) ≡ is_sweep (h Phase)) × (is_closed (closed_word seen) ≡ true)
closed_same h p seen f same =
    let none = empty_gate seen f.1.empty in
    let parts = close_parts seen (omega (arith, none.1)) in
    (parts.3 ∙ sym (ap cycle_of same), parts.1 ∙ sym (ap is_sweep same), parts.2)

reopened_same : (c : Config) (s : Seen c) (p : Pass) → AtPart c s (PhaseChange (gates.Reopen p))
    → (cycle_of (open_word p.cycle false) ≡ cycle_of (s.heap Phase))
    × (is_sweep (open_word p.cycle false) ≡ is_sweep (s.heap Phase))
reopened_same c s p at =
    let phase = in_phase c s (gates.Reopen p) at refl in
    let parts = open_parts p.cycle false in (
      parts.3 ∙ ap (λ (r : Pass). r.cycle) at.part.0.0 ∙ phase.0,
      parts.1 ∙ sym at.part.0.1 ∙ phase.1,
    )

pictured : (c : Config) (s : Seen c) (g : GateRow) (at : AtPart c s (PhaseChange g))
    → Pictured c s g at (heap_after s.heap (gate_want c.width g)) (turn_naming g)
pictured c s (gates.CloseLook p) at = same_names c s (gates.CloseLook p) at s.heap refl
pictured c s (gates.Close p seen) at = elim (cases_Bool (eqb (s.heap Phase) seen)) [
  | inl won ↦
      let same = closed_same s.heap p seen at.fits.0 (eqb-true _ _ won) in
      rw won (same_names c s (gates.Close p seen) at (put_at s.heap Phase (closed_word seen))
      (picture_stays s.graph s.order s.heap s.names s.tasks (closed_word seen) same.0 same.1))
  | inr lost ↦ rw lost (same_names c s (gates.Close p seen) at s.heap refl)
]
pictured c s (gates.CheckList p u) at = same_names c s (gates.CheckList p u) at s.heap refl
pictured c s (gates.SetCursor p) at =
    same_names c s (gates.SetCursor p) at (put_at s.heap Cursor 1) refl
pictured c s (gates.Flip p) at = flipped c s p at
pictured c s (gates.Reopen p) at =
    let same = reopened_same c s p at in
    same_names c s (gates.Reopen p) at (put_at s.heap Phase (open_word p.cycle false))
    (picture_stays s.graph s.order s.heap s.names s.tasks
    (open_word p.cycle false) same.0 same.1)
pictured c s (gates.ShadeRoot p u list) at = shaded_next c s p u list at
pictured c s (gates.PutRoots p list) at =
    same_names c s (gates.PutRoots p list) at (put_at s.heap (GreyList p.thread) list) refl
pictured c s (gates.Start p) at = begun c s p at
pictured c s _ at = absurd at.part.0

-- What its event moves: no phase comes back, the cursor leads no further, and where the gate is
-- open in Sweep no root is shaded.
record Moved (c : Config) (s : Seen c) (new : Heap) (later : Names) : Type 0 where
  pub forward : Forward s.heap new
  pub leads : lead c new ≤ lead c s.heap
  pub unshaded : is_sweep (new Phase) ≡ true → is_closed (new Phase) ≡ false → (t : ℕ)
      → t < c.threads → later.shaded t ≡ false

module _ (c : Config) (s : Seen c) where
  -- nothing, of the phase and the cursor
  moves_nothing : (new : Heap) (later : Names) → cycle_of (new Phase) ≡ cycle_of (s.heap Phase)
      → is_sweep (new Phase) ≡ is_sweep (s.heap Phase) → new Cursor ≡ s.heap Cursor
      → (is_sweep (new Phase) ≡ true → is_closed (new Phase) ≡ false → (t : ℕ) → t < c.threads
      → later.shaded t ≡ false) → Moved c s new later
  moves_nothing new later cycle sweep cursor unshaded =
      let on : stage_of new ≡ stage_of s.heap = same_stage (new Phase) (s.heap Phase) cycle sweep in
      let ahead : lead c new ≡ lead c s.heap =
      λ i. (cycle i - 1) * c.blocks + cond (sweep i) (cursor i - 1) 0 in
      record {
        forward = record { stages = omega (arith, on); cursor = λ e is. omega (arith, cursor) };
        leads = omega (arith, ahead);
        unshaded = unshaded;
      }

  moves_no_word : (new : Heap) → new Phase ≡ s.heap Phase → new Cursor ≡ s.heap Cursor
      → Moved c s new s.names
  moves_no_word new phase cursor =
      moves_nothing new s.names (ap cycle_of phase) (ap is_sweep phase) cursor
      (λ sweep opened. s.unshaded (sym (ap is_sweep phase) ∙ sweep)
      (sym (ap is_closed phase) ∙ opened))

  -- the cursor, in Mark
  moves_cursor : is_sweep (s.heap Phase) ≡ false → Moved c s (put_at s.heap Cursor 1) s.names
  moves_cursor mark = record {
    forward = record {
      stages = omega arith;
      cursor = λ e is. absurd (let z : true ≡ false = sym is ∙ mark in cc);
    };
    leads = rw mark (omega arith);
    unshaded = s.unshaded;
  }

  -- the phase to Sweep, with the cursor at the first block
  moves_to_sweep : (v : ℕ) (later : Names) → is_sweep (s.heap Phase) ≡ false → s.heap Cursor ≡ 1
      → cycle_of v ≡ cycle_of (s.heap Phase) → is_sweep v ≡ true
      → ((t : ℕ) → t < c.threads → later.shaded t ≡ false) → Moved c s (put_at s.heap Phase v) later
  moves_to_sweep v later mark first cycle sweep none =
      let old : bit (is_sweep (s.heap Phase)) ≡ 0 = ap bit mark in
      let new : bit (is_sweep v) ≡ 1 = ap bit sweep in
      record {
        forward = record {
          stages = omega (arith, old, new, cycle);
          cursor = λ e is. absurd (omega (arith, e, old, new, cycle));
        };
        leads = rw (mark, sweep, cycle) (omega (arith, first));
        unshaded = λ _ _. none;
      }

  -- and to Mark of the next cycle, with the cursor after the last one
  moves_to_mark : (v : ℕ) (later : Names) → is_sweep (s.heap Phase) ≡ true
      → s.heap Cursor ≡ c.blocks + 1 → 1 ≤ cycle_of (s.heap Phase)
      → cycle_of v ≡ cycle_of (s.heap Phase) + 1 → is_sweep v ≡ false
      → Moved c s (put_at s.heap Phase v) later
  moves_to_mark v later sweep last some cycle mark =
      let old : bit (is_sweep (s.heap Phase)) ≡ 1 = ap bit sweep in
      let new : bit (is_sweep v) ≡ 0 = ap bit mark in
      let split : cycle_of (s.heap Phase) ≡ cycle_of (s.heap Phase) - 1 + 1 = omega (arith, some) in
      let next : (cycle_of (s.heap Phase) + 1 - 1) * c.blocks ≡ cycle_of (s.heap Phase) * c.blocks =
      ap (λ y. y * c.blocks) (omega arith) in
      let all : cycle_of (s.heap Phase) * c.blocks
      ≡ (cycle_of (s.heap Phase) - 1) * c.blocks + c.blocks =
      ap (λ y. y * c.blocks) split ∙ omega arith in
      record {
        forward = record {
          stages = omega (arith, old, new, cycle);
          cursor = λ e is. absurd (omega (arith, e, old, new, cycle));
        };
        leads = rw (mark, sweep, cycle) (omega (arith, last, next, all));
        unshaded = λ is. absurd (let z : true ≡ false = sym is ∙ mark in cc);
      }

moved : (c : Config) (s : Seen c) (g : GateRow) → AtPart c s (PhaseChange g)
    → Moved c s (heap_after s.heap (gate_want c.width g))
    (renamed s.thread s.graph s.heap (turn_naming g) s.names)
moved c s (gates.CloseLook p) at = moves_no_word c s s.heap refl refl
moved c s (gates.Close p seen) at = elim (cases_Bool (eqb (s.heap Phase) seen)) [
  | inl won ↦
      let same = closed_same s.heap p seen at.fits.0 (eqb-true _ _ won) in
      rw won (moves_nothing c s (put_at s.heap Phase (closed_word seen)) s.names same.0 same.1 refl
      (λ _ opened. absurd (let z : true ≡ false = sym same.2 ∙ opened in cc)))
  | inr lost ↦ rw lost (moves_no_word c s s.heap refl refl)
]
moved c s (gates.CheckList p u) at = moves_no_word c s s.heap refl refl
moved c s (gates.SetCursor p) at =
    let phase = in_phase c s (gates.SetCursor p) at refl in
    moves_cursor c s (sym phase.1 ∙ at.part.0.1)
moved c s (gates.Flip p) at =
    let phase = in_phase c s (gates.Flip p) at refl in
    let parts = open_parts p.cycle true in
    moves_to_sweep c s (open_word p.cycle true) (renamed s.thread s.graph s.heap Lost s.names)
    (sym phase.1 ∙ at.part.0.1) at.knows.first
    (parts.3 ∙ ap (λ (r : Pass). r.cycle) at.part.0.0 ∙ phase.0) parts.1 (λ t tl. refl)
moved c s (gates.Reopen p) at =
    let same = reopened_same c s p at in
    let parts = open_parts p.cycle false in
    moves_nothing c s (put_at s.heap Phase (open_word p.cycle false)) s.names same.0 same.1 refl
    (λ is. absurd (let z : true ≡ false = sym is ∙ parts.1 in cc))
moved c s (gates.ShadeRoot p u list) at =
    let of = shut c s (gates.ShadeRoot p u list) at refl in
    moves_nothing c s (put_at s.heap (ColourOf (root_block c.width u)) (grey_word list))
    (renamed s.thread s.graph s.heap (Shaded u) s.names) refl refl refl
    (λ _ opened. absurd (let z : true ≡ false = sym of.0 ∙ opened in cc))
moved c s (gates.PutRoots p list) at =
    moves_no_word c s (put_at s.heap (GreyList p.thread) list) refl refl
moved c s (gates.Start p) at =
    let parts = open_parts (p.cycle + 1) false in
    moves_to_mark c s (open_word (p.cycle + 1) false)
    (renamed s.thread s.graph s.heap Begun s.names) (sweep c s p at) (behind_last c s p at)
    (began c s) (parts.3 ∙ ap (λ y. y + 1) (own_cycle c s p at)) parts.1
moved c s _ at = absurd at.part.0

-- Where the part is over its row is one of a thread outside that holds nothing, and where it goes
-- on it turns over for the same pass.
abbrev Goes : Pass → Bool → GateRow → Type 0
Goes q true r = ((changing_gating r).stand ≡ Outside) × (changing_in_hand r ≡ holds_nothing)
Goes q false r = IsChangingPhase q r

closes_for : (q p : Pass) → p ≡ q → (b : Bool) → p.sweep ≡ b
    → IsChangingPhase q (cond b (gates.ShadeRoot p 0 0) (gates.CheckList p 0))
closes_for q p e true is = (e, sym (ap (λ (r : Pass). r.sweep) e) ∙ is)
closes_for q p e false is = (e, sym (ap (λ (r : Pass). r.sweep) e) ∙ is)

goes : (c : Config) (q : Pass) (g : GateRow) (w : ℕ) → IsChangingPhase q g
    → Goes q (is_last (gate_step g w)) (gate_got c.width g w)
goes c q (gates.CloseLook p) w e = elim (cases_Bool (is_of_pass p w)) [
  | inl of ↦ elim (cases_Bool (is_empty w)) [
    | inl none ↦ rw (of, none) e
    | inr some ↦ rw (of, some) (refl, refl)
  ]
  | inr other ↦ rw other (refl, refl)
]
goes c q (gates.Close p seen) w e =
    elim (cases_Bool (eqb w seen)) [
      | inl won ↦ rw won (closes_for q p e p.sweep refl)
      | inr lost ↦ rw lost (refl, refl)
    ]
goes c q (gates.CheckList p u) w e = elim (cases_Bool (eqb w 0)) [
  | inl none ↦ elim (cases_Bool (ltb (u + 1) p.threads)) [
    | inl more ↦ rw (none, more) e
    | inr last ↦ rw (none, last) e
  ]
  | inr some ↦ rw some e
]
goes c q (gates.SetCursor p) w e = e
goes c q (gates.Flip p) w e = (refl, refl)
goes c q (gates.Reopen p) w e = (refl, refl)
goes c q (gates.ShadeRoot p u list) w e =
    elim (cases_Bool (ltb (u + 1) p.threads)) [ inl more ↦ rw more e | inr last ↦ rw last e ]
goes c q (gates.PutRoots p list) w e = e
goes c q (gates.Start p) w e = (refl, refl)
goes c q _ w e = absurd e

-- which roots are shaded after it
module _ (c : Config) (s : Seen c) where
  abbrev Roots : (ℕ → Bool) → GateRow → Type 0
  Roots shaded r = HasShaded c.threads shaded r

  roots_closed : (p : Pass) (seen : ℕ) → AtPart c s (PhaseChange (gates.Close p seen))
      → s.heap Phase ≡ seen → (b : Bool) → p.sweep ≡ b
      → Roots s.names.shaded (cond b (gates.ShadeRoot p 0 0) (gates.CheckList p 0))
  roots_closed p seen at same true is =
      let of = close_sees c s p seen at same is in
      λ t tl. s.unshaded of.0 of.1 t tl ∙ sym (le-ltb t 0 (omega arith))
  roots_closed p seen at same false is = tt

  one_more : (u t : ℕ) → t < c.threads → s.names.shaded t ≡ ltb t u
      → changed s.names.shaded u true t ≡ ltb t (u + 1)
  one_more u t tl before = elim (cases_eq u t) [
    | inl e ↦ changed_at e
    | inr ne ↦ changed_else s.names.shaded u t true ne ∙ before ∙ same_below t u ne
  ]
    where
      changed_at : u ≡ t → changed s.names.shaded u true t ≡ ltb t (u + 1)
      changed_at e = rw (eq-eqb u t e) (sym (lt-ltb t (u + 1) (omega arith)))

      same_below : (t u : ℕ) → (u ≡ t → ⊥) → ltb t u ≡ ltb t (u + 1)
      same_below t u ne = elim (cases_lt t u) [
        | inl below ↦ lt-ltb t u below ∙ sym (lt-ltb t (u + 1) (omega arith))
        | inr above ↦ le-ltb t u above ∙ sym (le-ltb t (u + 1) (omega arith))
      ]

  roots_after : (g : GateRow) → AtPart c s (PhaseChange g)
      → Roots (renamed s.thread s.graph s.heap (turn_naming g) s.names).shaded
      (gate_got c.width g (s.heap (place_of (gate_want c.width g))))
  roots_after (gates.CloseLook p) at = elim (cases_Bool (is_of_pass p (s.heap Phase))) [
    | inl of ↦ elim (cases_Bool (is_empty (s.heap Phase))) [
      | inl none ↦ rw (of, none) tt
      | inr some ↦ rw (of, some) tt
    ]
    | inr other ↦ rw other tt
  ]
  roots_after (gates.Close p seen) at = elim (cases_Bool (eqb (s.heap Phase) seen)) [
    | inl won ↦ rw won (roots_closed p seen at (eqb-true _ _ won) p.sweep refl)
    | inr lost ↦ rw lost tt
  ]
  roots_after (gates.CheckList p u) at = elim (cases_Bool (eqb (s.heap (GreyList u)) 0)) [
    | inl none ↦ elim (cases_Bool (ltb (u + 1) p.threads)) [
      | inl more ↦ rw (none, more) tt
      | inr last ↦ rw (none, last) tt
    ]
    | inr some ↦ rw some tt
  ]
  roots_after (gates.SetCursor p) at = tt
  roots_after (gates.Flip p) at = tt
  roots_after (gates.Reopen p) at = tt
  roots_after (gates.ShadeRoot p u list) at =
      let next : (t : ℕ) → t < c.threads → changed s.names.shaded u true t ≡ ltb t (u + 1) =
      λ t tl. one_more u t tl (at.knows.roots t tl) in
      elim (cases_lt (u + 1) p.threads) [
        | inl more ↦ rw (lt-ltb (u + 1) p.threads more) next
        | inr last ↦ rw (le-ltb (u + 1) p.threads last)
            (λ t tl. next t tl ∙ lt-ltb t (u + 1) (omega (arith, tl, last, at.fits.1.0.threads)))
      ]
  roots_after (gates.PutRoots p list) at = at.knows.roots
  roots_after (gates.Start p) at = tt
  roots_after _ at = absurd at.part.0

-- what it comes to, of a row of which the part is over or goes on
module _ (c : Config) (q : Pass) where
  work_in_hand_after : (over : Bool) (r : GateRow) → Goes q over r
      → changing_in_hand r ≡ work_in_hand c (if_turned over r)
  work_in_hand_after true r e = e.1
  work_in_hand_after false r e = refl

  task_after : (over : Bool) (r : GateRow) → task c (if_turned over r) ≡ no_task
  task_after true r = refl
  task_after false r = at_nothing c r

  gate_after : (n phase : ℕ) (gs : ℕ → Gating) (t : ℕ) → t < n → (over : Bool) (r : GateRow)
      → Goes q over r → GateOf n phase (changed gs t (changing_gating r))
      → GateOf n phase (changed gs t (gating c q (if_turned over r)))
  gate_after n phase gs t tl true r e k =
      let old = changed gs t (changing_gating r) in
      let out = gating c q (Enter gates.Look) in
      let same : Outside ≡ (old t).stand =
      sym (ap (λ (x : Gating). x.stand) (changed_here gs t (changing_gating r)) ∙ e.0) in
      let twice : changed old t out ≡ changed gs t out = funext _ _ (λ u. elim (cases_eq t u) [
        | inl is ↦ rw (eq-eqb t u is) refl
        | inr ne ↦ rw (ne_eqb t u ne) refl
      ]) in
      subst (λ (x : ℕ → Gating). GateOf n phase x) twice
      (gate_stays n phase old k t tl out same (λ z. absurd cc))
  gate_after n phase gs t tl false r e k =
      subst (λ (x : Gating). GateOf n phase (changed gs t x))
      (sym (row_of c q q.thread r e refl).1) k

  part_after : (s : Seen c) → q.thread ≡ s.thread → (over : Bool) (r : GateRow) → Goes q over r
      → PartKept c s.graph s.thread q s.command (if_turned over r)
  part_after s own true r e = tt
  part_after s own false r e = (e, own)

  fits_after : (done all : ℕ) → done < all → (over : Bool) (r : GateRow) → Goes q over r
      → GateFits r → GateAt c r → PartFits c done all q (if_turned over r)
  fits_after done all low true r e f a = (tt, refl, low)
  fits_after done all low false r e f a = (f, a, (row_of c q q.thread r e refl).0, low)

  knows_after : (h : Heap) (ns : Names) (over : Bool) (r : GateRow) → TurnKnows c h ns q r
      → Knows c h ns q (if_turned over r)
  knows_after h ns true r k = tt
  knows_after h ns false r k = k

  none_unpassed : (over : Bool) (r : GateRow) → unpassed (work_in_hand c (if_turned over r)) ≡ 0
  none_unpassed true r = refl
  none_unpassed false r = none_claimed r

  none_to_come : (over : Bool) (r : GateRow) → unit_to_come c (if_turned over r) ≡ 0
  none_to_come true r = refl
  none_to_come false r = refl

  none_waiting : (s : Seen c) (over : Bool) (r : GateRow)
      → waiting s.graph (if_turned over r) ≡ None
  none_waiting s true r = refl
  none_waiting s false r = refl

  roomy_after : (space : ℕ) (over : Bool) (r : GateRow) → IsRoomy space (if_turned over r)
  roomy_after space true r = tt
  roomy_after space false r = tt

  settled_after : (due paid : ℕ) (over : Bool) (r : GateRow) → IsSettled due paid (if_turned over r)
  settled_after due paid true r = tt
  settled_after due paid false r = tt

-- its event
module _ (c : Config) (s : Seen c) (g : GateRow) (at : AtPart c s (PhaseChange g)) where
  abbrev word : ℕ
  word = s.heap (place_of (gate_want c.width g))

  abbrev over : Bool
  over = is_last (gate_step g word)

  abbrev row : GateRow
  row = gate_got c.width g word

  abbrev new : Heap
  new = heap_after s.heap (gate_want c.width g)

  abbrev later : Names
  later = renamed s.thread s.graph s.heap (turn_naming g) s.names

  going : Goes s.pass over row
  going = goes c s.pass g word at.part.0

  holds_word : CanHold (extent c) (place_of (gate_want c.width g)) word
  holds_word = s.held (place_of (gate_want c.width g)) (gate_place c g at.fits.0 at.fits.1)

  held : IsHeld c new
  held = changing_held c s.heap s.held g at.fits.2 at.fits.0 at.fits.1 (roomy c s g at)

  knows_row : TurnKnows c new later s.pass row
  knows_row =
      let k = changing_knows c.width s.heap g at.fits.2 at.fits.0 (knows c s g at) in
      record {
        swept = swept_stays c s.heap new s.pass (moved c s g at).forward (held Cursor refl).1
            s.behind at.knows.swept;
        lists = k.lists;
        first = at_first new row k.cursor;
        roots = roots_after c s g at;
      }

  event : PartEvent c s (PhaseChange g)
  event =
      let m = moved c s g at in
      let none = ap unpassed at.holds ∙ none_claimed g in
      record {
        gate = gate_after c s.pass c.threads (new Phase) s.gatings s.thread s.low over row going
            (changing_kept c.width c.threads s.heap s.gatings s.gate s.thread s.low g at.fits.2
            at.fits.0 (stands c s g at));
        held = held;
        rules = subst (λ w. PhaseKept (extent c) new (changed s.holds s.thread w))
            (work_in_hand_after c s.pass over row going)
            (changing_rules c s.heap s.gatings s.holds s.thread s.rules g (turning c s g at)
            (may_turn c s g at));
        kept = subst (λ ts. Invariant c
            (picture s.graph (s.order ++ starts_by (turn_naming g)) new later ts))
            (sym (changed_self s.tasks s.thread (task c (if_turned over row))
            (at.task ∙ at_nothing c g ∙ sym (task_after c s.pass over row))))
            (pictured c s g at);
        unshaded = m.unshaded;
        forward = m.forward;
        behind = omega (arith, s.behind, m.forward.stages);
        leads = omega (arith, m.leads, none, none_unpassed c s.pass over row);
        part = part_after c s.pass s at.part.1 over row going;
        knows = knows_after c s.pass new later over row knows_row;
        fits = fits_after c s.pass s.done s.all at.fits.3 over row going
            (gate_fits c g word at.fits.0 holds_word) (gate_at c g word at.fits.0 at.fits.1);
        roomy = roomy_after c s.pass s.space over row;
        over = λ r e. absurd cc;
        told = sym (ap (entries_of s.thread s.command s.spent) (none_waiting c s.pass s over row));
        low = omega (arith, at.pays, none_to_come c s.pass over row);
        settled = settled_after c s.pass s.due s.spent over row;
        exact = λ e. absurd e;
        counted = refl;
        counts = s.count;
      }

sum_at : (c : Config) (h : Heap) (g : GateRow) → turns_over g ≡ true
    → Fits (gate_want c.width g) (h (place_of (gate_want c.width g)))
sum_at c h gates.Leave e = absurd cc
sum_at c h _ e = tt

-- what it knows stays at the events of other threads
knows_stay : (c : Config) (h new : Heap) (ns later : Names) (q : Pass) (g : GateRow)
    → Forward h new → new Cursor ≤ c.blocks + 1 → stage q.cycle q.sweep ≤ stage_of h
    → (is_closing (changing_gating g).stand ≡ true → (new ≡ h) × (later ≡ ns))
    → TurnKnows c h ns q g → TurnKnows c new later q g
knows_stay c h new ns later q g on cursor behind still k =
    by (is_closing (changing_gating g).stand) refl
  where
    none_read : (g : GateRow) → is_closing (changing_gating g).stand ≡ false → (u : ℕ)
        → u < lists_read g → new (GreyList u) ≡ 0
    none_read (gates.CheckList p v) e u low = absurd cc
    none_read (gates.SetCursor p) e u low = absurd cc
    none_read (gates.Flip p) e u low = absurd cc
    none_read _ e u low = absurd (omega arith)

    not_first : (g : GateRow) → is_closing (changing_gating g).stand ≡ false → IsAtFirst new g
    not_first (gates.Flip p) e = absurd cc
    not_first _ e = tt

    none_shaded : (g : GateRow) → is_closing (changing_gating g).stand ≡ false
        → HasShaded c.threads later.shaded g
    none_shaded (gates.ShadeRoot p u list) e = absurd cc
    none_shaded (gates.PutRoots p list) e = absurd cc
    none_shaded (gates.Start p) e = absurd cc
    none_shaded _ e = tt

    by : (b : Bool) → is_closing (changing_gating g).stand ≡ b → TurnKnows c new later q g
    by true closing =
        let same = still closing in
        subst (λ x. TurnKnows c x later q g) (sym same.0)
        (subst (λ x. TurnKnows c h x q g) (sym same.1) k)
    by false opens = record {
      swept = swept_stays c h new q on cursor behind k.swept;
      lists = none_read g opens;
      first = not_first g opens;
      roots = none_shaded g opens;
    }

-- while another thread has closed the gate a look changes nothing, nor does a close
rests_at : (c : Config) (h : Heap) (q : Pass) (g : GateRow) → IsChangingPhase q g → GateFits g
    → is_closed (h Phase) ≡ true → is_closing (changing_gating g).stand ≡ false
    → (heap_after h (gate_want c.width g) ≡ h) × (turn_naming g ≡ Same)
rests_at c h q (gates.CloseLook p) e f closed out = (refl, refl)
rests_at c h q (gates.Close p seen) e f closed out = elim (cases_Bool (eqb (h Phase) seen)) [
  | inl won ↦ absurd (
      let opened = empty_gate seen f.1.empty in
      let z : true ≡ false =
      sym closed ∙ ap is_closed (eqb-true (h Phase) seen won) ∙ opened.0 in cc)
  | inr lost ↦ rw lost (refl, refl)
]
rests_at c h q (gates.CheckList p u) e f closed out = absurd cc
rests_at c h q (gates.SetCursor p) e f closed out = absurd cc
rests_at c h q (gates.Flip p) e f closed out = absurd cc
rests_at c h q (gates.Reopen p) e f closed out = absurd cc
rests_at c h q (gates.ShadeRoot p u list) e f closed out = absurd cc
rests_at c h q (gates.PutRoots p list) e f closed out = absurd cc
rests_at c h q (gates.Start p) e f closed out = absurd cc
rests_at c h q _ e f closed out = absurd e

-- nothing becomes black
none_black : (c : Config) (h : Heap) (g : GateRow) → blackens h (part_want c (PhaseChange g)) ≡ false
none_black c h (gates.ShadeRoot p u list) =
    let x = root_block c.width u in
    rw (eq-eqb x x refl) (and_right (is_grey (h (ColourOf x)))
    (eqb (grey_word list) (black_word (cycle_of (h Phase))))
    (ne_eqb _ _ (grey-black list (cycle_of (h Phase)))))
none_black c h _ = refl

pub turn_over_laws : (c : Config) (g : GateRow) → PartLaws c (PhaseChange g)
turn_over_laws c g = record {
  reads = λ s at. holds_word c s g at;
  sum = λ s at. sum_at c s.heap g at.fits.2;
  event = λ s at low. event c s g at;
  stays = λ old new u pass k kept same count. (kept, refl);
  knows = λ h new ns later pass on cursor behind still is.
      knows_stay c h new ns later pass g on cursor behind still is;
  rests = λ s at closed out. rests_at c s.heap s.pass g at.part.0 at.fits.0 closed out;
  idle = λ out. at_nothing c g;
  empty = λ out. empty_outside g out;
  builds = λ done all pass fits. tt;
  low = λ done all w pass r fits e. absurd cc;
  turn = λ w. gate_turns g w;
  black = λ s at. none_black c s.heap g;
  units = λ t k paid w. omega arith;
}
