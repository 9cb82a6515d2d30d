-- What a thread that has closed the gate knows stays over its own events, and no other thread at
-- the gate changes a word.
use Rattle.std.proofs.Common.{◌≡◌, ℕ, ◌+◌, ◌-◌, ◌≤◌, ◌<◌, ◌⊎◌, true, false, cond, eqb, ltb, refl, arith, subst, sym, ap, ◌∙◌, inl, inr, eq-eqb, ne_eqb, eqb-true}
use Rattle.std.proofs.lemmas.Bool.{cases_eq, cases_Bool, lt-ltb, le-ltb}
use Rattle.block_store.specs.declared.Config.{Config}
use Rattle.block_store.specs.declared.Width.{Width}
use Rattle.block_store.specs.Colours.{is_grey, grey_word}
use Rattle.block_store.specs.Heaps.{Heap, put_at}
use Rattle.block_store.specs.Phases.{inside_of, is_closed, cycle_of}
use Rattle.block_store.specs.Places.{extent, Phase, Cursor, GreyList, ColourOf}
use Rattle.block_store.specs.Registers.{root_block}
use Rattle.block_store.proofs.Lemmas.{grey_grey, phase-less, phase-more}
use Rattle.block_store.specs.declared.PhaseWord.{PhaseWord}
use Rattle.heap_machine.specs.Gates.{gate_want, gate_got, closed_by, list_checked, look_to_close, root_shaded, is_of_pass, is_empty, GateFits, GateAt}
use Rattle.heap_machine.specs.Gating.{Gating, GateOf, Closing}
use Rattle.heap_machine.specs.WorkInHand.{WorkInHand, grey_held}
use Rattle.heap_machine.specs.Operations.{place_of, heap_after}
use Rattle.heap_machine.specs.PhaseKept.{PhaseKept}
use Rattle.heap_machine.specs.Readings.{IsPhaseWord, IsHeld}
use Rattle.heap_machine.specs.ChangingPhase.{turns_over, stands_outside, roots_shaded, cursor_set, HasRoom, ChangingPhaseKnows, IsTurnOf, IsChangingPhase}
use Rattle.heap_machine.specs.declared.gate.GateRow.{GateRow}
use Rattle.heap_machine.specs.declared.gate.GateRow.TheVariants.{Look, Enter, Entered, Leave, Left, CloseLook, Close, CheckList, SetCursor, Flip, Reopen, ShadeRoot, PutRoots, KeptOut}
use Rattle.heap_machine.specs.declared.pass.Pass.{Pass}
use Rattle.heap_machine.proofs.GateRows.{gate_stores, either_row}
use Rattle.heap_machine.proofs.Gatings.{gate_closing, inside_most}
use Rattle.heap_machine.proofs.GreyBlocks.{none_is_grey}
use Rattle.heap_machine.proofs.Held.{held_put, held_after}
use Rattle.heap_machine.proofs.Turnovers.{checked_empty, empty_gate}
use Rattle.heap_machine.proofs.ChangingPhaseRules.{nobody_holds}

-- a row that says nothing of the cursor and the roots
abbrev Says : GateRow → Type 0
Says r = (cursor_set r ≡ false) × (roots_shaded r ≡ 0)

looked_says : (p : Pass) (w : ℕ) → Says (look_to_close p w)
looked_says p w = either_row Says (is_of_pass p w) (cond (is_empty w) (Close p w) KeptOut) KeptOut
    (either_row Says (is_empty w) (Close p w) KeptOut (refl, refl) (refl, refl)) (refl, refl)

closed_says : (p : Pass) → Says (closed_by p)
closed_says p = either_row Says p.sweep (ShadeRoot p 0 0) (CheckList p 0) (refl, refl) (refl, refl)

tried_says : (W : Width) (p : Pass) (seen w : ℕ) → Says (gate_got W (Close p seen) w)
tried_says W p seen w = either_row Says (eqb w seen) (closed_by p) KeptOut (closed_says p) (refl, refl)

checked_says : (p : Pass) (u w : ℕ) → Says (list_checked p u w)
checked_says p u w = either_row Says (eqb w 0)
    (cond (ltb (u + 1) p.threads) (CheckList p (u + 1)) (SetCursor p)) (Reopen p)
    (either_row Says (ltb (u + 1) p.threads) (CheckList p (u + 1)) (SetCursor p) (refl, refl)
    (refl, refl)) (refl, refl)

shaded_cursor : (W : Width) (p : Pass) (u : ℕ) → cursor_set (root_shaded W p u) ≡ false
shaded_cursor W p u = either_row (λ r. cursor_set r ≡ false) (ltb (u + 1) p.threads)
    (ShadeRoot p (u + 1) (root_block W u)) (PutRoots p (root_block W u)) refl refl

-- one root more is shaded
shaded_roots : (W : Width) (p : Pass) (u : ℕ) → u < p.threads
    → roots_shaded (root_shaded W p u) ≡ u + 1
shaded_roots W p u low = elim (cases_eq (u + 1) p.threads) [
  | inl end ↦ rw (le-ltb (u + 1) p.threads (omega arith)) (sym end)
  | inr more ↦ rw (lt-ltb (u + 1) p.threads (omega arith)) refl
]

no_cursor : (r : GateRow) (h : Heap) → cursor_set r ≡ false → cursor_set r ≡ true → h Cursor ≡ 1
no_cursor r h e is = absurd (let z : false ≡ true = sym e ∙ is in cc)

no_roots : (W : Width) (r : GateRow) (h : Heap) → roots_shaded r ≡ 0 → (u : ℕ) → u < roots_shaded r
    → is_grey (h (ColourOf (root_block W u))) ≡ true
no_roots W r h e u low = absurd (omega arith)

module _ (W : Width) (h : Heap) where
  abbrev next : GateRow → GateRow
  next r = gate_got W r (h (place_of (gate_want W r)))

  abbrev after : GateRow → Heap
  after r = heap_after h (gate_want W r)

  cursor_known : (r : GateRow) → turns_over r ≡ true → cursor_set (next r) ≡ true
      → after r Cursor ≡ 1
  cursor_known (CloseLook p) e is = no_cursor (next (CloseLook p)) h (looked_says p (h Phase)).0 is
  cursor_known (Close p seen) e is =
      no_cursor (next (Close p seen)) (after (Close p seen)) (tried_says W p seen (h Phase)).0 is
  cursor_known (CheckList p u) e is =
      no_cursor (next (CheckList p u)) h (checked_says p u (h (GreyList u))).0 is
  cursor_known (SetCursor p) e is = refl
  cursor_known (ShadeRoot p u list) e is =
      no_cursor (root_shaded W p u) (after (ShadeRoot p u list)) (shaded_cursor W p u) is
  cursor_known Look e is = absurd (let z : false ≡ true = e in cc)
  cursor_known (Enter seen) e is = absurd (let z : false ≡ true = e in cc)
  cursor_known _ e is = absurd (let z : false ≡ true = is in cc)

  root_is_grey : (p : Pass) (v list u : ℕ) → u < v + 1
      → ((u : ℕ) → u < v → is_grey (h (ColourOf (root_block W u))) ≡ true)
      → is_grey (put_at h (ColourOf (root_block W v)) (grey_word list) (ColourOf (root_block W u)))
      ≡ true
  root_is_grey p v list u low greys = elim (cases_eq (root_block W v) (root_block W u)) [
    | inl e ↦ rw (eq-eqb (root_block W v) (root_block W u) e) (grey_grey list)
    | inr ne ↦
        let away : u ≡ v → ⊥ = λ z. ne (ap (root_block W) (sym z)) in
        rw (ne_eqb (root_block W v) (root_block W u) ne) (greys u (omega arith))
  ]

  roots_known : (r : GateRow) → turns_over r ≡ true → GateFits r
      → ((u : ℕ) → u < roots_shaded r → is_grey (h (ColourOf (root_block W u))) ≡ true)
      → (u : ℕ) → u < roots_shaded (next r)
      → is_grey (after r (ColourOf (root_block W u))) ≡ true
  roots_known (CloseLook p) e f k u low =
      no_roots W (next (CloseLook p)) h (looked_says p (h Phase)).1 u low
  roots_known (Close p seen) e f k u low =
      no_roots W (next (Close p seen)) (after (Close p seen)) (tried_says W p seen (h Phase)).1 u low
  roots_known (CheckList p v) e f k u low =
      no_roots W (next (CheckList p v)) h (checked_says p v (h (GreyList v))).1 u low
  roots_known (ShadeRoot p v list) e f k u low =
      let more = shaded_roots W p v f.1 in
      root_is_grey p v list u (omega arith) k
  roots_known (PutRoots p list) e f k u low = k u low
  roots_known Look e f k u low = absurd (let z : false ≡ true = e in cc)
  roots_known (Enter seen) e f k u low = absurd (let z : false ≡ true = e in cc)
  roots_known _ e f k u low = absurd (omega arith)

  pub changing_knows : (r : GateRow) → turns_over r ≡ true → GateFits r → ChangingPhaseKnows W r h
      → ChangingPhaseKnows W (next r) (after r)
  changing_knows r e f k = record {
    lists = checked_empty W h r e f k.lists;
    cursor = cursor_known r e;
    roots = roots_known r e f k.roots;
  }

-- the part stays one of its thread
pub turn_of : (W : Width) (t : ℕ) (r : GateRow) (w : ℕ) → IsTurnOf t r → IsTurnOf t (gate_got W r w)
turn_of W t Look w k = either_row (IsTurnOf t) (is_closed w) Look (Enter w) tt tt
turn_of W t (Enter seen) w k = either_row (IsTurnOf t) (eqb w seen) (Entered seen) Look tt tt
turn_of W t (CloseLook p) w k =
    either_row (IsTurnOf t) (is_of_pass p w) (cond (is_empty w) (Close p w) KeptOut) KeptOut
    (either_row (IsTurnOf t) (is_empty w) (Close p w) KeptOut k tt) tt
turn_of W t (Close p seen) w k = either_row (IsTurnOf t) (eqb w seen) (closed_by p) KeptOut
    (either_row (IsTurnOf t) p.sweep (ShadeRoot p 0 0) (CheckList p 0) k k) tt
turn_of W t (CheckList p u) w k = either_row (IsTurnOf t) (eqb w 0)
    (cond (ltb (u + 1) p.threads) (CheckList p (u + 1)) (SetCursor p)) (Reopen p)
    (either_row (IsTurnOf t) (ltb (u + 1) p.threads) (CheckList p (u + 1)) (SetCursor p) k k) k
turn_of W t (SetCursor p) w k = k
turn_of W t (ShadeRoot p u list) w k = either_row (IsTurnOf t) (ltb (u + 1) p.threads)
    (ShadeRoot p (u + 1) (root_block W u)) (PutRoots p (root_block W u)) k k
turn_of W t (PutRoots p list) w k = k
turn_of W t _ w k = tt

-- an event of another thread at a closed gate
module _ (W : Width) (n : ℕ) (h : Heap) (gs : ℕ → Gating) (k : GateOf n (h Phase) gs) (t : ℕ)
    (tl : t < n) (closing : (gs t).stand ≡ Closing) where
  shut : is_closed (h Phase) ≡ true
  shut = (let c = gate_closing n (h Phase) gs k t tl closing in c.0)

  not_seen : (seen : ℕ) → is_closed seen ≡ false → eqb (h Phase) seen ≡ false
  not_seen seen opened =
      ne_eqb (h Phase) seen (λ e. let z : true ≡ false = sym shut ∙ ap is_closed e ∙ opened in cc)

  seen_opened : (p : Pass) (seen : ℕ) → GateFits (Close p seen) → is_closed seen ≡ false
  seen_opened p seen f = (let c = empty_gate seen f.1.empty in c.0)

  pub changes_nothing : (r : GateRow) → stands_outside r ≡ true → GateFits r
      → heap_after h (gate_want W r) ≡ h
  changes_nothing Look e f = refl
  changes_nothing (Enter seen) e f = rw (not_seen seen f.opened) refl
  changes_nothing (CloseLook p) e f = refl
  changes_nothing (Close p seen) e f = rw (not_seen seen (seen_opened p seen f)) refl
  changes_nothing _ e f = absurd (let z : false ≡ true = e in cc)

  closed_look : (p : Pass) (w : ℕ) → is_closed w ≡ true → look_to_close p w ≡ KeptOut
  closed_look p w shut = elim (cases_Bool (is_of_pass p w)) [
    | inl of ↦ rw (of, shut) refl
    | inr other ↦ rw other refl
  ]

  pub goes_nowhere : (r : GateRow) → stands_outside r ≡ true → GateFits r
      → (gate_got W r (h Phase) ≡ Look) ⊎ (gate_got W r (h Phase) ≡ KeptOut)
  goes_nowhere Look e f = inl (rw shut refl)
  goes_nowhere (Enter seen) e f = inl (rw (not_seen seen f.opened) refl)
  goes_nowhere (CloseLook p) e f = inr (closed_look p (h Phase) shut)
  goes_nowhere (Close p seen) e f = inr (rw (not_seen seen (seen_opened p seen f)) refl)
  goes_nowhere _ e f = absurd (let z : false ≡ true = e in cc)

-- each word is one that its place can hold
module _ (c : Config) (h : Heap) (held : IsHeld c h) where
  enters_held : (gs : ℕ → Gating) → GateOf c.threads (h Phase) gs → c.threads ≤ 16 → (seen : ℕ)
      → IsPhaseWord seen → IsHeld c (heap_after h (gate_want c.width (Enter seen)))
  enters_held gs k few seen word = elim (cases_Bool (eqb (h Phase) seen)) [
    | inl won ↦
        let at : h Phase ≡ seen = eqb-true _ _ won in
        let most : inside_of seen ≤ c.threads =
        subst (λ w. inside_of w ≤ c.threads) at (inside_most c.threads (h Phase) gs k) in
        let more = phase-more seen word.inside in
        let i : inside_of (seen + 1) ≡ inside_of seen + 1 = ap (λ (p : PhaseWord). p.inside) more in
        let y : cycle_of (seen + 1) ≡ cycle_of seen = ap (λ (p : PhaseWord). p.cycle) more in
        rw won (held_put c h Phase (seen + 1)
        (record { inside = omega arith; cycle = rw y word.cycle }) held)
    | inr lost ↦ rw lost held
  ]

  leaves_held : 1 ≤ inside_of (h Phase) → IsHeld c (heap_after h (gate_want c.width Leave))
  leaves_held some =
      let word = held Phase refl in
      let less = phase-less (h Phase) some in
      let i : inside_of (h Phase - 1) ≡ inside_of (h Phase) - 1 = ap (λ (p : PhaseWord). p.inside) less in
      let y : cycle_of (h Phase - 1) ≡ cycle_of (h Phase) = ap (λ (p : PhaseWord). p.cycle) less in
      held_put c h Phase (h Phase - 1)
      (record { inside = omega (arith, word.inside); cycle = rw y word.cycle }) held

  pub passing_held : (gs : ℕ → Gating) → GateOf c.threads (h Phase) gs → c.threads ≤ 16
      → (r : GateRow) → turns_over r ≡ false → GateFits r → (r ≡ Leave → 1 ≤ inside_of (h Phase))
      → IsHeld c (heap_after h (gate_want c.width r))
  passing_held gs k few Look away f some = held
  passing_held gs k few (Enter seen) away f some = enters_held gs k few seen f.word
  passing_held gs k few (Entered seen) away f some = held
  passing_held gs k few Leave away f some = leaves_held (some refl)
  passing_held gs k few Left away f some = held
  passing_held gs k few _ away f some = absurd (let z : true ≡ false = away in cc)

  pub changing_held : (r : GateRow) → turns_over r ≡ true → GateFits r → GateAt c r → HasRoom r
      → IsHeld c (heap_after h (gate_want c.width r))
  changing_held r e f a room = held_after c h (gate_want c.width r) (gate_stores c r e f a room) held

-- at the flip no block is grey
pub none_at_flip : (c : Config) (h : Heap) (gs : ℕ → Gating) (hs : ℕ → WorkInHand) (t : ℕ)
    → PhaseKept (extent c) h hs → (p : Pass) → IsChangingPhase c h gs hs t (Flip p)
    → (x : ℕ) → is_grey (h (ColourOf x)) ≡ false
none_at_flip c h gs hs t k p i = none_is_grey c.threads h (λ u. grey_held (hs u)) k.grey (λ u low.
    let none = nobody_holds c h gs hs t (Flip p) i refl refl u low in
    let below : u < p.threads = subst (λ n. u < n) (sym i.at.threads) low in (
      i.knows.lists u below,
      ap (λ (w : WorkInHand). w.list) none,
      ap (λ (w : WorkInHand). w.scan) none,
    ))
