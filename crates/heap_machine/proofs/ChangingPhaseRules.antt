-- The events of a part that changes the phase or starts a cycle keep what a heap keeps in each
-- phase, and what their thread knows.
use Rattle.std.proofs.Common.{◌≡◌, ◌≢◌, ℕ, ◌+◌, ◌≤◌, ◌<◌, Bool, true, false, cond, eqb, ltb, refl, arith, subst, sym, ap, ◌∙◌, inl, inr, eqb-true, None}
use Rattle.std.proofs.lemmas.Bool.{cases_eq, cases_Bool}
use Rattle.block_store.specs.declared.Config.{Config}
use Rattle.block_store.specs.declared.Width.{Width}
use Rattle.block_store.specs.Colours.{is_free, is_grey, grey_word, black_word, white_word}
use Rattle.block_store.specs.Counts.{changed}
use Rattle.block_store.specs.Heaps.{Heap, put_at}
use Rattle.block_store.specs.Phases.{inside_of, is_sweep, cycle_of}
use Rattle.block_store.specs.Places.{Extent, extent, Phase, Cursor, GreyList, ColourOf, PayloadOf}
use Rattle.block_store.specs.Registers.{root_block}
use Rattle.block_store.specs.Payloads.{target}
use Rattle.block_store.specs.Widths.{payloads}
use Rattle.block_store.proofs.Lemmas.{black-next, black-white, changed_self, colours, grey-white, not_free_black, not_free_grey, not_grey_black, root_some}
use Rattle.heap_machine.specs.Gates.{gate_want, gate_got, closed_by, list_checked, look_to_close, root_shaded, is_of_pass, is_empty, GateFits}
use Rattle.heap_machine.specs.Gating.{Gating, Closing, is_closing, closed_word, open_word}
use Rattle.heap_machine.specs.Grey.{GreyInHand, GreyKept, Stands}
use Rattle.heap_machine.specs.WorkInHand.{WorkInHand, holds_nothing, grey_held, tricolour_held, free_held, sweep_held}
use Rattle.heap_machine.specs.Operations.{Exchange, place_of, heap_after}
use Rattle.heap_machine.specs.PhaseKept.{PhaseKept}
use Rattle.heap_machine.specs.Solid.{NotFree}
use Rattle.heap_machine.specs.ChangingPhase.{turns_over, in_pass, changing_gating, changing_in_hand, MayTurn, IsChangingPhase}
use Rattle.heap_machine.specs.declared.gate.GateRow.{GateRow}
use Rattle.heap_machine.specs.declared.gate.GateRow.TheVariants.{Look, Enter, Entered, Leave, Left, CloseLook, Close, CheckList, SetCursor, Flip, Reopen, ShadeRoot, PutRoots, Start, TurnedOver, StartedCycle, KeptOut}
use Rattle.heap_machine.specs.declared.pass.Pass.{Pass}
use Rattle.heap_machine.proofs.GateReuse.{enter_keeps, leave_keeps}
use Rattle.heap_machine.proofs.Gatings.{closed_phase, open_parts}
use Rattle.heap_machine.proofs.GreyBlocks.{first_is_grey, kept_held, kept_other}
use Rattle.heap_machine.proofs.GreyEvents.{shades, puts}
use Rattle.heap_machine.proofs.HeapRules.{part_changed}
use Rattle.heap_machine.proofs.PhaseRules.{from_mark, from_sweep, phase_stays, phase_flips}
use Rattle.heap_machine.proofs.ReuseRules.{reuse_stays, reuse_other, reuse_colour, reuse_turns, reuse_cursor}
use Rattle.heap_machine.proofs.Solids.{solid_other}
use Rattle.heap_machine.proofs.Tricolours.{begins, tricolour_other}
use Rattle.heap_machine.proofs.Turnovers.{closing_pass, empty_gate, of_pass}
use Rattle.heap_machine.proofs.GateRows.{either_row}

-- a row at which its thread holds w
abbrev Holds : WorkInHand → GateRow → Type 0
Holds w r = changing_in_hand r ≡ w

looked_holds : (p : Pass) (w : ℕ) → Holds holds_nothing (look_to_close p w)
looked_holds p w = either_row (Holds holds_nothing) (is_of_pass p w) (cond (is_empty w) (Close p w) KeptOut) KeptOut (either_row (Holds holds_nothing) (is_empty w) (Close p w) KeptOut refl refl) refl

checked_holds : (p : Pass) (u w : ℕ) → Holds holds_nothing (list_checked p u w)
checked_holds p u w = either_row (Holds holds_nothing) (eqb w 0) (cond (ltb (u + 1) p.threads) (CheckList p (u + 1)) (SetCursor p)) (Reopen p) (either_row (Holds holds_nothing) (ltb (u + 1) p.threads) (CheckList p (u + 1)) (SetCursor p) refl refl) refl

-- the roots in the private list
abbrev in_hand : ℕ → WorkInHand
in_hand a = record holds_nothing { list = a; emptied = true }

shaded_holds : (W : Width) (p : Pass) (u : ℕ) → Holds (in_hand (root_block W u)) (root_shaded W p u)
shaded_holds W p u = either_row (Holds (in_hand (root_block W u))) (ltb (u + 1) p.threads) (ShadeRoot p (u + 1) (root_block W u)) (PutRoots p (root_block W u)) refl refl

module _ (e : Extent) (h : Heap) (hs : ℕ → WorkInHand) (k : PhaseKept e h hs) (t : ℕ)
    (low : t < e.threads) where
  -- the thread goes on and holds what it held
  still : (g : Heap) (w : WorkInHand) → hs t ≡ w → PhaseKept e g hs → PhaseKept e g (changed hs t w)
  still g w is kept = subst (λ (ws : ℕ → WorkInHand). PhaseKept e g ws) (sym (changed_self hs t w is)) kept

  grey_goes : (g : Heap) (w : WorkInHand)
      → GreyKept e.threads g (changed (λ u. grey_held (hs u)) t (grey_held w))
      → GreyKept e.threads g (λ u. grey_held (changed hs t w u))
  grey_goes g w kept = subst (λ (ws : ℕ → GreyInHand). GreyKept e.threads g ws)
      (part_changed grey_held hs t w) kept

  -- nothing is grey, so the own list is empty
  own_list : ((x : ℕ) → is_grey (h (ColourOf x)) ≡ false) → h (GreyList t) ≡ 0
  own_list none = elim (cases_eq (h (GreyList t)) 0) [
    | inl z ↦ z
    | inr ne ↦ absurd (
        let grey = first_is_grey e.threads h (λ u. grey_held (hs u)) k.grey t low ne in
        let z : true ≡ false = sym grey ∙ none (h (GreyList t)) in cc)
  ]

  -- in Sweep, where nothing is grey: the thread has an empty private list to shade the roots into
  begins_roots : is_sweep (h Phase) ≡ true → hs t ≡ holds_nothing
      → ((x : ℕ) → is_grey (h (ColourOf x)) ≡ false)
      → PhaseKept e h (changed hs t (in_hand 0))
  begins_roots sweep is none =
      let held = ap grey_held is in
      from_sweep e h (changed hs t (in_hand 0)) sweep
      (grey_goes h (in_hand 0)
      (kept_held e.threads h (λ u. grey_held (hs u)) k.grey t low (grey_held (in_hand 0))
      (subst (λ (v : GreyInHand). Stands (colours h) v.scan v.list (k.grey.private_lists t)) held
      (k.grey.private_chain t low))
      (λ _. own_list none)))
      (reuse_stays e h hs k.reuse t (in_hand 0) low (ap free_held is) (ap sweep_held is))

  -- a black root becomes grey in Sweep, in front of the private list
  shades_root : (cycle y a : ℕ) → is_sweep (h Phase) ≡ true → cycle ≡ cycle_of (h Phase)
      → (y ≡ 0 → ⊥) → h (ColourOf y) ≡ black_word cycle → hs t ≡ in_hand a
      → PhaseKept e (put_at h (ColourOf y) (grey_word a)) (changed hs t (in_hand y))
  shades_root cycle y a sweep same ne black is =
      let v = grey_word a in
      let solid : is_free (h (ColourOf y)) ≡ false = ap is_free black ∙ not_free_black cycle in
      let not_grey : is_grey (h (ColourOf y)) ≡ false = ap is_grey black ∙ not_grey_black cycle in
      from_sweep e (put_at h (ColourOf y) v) (changed hs t (in_hand y)) sweep
      (grey_goes (put_at h (ColourOf y) v) (in_hand y)
      (shades e.threads h (λ u. grey_held (hs u)) k.grey t low None y a ne not_grey
      (ap grey_held is)))
      (reuse_stays e (put_at h (ColourOf y) v) hs
      (reuse_colour e h hs k.reuse y v solid (not_free_grey a) (λ _. (
        grey-white a (cycle_of (h Phase)),
        λ z. black-white cycle (sym black ∙ z ∙ ap white_word (sym same)),
      )))
      t (in_hand y) low (ap free_held is) (ap sweep_held is))

  -- and the roots are put in the own list
  puts_roots : (a : ℕ) → is_sweep (h Phase) ≡ true → hs t ≡ in_hand a
      → PhaseKept e (put_at h (GreyList t) a) (changed hs t holds_nothing)
  puts_roots a sweep is =
      from_sweep e (put_at h (GreyList t) a) (changed hs t holds_nothing) sweep
      (grey_goes (put_at h (GreyList t) a) holds_nothing
      (puts e.threads h (λ u. grey_held (hs u)) k.grey t low a (ap grey_held is)))
      (reuse_stays e (put_at h (GreyList t) a) hs
      (reuse_other e h hs k.reuse (Exchange (GreyList t) a) refl)
      t holds_nothing low (ap free_held is) (ap sweep_held is))

  -- in Mark, while nothing is claimed, the cursor becomes 1
  sets_cursor : is_sweep (h Phase) ≡ false
      → ((u : ℕ) → u < e.threads → hs u ≡ holds_nothing) → PhaseKept e (put_at h Cursor 1) hs
  sets_cursor mark none = record {
    grey = kept_other e.threads h (λ u. grey_held (hs u)) (Exchange Cursor 1) refl k.grey;
    reuse = reuse_cursor e h hs k.reuse 1 (λ u l. ap sweep_held (none u l)) mark
        (omega arith, omega arith);
    tricolour = λ m. tricolour_other e (cycle_of (h Phase)) h (λ u. tricolour_held (hs u))
        (Exchange Cursor 1) refl (k.tricolour m);
    solid = λ m. solid_other e (cycle_of (h Phase)) h (Exchange Cursor 1) refl (k.solid m);
  }

  -- the next cycle starts
  starts : (cycle : ℕ) → ((u : ℕ) → u < e.threads → hs u ≡ holds_nothing)
      → ((x : ℕ) → h (ColourOf x) ≢ white_word cycle)
      → ((u : ℕ) → u < e.threads → is_grey (h (ColourOf (root_block e.width u))) ≡ true)
      → ((x j : ℕ) → is_free (h (ColourOf x)) ≡ false → j < payloads e.width
      → NotFree (colours h) (target (h (PayloadOf x j))))
      → PhaseKept e (put_at h Phase (open_word (cycle + 1) false)) hs
  starts cycle none white roots solid =
      let v = open_word (cycle + 1) false in
      let g = put_at h Phase v in
      let parts = open_parts (cycle + 1) false in
      from_mark e g hs (cycle + 1) parts.3
      (record {
        grey = kept_other e.threads h (λ u. grey_held (hs u)) (Exchange Phase v) refl k.grey;
        tricolour = begins e (cycle + 1) g (λ u. tricolour_held (hs u))
            (λ x is. white x (is ∙ black-next cycle)) (λ u l. ap tricolour_held (none u l));
        solid = record { solid = solid; roots = λ u l. inl (roots u l) };
      })
      (reuse_turns e h hs k.reuse v (λ u l. ap sweep_held (none u l))
      (λ sweep. absurd (let z : false ≡ true = sym parts.1 ∙ sweep in cc)))

-- where the thread has closed the gate and holds nothing, nobody does
pub nobody_holds : (c : Config) (h : Heap) (gs : ℕ → Gating) (hs : ℕ → WorkInHand) (t : ℕ) (r : GateRow)
    → IsChangingPhase c h gs hs t r → is_closing (changing_gating r).stand ≡ true
    → changing_in_hand r ≡ holds_nothing → (u : ℕ) → u < c.threads → hs u ≡ holds_nothing
nobody_holds c h gs hs t r i closing is u ul = elim (cases_eq t u) [
  | inl e ↦ subst (λ v. hs v ≡ holds_nothing) e (i.holds ∙ is)
  | inr ne ↦ i.alone closing u ul ne
]

module _ (c : Config) (h : Heap) (gs : ℕ → Gating) (hs : ℕ → WorkInHand) (t : ℕ)
    (k : PhaseKept (extent c) h hs) where
  abbrev Goes : Heap → GateRow → Type 0
  Goes g r = PhaseKept (extent c) g (changed hs t (changing_in_hand r))

  -- the thread goes on and holds nothing, as before
  quiet : (g : Heap) (r r' : GateRow) → IsChangingPhase c h gs hs t r → Holds holds_nothing r
      → Holds holds_nothing r' → PhaseKept (extent c) g hs → Goes g r'
  quiet g r r' i is is' kept =
      still (extent c) h hs k t i.thread g (changing_in_hand r') (i.holds ∙ is ∙ sym is') kept

  closed : (p : Pass) (seen : ℕ) → IsChangingPhase c h gs hs t (Close p seen)
      → MayTurn (extent c) (Close p seen) h → h Phase ≡ seen
      → Goes (put_at h Phase (closed_word seen)) (closed_by p)
  closed p seen i may at = by_phase p.sweep refl
    where
      same : (cycle_of (closed_word seen) ≡ cycle_of seen) × (is_sweep (closed_word seen) ≡ is_sweep seen)
      same = (let none = empty_gate seen i.fits.1.empty in closed_phase seen none.1)

      kept : PhaseKept (extent c) (put_at h Phase (closed_word seen)) hs
      kept = phase_stays (extent c) h hs k (closed_word seen) (same.0 ∙ sym (ap cycle_of at))
          (same.1 ∙ sym (ap is_sweep at))

      by_phase : (b : Bool) → p.sweep ≡ b
          → Goes (put_at h Phase (closed_word seen)) (cond b (ShadeRoot p 0 0) (CheckList p 0))
      by_phase false e = quiet (put_at h Phase (closed_word seen)) (Close p seen) (CheckList p 0) i
          refl refl kept
      by_phase true e =
          let of = of_pass p seen i.fits.1.pass in
          begins_roots (extent c) (put_at h Phase (closed_word seen)) hs kept t i.thread
          (same.1 ∙ sym of.1 ∙ e) i.holds (may e at)

  closes : (p : Pass) (seen : ℕ) → IsChangingPhase c h gs hs t (Close p seen)
      → MayTurn (extent c) (Close p seen) h
      → Goes (cond (eqb (h Phase) seen) (put_at h Phase (closed_word seen)) h)
      (cond (eqb (h Phase) seen) (closed_by p) KeptOut)
  closes p seen i may = elim (cases_Bool (eqb (h Phase) seen)) [
    | inl won ↦ rw won (closed p seen i may (eqb-true _ _ won))
    | inr lost ↦ rw lost (quiet h (Close p seen) KeptOut i refl refl k)
  ]

  -- the pass of a thread that has closed the gate has the cycle and phase of the word
  pass_is : (p : Pass) (r : GateRow) → IsChangingPhase c h gs hs t r → changing_gating r ≡ in_pass p Closing
      → (p.cycle ≡ cycle_of (h Phase)) × (p.sweep ≡ is_sweep (h Phase))
  pass_is p r i is = closing_pass c.width c.threads h gs i.gate t i.thread p (i.stands ∙ is)

  pub changing_rules : (r : GateRow) → IsChangingPhase c h gs hs t r → MayTurn (extent c) r h
      → PhaseKept (extent c) (heap_after h (gate_want c.width r))
      (changed hs t (changing_in_hand (gate_got c.width r (h (place_of (gate_want c.width r))))))
  changing_rules (CloseLook p) i may = quiet h (CloseLook p) (look_to_close p (h Phase)) i refl (looked_holds p (h Phase)) k
  changing_rules (Close p seen) i may = closes p seen i may
  changing_rules (CheckList p u) i may = quiet h (CheckList p u) (list_checked p u (h (GreyList u))) i refl (checked_holds p u (h (GreyList u))) k
  changing_rules (SetCursor p) i may =
      let of = pass_is p (SetCursor p) i refl in
      quiet (put_at h Cursor 1) (SetCursor p) (Flip p) i refl refl
      (sets_cursor (extent c) h hs k t i.thread (sym of.1 ∙ i.fits.mark)
      (nobody_holds c h gs hs t (SetCursor p) i refl refl))
  changing_rules (Flip p) i may =
      let v = open_word p.cycle true in
      let parts = open_parts p.cycle true in
      quiet (put_at h Phase v) (Flip p) TurnedOver i refl refl
      (phase_flips (extent c) h hs k v parts.1 (i.knows.cursor refl)
      (λ u l. ap sweep_held (nobody_holds c h gs hs t (Flip p) i refl refl u l)))
  changing_rules (Reopen p) i may =
      let v = open_word p.cycle false in
      let parts = open_parts p.cycle false in
      let of = pass_is p (Reopen p) i refl in
      quiet (put_at h Phase v) (Reopen p) TurnedOver i refl refl
      (phase_stays (extent c) h hs k v (parts.3 ∙ of.0) (parts.1 ∙ sym i.fits.mark ∙ of.1))
  changing_rules (ShadeRoot p u list) i may =
      let of = pass_is p (ShadeRoot p u list) i refl in
      let y = root_block c.width u in
      let some = root_some c.width u in
      subst (λ (w : WorkInHand). PhaseKept (extent c) (put_at h (ColourOf y) (grey_word list)) (changed hs t w))
      (sym (shaded_holds c.width p u))
      (shades_root (extent c) h hs k t i.thread p.cycle y list (sym of.1 ∙ i.fits.0.sweep) of.0
      (λ z. omega arith) may i.holds)
  changing_rules (PutRoots p list) i may =
      let of = pass_is p (PutRoots p list) i refl in
      subst (λ u. PhaseKept (extent c) (put_at h (GreyList u) list) (changed hs t holds_nothing)) (sym i.own)
      (puts_roots (extent c) h hs k t i.thread list (sym of.1 ∙ i.fits.sweep) i.holds)
  changing_rules (Start p) i may =
      let of = pass_is p (Start p) i refl in
      quiet (put_at h Phase (open_word (p.cycle + 1) false)) (Start p) (StartedCycle (p.cycle + 1)) i refl refl
      (starts (extent c) h hs k t i.thread p.cycle (nobody_holds c h gs hs t (Start p) i refl refl)
      may.0 (λ u l. i.knows.roots u (subst (λ n. u < n) (sym i.at.threads) l)) may.1)
  changing_rules TurnedOver i may = quiet h TurnedOver TurnedOver i refl refl k
  changing_rules (StartedCycle y) i may = quiet h (StartedCycle y) (StartedCycle y) i refl refl k
  changing_rules KeptOut i may = quiet h KeptOut KeptOut i refl refl k
  changing_rules _ i may = absurd (let z : false ≡ true = i.turns in cc)

-- to go in or out keeps what a heap keeps in each phase
module _ (e : Extent) (h : Heap) (hs : ℕ → WorkInHand) (k : PhaseKept e h hs) where
  pub passing_rules : (r : GateRow) → turns_over r ≡ false → GateFits r
      → (r ≡ Leave → 1 ≤ inside_of (h Phase))
      → PhaseKept e (heap_after h (gate_want e.width r)) hs
  passing_rules Look away f some = k
  passing_rules (Enter seen) away f some =
      enter_keeps e.width h (λ g. PhaseKept e g hs) k (phase_stays e h hs k) seen f.word.inside
  passing_rules (Entered seen) away f some = k
  passing_rules Leave away f some =
      leave_keeps e.width h (λ g. PhaseKept e g hs) k (phase_stays e h hs k) (some refl)
  passing_rules Left away f some = k
  passing_rules _ away f some = absurd (let z : true ≡ false = away in cc)
