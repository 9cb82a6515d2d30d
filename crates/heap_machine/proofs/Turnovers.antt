-- The part that changes the phase keeps the gate, and looks at every list.
use Rattle.std.proofs.Common.{◌≡◌, ℕ, zero, suc, ◌+◌, ◌-◌, ◌<◌, Bool, true, false, not, cond, eqb, ltb, refl, arith, subst, sym, ap, ◌∙◌, inl, inr, eqb-true, eq-eqb, ne_eqb, List, [], ◌∷◌, ◌++◌, replicate, Some}
use Rattle.std.proofs.lemmas.Bool.{cases_Bool, cases_eq, and_parts, lt-ltb, le-ltb, not-true}
use Rattle.block_store.specs.declared.Width.{Width}
use Rattle.block_store.specs.Heaps.{Heap, put_at}
use Rattle.block_store.specs.Places.{Phase, Cursor, GreyList}
use Rattle.block_store.specs.Phases.{inside_of, is_sweep, is_closed, cycle_of}
use Rattle.block_store.specs.Counts.{changed}
use Rattle.block_store.specs.Registers.{root_block}
use Rattle.heap_machine.specs.Gating.{Outside, Closing, is_outside, Gating, GateOf, closed_word}
use Rattle.heap_machine.specs.Operations.{Load, Exchange, place_of, heap_after}
use Rattle.heap_machine.specs.Gates.{gate_want, gate_got, gate_started, is_of_pass, is_empty, look_to_close, closed_by, list_checked, root_shaded, IsIdle, SeenEmpty, GateFits}
use Rattle.heap_machine.specs.ChangingPhase.{turns_over, in_pass, changing_gating, lists_read, CanClose, gate_after}
use Rattle.heap_machine.specs.declared.gate.GateRow.{GateRow}
use Rattle.heap_machine.specs.declared.gate.GateRow.TheVariants.{Enter, Leave, CloseLook, Close, CheckList, SetCursor, Flip, Reopen, ShadeRoot, PutRoots, Start, TurnedOver, StartedCycle, KeptOut}
use Rattle.heap_machine.specs.declared.pass.Pass.{Pass}
use Rattle.heap_machine.proofs.Gatings.{open_parts, closed_phase, gate_closes, gate_closing, gate_opens, gate_stays}
use Rattle.heap_machine.proofs.GateRows.{either_row}

same_phase : (a b : Bool) → cond a b (not b) ≡ true → b ≡ a
same_phase true b e = e
same_phase false true e = cc
same_phase false false e = refl

-- a word of the pass says its cycle and phase
pub of_pass : (p : Pass) (w : ℕ) → is_of_pass p w ≡ true → (p.cycle ≡ cycle_of w) × (p.sweep ≡ is_sweep w)
of_pass p w e =
    let parts = and_parts (eqb (cycle_of w) p.cycle) (cond (is_sweep w) p.sweep (not p.sweep)) e in
    (sym (eqb-true _ _ parts.0), same_phase (is_sweep w) p.sweep parts.1)

-- the word of an empty gate is open and counts nobody
pub empty_gate : (w : ℕ) → is_empty w ≡ true → (is_closed w ≡ false) × (inside_of w ≡ 0)
empty_gate w e =
    let parts = and_parts (not (is_closed w)) (eqb (inside_of w) 0) e in
    (not-true (is_closed w) parts.0, eqb-true _ _ parts.1)

abbrev IsOut : GateRow → Type 0
IsOut r = (changing_gating r).stand ≡ Outside

looks_out : (p : Pass) (w : ℕ) → IsOut (look_to_close p w)
looks_out p w = either_row IsOut (is_of_pass p w) (cond (is_empty w) (Close p w) KeptOut) KeptOut (either_row IsOut (is_empty w) (Close p w) KeptOut refl refl) refl

abbrev IsAt : Gating → GateRow → Type 0
IsAt g r = changing_gating r ≡ g

checks_closing : (p : Pass) (u w : ℕ) → IsAt (in_pass p Closing) (list_checked p u w)
checks_closing p u w =
    either_row (IsAt (in_pass p Closing)) (eqb w 0) (cond (ltb (u + 1) p.threads) (CheckList p (u + 1)) (SetCursor p)) (Reopen p) (either_row (IsAt (in_pass p Closing)) (ltb (u + 1) p.threads) (CheckList p (u + 1)) (SetCursor p) refl refl) refl

closed_closing : (p : Pass) → IsAt (in_pass p Closing) (closed_by p)
closed_closing p = either_row (IsAt (in_pass p Closing)) p.sweep (ShadeRoot p 0 0) (CheckList p 0) refl refl

shades_closing : (W : Width) (p : Pass) (u : ℕ) → IsAt (in_pass p Closing) (root_shaded W p u)
shades_closing W p u = either_row (IsAt (in_pass p Closing)) (ltb (u + 1) p.threads) (ShadeRoot p (u + 1) (root_block W u)) (PutRoots p (root_block W u)) refl refl

module _ (W : Width) (n : ℕ) (h : Heap) (gs : ℕ → Gating) (k : GateOf n (h Phase) gs) (t : ℕ) (tl : t < n) where
  -- a thread outside stays there
  stays_out : (r r' : GateRow) → IsOut r → IsOut r' → gs t ≡ changing_gating r → GateOf n (h Phase) (changed gs t (changing_gating r'))
  stays_out r r' out out' is =
      let same : (changing_gating r').stand ≡ (gs t).stand = out' ∙ sym out ∙ sym (ap (λ (g : Gating). g.stand) is) in
      gate_stays n (h Phase) gs k t tl (changing_gating r') same (λ e. (let z : true ≡ false = sym (ap is_outside out') ∙ e in cc))

  -- the thread that has closed the gate goes on
  stays_closing : (p : Pass) (r r' : GateRow) → IsAt (in_pass p Closing) r → IsAt (in_pass p Closing) r' → gs t ≡ changing_gating r → GateOf n (h Phase) (changed gs t (changing_gating r'))
  stays_closing p r r' at at' is =
      let same : changing_gating r' ≡ gs t = at' ∙ sym at ∙ sym is in
      gate_stays n (h Phase) gs k t tl (changing_gating r') (ap (λ (g : Gating). g.stand) same) (λ _. (ap (λ (g : Gating). g.cycle) same, ap (λ (g : Gating). g.sweep) same))

  closes : (p : Pass) (seen : ℕ) → SeenEmpty p seen → gs t ≡ in_pass p Outside → GateOf n (cond (eqb (h Phase) seen) (put_at h Phase (closed_word seen)) h Phase) (changed gs t (changing_gating (cond (eqb (h Phase) seen) (closed_by p) KeptOut)))
  closes p seen f is = elim (cases_Bool (eqb (h Phase) seen)) [
    | inl won ↦
        let e : h Phase ≡ seen = eqb-true _ _ won in
        let of = of_pass p seen f.pass in
        let none = empty_gate seen f.empty in
        rw won (subst (λ (g : Gating). GateOf n (closed_word seen) (changed gs t g)) (sym (closed_closing p)) (subst (λ w. GateOf n (closed_word w) (changed gs t (in_pass p Closing))) e
        (gate_closes n (h Phase) gs k t tl (in_pass p Closing) (ap is_closed e ∙ none.0) (ap inside_of e ∙ none.1) (ap (λ (g : Gating). g.stand) is) refl (of.0 ∙ sym (ap cycle_of e)) (of.1 ∙ sym (ap is_sweep e)))))
    | inr lost ↦ rw lost (stays_out (Close p seen) KeptOut refl refl is)
  ]

  pub changing_kept : (r : GateRow) → turns_over r ≡ true → GateFits r → gs t ≡ changing_gating r → GateOf n (heap_after h (gate_want W r) Phase) (changed gs t (changing_gating (gate_got W r (h (place_of (gate_want W r))))))
  changing_kept (CloseLook p) e f is = stays_out (CloseLook p) (look_to_close p (h Phase)) refl (looks_out p (h Phase)) is
  changing_kept (Close p seen) e f is = closes p seen f.1 is
  changing_kept (CheckList p u) e f is = stays_closing p (CheckList p u) (list_checked p u (h (GreyList u))) refl (checks_closing p u (h (GreyList u))) is
  changing_kept (SetCursor p) e f is = stays_closing p (SetCursor p) (Flip p) refl refl is
  changing_kept (Flip p) e f is = gate_opens n (h Phase) gs k t tl (changing_gating TurnedOver) p.cycle true (ap (λ (g : Gating). g.stand) is) refl
  changing_kept (Reopen p) e f is = gate_opens n (h Phase) gs k t tl (changing_gating TurnedOver) p.cycle false (ap (λ (g : Gating). g.stand) is) refl
  changing_kept (ShadeRoot p u list) e f is = stays_closing p (ShadeRoot p u list) (root_shaded W p u) refl (shades_closing W p u) is
  changing_kept (PutRoots p list) e f is = stays_closing p (PutRoots p list) (Start p) refl refl is
  changing_kept (Start p) e f is = gate_opens n (h Phase) gs k t tl (changing_gating (StartedCycle (p.cycle + 1))) (p.cycle + 1) false (ap (λ (g : Gating). g.stand) is) refl
  changing_kept TurnedOver e f is = stays_out TurnedOver TurnedOver refl refl is
  changing_kept (StartedCycle y) e f is = stays_out (StartedCycle y) (StartedCycle y) refl refl is
  changing_kept KeptOut e f is = stays_out KeptOut KeptOut refl refl is
  changing_kept _ e f is = absurd cc

  -- the thread that has closed the gate has the cycle and phase of the word
  pub closing_pass : (p : Pass) → gs t ≡ in_pass p Closing → (p.cycle ≡ cycle_of (h Phase)) × (p.sweep ≡ is_sweep (h Phase))
  closing_pass p is =
      let of = k.passes t tl (ap (λ (g : Gating). is_outside g.stand) is) in
      (sym (ap (λ (g : Gating). g.cycle) is) ∙ of.0, sym (ap (λ (g : Gating). g.sweep) is) ∙ of.1)

  -- a close, won or lost, leaves the cycle and the phase
  close_phase : (seen : ℕ) → inside_of seen ≡ 0 → (cycle_of (cond (eqb (h Phase) seen) (put_at h Phase (closed_word seen)) h Phase) ≡ cycle_of (h Phase)) × (is_sweep (cond (eqb (h Phase) seen) (put_at h Phase (closed_word seen)) h Phase) ≡ is_sweep (h Phase))
  close_phase seen none = elim (cases_Bool (eqb (h Phase) seen)) [
    | inl won ↦
        let e : h Phase ≡ seen = eqb-true _ _ won in
        let same = closed_phase seen none in
        rw won (same.0 ∙ sym (ap cycle_of e), same.1 ∙ sym (ap is_sweep e))
    | inr lost ↦ rw lost (refl, refl)
  ]

  pub changing_cycle : (r : GateRow) → turns_over r ≡ true → GateFits r → gs t ≡ changing_gating r → ((p : Pass) → r ≡ Start p → ⊥) → cycle_of (heap_after h (gate_want W r) Phase) ≡ cycle_of (h Phase)
  changing_cycle (Enter seen) e f is other = absurd cc
  changing_cycle Leave e f is other = absurd cc
  changing_cycle (Close p seen) e f is other = (let none = empty_gate seen f.1.empty in let same = close_phase seen none.1 in same.0)
  changing_cycle (Flip p) e f is other = (let parts = open_parts p.cycle true in let of = closing_pass p is in parts.3 ∙ of.0)
  changing_cycle (Reopen p) e f is other = (let parts = open_parts p.cycle false in let of = closing_pass p is in parts.3 ∙ of.0)
  changing_cycle (Start p) e f is other = absurd (other p refl)
  changing_cycle _ e f is other = refl

  pub changing_phase : (r : GateRow) → turns_over r ≡ true → GateFits r → gs t ≡ changing_gating r → ((p : Pass) → r ≡ Flip p → ⊥) → ((p : Pass) → r ≡ Start p → ⊥) → is_sweep (heap_after h (gate_want W r) Phase) ≡ is_sweep (h Phase)
  changing_phase (Enter seen) e f is other more = absurd cc
  changing_phase Leave e f is other more = absurd cc
  changing_phase (Close p seen) e f is other more = (let none = empty_gate seen f.1.empty in let same = close_phase seen none.1 in same.1)
  changing_phase (Flip p) e f is other more = absurd (other p refl)
  changing_phase (Reopen p) e f is other more = (let parts = open_parts p.cycle false in let of = closing_pass p is in parts.1 ∙ sym f.mark ∙ of.1)
  changing_phase (Start p) e f is other more = absurd (more p refl)
  changing_phase _ e f is other more = refl

  pub flip_phase : (p : Pass) → GateFits (Flip p) → gs t ≡ changing_gating (Flip p) → (is_sweep (h Phase) ≡ false) × (is_sweep (heap_after h (gate_want W (Flip p)) Phase) ≡ true) × (inside_of (h Phase) ≡ 0) × ((u : ℕ) → u < n → (t ≡ u → ⊥) → (gs u).stand ≡ Outside)
  flip_phase p f is =
      let parts = open_parts p.cycle true in
      let of = closing_pass p is in
      let closing = gate_closing n (h Phase) gs k t tl (ap (λ (g : Gating). g.stand) is) in
      (sym of.1 ∙ f.mark, parts.1, closing.1, closing.2)

  pub start_phase : (p : Pass) → GateFits (Start p) → gs t ≡ changing_gating (Start p)
      → (is_sweep (h Phase) ≡ true) × (is_sweep (heap_after h (gate_want W (Start p)) Phase) ≡ false)
      × (cycle_of (heap_after h (gate_want W (Start p)) Phase) ≡ cycle_of (h Phase) + 1)
      × (gate_started (gate_got W (Start p) (h Phase)) ≡ Some (cycle_of (h Phase) + 1))
      × (inside_of (h Phase) ≡ 0) × ((u : ℕ) → u < n → (t ≡ u → ⊥) → (gs u).stand ≡ Outside)
  start_phase p f is =
      let parts = open_parts (p.cycle + 1) false in
      let of = closing_pass p is in
      let closing = gate_closing n (h Phase) gs k t tl (ap (λ (g : Gating). g.stand) is) in
      (sym of.1 ∙ f.sweep, parts.1, parts.3 ∙ ap (λ y. y + 1) of.0, ap (λ y. Some (y + 1)) of.0, closing.1, closing.2)

module _ (p : Pass) where
  next_list : (u w : ℕ) → w ≡ 0 → u + 1 < p.threads → list_checked p u w ≡ CheckList p (u + 1)
  next_list u w e low = rw (eq-eqb w 0 e, lt-ltb (u + 1) p.threads low) refl

  last_list : (u w : ℕ) → w ≡ 0 → u + 1 ≡ p.threads → list_checked p u w ≡ SetCursor p
  last_list u w e end = rw (eq-eqb w 0 e, le-ltb (u + 1) p.threads (omega arith)) refl

  grey_list : (u w : ℕ) → eqb w 0 ≡ false → list_checked p u w ≡ Reopen p
  grey_list u w e = rw e refl

  -- a list that was read 0 is one more, and after another none counts
  empty_read : (u w : ℕ) → u < p.threads → w ≡ 0 → lists_read (list_checked p u w) ≡ u + 1
  empty_read u w low e = elim (cases_eq (u + 1) p.threads) [
    | inl end ↦ ap lists_read (last_list u w e end) ∙ sym end
    | inr more ↦ ap lists_read (next_list u w e (omega arith))
  ]

  grey_read : (u w : ℕ) → eqb w 0 ≡ false → lists_read (list_checked p u w) ≡ 0
  grey_read u w e = ap lists_read (grey_list u w e)

module _ (W : Width) (p : Pass) where
  -- a part that is over, or opens the gate, does not flip any more
  no_flip_over : (ws : List ℕ) → gate_after W TurnedOver ws ≡ Flip p → ⊥
  no_flip_over [] e = cc
  no_flip_over (w ∷ ws) e = no_flip_over ws e

  no_flip_out : (ws : List ℕ) → gate_after W KeptOut ws ≡ Flip p → ⊥
  no_flip_out [] e = cc
  no_flip_out (w ∷ ws) e = no_flip_out ws e

  no_flip_reopened : (ws : List ℕ) → gate_after W (Reopen p) ws ≡ Flip p → ⊥
  no_flip_reopened [] e = cc
  no_flip_reopened (w ∷ ws) e = no_flip_over ws e

  flip_here : (ws : List ℕ) → gate_after W (Flip p) ws ≡ Flip p → ws ≡ []
  flip_here [] e = refl
  flip_here (w ∷ ws) e = absurd (no_flip_over ws e)

  -- from the row that sets the cursor it is one event to the flip
  cursor_first : (ws : List ℕ) → gate_after W (SetCursor p) ws ≡ Flip p → (x : ℕ) × (ws ≡ x ∷ [])
  cursor_first [] e = absurd cc
  cursor_first (w ∷ ws) e = (w, ap (λ xs. w ∷ xs) (flip_here ws e))

  went : (r s : GateRow) (w : ℕ) (ws : List ℕ) (P : GateRow → Type 0) → gate_got W r w ≡ s → P (gate_after W r (w ∷ ws)) → P (gate_after W s ws)
  went r s w ws P e k = subst (λ q. P (gate_after W q ws)) e k

  came : (r s : GateRow) (w : ℕ) (ws : List ℕ) (P : GateRow → Type 0) → gate_got W r w ≡ s → P (gate_after W s ws) → P (gate_after W r (w ∷ ws))
  came r s w ws P e k = subst (λ q. P (gate_after W q ws)) (sym e) k

  abbrev IsFlip : GateRow → Type 0
  IsFlip r = r ≡ Flip p

  one_more : (d x w : ℕ) (ws : List ℕ) → w ≡ 0 → ws ≡ replicate d 0 ++ x ∷ [] → w ∷ ws ≡ replicate (suc d) 0 ++ x ∷ []
  one_more d x w ws e k = rw (e, k) refl

  -- d lists are left after list u: a flip has read 0 from each
  from_list : (d u : ℕ) (ws : List ℕ) → u + suc d ≡ p.threads → gate_after W (CheckList p u) ws ≡ Flip p → (x : ℕ) × (ws ≡ replicate (suc d) 0 ++ x ∷ [])
  from_list d u [] e k = absurd cc
  from_list zero u (w ∷ ws) e k = elim (cases_Bool (eqb w 0)) [
    | inl none ↦
        let z : w ≡ 0 = eqb-true w 0 none in
        let last = cursor_first ws (went (CheckList p u) (SetCursor p) w ws IsFlip (last_list p u w z (omega arith)) k) in
        (last.0, one_more 0 last.0 w ws z last.1)
    | inr some ↦ absurd (no_flip_reopened ws (went (CheckList p u) (Reopen p) w ws IsFlip (grey_list p u w some) k))
  ]
  from_list (suc d) u (w ∷ ws) e k = elim (cases_Bool (eqb w 0)) [
    | inl none ↦
        let z : w ≡ 0 = eqb-true w 0 none in
        let rest = from_list d (u + 1) ws (omega arith) (went (CheckList p u) (CheckList p (u + 1)) w ws IsFlip (next_list p u w z (omega arith)) k) in
        (rest.0, one_more (suc d) rest.0 w ws z rest.1)
    | inr some ↦ absurd (no_flip_reopened ws (went (CheckList p u) (Reopen p) w ws IsFlip (grey_list p u w some) k))
  ]

  -- with 0 read from each of d lists the part is at the next
  zeros_from : (d u : ℕ) → u + d < p.threads → gate_after W (CheckList p u) (replicate d 0) ≡ CheckList p (u + d)
  zeros_from zero u low = ap (CheckList p) (omega arith)
  zeros_from (suc d) u low =
      let sum : u + 1 + d ≡ u + suc d = omega arith in
      came (CheckList p u) (CheckList p (u + 1)) 0 (replicate d 0) (λ q. q ≡ CheckList p (u + suc d)) (next_list p u 0 refl (omega arith)) (zeros_from d (u + 1) (omega arith) ∙ ap (CheckList p) sum)

  zeros_here : (u : ℕ) → u < p.threads → gate_after W (CheckList p 0) (replicate u 0) ≡ CheckList p u
  zeros_here u low = (let sum : 0 + u ≡ u = omega arith in zeros_from u 0 (omega arith) ∙ ap (CheckList p) sum)

  after_both : (r : GateRow) (xs ys : List ℕ) → gate_after W r (xs ++ ys) ≡ gate_after W (gate_after W r xs) ys
  after_both r [] ys = refl
  after_both r (x ∷ xs) ys = after_both (gate_got W r x) xs ys

  all_zeros : (d u : ℕ) → u + suc d ≡ p.threads → gate_after W (CheckList p u) (replicate (suc d) 0) ≡ SetCursor p
  all_zeros zero u e = last_list p u 0 refl (omega arith)
  all_zeros (suc d) u e = came (CheckList p u) (CheckList p (u + 1)) 0 (replicate (suc d) 0) (λ q. q ≡ SetCursor p) (next_list p u 0 refl (omega arith)) (all_zeros d (u + 1) (omega arith))

  closed : (v : ℕ) (ws : List ℕ) → IsIdle p → CanClose p v → gate_after W (CloseLook p) (v ∷ v ∷ ws) ≡ gate_after W (CheckList p 0) ws
  closed v ws f can =
      let look : look_to_close p v ≡ Close p v = rw (can.pass, can.empty) refl in
      let close : gate_got W (Close p v) v ≡ CheckList p 0 = rw (eq-eqb v v refl, f.mark) refl in
      came (CloseLook p) (Close p v) v (v ∷ ws) (λ q. q ≡ gate_after W (CheckList p 0) ws) look (came (Close p v) (CheckList p 0) v ws (λ q. q ≡ gate_after W (CheckList p 0) ws) close refl)

  pub each_list : (v u : ℕ) → IsIdle p → CanClose p v → u < p.threads → gate_want W (gate_after W (CloseLook p) (v ∷ v ∷ replicate u 0)) ≡ Load (GreyList u)
  each_list v u f can low = ap (gate_want W) (closed v (replicate u 0) f can ∙ zeros_here u low)

  pub reopens_at : (v u w : ℕ) → IsIdle p → CanClose p v → u < p.threads → (w ≡ 0 → ⊥) → gate_after W (CloseLook p) (v ∷ v ∷ (replicate u 0 ++ w ∷ [])) ≡ Reopen p
  reopens_at v u w f can low ne =
      let at = closed v (replicate u 0 ++ w ∷ []) f can ∙ after_both (CheckList p 0) (replicate u 0) (w ∷ []) in
      at ∙ ap (λ r. gate_after W r (w ∷ [])) (zeros_here u low) ∙ grey_list p u w (ne_eqb w 0 ne)

  -- with 0 read from each list it sets the cursor
  zeros_read : IsIdle p → gate_after W (CheckList p 0) (replicate p.threads 0) ≡ SetCursor p
  zeros_read f =
      let split : suc (p.threads - 1) ≡ p.threads = omega (arith, f.pass.thread) in
      subst (λ n. gate_after W (CheckList p 0) (replicate n 0) ≡ SetCursor p) split (all_zeros (p.threads - 1) 0 (omega arith))

  pub sets_cursor : (v : ℕ) → IsIdle p → CanClose p v → gate_want W (gate_after W (CloseLook p) (v ∷ v ∷ replicate p.threads 0)) ≡ Exchange Cursor 1
  sets_cursor v f can = ap (gate_want W) (closed v (replicate p.threads 0) f can ∙ zeros_read f)

  pub flips_after : (v x : ℕ) → IsIdle p → CanClose p v → gate_after W (CloseLook p) (v ∷ v ∷ (replicate p.threads 0 ++ x ∷ [])) ≡ Flip p
  flips_after v x f can = closed v (replicate p.threads 0 ++ x ∷ []) f can ∙ after_both (CheckList p 0) (replicate p.threads 0) (x ∷ []) ∙ ap (λ r. gate_after W r (x ∷ [])) (zeros_read f)

  twice : (v w : ℕ) (ws xs : List ℕ) → w ≡ v → ws ≡ xs → v ∷ w ∷ ws ≡ v ∷ v ∷ xs
  twice v w ws xs e k = rw (e, k) refl

  abbrev Flips : List ℕ → Type 0
  Flips ws = (v : ℕ) × (x : ℕ) × (ws ≡ v ∷ v ∷ (replicate p.threads 0 ++ x ∷ [])) × CanClose p v

  from_close : (v : ℕ) (ws : List ℕ) → IsIdle p → CanClose p v → gate_after W (Close p v) ws ≡ Flip p → Flips (v ∷ ws)
  from_close v [] f can e = absurd cc
  from_close v (w ∷ ws) f can e = elim (cases_Bool (eqb w v)) [
    | inl won ↦
        let split : suc (p.threads - 1) ≡ p.threads = omega (arith, f.pass.thread) in
        let z : w ≡ v = eqb-true w v won in
        let is : gate_got W (Close p v) w ≡ CheckList p 0 = rw (won, f.mark) refl in
        let rest = from_list (p.threads - 1) 0 ws (omega arith) (went (Close p v) (CheckList p 0) w ws IsFlip is e) in
        let same : ws ≡ replicate p.threads 0 ++ rest.0 ∷ [] = subst (λ n. ws ≡ replicate n 0 ++ rest.0 ∷ []) split rest.1 in
        (v, rest.0, twice v w ws (replicate p.threads 0 ++ rest.0 ∷ []) z same, can)
    | inr lost ↦ (let is : gate_got W (Close p v) w ≡ KeptOut = rw lost refl in absurd (no_flip_out ws (went (Close p v) KeptOut w ws IsFlip is e)))
  ]

  pub flips_only : (ws : List ℕ) → IsIdle p → gate_after W (CloseLook p) ws ≡ Flip p → Flips ws
  flips_only [] f e = absurd cc
  flips_only (w ∷ ws) f e = elim (cases_Bool (is_of_pass p w)) [
    | inl of ↦ elim (cases_Bool (is_empty w)) [
      | inl none ↦ (let is : look_to_close p w ≡ Close p w = rw (of, none) refl in from_close w ws f (record { pass = of; empty = none }) (went (CloseLook p) (Close p w) w ws IsFlip is e))
      | inr some ↦ (let is : look_to_close p w ≡ KeptOut = rw (of, some) refl in absurd (no_flip_out ws (went (CloseLook p) KeptOut w ws IsFlip is e)))
    ]
    | inr other ↦ (let is : look_to_close p w ≡ KeptOut = rw other refl in absurd (no_flip_out ws (went (CloseLook p) KeptOut w ws IsFlip is e)))
  ]

-- the lists that are read are empty after a list was looked at
list_empty : (p : Pass) (list : ℕ → ℕ) (u : ℕ) → u < p.threads → ((v : ℕ) → v < u → list v ≡ 0) → (v : ℕ) → v < lists_read (list_checked p u (list u)) → list v ≡ 0
list_empty p list u low empty v below = elim (cases_Bool (eqb (list u) 0)) [
  | inl none ↦
      let z : list u ≡ 0 = eqb-true _ _ none in
      let read : lists_read (list_checked p u (list u)) ≡ u + 1 = empty_read p u (list u) low z in
      elim (cases_eq v u) [
        | inl e ↦ ap list e ∙ z
        | inr ne ↦ empty v (omega arith)
      ]
  | inr some ↦
      let read : lists_read (list_checked p u (list u)) ≡ 0 = grey_read p u (list u) some in
      absurd (omega arith)
]

abbrev ReadNone : GateRow → Type 0
ReadNone r = lists_read r ≡ 0

close_look_read : (p : Pass) (w : ℕ) → ReadNone (look_to_close p w)
close_look_read p w = either_row ReadNone (is_of_pass p w) (cond (is_empty w) (Close p w) KeptOut) KeptOut (either_row ReadNone (is_empty w) (Close p w) KeptOut refl refl) refl

close_read : (W : Width) (p : Pass) (seen w : ℕ) → ReadNone (gate_got W (Close p seen) w)
close_read W p seen w = either_row ReadNone (eqb w seen) (closed_by p) KeptOut (either_row ReadNone p.sweep (ShadeRoot p 0 0) (CheckList p 0) refl refl) refl

shade_read : (W : Width) (p : Pass) (u : ℕ) → ReadNone (root_shaded W p u)
shade_read W p u = either_row ReadNone (ltb (u + 1) p.threads) (ShadeRoot p (u + 1) (root_block W u)) (PutRoots p (root_block W u)) refl refl

none_below : (r : GateRow) (v : ℕ) → ReadNone r → v < lists_read r → ⊥
none_below r v e low = omega arith

-- no event of the part fills a list that it has read
pub checked_empty : (W : Width) (h : Heap) (r : GateRow) → turns_over r ≡ true → GateFits r → ((u : ℕ) → u < lists_read r → h (GreyList u) ≡ 0) → (u : ℕ) → u < lists_read (gate_got W r (h (place_of (gate_want W r)))) → heap_after h (gate_want W r) (GreyList u) ≡ 0
checked_empty W h (CloseLook p) e f empty u low = absurd (none_below (look_to_close p (h Phase)) u (close_look_read p (h Phase)) low)
checked_empty W h (Close p seen) e f empty u low = absurd (none_below (gate_got W (Close p seen) (h Phase)) u (close_read W p seen (h Phase)) low)
checked_empty W h (CheckList p v) e f empty u low = list_empty p (λ x. h (GreyList x)) v f.1 empty u low
checked_empty W h (SetCursor p) e f empty u low = empty u low
checked_empty W h (Flip p) e f empty u low = absurd (omega arith)
checked_empty W h (Reopen p) e f empty u low = absurd (omega arith)
checked_empty W h (ShadeRoot p v list) e f empty u low = absurd (none_below (root_shaded W p v) u (shade_read W p v) low)
checked_empty W h (PutRoots p list) e f empty u low = absurd (omega arith)
checked_empty W h (Start p) e f empty u low = absurd (omega arith)
checked_empty W h TurnedOver e f empty u low = absurd (omega arith)
checked_empty W h (StartedCycle y) e f empty u low = absurd (omega arith)
checked_empty W h KeptOut e f empty u low = absurd (omega arith)
checked_empty W h _ e f empty u low = absurd cc
