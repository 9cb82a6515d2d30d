-- A part comes to the start of a cycle after it has shaded the root of each thread.
use Rattle.std.proofs.Common.{◌≡◌, ℕ, suc, ◌+◌, ◌≤◌, ◌<◌, eqb, refl, arith, subst, sym, ap, ◌∙◌, inl, inr, eqb-true, eq-eqb, List, [], ◌∷◌, length}
use Rattle.std.proofs.lemmas.Bool.{cases_Bool, cases_lt, lt-ltb, le-ltb}
use Rattle.block_store.specs.declared.Width.{Width}
use Rattle.block_store.specs.Colours.{grey_word}
use Rattle.block_store.specs.Places.{GreyList, ColourOf}
use Rattle.block_store.specs.Registers.{root_block}
use Rattle.heap_machine.specs.Operations.{Exchange}
use Rattle.heap_machine.specs.Gates.{gate_want, gate_got, is_of_pass, is_empty, look_to_close, root_shaded, IsSwept}
use Rattle.heap_machine.specs.ChangingPhase.{CanClose, gate_after, root_before}
use Rattle.heap_machine.specs.declared.gate.GateRow.{GateRow}
use Rattle.heap_machine.specs.declared.gate.GateRow.TheVariants.{CloseLook, Close, ShadeRoot, PutRoots, Start, StartedCycle, KeptOut}
use Rattle.heap_machine.specs.declared.pass.Pass.{Pass}

module _ (W : Width) (p : Pass) where
  abbrev IsStart : GateRow → Type 0
  IsStart r = r ≡ Start p

  -- a part that is over starts nothing more
  no_start_over : (y : ℕ) (ws : List ℕ) → gate_after W (StartedCycle y) ws ≡ Start p → ⊥
  no_start_over y [] e = cc
  no_start_over y (w ∷ ws) e = no_start_over y ws e

  no_start_out : (ws : List ℕ) → gate_after W KeptOut ws ≡ Start p → ⊥
  no_start_out [] e = cc
  no_start_out (w ∷ ws) e = no_start_out ws e

  start_here : (ws : List ℕ) → gate_after W (Start p) ws ≡ Start p → length ws ≡ 0
  start_here [] e = refl
  start_here (w ∷ ws) e = absurd (no_start_over (p.cycle + 1) ws e)

  put_first : (list : ℕ) (ws : List ℕ) → gate_after W (PutRoots p list) ws ≡ Start p
      → length ws ≡ 1
  put_first list [] e = absurd cc
  put_first list (w ∷ ws) e = (let rest = start_here ws e in omega arith)

  next_root : (u : ℕ) → u + 1 < p.threads → root_shaded W p u ≡ ShadeRoot p (u + 1) (root_block W u)
  next_root u low = rw (lt-ltb (u + 1) p.threads low) refl

  last_root : (u : ℕ) → p.threads ≤ u + 1 → root_shaded W p u ≡ PutRoots p (root_block W u)
  last_root u end = rw (le-ltb (u + 1) p.threads end) refl

  went : (r s : GateRow) (ws : List ℕ) (P : GateRow → Type 0) → r ≡ s → P (gate_after W r ws)
      → P (gate_after W s ws)
  went r s ws P e k = subst (λ q. P (gate_after W q ws)) e k

  -- one event for each root that is left, and one that puts them
  from_root : (ws : List ℕ) (u list : ℕ) → u < p.threads
      → gate_after W (ShadeRoot p u list) ws ≡ Start p → u + length ws ≡ p.threads + 1
  from_root [] u list low e = absurd cc
  from_root (w ∷ ws) u list low e = elim (cases_lt (u + 1) p.threads) [
    | inl less ↦
        let rest = from_root ws (u + 1) (root_block W u) less
        (went (root_shaded W p u) (ShadeRoot p (u + 1) (root_block W u)) ws IsStart
        (next_root u less) e) in
        omega arith
    | inr end ↦
        let rest = put_first (root_block W u) ws
        (went (root_shaded W p u) (PutRoots p (root_block W u)) ws IsStart (last_root u end) e) in
        omega arith
  ]

  before_is : (u : ℕ) → root_before W (u + 1) ≡ root_block W u
  before_is u = (let one : u + 1 ≡ suc u = omega arith in ap (root_before W) one)

  -- where the part comes after these events
  abbrev shading : ℕ → GateRow
  shading u = ShadeRoot p u (root_before W u)

  goes_on : (u : ℕ) → u + 1 < p.threads → root_shaded W p u ≡ shading (u + 1)
  goes_on u low = next_root u low ∙ ap (ShadeRoot p (u + 1)) (sym (before_is u))

  ends : (u : ℕ) → u + 1 ≡ p.threads → root_shaded W p u ≡ PutRoots p (root_before W p.threads)
  ends u end = last_root u (omega arith)
      ∙ ap (PutRoots p) (sym (before_is u) ∙ ap (root_before W) end)

  shades_from : (us : List ℕ) (u : ℕ) → u + length us < p.threads
      → gate_after W (shading u) us ≡ shading (u + length us)
  shades_from [] u low = (let same : u ≡ u + 0 = omega arith in ap shading same)
  shades_from (x ∷ xs) u low =
      let same : u + 1 + length xs ≡ u + length (x ∷ xs) = omega arith in
      went (shading (u + 1)) (root_shaded W p u) xs (λ q. q ≡ shading (u + length (x ∷ xs)))
      (sym (goes_on u (omega arith)))
      (shades_from xs (u + 1) (omega arith) ∙ ap shading same)

  puts_from : (us : List ℕ) (u : ℕ) → u < p.threads → u + length us ≡ p.threads
      → gate_after W (shading u) us ≡ PutRoots p (root_before W p.threads)
  puts_from [] u low end = absurd (omega arith)
  puts_from (x ∷ xs) u low end = elim (cases_lt (u + 1) p.threads) [
    | inl less ↦ went (shading (u + 1)) (root_shaded W p u) xs
        (λ q. q ≡ PutRoots p (root_before W p.threads)) (sym (goes_on u less))
        (puts_from xs (u + 1) less (omega arith))
    | inr last ↦ went (PutRoots p (root_before W p.threads)) (root_shaded W p u) xs
        (λ q. q ≡ PutRoots p (root_before W p.threads)) (sym (ends u (omega arith)))
        (no_more xs (omega arith))
  ]
    where
      no_more : (xs : List ℕ) → length xs ≡ 0
          → gate_after W (PutRoots p (root_before W p.threads)) xs
          ≡ PutRoots p (root_before W p.threads)
      no_more [] e = refl
      no_more (x ∷ xs) e = absurd (omega arith)

  closed : (v : ℕ) (ws : List ℕ) → IsSwept p → CanClose p v
      → gate_after W (CloseLook p) (v ∷ v ∷ ws) ≡ gate_after W (shading 0) ws
  closed v ws f can =
      let look : Close p v ≡ look_to_close p v = rw (can.pass, can.empty) refl in
      let close : ShadeRoot p 0 0 ≡ gate_got W (Close p v) v =
      rw (eq-eqb v v refl, f.sweep) refl in
      went (Close p v) (look_to_close p v) (v ∷ ws) (λ q. q ≡ gate_after W (shading 0) ws) look
      (went (ShadeRoot p 0 0) (gate_got W (Close p v) v) ws
      (λ q. q ≡ gate_after W (shading 0) ws) close refl)

  pub each_root : (v : ℕ) (us : List ℕ) → IsSwept p → CanClose p v → length us < p.threads
      → gate_want W (gate_after W (CloseLook p) (v ∷ v ∷ us))
      ≡ Exchange (ColourOf (root_block W (length us))) (grey_word (root_before W (length us)))
  each_root v us f can low =
      (let sum : 0 + length us ≡ length us = omega arith in
      ap (gate_want W) (closed v us f can ∙ shades_from us 0 (omega arith) ∙ ap shading sum))

  pub puts_roots : (v : ℕ) (us : List ℕ) → IsSwept p → CanClose p v → length us ≡ p.threads
      → gate_want W (gate_after W (CloseLook p) (v ∷ v ∷ us))
      ≡ Exchange (GreyList p.thread) (root_before W p.threads)
  puts_roots v us f can end =
      ap (gate_want W) (closed v us f can ∙ puts_from us 0 (omega (arith, f.pass.thread)) (omega arith))

  from_close : (v : ℕ) (ws : List ℕ) → IsSwept p → gate_after W (Close p v) ws ≡ Start p
      → (us : List ℕ) × (ws ≡ v ∷ us) × (length us ≡ p.threads + 1)
  from_close v [] f e = absurd cc
  from_close v (w ∷ us) f e = elim (cases_Bool (eqb w v)) [
    | inl won ↦
        let is : gate_got W (Close p v) w ≡ ShadeRoot p 0 0 = rw (won, f.sweep) refl in
        let same : w ≡ v = eqb-true w v won in
        let rest = from_root us 0 0 (omega (arith, f.pass.thread))
        (went (gate_got W (Close p v) w) (ShadeRoot p 0 0) us IsStart is e) in
        (us, ap (λ z. z ∷ us) same, omega arith)
    | inr lost ↦
        let is : gate_got W (Close p v) w ≡ KeptOut = rw lost refl in
        absurd (no_start_out us (went (gate_got W (Close p v) w) KeptOut us IsStart is e))
  ]

  abbrev Starts : List ℕ → Type 0
  Starts ws = (v : ℕ) × (us : List ℕ) × (ws ≡ v ∷ v ∷ us) × (length us ≡ p.threads + 1)
      × CanClose p v

  pub starts_only : (ws : List ℕ) → IsSwept p → gate_after W (CloseLook p) ws ≡ Start p → Starts ws
  starts_only [] f e = absurd cc
  starts_only (w ∷ ws) f e = elim (cases_Bool (is_of_pass p w)) [
    | inl of ↦ elim (cases_Bool (is_empty w)) [
      | inl none ↦
          let is : look_to_close p w ≡ Close p w = rw (of, none) refl in
          let rest = from_close w ws f (went (look_to_close p w) (Close p w) ws IsStart is e) in
          (w, rest.0, ap (λ z. w ∷ z) rest.1, rest.2, record { pass = of; empty = none })
      | inr some ↦ out (rw (of, some) refl)
    ]
    | inr other ↦ out (rw other refl)
  ]
    where
      out : look_to_close p w ≡ KeptOut → Starts (w ∷ ws)
      out is = absurd (no_start_out ws (went (look_to_close p w) KeptOut ws IsStart is e))
