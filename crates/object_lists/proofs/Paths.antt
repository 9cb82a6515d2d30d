-- Every block of a layout is reached from the first.
use Rattle.std.proofs.Common.{◌≡◌, ℕ, zero, suc, ◌+◌, ◌<◌, ◌≤◌, cond, eqb, refl, sym, ap, ◌∙◌, arith, inl, inr, eq-eqb, ne_eqb}
use Rattle.std.proofs.lemmas.Bool.{cases_eq}
use Rattle.object_lists.specs.Parts.{Part, Link}
use Rattle.object_lists.specs.Layouts.{IsLayout, IsPath}

-- f with another value at one place
abbrev put_at : (ℕ → ℕ) → ℕ → ℕ → ℕ → ℕ
put_at f n v l = cond (eqb l n) v (f l)

put_here : (f : ℕ → ℕ) (n v l : ℕ) → l ≡ n → put_at f n v l ≡ v
put_here f n v l e = rw (eq-eqb l n e) refl

put_elsewhere : (f : ℕ → ℕ) (n v l : ℕ) → (l ≡ n → ⊥) → put_at f n v l ≡ f l
put_elsewhere f n v l e = rw (ne_eqb l n e) refl

abbrev Reached : (ℕ → ℕ → Part) → ℕ → Type 0
Reached part o = (steps : ℕ) × (way : ℕ → ℕ) × (turn : ℕ → ℕ) × (steps ≤ o)
    × IsPath part o steps way turn

-- a path, and one link more
longer : (part : ℕ → ℕ → Part) (o j p steps : ℕ) (way turn : ℕ → ℕ) → IsPath part o steps way turn
    → part o j ≡ Link p
    → IsPath part p (suc steps) (put_at way (suc steps) p) (put_at turn steps j)
longer part o j p steps way turn is e = record {
  starts = put_elsewhere way (suc steps) p 0 (λ h. absurd (omega arith)) ∙ is.starts;
  links = λ l before. elim (cases_eq l steps) [
    | inl h ↦
        ap (λ a. part a (put_at turn steps j l))
        (put_elsewhere way (suc steps) p l (λ k. absurd (omega arith)) ∙ ap way h ∙ is.ends)
        ∙ ap (part o) (put_here turn steps j l h) ∙ e
        ∙ ap Link (sym (put_here way (suc steps) p (l + 1) (omega arith)))
    | inr n ↦
        ap (λ a. part a (put_at turn steps j l))
        (put_elsewhere way (suc steps) p l (λ k. absurd (omega arith)))
        ∙ ap (part (way l)) (put_elsewhere turn steps j l n) ∙ is.links l (omega arith)
        ∙ ap Link (sym (put_elsewhere way (suc steps) p (l + 1) (λ k. absurd (n (omega arith)))))
  ];
  ends = put_here way (suc steps) p (suc steps) refl;
}

module _ (w len blocks : ℕ) (part : ℕ → ℕ → Part) (slot : ℕ → ℕ × ℕ)
    (is : IsLayout w len blocks part slot) where
  -- a block that is linked from one that is reached
  reached_by : (o j p : ℕ) → part o j ≡ Link p → o < p → Reached part o → Reached part p
  reached_by o j p e less r =
      let few : r.0 ≤ o = r.3 in (
        suc r.0,
        put_at r.1 (suc r.0) p,
        put_at r.2 r.0 j,
        omega arith,
        longer part o j p r.0 r.1 r.2 r.4 e,
      )

  -- by smaller ordinals first
  reached_below : (n o : ℕ) → o < n → o < blocks → Reached part o
  reached_below zero o small h = absurd (omega arith)
  reached_below (suc n) zero small h = (
    0,
    λ l. 0,
    λ l. 0,
    omega arith,
    record { starts = refl; links = λ l before. absurd (omega arith); ends = refl },
  )
  reached_below (suc n) (suc o) small h =
      let (q, j, e) = is.linked (suc o) (omega arith) h in
      let on = is.onward q j (suc o) e in
      reached_by q j (suc o) e on.1 (reached_below n q (omega (arith, on.1)) (omega (arith, on.1)))

  pub reached : (o : ℕ) → o < blocks → Reached part o
  reached o h = reached_below (suc o) o (omega arith) h
