use Rattle.std.proofs.Common.{rules, ◌≡◌, ◌<◌, ◌+◌, ◌↔◌, ◌⊎◌, ◌∙◌, ℕ, zero, suc, Bool, true, false, List, [], ◌∷◌, inl, inr, length, slice_index_or, Contains, refl, sym, ap, subst, arith}
use Rattle.std.proofs.lemmas.Bool.{cases_eq}
use Rattle.block_store.specs.declared.Value.{Value}
use Rattle.block_store.specs.declared.Value.TheVariants.{Nil}
use Rattle.model_tests.proofs.stored.last_stored.Goals as goal
use Rattle.model_tests.proofs.stored.last_stored.Goals.{then-is_of, else-is_of}

same_default : {X : Type 0} (xs : List X) (t : ℕ) (d e : X) → t < length xs
    → slice_index_or xs t d ≡ slice_index_or xs t e
same_default [] t d e low = absurd (omega arith)
same_default (x ∷ xs) zero d e low = refl
same_default (x ∷ xs) (suc t) d e low = same_default xs t d e (omega arith)

abbrev Stored : Type 0
Stored = Value × ℕ × Value

abbrev IsOf : Value → ℕ → Stored → Type 0
IsOf object i s = (s.0 ≡ object) × (s.1 ≡ i)

-- an entry of another field is none of this one's
passed_over : (P : Type 0) (xs : List Stored) (object : Value) (i k : ℕ) (e : Stored) (r : Bool)
    → k < length xs → (r ≡ true ↔ IsOf object i (slice_index_or xs k e)) → r ≡ false
    → ((t : ℕ) (d : Stored) → t < k → (slice_index_or xs t d).0 ≡ object
    → (slice_index_or xs t d).1 ≡ i → P)
    → (t : ℕ) (d : Stored) → t < k + 1 → (slice_index_or xs t d).0 ≡ object
    → (slice_index_or xs t d).1 ≡ i → P
passed_over P xs object i k e r there told not before t d low same field = elim (cases_eq t k) [
  | inl here ↦
      let at : slice_index_or xs k e ≡ slice_index_or xs t d =
      same_default xs k e d there ∙ ap (λ j. slice_index_or xs j d) (sym here) in
      let so : r ≡ true = told.1 (subst (λ s. IsOf object i s) (sym at) (same, field)) in
      absurd cc
  | inr other ↦ before t d (omega (arith, other)) same field
]

pub loop-entry-preserved : goal.loop-entry-preserved
loop-entry-preserved c = elim c.if-is_of.branch [
  | then-is_of w ↦ (search rules, λ t d low same field. search rules)
  | else-is_of w ↦ subst
      (λ (v : Value). ((v ≡ Nil) ⊎ Contains c.args.stored.now (c.args.object, c.args.i, v))
      × ((t : ℕ) (d : Stored) → t < c.loop-entry.entry-index + 1
      → (slice_index_or c.args.stored.now t d).0 ≡ c.args.object
      → (slice_index_or c.args.stored.now t d).1 ≡ c.args.i
      → Contains c.args.stored.now (c.args.object, c.args.i, v)))
      (sym w.last-is) (
        c.loop-entry.invariant.0,
        passed_over _ c.args.stored.now c.args.object c.args.i c.loop-entry.entry-index _ _
            c.loop-entry-test.true c.is_of.ensures w.if-is_of.false c.loop-entry.invariant.1,
      )
]
