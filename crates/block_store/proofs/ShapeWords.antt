-- What shape words say.
use Rattle.std.proofs.Common.{inl, inr, leb-true, ne_eqb, subst, IfSome, ◌≡◌, ◌≢◌, ℕ, ◌+◌, ◌*◌, ◌/◌, ◌%◌, Some, None, refl, arith, true, leb, ap}
use Rattle.std.proofs.lemmas.Bool.{cases_eq, cases_Bool}
use Rattle.std.proofs.lemmas.Bool.Decides.{nat_tests}
use Rattle.block_store.specs.Shapes.{IsShape, shape_code, shape_of, record_word, array_word}
use Rattle.block_store.specs.declared.Shape.{Shape}
use Rattle.block_store.specs.declared.Shape.TheVariants as shapes

pub one_record : (f g : ℕ) → record_word f ≡ record_word g → f ≡ g
unfolding record_word
one_record f g e = omega arith

pub one_array : (d e : ℕ) → array_word d ≡ array_word e → d ≡ e
unfolding array_word
one_array d e q = omega arith

pub record-array : (f e : ℕ) → record_word f ≢ array_word e
unfolding record_word array_word
record-array f e q = omega arith

pub shape-code : (s : Shape) → IsShape s → shape_of (shape_code s) ≡ Some s
unfolding shape_of record_word array_word
shape-code (shapes.List f) h =
    let e : (2 * f) % 2 ≡ 0 = omega arith in
    let d : (2 * f) / 2 ≡ f = omega arith in
    let l : leb f 65535 ≡ true = grind (arith, nat_tests) in
    rw (d, e, l) refl
shape-code (shapes.Tree f) h =
    let e : (2 * f + 1) % 2 ≡ 1 = omega arith in
    let d : (2 * f + 1) / 2 ≡ f = omega arith in
    let l : leb f 65535 ≡ true = grind (arith, nat_tests) in
    rw (d, e, l) refl

-- a word that reads as nothing was not written
pub unread : (w : ℕ) → shape_of w ≡ None → (s : Shape) → IsShape s → shape_code s ≢ w
unread w e s h q = let r = shape-code s h in let z = ap shape_of q in cc

-- what is read of a word is what it says
shown : (w : ℕ) → IfSome (shape_of w) (λ s. IsShape s × (shape_code s ≡ w))
unfolding shape_of record_word array_word
shown w = elim (cases_Bool (leb (w / 2) 65535)) [
  | inr f ↦ rw f tt
  | inl t ↦ rw t (elim (cases_eq (w % 2) 0) [
    | inl e ↦ rw e (leb-true (w / 2) 65535 t, omega arith)
    | inr ne ↦ rw (ne_eqb (w % 2) 0 ne) (leb-true (w / 2) 65535 t, omega arith)
  ])
]

pub reads : (w : ℕ) (s : Shape) → shape_of w ≡ Some s → IsShape s × (shape_code s ≡ w)
reads w s e = subst (λ o. IfSome o (λ q. IsShape q × (shape_code q ≡ w))) e (shown w)
