-- What payload words say.
use Rattle.std.proofs.Common.{inl, inr, ◌&&◌, ltb-true, leb-true, eqb-true, ne_eqb, subst, IfSome, ◌≡◌, ◌≢◌, ℕ, ◌+◌, ◌*◌, ◌/◌, ◌%◌, ◌^◌, ◌≤◌, Some, None, refl, arith, true, false, eqb, ltb, leb, ap}
use Rattle.std.proofs.lemmas.Bool.{cases_eq, cases_Bool, and_parts}
use Rattle.std.proofs.lemmas.Bool.Decides.{nat_tests}
use Rattle.block_store.specs.Payloads.{IsPayload, payload_code, payload_of, payload_target, target, number_word, reference_word}
use Rattle.block_store.specs.declared.Payload.{Payload}
use Rattle.block_store.specs.declared.Payload.TheVariants.{Nil, Int, Block}

pub target-reference : (x : ℕ) → target (reference_word x) ≡ x
unfolding target reference_word
target-reference x =
    let e : (2 * x) % 2 ≡ 0 = omega arith in
    let d : (2 * x) / 2 ≡ x = omega arith in
    rw (e, d) refl

pub target-number : (v : ℕ) → target (number_word v) ≡ 0
unfolding target number_word
target-number v = let e : (2 * v + 1) % 2 ≡ 1 = omega arith in rw e refl

pub target-nil : target 0 ≡ 0
unfolding target
target-nil = refl

pub reference_positive : (x : ℕ) → 1 ≤ x → reference_word x ≢ 0
unfolding reference_word
reference_positive x h e = omega arith

pub number-reference : (v x : ℕ) → number_word v ≢ reference_word x
unfolding number_word reference_word
number-reference v x e = omega arith

pub number_positive : (v : ℕ) → number_word v ≢ 0
unfolding number_word
number_positive v e = omega arith

pub one_number : (v w : ℕ) → number_word v ≡ number_word w → v ≡ w
unfolding number_word
one_number v w e = omega arith

pub one_reference : (x y : ℕ) → reference_word x ≡ reference_word y → x ≡ y
unfolding reference_word
one_reference x y e = omega arith

pub payload-code : (p : Payload) → IsPayload p → payload_of (payload_code p) ≡ Some p
unfolding payload_of number_word reference_word
payload-code Nil h = refl
payload-code (Int v) h =
    let n : eqb (2 * v + 1) 0 ≡ false = grind (arith, nat_tests) in
    let e : (2 * v + 1) % 2 ≡ 1 = omega arith in
    let d : (2 * v + 1) / 2 ≡ v = omega arith in
    let l : ltb v (2 ^ 62) ≡ true = grind (arith, nat_tests) in
    rw (n, e, d, l) refl
payload-code (Block x) h =
    let n : eqb (2 * x) 0 ≡ false = grind (arith, nat_tests) in
    let e : (2 * x) % 2 ≡ 0 = omega arith in
    let d : (2 * x) / 2 ≡ x = omega arith in
    let l : leb x 65535 ≡ true = grind (arith, nat_tests) in
    rw (n, e, d, l) refl

-- a word that reads as nothing was not written
pub unread : (w : ℕ) → payload_of w ≡ None → (p : Payload) → IsPayload p → payload_code p ≢ w
unread w e p h q = let r = payload-code p h in let z = ap payload_of q in cc

-- what is read of a word is what it says
shown : (w : ℕ) → IfSome (payload_of w)
    (λ p. IsPayload p × (payload_code p ≡ w) × (payload_target p ≡ target w))
unfolding payload_of number_word reference_word target
shown w = elim (cases_eq w 0) [
  | inl e ↦ rw e (tt, refl, refl)
  | inr some ↦ rw (ne_eqb w 0 some) (elim (cases_Bool (eqb (w % 2) 1 && ltb (w / 2) (2 ^ 62))) [
    | inl t ↦ (
        let p = and_parts (eqb (w % 2) 1) (ltb (w / 2) (2 ^ 62)) t in
        let odd = eqb-true (w % 2) 1 p.0 in
        let even : eqb (w % 2) 0 ≡ false = ne_eqb (w % 2) 0 (λ z. omega arith) in
        rw (t, even) (ltb-true (w / 2) (2 ^ 62) p.1, omega arith, refl))
    | inr f ↦ rw f (elim (cases_Bool (eqb (w % 2) 0 && leb (w / 2) 65535)) [
      | inl t ↦ (
          let p = and_parts (eqb (w % 2) 0) (leb (w / 2) 65535) t in
          let even = eqb-true (w % 2) 0 p.0 in
          rw (t, p.0) ((omega arith, leb-true (w / 2) 65535 p.1), omega arith, refl))
      | inr g ↦ rw g tt
    ])
  ])
]

pub reads : (w : ℕ) (p : Payload) → payload_of w ≡ Some p
    → IsPayload p × (payload_code p ≡ w) × (payload_target p ≡ target w)
reads w p e = subst (λ o. IfSome o
    (λ q. IsPayload q × (payload_code q ≡ w) × (payload_target q ≡ target w))) e (shown w)
