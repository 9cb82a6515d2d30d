-- What owner words say.
use Rattle.std.proofs.Common.{inl, inr, ◌&&◌, leb-true, subst, IfSome, ◌≡◌, ◌≢◌, ℕ, ◌+◌, ◌*◌, ◌/◌, ◌%◌, ◌^◌, ◌<◌, Some, None, refl, arith, true, leb, ap}
use Rattle.std.proofs.lemmas.Bool.{cases_Bool, and_parts}
use Rattle.std.proofs.lemmas.Bool.Decides.{nat_tests}
use Rattle.block_store.specs.Owners.{IsOwner, owner_code, owner_word, owner_parts, owner_of}
use Rattle.block_store.specs.declared.Owner.{Owner}

pub owner_parts-word : (t s o : ℕ) → s < 2 ^ 24 → o < 2 ^ 16
    → owner_parts (owner_word t s o) ≡ record { thread = t; serial = s; ordinal = o }
unfolding owner_parts owner_word
owner_parts-word t s o low small =
    let a : (t * 2 ^ 40 + s * 2 ^ 16 + o) / 2 ^ 40 ≡ t = omega arith in
    let b : (t * 2 ^ 40 + s * 2 ^ 16 + o) / 2 ^ 16 % 2 ^ 24 ≡ s = omega arith in
    let d : (t * 2 ^ 40 + s * 2 ^ 16 + o) % 2 ^ 16 ≡ o = omega arith in
    rw (a, b, d) refl

pub owner-code : (o : Owner) → IsOwner o → owner_of (owner_code o) ≡ Some o
unfolding owner_of
owner-code o h =
    let a : leb o.thread 16 ≡ true = grind (arith, nat_tests, h.thread) in
    let b : leb o.serial 131072 ≡ true = grind (arith, nat_tests, h.serial) in
    let d : leb o.ordinal 1023 ≡ true = grind (arith, nat_tests, h.ordinal) in
    rw (
      owner_parts-word o.thread o.serial o.ordinal (omega (arith, h.serial))
          (omega (arith, h.ordinal)),
      a,
      b,
      d,
    ) refl

-- a word that reads as nothing was not written
pub unread : (w : ℕ) → owner_of w ≡ None → (o : Owner) → IsOwner o → owner_code o ≢ w
unread w e o h q = let r = owner-code o h in let z = ap owner_of q in cc

-- what is read of a word is what it says
shown : (w : ℕ) → IfSome (owner_of w) (λ o. IsOwner o × (owner_code o ≡ w))
unfolding owner_of owner_parts owner_word
shown w = elim (cases_Bool
    (leb (w / 2 ^ 40) 16 && leb (w / 2 ^ 16 % 2 ^ 24) 131072 && leb (w % 2 ^ 16) 1023)) [
      | inr f ↦ rw f tt
      | inl t ↦ (
          let a = and_parts (leb (w / 2 ^ 40) 16 && leb (w / 2 ^ 16 % 2 ^ 24) 131072)
          (leb (w % 2 ^ 16) 1023) t in
          let b = and_parts (leb (w / 2 ^ 40) 16) (leb (w / 2 ^ 16 % 2 ^ 24) 131072) a.0 in
          rw t (
            record {
              thread = leb-true (w / 2 ^ 40) 16 b.0;
              serial = leb-true (w / 2 ^ 16 % 2 ^ 24) 131072 b.1;
              ordinal =
                  leb-true (w % 2 ^ 16) 1023 a.1;
            },
            omega arith,
          ))
    ]

pub reads : (w : ℕ) (o : Owner) → owner_of w ≡ Some o → IsOwner o × (owner_code o ≡ w)
reads w o e = subst (λ z. IfSome z (λ q. IsOwner q × (owner_code q ≡ w))) e (shown w)

-- owner words of distinct threads, serials or ordinals differ
pub one_owner : (t s o u r p : ℕ) → s < 2 ^ 24 → o < 2 ^ 16 → r < 2 ^ 24 → p < 2 ^ 16
    → owner_word t s o ≡ owner_word u r p → (t ≡ u) × (s ≡ r) × (o ≡ p)
unfolding owner_word
one_owner t s o u r p a b d f e = (omega arith, omega arith, omega arith)
