-- What the words of owners with large serials say.
use Rattle.std.proofs.Common.{inl, inr, ◌&&◌, leb-true, subst, IfSome, ◌≡◌, ◌≢◌, ℕ, ◌+◌, ◌*◌, ◌/◌, ◌%◌, ◌^◌, ◌<◌, ◌≤◌, Some, None, refl, arith, true, leb, ap, sym, ◌∙◌}
use Rattle.std.proofs.lemmas.Bool.{cases_Bool, and_parts}
use Rattle.std.proofs.lemmas.Bool.Decides.{nat_tests}
use Rattle.block_store.specs.Owners.{owner_word, owner_of}
use Rattle.block_store.specs.WideOwners.{IsWide, wide_code, wide_word, wide_parts, wide_of, widened}
use Rattle.block_store.specs.declared.Owner.{Owner}
use Rattle.block_store.specs.declared.WideOwner.{WideOwner}
use Rattle.block_store.proofs.OwnerWords.{reads}

wide_parts-word : (t s o : ℕ) → t < 2 ^ 5 → o < 2 ^ 16
    → wide_parts (wide_word t s o) ≡ record { thread = t; serial = s; ordinal = o }
unfolding wide_parts wide_word
wide_parts-word t s o few small =
    let w : ℕ = s / 2 ^ 24 * 2 ^ 45 + t * 2 ^ 40 + s % 2 ^ 24 * 2 ^ 16 + o in
    let a : w / 2 ^ 40 % 2 ^ 5 ≡ t = omega arith in
    let b : w / 2 ^ 45 * 2 ^ 24 + w / 2 ^ 16 % 2 ^ 24 ≡ s = omega arith in
    let d : w % 2 ^ 16 ≡ o = omega arith in
    rw (a, b, d) refl

-- what was written is read, however large the serial
pub read_wide : (t s o : ℕ) → t ≤ 16 → o ≤ 1023
    → wide_of (wide_word t s o) ≡ Some (record { thread = t; serial = s; ordinal = o })
unfolding wide_of
read_wide t s o few low =
    let a : leb t 16 ≡ true = grind (arith, nat_tests, few) in
    let d : leb o 1023 ≡ true = grind (arith, nat_tests, low) in
    rw (wide_parts-word t s o (omega (arith, few)) (omega (arith, low)), a, d) refl

pub wide-code : (o : WideOwner) → IsWide o → wide_of (wide_code o) ≡ Some o
wide-code o h = read_wide o.thread o.serial o.ordinal h.thread h.ordinal

-- a word that reads as nothing was not written
pub unread : (w : ℕ) → wide_of w ≡ None → (o : WideOwner) → IsWide o → wide_code o ≢ w
unread w e o h q = let r = wide-code o h in let z = ap wide_of q in cc

-- what is read of a word is what it says
shown : (w : ℕ) → w < 2 ^ 64 → IfSome (wide_of w) (λ o. IsWide o × (wide_code o ≡ w))
unfolding wide_of wide_parts wide_word
shown w low = elim (cases_Bool (leb (w / 2 ^ 40 % 2 ^ 5) 16 && leb (w % 2 ^ 16) 1023)) [
  | inr f ↦ rw f tt
  | inl t ↦ (
      let a = and_parts (leb (w / 2 ^ 40 % 2 ^ 5) 16) (leb (w % 2 ^ 16) 1023) t in
      rw t (
        record {
          thread = leb-true (w / 2 ^ 40 % 2 ^ 5) 16 a.0;
          serial = omega (arith, low);
          ordinal = leb-true (w % 2 ^ 16) 1023 a.1;
        },
        omega arith,
      ))
]

pub wide_reads : (w : ℕ) (o : WideOwner) → w < 2 ^ 64 → wide_of w ≡ Some o
    → IsWide o × (wide_code o ≡ w)
wide_reads w o low e =
    subst (λ z. IfSome z (λ q. IsWide q × (wide_code q ≡ w))) e (shown w low)

-- the word of a small serial is the same
pub same_word : (t s o : ℕ) → s < 2 ^ 24 → wide_word t s o ≡ owner_word t s o
unfolding wide_word owner_word
same_word t s o small = omega (arith, small)

-- and is read as the same owner
pub same_owner : (w : ℕ) (o : Owner) → owner_of w ≡ Some o → wide_of w ≡ Some (widened o)
same_owner w o e =
    let is = reads w o e in
    let same : wide_word o.thread o.serial o.ordinal ≡ owner_word o.thread o.serial o.ordinal =
    same_word o.thread o.serial o.ordinal (omega (arith, is.0.serial)) in
    ap wide_of (sym is.1 ∙ sym same)
    ∙ read_wide o.thread o.serial o.ordinal is.0.thread is.0.ordinal

-- owner words of distinct threads, serials or ordinals differ
pub one_wide : (t s o u r p : ℕ) → t ≤ 16 → o < 2 ^ 16 → u ≤ 16 → p < 2 ^ 16
    → wide_word t s o ≡ wide_word u r p → (t ≡ u) × (s ≡ r) × (o ≡ p)
unfolding wide_word
one_wide t s o u r p a b d f e = (omega arith, omega arith, omega arith)
