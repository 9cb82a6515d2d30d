-- Records have a layout.
use Rattle.std.proofs.Common.{◌≡◌, ℕ, zero, suc, ◌+◌, ◌-◌, ◌*◌, ◌/◌, ◌%◌, ◌<◌, ◌≤◌, refl, sym, ap, subst, arith, inl, inr}
use Rattle.std.proofs.lemmas.Bool.{cases_lt, lt-ltb, le-ltb}
use Rattle.std.proofs.lemmas.Nat.{div-add-mod', div-mul-add, mod-mul-add, mod_below, le-div}
use Rattle.block_store.specs.declared.Width.{Width}
use Rattle.block_store.specs.declared.Width.TheVariants.{Four, Eight}
use Rattle.block_store.specs.Widths.{payloads}
use Rattle.object_lists.specs.Parts.{Link, Field, Blank, link_below, field_below}
use Rattle.object_lists.specs.Layouts.{IsLayout, IsWay}
use Rattle.object_lists.specs.Records.{list_blocks, list_part, list_slot, record_blocks, record_part, record_slot}
use Rattle.object_lists.proofs.PartLemmas.{field_below-in, link_below-in, field_below-field, link_below-link, field_below-link, link_below-field}

module _ (k f : ℕ) (some : 0 < k) where
  -- what is at the places after the link
  part_field : (o j i : ℕ) → list_part k f o (suc j) ≡ Field i
      → (j < k) × (o * k + j < f) × (o * k + j ≡ i)
  part_field o j i e = elim (cases_lt j k) [
    | inl h ↦
        let at : field_below (o * k + j) f ≡ Field i = rw (lt-ltb j k h) at e in
        let both = field_below-field (o * k + j) f i at in
        (h, both.0, both.1)
    | inr h ↦ absurd (let same : Blank ≡ Field i = rw (le-ltb j k h) at e in cc)
  ]

  part_link : (o j p : ℕ) → list_part k f o (suc j) ≡ Link p → ⊥
  part_link o j p e = elim (cases_lt j k) [
    | inl h ↦ let at : field_below (o * k + j) f ≡ Link p = rw (lt-ltb j k h) at e in
        field_below-link (o * k + j) f p at
    | inr h ↦ let same : Blank ≡ Link p = rw (le-ltb j k h) at e in cc
  ]

  -- a field's block is one of the record's
  in_blocks : (o j : ℕ) → o * k + j < f → o < list_blocks k f
  in_blocks o j h =
      let up : suc o ≤ (f + (k - 1)) / k = le-div (suc o) (f + (k - 1)) k some (omega arith) in
      omega arith

  pub list_fields : (i : ℕ) → i < f → list_part k f (i / k) (1 + i % k) ≡ Field i
  list_fields i h =
      let low : i % k < k = mod_below i k some in
      let whole : i / k * k + i % k ≡ i = div-add-mod' i k in
      let next : 1 + i % k ≡ suc (i % k) = omega arith in
      let own : field_below i f ≡ Field i = field_below-in i f h in
      let sum : field_below (i / k * k + i % k) f ≡ Field i =
      subst (λ x. field_below x f ≡ Field i) (sym whole) own in
      subst (λ x. list_part k f (i / k) x ≡ Field i) (sym next) (rw (lt-ltb (i % k) k low) sum)

  list_slots : (o j i : ℕ) → list_part k f o j ≡ Field i
      → (i < f) × (o < list_blocks k f) × (j < k + 1) × (o ≡ i / k) × (j ≡ 1 + i % k)
  list_slots o zero i e = absurd (link_below-field (o + 1) (list_blocks k f) i e)
  list_slots o (suc j) i e =
      let (low, fits, is) = part_field o j i e in
      let o-is : (o * k + j) / k ≡ o = div-mul-add o k j low in
      let j-is : (o * k + j) % k ≡ j = mod-mul-add o k j low in
      let o-at : i / k ≡ o = subst (λ x. x / k ≡ o) is o-is in
      let j-at : i % k ≡ j = subst (λ x. x % k ≡ j) is j-is in
      (omega arith, in_blocks o j fits, omega arith, sym o-at, omega arith)

  list_onward : (o j p : ℕ) → list_part k f o j ≡ Link p
      → (j ≡ 0) × (o + 1 ≡ p) × (p < list_blocks k f)
  list_onward o zero p e = let both = link_below-link (o + 1) (list_blocks k f) p e in
      (refl, both.1, subst (λ x. x < list_blocks k f) both.1 both.0)
  list_onward o (suc j) p e = absurd (part_link o j p e)

  pub list_layout : IsLayout (k + 1) f (list_blocks k f) (list_part k f) (list_slot k)
  list_layout = record {
    first = omega arith;
    fields = list_fields;
    slots = list_slots;
    apart = λ i l hi hl eo ej.
        let own : i / k * k + i % k ≡ i = div-add-mod' i k in
        let other : l / k * k + l % k ≡ l = div-add-mod' l k in
        let rows : i / k * k ≡ l / k * k = ap (λ x. x * k) eo in
        omega arith;
    onward = λ o j p e.
        let (first, next, fits) = list_onward o j p e in
        (omega arith, omega arith, fits);
    linked = λ p low high. (
      p - 1,
      0,
      let next : p - 1 + 1 ≡ p = omega arith in
          subst (λ x. link_below x (list_blocks k f) ≡ Link p) (sym next)
          (link_below-in p (list_blocks k f) high),
    );
    once = λ o j q l p e1 e2.
        let (first, next, fits) = list_onward o j p e1 in
        let (first2, next2, fits2) = list_onward q l p e2 in
        (omega arith, omega arith);
  }

  -- by as many links as blocks come before the field's
  pub list_way : (i : ℕ) → i < f → IsWay (list_part k f) i (i / k) (1 + i % k) (λ l. l) (λ l. 0)
  list_way i h = record {
    starts = refl;
    links = λ l before.
        let low : i / k * k + i % k ≡ i = div-add-mod' i k in
        let all : i / k < list_blocks k f = in_blocks (i / k) (i % k) (omega arith) in
        link_below-in (l + 1) (list_blocks k f) (omega arith);
    ends = list_fields i h;
  }

-- by the width: its blocks have one payload more than fields
pub record_layout : (w : Width) (f : ℕ)
    → IsLayout (payloads w) f (record_blocks w f) (record_part w f) (record_slot w)
record_layout Four f = list_layout 3 f (omega arith)
record_layout Eight f = list_layout 7 f (omega arith)

pub record_way : (w : Width) (f i : ℕ) → i < f
    → IsWay (record_part w f) i (record_slot w i).0 (record_slot w i).1 (λ l. l) (λ l. 0)
record_way Four f i h = list_way 3 f (omega arith) i h
record_way Eight f i h = list_way 7 f (omega arith) i h
