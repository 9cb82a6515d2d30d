-- What a test of a place's number says.
use Rattle.std.proofs.Common.{◌≡◌, ℕ, ◌<◌, ◌≤◌, refl, inl, inr}
use Rattle.std.proofs.lemmas.Bool.{cases_lt, lt-ltb, le-ltb}
use Rattle.object_lists.specs.Parts.{Link, Field, Blank, link_below, field_below}

pub field_below-in : (i n : ℕ) → i < n → field_below i n ≡ Field i
field_below-in i n h = rw (lt-ltb i n h) refl

pub link_below-in : (o n : ℕ) → o < n → link_below o n ≡ Link o
link_below-in o n h = rw (lt-ltb o n h) refl

pub link_below-out : (o n : ℕ) → n ≤ o → link_below o n ≡ Blank
link_below-out o n h = rw (le-ltb o n h) refl

pub field_below-field : (i n k : ℕ) → field_below i n ≡ Field k → (i < n) × (i ≡ k)
field_below-field i n k e = elim (cases_lt i n) [
  | inl h ↦ (h, let same : Field i ≡ Field k = rw (lt-ltb i n h) at e in cc)
  | inr h ↦ absurd (let same : Blank ≡ Field k = rw (le-ltb i n h) at e in cc)
]

pub link_below-link : (o n p : ℕ) → link_below o n ≡ Link p → (o < n) × (o ≡ p)
link_below-link o n p e = elim (cases_lt o n) [
  | inl h ↦ (h, let same : Link o ≡ Link p = rw (lt-ltb o n h) at e in cc)
  | inr h ↦ absurd (let same : Blank ≡ Link p = rw (le-ltb o n h) at e in cc)
]

pub field_below-link : (i n p : ℕ) → field_below i n ≡ Link p → ⊥
field_below-link i n p e = elim (cases_lt i n) [
  | inl h ↦ let same : Field i ≡ Link p = rw (lt-ltb i n h) at e in cc
  | inr h ↦ let same : Blank ≡ Link p = rw (le-ltb i n h) at e in cc
]

pub link_below-field : (o n i : ℕ) → link_below o n ≡ Field i → ⊥
link_below-field o n i e = elim (cases_lt o n) [
  | inl h ↦ let same : Link o ≡ Field i = rw (lt-ltb o n h) at e in cc
  | inr h ↦ let same : Blank ≡ Field i = rw (le-ltb o n h) at e in cc
]
