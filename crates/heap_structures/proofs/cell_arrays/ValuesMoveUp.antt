-- Values of an array that move up where one of them goes.
use Rattle.std.proofs.Common.{◌≡◌, ℕ, suc, zero, ◌+◌, ◌<◌, ◌≤◌, lt-ltb, inl, inr, List, [], ◌∷◌, length, slice_index_or, slice_set, sym, refl, ap, ◌∙◌, subst, arith}
use Rattle.std.proofs.lemmas.Bool.{cases_eq, cases_lt}
use Rattle.std.proofs.lemmas.List.{length-set, get_or_past, get_or-set_same, get_or-set_other}
use Rattle.block_store.specs.declared.Value.{Value}
use Rattle.block_store.specs.declared.Value.TheVariants.{Nil}
use Rattle.heap_structures.specs.Alarms.{without}
use Rattle.heap_structures.specs.Circles.{IsCircle, around}

pub at0 : (n i : ℕ) → i < n → around n (0 + i) ≡ i
at0 n i low =
    let e : 0 + i ≡ i = omega arith in
    ap (around n) e ∙ rw (lt-ltb i n low) refl

-- ---- all values but one

pub length_without : (p : ℕ) (vs : List Value) → p < length vs
    → length (without p vs) + 1 ≡ length vs
length_without p [] low = absurd (omega (arith, low))
length_without zero (v ∷ vs) low = omega arith
length_without (suc p) (v ∷ vs) low =
    let l = length_without p vs (omega arith) in omega (arith, l)

without_low : (p : ℕ) (vs : List Value) (i : ℕ) → i < p
    → slice_index_or (without p vs) i Nil ≡ slice_index_or vs i Nil
without_low p [] i low = refl
without_low zero (v ∷ vs) i low = absurd (omega arith)
without_low (suc p) (v ∷ vs) zero low = refl
without_low (suc p) (v ∷ vs) (suc i) low = without_low p vs i (omega arith)

without_high : (p : ℕ) (vs : List Value) (i : ℕ) → p ≤ i
    → slice_index_or (without p vs) i Nil ≡ slice_index_or vs (suc i) Nil
without_high p [] i high = refl
without_high zero (v ∷ vs) i high = refl
without_high (suc p) (v ∷ vs) zero high = absurd (omega arith)
without_high (suc p) (v ∷ vs) (suc i) high = without_high p vs i (omega arith)

-- ---- another value at a place

pub circle_set : (n : ℕ) (array xs : List Value) (i : ℕ) (v : Value) → IsCircle n 0 array xs
    → i < length xs → IsCircle n 0 (slice_set array i v) (slice_set xs i v)
circle_set n array xs i v c low = record {
  long = length-set array i v ∙ c.long;
  start = c.start;
  few = let l = length-set xs i v in let f = c.few in omega (arith, l, f);
  places = λ j few.
      ap (λ k. slice_index_or (slice_set array i v) k Nil) (at0 n j few)
      ∙ (elim (cases_eq i j) [
        | inl e ↦ subst (λ k. slice_index_or (slice_set array i v) k Nil
            ≡ slice_index_or (slice_set xs i v) k Nil) e
            (get_or-set_same array i v Nil
            (let l = c.long in let f = c.few in omega (arith, l, f, low))
            ∙ sym (get_or-set_same xs i v Nil low))
        | inr ne ↦ get_or-set_other array i j v Nil (λ same. ne (sym same))
            ∙ ap (λ k. slice_index_or array k Nil) (sym (at0 n j few)) ∙ c.places j few
            ∙ sym (get_or-set_other xs i j v Nil (λ same. ne (sym same)))
      ]);
}

-- ---- values that move up

-- the values after place `first` have moved up by one, as far as place `to`
pub record IsClosed (first to : ℕ) (vs ws : List Value) : Type 0 where
  pub long : length ws ≡ length vs
  pub low : (i : ℕ) → i < first → slice_index_or ws i Nil ≡ slice_index_or vs i Nil
  pub moved : (i : ℕ) → first ≤ i → i < to
      → slice_index_or ws i Nil ≡ slice_index_or vs (suc i) Nil
  pub rest : (i : ℕ) → to ≤ i → slice_index_or ws i Nil ≡ slice_index_or vs i Nil

pub closed_none : (p : ℕ) (vs : List Value) → IsClosed p p vs vs
closed_none p vs = record {
  long = refl;
  low = λ i l. refl;
  moved = λ i m l. absurd (omega (arith, m, l));
  rest = λ i m. refl;
}

pub closed_more : (first to : ℕ) (vs ws : List Value) → first ≤ to → to < length vs
    → IsClosed first to vs ws
    → IsClosed first (to + 1) vs (slice_set ws to (slice_index_or ws (to + 1) Nil))
closed_more first to vs ws from room c =
    let v : Value = slice_index_or ws (to + 1) Nil in
    record {
      long = length-set ws to v ∙ c.long;
      low = λ i l. get_or-set_other ws to i v Nil (omega (arith, l, from)) ∙ c.low i l;
      moved = λ i m l. elim (cases_eq to i) [
        | inl e ↦ ap (λ k. slice_index_or (slice_set ws to v) k Nil) (sym e)
            ∙ get_or-set_same ws to v Nil (let g = c.long in omega (arith, g, room))
            ∙ c.rest (to + 1) (omega arith)
            ∙ ap (λ k. slice_index_or vs k Nil)
            (let s : to + 1 ≡ suc i = omega (arith, e) in s)
        | inr ne ↦ get_or-set_other ws to i v Nil (λ same. ne (sym same))
            ∙ c.moved i m (omega (arith, l, ne))
      ];
      rest = λ i m.
          get_or-set_other ws to i v Nil (omega (arith, m)) ∙ c.rest i (omega (arith, m));
    }

-- all have moved, and the last is nil
pub circle_without : (n first last : ℕ) (array ws xs : List Value) → IsCircle n 0 array xs
    → first ≤ last → length xs ≡ last + 1 → IsClosed first last array ws
    → IsCircle n 0 (slice_set ws last Nil) (without first xs)
circle_without n first last array ws xs c from count closed = record {
  long = length-set ws last Nil ∙ closed.long ∙ c.long;
  start = c.start;
  few = let l = length_without first xs (omega (arith, from, count)) in
      let f = c.few in omega (arith, l, f);
  places = λ i few.
      ap (λ k. slice_index_or (slice_set ws last Nil) k Nil) (at0 n i few)
      ∙ (elim (cases_lt i first) [
        | inl l ↦ get_or-set_other ws last i Nil Nil (omega (arith, l, from))
            ∙ closed.low i l ∙ here i few ∙ sym (without_low first xs i l)
        | inr h ↦ above i few h ∙ sym (without_high first xs i h)
      ]);
}
  where
    here : (i : ℕ) → i < n → slice_index_or array i Nil ≡ slice_index_or xs i Nil
    here i few = ap (λ k. slice_index_or array k Nil) (sym (at0 n i few)) ∙ c.places i few

    above : (i : ℕ) → i < n → first ≤ i
        → slice_index_or (slice_set ws last Nil) i Nil ≡ slice_index_or xs (suc i) Nil
    above i few high = elim (cases_lt i last) [
      | inl l ↦ get_or-set_other ws last i Nil Nil (omega (arith, l))
          ∙ closed.moved i high l
          ∙ here (suc i) (let f = c.few in omega (arith, f, count, l))
      | inr m ↦ past i few m ∙ sym (get_or_past xs (suc i) Nil (omega (arith, m, count)))
    ]
      where
        past : (i : ℕ) → i < n → last ≤ i → slice_index_or (slice_set ws last Nil) i Nil ≡ Nil
        past i few m = elim (cases_eq last i) [
          | inl e ↦ ap (λ k. slice_index_or (slice_set ws last Nil) k Nil) (sym e)
              ∙ get_or-set_same ws last Nil Nil
              (let g = closed.long in let l = c.long in omega (arith, g, l, few, e))
          | inr ne ↦ get_or-set_other ws last i Nil Nil (λ same. ne (sym same))
              ∙ closed.rest i m ∙ here i few
              ∙ get_or_past xs i Nil (omega (arith, m, ne, count))
        ]
