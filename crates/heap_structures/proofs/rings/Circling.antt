-- One value more at the end of a circle, and one fewer at its front.
use Rattle.std.proofs.Common.{◌≡◌, ◌≢◌, ℕ, suc, ◌+◌, ◌-◌, ◌<◌, ◌≤◌, lt-ltb, inl, inr, List, [], ◌∷◌, ◌++◌, length, drop, slice_index_or, slice_set, sym, refl, ap, ◌∙◌, subst, arith}
use Rattle.std.proofs.lemmas.Bool.{cases_eq, cases_lt, le-ltb}
use Rattle.std.proofs.lemmas.List.{length-set, length_push, get_or_past, get_or_push, get_or_append_left, get_or-set_same, get_or-set_other, set-set, get_or-replicate, length-replicate}
use Rattle.std.specs.Prelude.{replicate}
use Rattle.block_store.specs.declared.Value.{Value}
use Rattle.block_store.specs.declared.Value.TheVariants.{Nil}
use Rattle.heap_structures.specs.Circles.{around, last_of, IsCircle}

pub around_low : (n p : ℕ) → p < n → around n p ≡ p
around_low n p l = rw (lt-ltb p n l) refl

pub around_high : (n p : ℕ) → n ≤ p → around n p ≡ p - n
around_high n p m = rw (le-ltb p n m) refl

-- a place of the circle is one of the array
pub around_in : (n p : ℕ) → p < n + n → around n p < n
around_in n p l = elim (cases_lt p n) [
  | inl low ↦ subst (λ k. k < n) (sym (around_low n p low)) low
  | inr high ↦ subst (λ k. k < n) (sym (around_high n p high)) (omega arith)
]

-- two numbers, less than n apart, are two places
pub around_apart : (n p q : ℕ) → p < q → q < p + n → q < n + n → around n p ≢ around n q
around_apart n p q less near low same = elim (cases_lt q n) [
  | inl l ↦ absurd (omega (arith, around_low n p (omega arith), around_low n q l, same))
  | inr m ↦ elim (cases_lt p n) [
    | inl l ↦ absurd (omega (arith, around_low n p l, around_high n q m, same))
    | inr o ↦ absurd (omega (arith, around_high n p o, around_high n q m, same))
  ]
]

-- the place after one
pub around_next : (n first i : ℕ) → first < n → i + 1 < n
    → around n (around n (first + 1) + i) ≡ around n (first + (i + 1))
around_next n first i low few = elim (cases_lt (first + 1) n) [
  | inl l ↦ ap (λ k. around n (k + i)) (around_low n (first + 1) l)
      ∙ ap (around n) (let e : (first + 1) + i ≡ first + (i + 1) = omega arith in e)
  | inr m ↦
      ap (λ k. around n (k + i)) (around_high n (first + 1) m)
      ∙ ap (around n) (let e : ((first + 1) - n) + i ≡ i = omega arith in e)
      ∙ around_low n i (omega arith)
      ∙ sym (around_high n (first + (i + 1)) (omega arith)
      ∙ (let e : (first + (i + 1)) - n ≡ i = omega arith in e))
]

-- the last place after the next is the first
pub around_last : (n first : ℕ) → first < n → around n (around n (first + 1) + (n - 1)) ≡ first
around_last n first low = elim (cases_lt (first + 1) n) [
  | inl l ↦ ap (λ k. around n (k + (n - 1))) (around_low n (first + 1) l)
      ∙ around_high n ((first + 1) + (n - 1)) (omega arith)
      ∙ (let e : ((first + 1) + (n - 1)) - n ≡ first = omega arith in e)
  | inr m ↦ ap (λ k. around n (k + (n - 1))) (around_high n (first + 1) m)
      ∙ around_low n (((first + 1) - n) + (n - 1)) (omega arith)
      ∙ (let e : ((first + 1) - n) + (n - 1) ≡ first = omega arith in e)
]

-- ---- lists

at_drop : (xs : List Value) (i : ℕ)
    → slice_index_or (drop 1 xs) i Nil ≡ slice_index_or xs (suc i) Nil
at_drop [] i = refl
at_drop (x ∷ xs) i = refl

pub length_drop : (xs : List Value) → 1 ≤ length xs → length (drop 1 xs) + 1 ≡ length xs
length_drop [] l = absurd (omega arith)
length_drop (x ∷ xs) l = omega arith

-- ---- the circle

-- an array of nils
pub empty_circle : (n : ℕ) → 1 ≤ n → IsCircle n 0 (replicate n Nil) []
empty_circle n some = record {
  long = length-replicate n Nil;
  start = some;
  few = omega arith;
  places = λ i low. ap (λ k. slice_index_or (replicate n Nil) k Nil) (around_low n (0 + i) (omega (arith, low)))
      ∙ ap (λ k. slice_index_or (replicate n Nil) k Nil) (let e : 0 + i ≡ i = omega arith in e)
      ∙ get_or-replicate n i Nil Nil low;
}

module _ (n first : ℕ) (array xs : List Value) (c : IsCircle n first array xs) (v : Value) where
  -- one more at the end
  pub circle_more : length xs < n
      → IsCircle n first (slice_set array (around n (first + length xs)) v) (xs ++ v ∷ [])
  circle_more room =
      let here : ℕ = around n (first + length xs) in
      let inside : here < length array =
      subst (λ k. here < k) (sym c.long)
      (around_in n (first + length xs) (let f = c.start in omega (arith, f, room))) in
      record {
        long = length-set array here v ∙ c.long;
        start = c.start;
        few = let l = length_push xs v in omega (arith, l, room);
        places = λ i low. elim (cases_eq i (length xs)) [
          | inl e ↦ ap (λ k. slice_index_or (slice_set array here v) (around n (first + k)) Nil) e
              ∙ get_or-set_same array here v Nil inside
              ∙ sym (get_or_push xs v Nil i (sym e))
          | inr ne ↦ get_or-set_other array here (around n (first + i)) v Nil (apart i low ne)
              ∙ c.places i low ∙ rest i ne
        ];
      }
    where
      apart : (i : ℕ) → i < n → i ≢ length xs
          → around n (first + i) ≢ around n (first + length xs)
      apart i low ne same = elim (cases_lt i (length xs)) [
        | inl l ↦ around_apart n (first + i) (first + length xs) (omega arith)
            (let f = room in omega (arith, f)) (let f = c.start in omega (arith, f, room)) same
        | inr m ↦ around_apart n (first + length xs) (first + i) (omega (arith, m, ne))
            (omega (arith, low)) (let f = c.start in omega (arith, f, low)) (sym same)
      ]

      rest : (i : ℕ) → i ≢ length xs
          → slice_index_or xs i Nil ≡ slice_index_or (xs ++ v ∷ []) i Nil
      rest i ne = elim (cases_lt i (length xs)) [
        | inl l ↦ sym (get_or_append_left xs (v ∷ []) Nil i l)
        | inr m ↦ get_or_past xs i Nil m
            ∙ sym (get_or_past (xs ++ v ∷ []) i Nil
            (let l = length_push xs v in omega (arith, l, m, ne)))
      ]

module _ (n first : ℕ) (array xs : List Value) (c : IsCircle n first array xs) where
  -- the first is gone
  pub circle_fewer : 1 ≤ length xs
      → IsCircle n (around n (first + 1)) (slice_set array first Nil) (drop 1 xs)
  circle_fewer some = record {
    long = length-set array first Nil ∙ c.long;
    start = around_in n (first + 1) (let f = c.start in omega (arith, f));
    few = let l = length_drop xs some in let f = c.few in omega (arith, l, f);
    places = λ i low. elim (cases_lt (i + 1) n) [
      | inl l ↦ ap (λ k. slice_index_or (slice_set array first Nil) k Nil)
          (around_next n first i c.start l)
          ∙ get_or-set_other array first (around n (first + (i + 1))) Nil Nil (apart i l)
          ∙ c.places (i + 1) l
          ∙ ap (λ k. slice_index_or xs k Nil) (let e : i + 1 ≡ suc i = omega arith in e)
          ∙ sym (at_drop xs i)
      | inr m ↦ ap (λ k. slice_index_or (slice_set array first Nil)
          (around n (around n (first + 1) + k)) Nil)
          (let e : i ≡ n - 1 = omega (arith, low, m) in e)
          ∙ ap (λ k. slice_index_or (slice_set array first Nil) k Nil)
          (around_last n first c.start)
          ∙ get_or-set_same array first Nil Nil (subst (λ k. first < k) (sym c.long) c.start)
          ∙ sym (get_or_past (drop 1 xs) i Nil
          (let l = length_drop xs some in let f = c.few in omega (arith, l, f, m)))
    ];
  }
    where
      apart : (i : ℕ) → i + 1 < n → around n (first + (i + 1)) ≢ first
      apart i low same =
          around_apart n first (first + (i + 1)) (omega arith) (omega (arith, low))
          (let f = c.start in omega (arith, f, low)) (around_low n first c.start ∙ sym same)

  -- the value of a place
  pub circle_at : (i : ℕ) → i < length xs
      → slice_index_or array (around n (first + i)) Nil ≡ slice_index_or xs i Nil
  circle_at i low = c.places i (let f = c.few in omega (arith, f, low))

  -- where the circle is full, a value takes the place of the first
  pub circle_over : (v : Value) → length xs ≡ n
      → IsCircle n (around n (first + 1)) (slice_set array first v) (drop 1 (xs ++ v ∷ []))
  circle_over v full =
      let some : 1 ≤ length xs = (let f = c.start in omega (arith, f, full)) in
      let less = circle_fewer some in
      let one = length_drop xs some in
      let more = circle_more n (around n (first + 1)) (slice_set array first Nil) (drop 1 xs) less v
      (omega (arith, one, full)) in
      let here : around n (around n (first + 1) + length (drop 1 xs)) ≡ first =
      ap (λ k. around n (around n (first + 1) + k))
      (let e : length (drop 1 xs) ≡ n - 1 = omega (arith, one, full) in e)
      ∙ around_last n first c.start in
      subst (λ ys. IsCircle n (around n (first + 1)) (slice_set array first v) ys)
      (drop_front xs some)
      (subst (λ ws. IsCircle n (around n (first + 1)) ws (drop 1 xs ++ v ∷ []))
      (ap (λ k. slice_set (slice_set array first Nil) k v) here ∙ set-set array first Nil v) more)
    where
      drop_front : (ys : List Value) → 1 ≤ length ys
          → drop 1 ys ++ v ∷ [] ≡ drop 1 (ys ++ v ∷ [])
      drop_front [] l = absurd (omega arith)
      drop_front (y ∷ ys) l = refl

  -- of fewer values none is left out, and of one more than n the first
  pub last_fewer : (v : Value) → length xs < n → last_of n (xs ++ v ∷ []) ≡ xs ++ v ∷ []
  last_fewer v room =
      ap (λ k. drop k (xs ++ v ∷ []))
      (let e : length (xs ++ v ∷ []) - n ≡ 0 =
      (let l = length_push xs v in omega (arith, l, room)) in e)

  pub last_over : (v : Value) → length xs ≡ n → last_of n (xs ++ v ∷ []) ≡ drop 1 (xs ++ v ∷ [])
  last_over v full =
      ap (λ k. drop k (xs ++ v ∷ []))
      (let e : length (xs ++ v ∷ []) - n ≡ 1 =
      (let l = length_push xs v in omega (arith, l, full)) in e)
