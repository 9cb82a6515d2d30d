-- The places of pairs in an array, and how they change.
use Rattle.std.proofs.Common.{◌≡◌, ◌≢◌, ℕ, zero, suc, ◌+◌, ◌*◌, ◌-◌, ◌<◌, ◌≤◌, inl, inr, List, [], ◌∷◌, ◌++◌, length, slice_index_or, slice_set, sym, refl, ap, ◌∙◌, arith}
use Rattle.std.proofs.lemmas.Bool.{cases_eq, cases_lt}
use Rattle.std.proofs.lemmas.List.{length-append, length-set, get_or-set_same, get_or-set_other}
use Rattle.block_store.specs.declared.Value.{Value}
use Rattle.block_store.specs.declared.Value.TheVariants.{Int, Nil}
use Rattle.heap_structures.specs.Pairs.{Pair, pair_at}
use Rattle.heap_structures.specs.Tables.{place_of}

abbrev at : List Value → ℕ → Value
at vs t = slice_index_or vs t Nil

-- ---- places of two lists

pub place_left : (b a : List Pair) (t : ℕ) → t < 2 * length b → place_of (b ++ a) t ≡ place_of b t
place_left [] a t low = absurd (omega (arith, low))
place_left (x ∷ b) a zero low = refl
place_left (x ∷ b) a (suc zero) low = refl
place_left (x ∷ b) a (suc (suc t)) low = place_left b a t (omega arith)

pub place_right : (b a : List Pair) (q u : ℕ) → u ≡ 2 * length b + q
    → place_of (b ++ a) u ≡ place_of a q
place_right [] a q u is = ap (place_of a) (let e : u ≡ q = omega (arith, is) in e)
place_right (x ∷ b) a q zero is = absurd (omega (arith, is))
place_right (x ∷ b) a q (suc zero) is = absurd (omega (arith, is))
place_right (x ∷ b) a q (suc (suc u)) is = place_right b a q u (omega arith)

pub place_past : (xs : List Pair) (t : ℕ) → 2 * length xs ≤ t → place_of xs t ≡ Nil
place_past [] t m = refl
place_past (x ∷ xs) zero m = absurd (omega (arith, m))
place_past (x ∷ xs) (suc zero) m = absurd (omega (arith, m))
place_past (x ∷ xs) (suc (suc t)) m = place_past xs t (omega arith)

pub place_joined : (b a : List Pair) (us : List Value)
    → ((t : ℕ) → t < 2 * length b → at us t ≡ place_of b t)
    → ((q : ℕ) → at us (2 * length b + q) ≡ place_of a q)
    → (t : ℕ) → at us t ≡ place_of (b ++ a) t
place_joined b a us left right t = elim (cases_lt t (2 * length b)) [
  | inl low ↦ left t low ∙ sym (place_left b a t low)
  | inr m ↦
      let q : ℕ = t - 2 * length b in
      let e : t ≡ 2 * length b + q = omega (arith, m) in
      ap (at us) e ∙ right q ∙ sym (place_right b a q t e)
]

-- ---- the places of a pair

pub place_key : (xs : List Pair) (i t : ℕ) → i < length xs → t ≡ 2 * i
    → place_of xs t ≡ Int (pair_at xs i).0
place_key [] i t low is = absurd (omega (arith, low))
place_key (x ∷ xs) zero t low is =
    ap (place_of (x ∷ xs)) (let e : t ≡ zero = omega (arith, is) in e)
place_key (x ∷ xs) (suc i) zero low is = absurd (omega (arith, is))
place_key (x ∷ xs) (suc i) (suc zero) low is = absurd (omega (arith, is))
place_key (x ∷ xs) (suc i) (suc (suc t)) low is = place_key xs i t (omega arith) (omega arith)

pub place_value : (xs : List Pair) (i t : ℕ) → i < length xs → t ≡ 2 * i + 1
    → place_of xs t ≡ (pair_at xs i).1
place_value [] i t low is = absurd (omega (arith, low))
place_value (x ∷ xs) zero t low is =
    ap (place_of (x ∷ xs)) (let e : t ≡ suc zero = omega (arith, is) in e)
place_value (x ∷ xs) (suc i) zero low is = absurd (omega (arith, is))
place_value (x ∷ xs) (suc i) (suc zero) low is = absurd (omega (arith, is))
place_value (x ∷ xs) (suc i) (suc (suc t)) low is = place_value xs i t (omega arith) (omega arith)

-- the pair at the cut
pub pair_behind : (b a : List Pair) (x : Pair) → pair_at (b ++ x ∷ a) (length b) ≡ x
pair_behind [] a x = refl
pair_behind (y ∷ b) a x = pair_behind b a x

-- ---- a pair more, another value, and a pair less

module _ (b a : List Pair) (k : ℕ) (v : Value) (vs ws : List Value) (first : ℕ)
    (is : first ≡ 2 * length b) where
  abbrev more : List Value
  more = slice_set (slice_set ws first (Int k)) (first + 1) v

  abbrev other_value : List Value
  other_value = slice_set vs (first + 1) v

  abbrev fewer : ℕ → List Value
  fewer end = slice_set (slice_set ws end Nil) (end + 1) Nil

  pub places_added : first + 1 < length ws → ((t : ℕ) → at vs t ≡ place_of (b ++ a) t)
      → ((t : ℕ) → t < first + 2 → at ws t ≡ at vs t)
      → ((t : ℕ) → first ≤ t → t < 2 * length (b ++ a) → at ws (t + 2) ≡ at vs t)
      → ((t : ℕ) → 2 * length (b ++ a) + 2 ≤ t → at ws t ≡ at vs t)
      → (t : ℕ) → at (slice_set (slice_set ws first (Int k)) (first + 1) v) t
      ≡ place_of (b ++ (k, v) ∷ a) t
  places_added room full before moved behind = place_joined b ((k, v) ∷ a) more left right
    where
      other : (t : ℕ) → t ≢ first → t ≢ first + 1 → at more t ≡ at ws t
      other t one two =
          get_or-set_other (slice_set ws first (Int k)) (first + 1) t v Nil two
          ∙ get_or-set_other ws first t (Int k) Nil one

      left : (t : ℕ) → t < 2 * length b → at more t ≡ place_of b t
      left t low =
          other t (λ e. absurd (omega (arith, low, e, is))) (λ e. absurd (omega (arith, low, e, is)))
          ∙ before t (omega (arith, low, is)) ∙ full t ∙ place_left b a t low

      further : (q p : ℕ) → p ≡ 2 * length b + q → at more (p + 2) ≡ place_of a q
      further q p e =
          other (p + 2) (λ same. absurd (omega (arith, same, e, is)))
          (λ same. absurd (omega (arith, same, e, is)))
          ∙ elim (cases_lt p (2 * length (b ++ a))) [
            | inl low ↦ moved p (omega (arith, e, is)) low ∙ full p ∙ place_right b a q p e
            | inr m ↦
                behind (p + 2) (omega (arith, m)) ∙ full (p + 2)
                ∙ place_past (b ++ a) (p + 2) (omega (arith, m))
                ∙ sym (place_past a q (let n = length-append b a in omega (arith, m, n, e)))
          ]

      right : (q : ℕ) → at more (2 * length b + q) ≡ place_of ((k, v) ∷ a) q
      right zero =
          ap (at more) (let e : 2 * length b + zero ≡ first = omega (arith, is) in e)
          ∙ get_or-set_other (slice_set ws first (Int k)) (first + 1) first v Nil
          (λ e. absurd (omega (arith, e)))
          ∙ get_or-set_same ws first (Int k) Nil (omega (arith, room))
      right (suc zero) =
          ap (at more) (let e : 2 * length b + suc zero ≡ first + 1 = omega (arith, is) in e)
          ∙ get_or-set_same (slice_set ws first (Int k)) (first + 1) v Nil
          (let n = length-set ws first (Int k) in omega (arith, n, room))
      right (suc (suc q)) =
          ap (at more) (let e : 2 * length b + suc (suc q) ≡ (2 * length b + q) + 2 = omega arith in e)
          ∙ further q (2 * length b + q) refl

  pub places_replaced : (w : Value) → first + 1 < length vs
      → ((t : ℕ) → at vs t ≡ place_of (b ++ (k, w) ∷ a) t)
      → (t : ℕ) → at (slice_set vs (first + 1) v) t ≡ place_of (b ++ (k, v) ∷ a) t
  places_replaced w room full = place_joined b ((k, v) ∷ a) other_value left right
    where
      left : (t : ℕ) → t < 2 * length b → at other_value t ≡ place_of b t
      left t low =
          get_or-set_other vs (first + 1) t v Nil (λ e. absurd (omega (arith, low, e, is)))
          ∙ full t ∙ place_left b ((k, w) ∷ a) t low

      right : (q : ℕ) → at other_value (2 * length b + q) ≡ place_of ((k, v) ∷ a) q
      right zero =
          get_or-set_other vs (first + 1) (2 * length b + zero) v Nil
          (λ e. absurd (omega (arith, e, is)))
          ∙ full (2 * length b + zero)
          ∙ place_right b ((k, w) ∷ a) zero (2 * length b + zero) refl
      right (suc zero) =
          ap (at other_value) (let e : 2 * length b + suc zero ≡ first + 1 = omega (arith, is) in e)
          ∙ get_or-set_same vs (first + 1) v Nil room
      right (suc (suc q)) =
          get_or-set_other vs (first + 1) (2 * length b + suc (suc q)) v Nil
          (λ e. absurd (omega (arith, e, is)))
          ∙ full (2 * length b + suc (suc q))
          ∙ place_right b ((k, w) ∷ a) (suc (suc q)) (2 * length b + suc (suc q)) refl

  pub places_removed : (end : ℕ) → end + 2 ≡ 2 * length (b ++ (k, v) ∷ a) → end + 1 < length ws
      → ((t : ℕ) → at vs t ≡ place_of (b ++ (k, v) ∷ a) t)
      → ((t : ℕ) → t < first → at ws t ≡ at vs t)
      → ((t : ℕ) → first ≤ t → t < end → at ws t ≡ at vs (t + 2))
      → ((t : ℕ) → end ≤ t → at ws t ≡ at vs t)
      → (t : ℕ) → at (slice_set (slice_set ws end Nil) (end + 1) Nil) t ≡ place_of (b ++ a) t
  places_removed end last room full before moved behind = place_joined b a (fewer end) left right
    where
      long : length (b ++ (k, v) ∷ a) ≡ length b + suc (length a)
      long = length-append b ((k, v) ∷ a)

      other : (t : ℕ) → t ≢ end → t ≢ end + 1 → at (fewer end) t ≡ at ws t
      other t one two =
          get_or-set_other (slice_set ws end Nil) (end + 1) t Nil Nil two
          ∙ get_or-set_other ws end t Nil Nil one

      left : (t : ℕ) → t < 2 * length b → at (fewer end) t ≡ place_of b t
      left t low =
          other t (λ e. absurd (omega (arith, low, e, last, long)))
          (λ e. absurd (omega (arith, low, e, last, long)))
          ∙ before t (omega (arith, low, is)) ∙ full t ∙ place_left b ((k, v) ∷ a) t low

      nil_at : (t : ℕ) → end ≤ t → at (fewer end) t ≡ Nil
      nil_at t m = elim (cases_eq t (end + 1)) [
        | inl e ↦ ap (at (fewer end)) e ∙ get_or-set_same (slice_set ws end Nil) (end + 1) Nil Nil
            (let n = length-set ws end Nil in omega (arith, n, room))
        | inr two ↦ get_or-set_other (slice_set ws end Nil) (end + 1) t Nil Nil two
            ∙ elim (cases_eq t end) [
              | inl e ↦ ap (at (slice_set ws end Nil)) e
                  ∙ get_or-set_same ws end Nil Nil (omega (arith, room))
              | inr one ↦ get_or-set_other ws end t Nil Nil one ∙ behind t m ∙ full t
                  ∙ place_past (b ++ (k, v) ∷ a) t (omega (arith, m, one, two, last))
            ]
      ]

      right : (q : ℕ) → at (fewer end) (2 * length b + q) ≡ place_of a q
      right q = elim (cases_lt (2 * length b + q) end) [
        | inl low ↦ other (2 * length b + q) (λ e. absurd (omega (arith, low, e)))
            (λ e. absurd (omega (arith, low, e)))
            ∙ moved (2 * length b + q) (omega (arith, is)) low
            ∙ full ((2 * length b + q) + 2)
            ∙ place_right b ((k, v) ∷ a) (suc (suc q)) ((2 * length b + q) + 2) (omega arith)
        | inr m ↦ nil_at (2 * length b + q) m
            ∙ sym (place_past a q (omega (arith, m, last, long)))
      ]
