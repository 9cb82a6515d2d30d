-- Stamps, of which the present one is a mark.
use Rattle.std.proofs.Common.{ℕ, suc, ◌≡◌, ◌<◌, ◌≤◌, true, false, eqb, ne_eqb, eq-eqb, map, replicate, set, List, [], ◌∷◌, length, get_or, ap, ◌∙◌, sym, refl, arith, inl, inr, ◌+◌, ◌++◌, take, add-one, Bool}
use Rattle.std.specs.List.{All}
use Rattle.std.proofs.lemmas.Bool.{cases_lt}
use Rattle.std.proofs.lemmas.List.{get_or-map, get_or-replicate, set-get_or, map-set, length-replicate, take_all, map-append}
use Rattle.std.proofs.Math.Seq.{take-suc}
use Rattle.never_heap.specs.Graphs.{Mutator}

-- older stamps are no marks
pub none_marked : (xs : List ℕ) (present n : ℕ) → length xs ≡ n → All (λ s. s < present) xs
    → map (λ s. eqb s present) xs ≡ replicate n false
none_marked [] present n is all = ap (λ k. replicate k false) is
none_marked (x ∷ xs) present n is all =
    let here : x < present = all 0 x (omega arith) in
    let rest : map (λ s. eqb s present) xs ≡ replicate (length xs) false =
    none_marked xs present (length xs) refl (λ k d l. all (suc k) d (omega arith)) in
    ap (λ b. b ∷ map (λ s. eqb s present) xs) (ne_eqb x present (λ e. absurd (omega arith)))
    ∙ ap (λ bs. false ∷ bs) rest
    ∙ ap (λ k. replicate k false) is

-- nor are those of which the first are older and the others 0
pub none_marked_more : (old new : List ℕ) (before present n : ℕ) → before < present
    → length new ≡ n → All (λ s. s ≤ before) old
    → ((k d : ℕ) → k < n → k < length old → get_or new k d ≡ get_or old k d)
    → ((k d : ℕ) → length old ≤ k → k < n → get_or new k d ≡ 0)
    → All (λ s. s < present) new
none_marked_more old new before present n later is all kept filled k d l =
    elim (cases_lt k (length old)) [
      | inl low ↦ (let same = kept k d (omega arith) low in
          let bound : get_or old k d ≤ before = all k d low in
          omega arith)
      | inr high ↦ (let same = filled k d high (omega arith) in omega arith)
    ]

-- a stamp is marked
pub marks_more : (xs : List ℕ) (present i : ℕ)
    → map (λ s. eqb s present) (set xs i present) ≡ set (map (λ s. eqb s present) xs) i true
marks_more xs present i =
    map-set (λ s. eqb s present) xs i present
    ∙ ap (λ b. set (map (λ s. eqb s present) xs) i b) (eq-eqb present present refl)

pub none_of_zeros : (xs : List ℕ) (n : ℕ) → xs ≡ replicate n 0
    → map (λ s. eqb s 1) xs ≡ replicate n false
none_of_zeros xs n is =
    let long : length xs ≡ n = ap (λ (l : List ℕ). length l) is ∙ length-replicate n 0 in
    none_marked xs 1 n long (λ k d l.
    let zero : get_or xs k d ≡ 0 = ap (λ (l : List ℕ). get_or l k d) is
    ∙ get_or-replicate n k 0 d (omega arith) in omega arith)

-- what is marked stays as it is when it is marked
pub marked_stays : (xs : List ℕ) (present i d : ℕ) → i < length xs → get_or xs i d ≡ present
    → map (λ s. eqb s present) xs ≡ set (map (λ s. eqb s present) xs) i true
marked_stays xs present i d here is =
    let mark : get_or (map (λ s. eqb s present) xs) i false ≡ true =
    get_or-map (λ s. eqb s present) xs i d false here ∙ eq-eqb (get_or xs i d) present is in
    sym (set-get_or (map (λ s. eqb s present) xs) i false)
    ∙ ap (λ b. set (map (λ s. eqb s present) xs) i b) mark

-- rows of no mark, one for each thread
abbrev pub clear_rows : List Mutator → List (List Bool)
clear_rows ms = map (λ (m : Mutator). replicate (length m.objects) false) ms

pub rows_more : (ms : List Mutator) (i count : ℕ) (m : Mutator) (old new : List (List Bool))
    → i < length ms → m ≡ get_or ms i m → count ≡ length m.objects
    → take i old ≡ clear_rows (take i ms)
    → take (i + 1) new ≡ take i old ++ replicate count false ∷ []
    → take (i + 1) new ≡ clear_rows (take (i + 1) ms)
rows_more ms i count m old new low is long was now =
    now ∙ ap (λ (rs : List (List Bool)). rs ++ replicate count false ∷ []) was
    ∙ ap (λ (k : ℕ). clear_rows (take i ms) ++ replicate k false ∷ []) long
    ∙ ap (λ (x : Mutator). clear_rows (take i ms) ++ replicate (length x.objects) false ∷ []) is
    ∙ sym (map-append (λ (x : Mutator). replicate (length x.objects) false) (take i ms)
    (get_or ms i m ∷ []))
    ∙ ap clear_rows (sym (take-suc ms i m low))
    ∙ ap (λ (k : ℕ). clear_rows (take k ms)) (sym (add-one i))

pub rows_all : (ms : List Mutator) (i : ℕ) (rows : List (List Bool)) → length ms ≤ i
    → length rows ≤ length ms → take i rows ≡ clear_rows (take i ms) → rows ≡ clear_rows ms
rows_all ms i rows all few is =
    sym (take_all i rows (omega arith)) ∙ is ∙ ap clear_rows (take_all i ms all)
