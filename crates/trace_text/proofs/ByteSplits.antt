-- A list of bytes is split at the first of its bytes that is a line feed or a space.
use Rattle.std.proofs.Common.{◌≡◌, ℕ, zero, suc, ◌<◌, ◌≤◌, Bool, true, false, cond, eqb, List, [], ◌∷◌, length, get_or, map, take, drop, refl, ap, arith, ltb, Some, None}
use Rattle.std.specs.List.{position, position_or_len}
use Rattle.std.proofs.lemmas.Bool.{ltb-false}
use Rattle.std.proofs.lemmas.List.Sums.{fails_before_first}
use Rattle.trace_text.specs.Lines.{lines_of, tokens_of}
use Rattle.trace_text.specs.Reading.{parted, tokenized}

-- before place i no byte is c
abbrev pub NoneBefore : ℕ → List ℕ → ℕ → Type 0
NoneBefore c bs i = (k : ℕ) → k < i → eqb (get_or bs k 0) c ≡ false

tail_none : (c b : ℕ) (bs : List ℕ) (i : ℕ) → NoneBefore c (b ∷ bs) (suc i) → NoneBefore c bs i
tail_none c b bs i none k h = none (suc k) (omega arith)

pub lines_at : (bs : List ℕ) (i : ℕ) → i < length bs → eqb (get_or bs i 0) 10 ≡ true
    → NoneBefore 10 bs i → lines_of bs ≡ take i bs ∷ lines_of (drop (suc i) bs)
lines_at [] i lt is none = absurd (omega arith)
lines_at (b ∷ bs) zero lt is none = rw is refl
lines_at (b ∷ bs) (suc i) lt is none =
    let first : eqb b 10 ≡ false = none 0 (omega arith) in
    rw (first, lines_at bs i (omega arith) is (tail_none 10 b bs i none)) refl

pub tokens_at : (bs : List ℕ) (i : ℕ) → i < length bs → eqb (get_or bs i 0) 32 ≡ true
    → NoneBefore 32 bs i → tokens_of bs ≡ take i bs ∷ tokens_of (drop (suc i) bs)
tokens_at [] i lt is none = absurd (omega arith)
tokens_at (b ∷ bs) zero lt is none = rw is refl
tokens_at (b ∷ bs) (suc i) lt is none =
    let first : eqb b 32 ≡ false = none 0 (omega arith) in
    rw (first, tokens_at bs i (omega arith) is (tail_none 32 b bs i none)) refl

lines_one : (b : ℕ) (bs : List ℕ) → NoneBefore 10 (b ∷ bs) (length (b ∷ bs))
    → lines_of (b ∷ bs) ≡ (b ∷ bs) ∷ []
lines_one b [] none = let first : eqb b 10 ≡ false = none 0 (omega arith) in rw first refl
lines_one b (d ∷ bs) none =
    let first : eqb b 10 ≡ false = none 0 (omega arith) in
    rw (first, lines_one d bs (tail_none 10 b (d ∷ bs) (length (d ∷ bs)) none)) refl

-- with no line feed there is one line
pub lines_none : (bs : List ℕ) → 0 < length bs → NoneBefore 10 bs (length bs)
    → lines_of bs ≡ bs ∷ []
lines_none [] lt none = absurd (omega arith)
lines_none (b ∷ bs) lt none = lines_one b bs none

-- with no space there is one token
pub tokens_none : (bs : List ℕ) → NoneBefore 32 bs (length bs) → tokens_of bs ≡ bs ∷ []
tokens_none [] none = refl
tokens_none (b ∷ bs) none =
    let first : eqb b 32 ≡ false = none 0 (omega arith) in
    rw (first, tokens_none bs (tail_none 32 b bs (length bs) none)) refl

none_past : (b : Bool) (i : ℕ) → cond b (Some i) None ≡ None → b ≡ false
none_past true i e = absurd cc
none_past false i e = refl

-- where no byte passes a test, none does at any place
pub position_none : (p : ℕ → Bool) (bs : List ℕ) → position p bs ≡ None → (k : ℕ) → k < length bs
    → p (get_or bs k 0) ≡ false
position_none p bs e k lt =
    let past : length bs ≤ position_or_len p bs =
    ltb-false _ _ (none_past (ltb (position_or_len p bs) (length bs))
    (position_or_len p bs) e) in
    fails_before_first p bs k 0 (omega arith)

-- the line that is parted from the others
pub first_at : (bs line rest : List ℕ) → lines_of bs ≡ line ∷ lines_of rest
    → parted (lines_of bs) ≡ Some (line, lines_of rest)
first_at bs line rest e = ap (λ (ls : List (List ℕ)). parted ls) e

pub parts_at : (bs line rest : List ℕ) → lines_of bs ≡ line ∷ lines_of rest
    → parted (tokenized bs) ≡ Some (tokens_of line, tokenized rest)
parts_at bs line rest e = ap (λ (ls : List (List ℕ)). parted (map tokens_of ls)) e
