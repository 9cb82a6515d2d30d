-- What is spelled by tokens, by numbers and by the first word of a line.
use Rattle.std.proofs.Common.{◌≡◌, ℕ, ◌<◌, ◌≤◌, ◌^◌, ◌&&◌, ◌||◌, ltb, Bool, true, false, cond, Option, Some, None, List, [], ◌∷◌, decimal, bytes_eq, refl, sym, ap, ◌∙◌, subst, arith}
use Rattle.std.proofs.lemmas.Bool.{ltb-true, ltb-false, lt-ltb, le-ltb}
use Rattle.std.proofs.lemmas.Slice.Eq.{bytes_eq-Decides}
use Rattle.std.proofs.lemmas.Option.{cond_some}
use Rattle.trace_text.specs.Headers.{behind_at, labelled_at}
use Rattle.trace_text.specs.Reading.{◌>>=◌, parted, number_at, no_more_of, one_token_of, two_tokens_of, three_tokens_of}
use Rattle.trace_text.proofs.NumberLaws.{number_sound, number_complete}
use Rattle.trace_text.proofs.Binds.{bind_then}
use Rattle.array_scripts.proofs.scripts.ScriptOrBadLine.{some_is}
use Rattle.array_scripts.specs.Kinds.{Tokens, ranged, below}

pub else_some : {A : Type 0} (b : Bool) (x y : A) → cond b None (Some x) ≡ Some y
    → (b ≡ false) × (x ≡ y)
else_some false x y e = (refl, ap (from x) e)
  where
    from : {B : Type 0} → B → Option B → B
    from z None = z
    from z (Some w) = w
else_some true x y e = absurd cc

pub or_parts : (b c : Bool) → b || c ≡ false → (b ≡ false) × (c ≡ false)
or_parts true c e = absurd cc
or_parts false c e = (refl, e)

pub and_parts : (b c : Bool) → b && c ≡ true → (b ≡ true) × (c ≡ true)
and_parts true c e = (refl, e)
and_parts false c e = absurd cc

-- ---- numbers in ranges

pub ranged_sound : (least most : ℕ) (token : List ℕ) (n : ℕ) → ranged least most token ≡ Some n
    → (token ≡ decimal n) × (least ≤ n) × (n ≤ most)
unfolding ranged
ranged_sound least most token n e =
    bind_then (number_at token) _ n e (λ m is kept.
    let low = else_some (ltb m least || ltb most m) m n kept in
    let parts = or_parts (ltb m least) (ltb most m) low.0 in
    let spelled = number_sound token m is in (
      spelled.0 ∙ ap decimal low.1,
      subst (λ (k : ℕ). least ≤ k) low.1 (ltb-false m least parts.0),
      subst (λ (k : ℕ). k ≤ most) low.1 (ltb-false most m parts.1),
    ))

pub ranged_again : (least most n : ℕ) → least ≤ n → n ≤ most → most < 10 ^ 19
    → ranged least most (decimal n) ≡ Some n
unfolding ranged
ranged_again least most n low high small =
    ap (λ o. o >>= λ m. cond (ltb m least || ltb most m) None (Some m))
    (number_complete n (omega arith))
    ∙ (λ k. cond (le-ltb n least low k || le-ltb most n high k) None (Some n))

pub below_sound : (most : ℕ) (token : List ℕ) (n : ℕ) → below most token ≡ Some n
    → (token ≡ decimal n) × (n < most)
unfolding below
below_sound most token n e =
    bind_then (number_at token) _ n e (λ m is kept.
    let low = cond_some (ltb m most) m n kept in
    let spelled = number_sound token m is in
    (spelled.0 ∙ ap decimal low.1, subst (λ (k : ℕ). k < most) low.1 (ltb-true m most low.0)))

pub below_again : (most n : ℕ) → n < most → most ≤ 10 ^ 19 → below most (decimal n) ≡ Some n
unfolding below
below_again most n low small =
    ap (λ o. o >>= λ m. cond (ltb m most) (Some m) None) (number_complete n (omega arith))
    ∙ (λ k. cond (lt-ltb n most low k) (Some n) None)

-- ---- tokens

pub none_of : (tokens : Tokens) (x : Unit {0}) → no_more_of tokens ≡ Some x → tokens ≡ []
unfolding no_more_of
none_of [] x e = refl
none_of (a ∷ tokens) x e = absurd cc

pub one_of : (tokens : Tokens) (a : List ℕ) → one_token_of tokens ≡ Some a → tokens ≡ a ∷ []
unfolding one_token_of no_more_of
one_of [] a e = absurd cc
one_of (b ∷ []) a e = ap (λ (o : Option (List ℕ)). or b o ∷ []) e
  where
    or : List ℕ → Option (List ℕ) → List ℕ
    or z None = z
    or z (Some w) = w
one_of (b ∷ c ∷ tokens) a e = absurd cc

pub two_of : (tokens : Tokens) (p : List ℕ × List ℕ) → two_tokens_of tokens ≡ Some p
    → tokens ≡ p.0 ∷ p.1 ∷ []
unfolding two_tokens_of one_token_of no_more_of
two_of [] p e = absurd cc
two_of (a ∷ []) p e = absurd cc
two_of (a ∷ b ∷ []) p e = ap (λ (o : Option (List ℕ × List ℕ)). (or o).0 ∷ (or o).1 ∷ []) e
  where
    or : Option (List ℕ × List ℕ) → List ℕ × List ℕ
    or None = (a, b)
    or (Some w) = w
two_of (a ∷ b ∷ c ∷ tokens) p e = absurd cc

pub three_of : (tokens : Tokens) (p : List ℕ × List ℕ × List ℕ) → three_tokens_of tokens ≡ Some p
    → tokens ≡ p.0 ∷ p.1 ∷ p.2 ∷ []
unfolding three_tokens_of two_tokens_of one_token_of no_more_of
three_of [] p e = absurd cc
three_of (a ∷ []) p e = absurd cc
three_of (a ∷ b ∷ []) p e = absurd cc
three_of (a ∷ b ∷ c ∷ []) p e =
    ap (λ (o : Option (List ℕ × List ℕ × List ℕ)). (or o).0 ∷ (or o).1 ∷ (or o).2 ∷ []) e
  where
    or : Option (List ℕ × List ℕ × List ℕ) → List ℕ × List ℕ × List ℕ
    or None = (a, b, c)
    or (Some w) = w
three_of (a ∷ b ∷ c ∷ d ∷ tokens) p e = absurd cc

-- a choice by the first token
pub chosen : {A : Type 0} {P : Type 0} (first word : List ℕ) (a b : Option A) (x : A)
    → cond (bytes_eq first word) a b ≡ Some x → (first ≡ word → a ≡ Some x → P)
    → (b ≡ Some x → P) → P
chosen {A} {P} first word a b x e here there = go (bytes_eq first word) refl e
  where
    go : (t : Bool) → bytes_eq first word ≡ t → cond t a b ≡ Some x → P
    go true is f = here ((bytes_eq-Decides first word).0 is) f
    go false is f = there f

-- ---- and what is spelled is read

-- ---- a word with one place

pub place_sound : {Op : Type 0} (P : Tokens → Op → Type 0) (places : ℕ) (word : List ℕ)
    (make : ℕ → Op) → ((i : ℕ) → i < places → P (word ∷ decimal i ∷ []) (make i))
    → (first : List ℕ) (tokens : Tokens) (op : Op) → first ≡ word
    → (one_token_of tokens >>= λ token. below places token >>= λ i. Some (make i)) ≡ Some op
    → P (first ∷ tokens) op
place_sound {Op} P places word make each first tokens op is e =
    bind_then (one_token_of tokens) _ op e (λ token is1 e1.
    bind_then (below places token) _ op e1 (λ i is2 e2.
    let a = below_sound places token i is2 in
    let spelled : first ∷ tokens ≡ word ∷ decimal i ∷ [] =
    λ k. is k ∷ (one_of tokens token is1 ∙ (λ j. a.0 j ∷ [])) k in
    subst (λ (l : Tokens). P l op) (sym spelled)
    (subst (λ (y : Op). P (word ∷ decimal i ∷ []) y) (some_is e2) (each i a.1))))
