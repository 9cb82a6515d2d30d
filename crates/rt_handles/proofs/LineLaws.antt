-- What a line of a script of handles says is what is spelled so, and what is spelled is read again.
use Rattle.std.proofs.Common.{◌≡◌, ℕ, ◌<◌, ◌≤◌, ◌^◌, true, cond, Option, Some, None, List, [], ◌∷◌, codes, decimal, eq-eqb, refl, sym, ap, ◌∙◌, subst, arith}
use Rattle.std.proofs.lemmas.Bool.{eqb-true}
use Rattle.std.proofs.lemmas.Option.{cond_some}
use Rattle.array_scripts.specs.declared.header.Header.{Header}
use Rattle.array_scripts.specs.Kinds.{Tokens, IsHeader, Fits, below, line_at, told_at, language}
use Rattle.array_scripts.proofs.TokenLaws.{chosen, below_sound, below_again, two_of, three_of, place_sound}
use Rattle.array_scripts.proofs.LineLaws.{kind_reads}
use Rattle.array_scripts.specs.scripts.Scripts.{Reads}
use Rattle.array_scripts.proofs.scripts.ScriptOrBadLine.{some_is}
use Rattle.array_tables.specs.declared.handle_table.operation.Operation.{Operation}
use Rattle.array_tables.specs.declared.handle_table.operation.Operation.TheVariants.{Make, See, Drop, Take, Evict}
use Rattle.array_tables.specs.handle_table.Handles.{slot_of, CanStand}
use Rattle.trace_text.specs.Reading.{◌>>=◌, no_more_of, one_token_of, two_tokens_of, three_tokens_of}
use Rattle.trace_text.proofs.Binds.{bind_then}
use Rattle.rt_handles.specs.Lines.{op_line, make_at, is_at, handle_at, see_at, drop_at, take_at, evict_at, op_at, handle_kind}

-- what an operation's tokens say
abbrev SoundOp : ℕ → List Operation → Tokens → Operation → Type 0
SoundOp slots before line op = (line ≡ op_line op) × CanStand slots before op

make_sound : (slots : ℕ) (before : List Operation) (first : List ℕ) (tokens : Tokens)
    (op : Operation) → first ≡ codes "make" → make_at slots tokens ≡ Some op
    → SoundOp slots before (first ∷ tokens) op
unfolding make_at
make_sound slots before first tokens op is e =
    bind_then (three_tokens_of tokens) _ op e (λ p is1 e1.
    bind_then (below 8 p.0) _ op e1 (λ g is2 e2.
    bind_then (below slots p.1) _ op e2 (λ i is3 e3.
    bind_then (below (2 ^ 62) p.2) _ op e3 (λ x is4 e4.
    let a = below_sound 8 p.0 g is2 in
    let b = below_sound slots p.1 i is3 in
    let c = below_sound (2 ^ 62) p.2 x is4 in
    subst (λ (y : Operation). SoundOp slots before (first ∷ tokens) y) (some_is e4) (
      (λ k. is k ∷ (three_of tokens p is1 ∙ (λ j. a.0 j ∷ b.0 j ∷ c.0 j ∷ [])) k),
      (a.1, b.1, c.1),
    )))))

at_true : (i : ℕ) (o : Option ℕ) → is_at i o ≡ true → o ≡ Some i
at_true i None e = absurd cc
at_true i (Some k) e = ap (λ (z : ℕ). Some z) (eqb-true k i e)

at_again : (i : ℕ) (o : Option ℕ) → o ≡ Some i → is_at i o ≡ true
at_again i o e = ap (is_at i) e ∙ eq-eqb i i refl

-- a handle and its slot
handle_sound : (slots : ℕ) (before : List Operation) (tokens : Tokens) (q : ℕ × ℕ)
    → handle_at slots before tokens ≡ Some q
    → (tokens ≡ decimal q.0 ∷ decimal q.1 ∷ []) × (q.0 < 8) × (q.1 < slots)
    × (slot_of q.0 before ≡ Some q.1)
unfolding handle_at
handle_sound slots before tokens q e =
    bind_then (two_tokens_of tokens) _ q e (λ p is1 e1.
    bind_then (below 8 p.0) _ q e1 (λ g is2 e2.
    bind_then (below slots p.1) _ q e2 (λ i is3 e3.
    let a = below_sound 8 p.0 g is2 in
    let b = below_sound slots p.1 i is3 in
    let kept = cond_some (is_at i (slot_of g before)) (g, i) q e3 in
    subst (λ (y : ℕ × ℕ). (tokens ≡ decimal y.0 ∷ decimal y.1 ∷ []) × (y.0 < 8) × (y.1 < slots)
    × (slot_of y.0 before ≡ Some y.1)) kept.1 (
      two_of tokens p is1 ∙ (λ j. a.0 j ∷ b.0 j ∷ []),
      a.1,
      b.1,
      at_true i (slot_of g before) kept.0,
    ))))

-- a word with these two
held_sound : (slots : ℕ) (before : List Operation) (word : List ℕ) (make : ℕ → ℕ → Operation)
    → ((g i : ℕ) → g < 8 → i < slots → slot_of g before ≡ Some i
    → SoundOp slots before (word ∷ decimal g ∷ decimal i ∷ []) (make g i))
    → (first : List ℕ) (tokens : Tokens) (op : Operation) → first ≡ word
    → (handle_at slots before tokens >>= λ q. Some (make q.0 q.1)) ≡ Some op
    → SoundOp slots before (first ∷ tokens) op
held_sound slots before word make each first tokens op is e =
    bind_then (handle_at slots before tokens) _ op e (λ q is1 e1.
    let s = handle_sound slots before tokens q is1 in
    let spelled : first ∷ tokens ≡ word ∷ decimal q.0 ∷ decimal q.1 ∷ [] = λ k. is k ∷ s.0 k in
    subst (λ (l : Tokens). SoundOp slots before l op) (sym spelled)
    (subst (λ (y : Operation). SoundOp slots before (word ∷ decimal q.0 ∷ decimal q.1 ∷ []) y)
    (some_is e1) (each q.0 q.1 s.1 s.2 s.3)))

op_sound : (slots : ℕ) (before : List Operation) (line : Tokens) (op : Operation)
    → op_at slots before line ≡ Some op → SoundOp slots before line op
unfolding op_at see_at drop_at take_at evict_at
op_sound slots before [] op e = absurd cc
op_sound slots before (first ∷ tokens) op e =
    chosen first (codes "make") _ _ op e (make_sound slots before first tokens op) (λ e1.
    chosen first (codes "see") _ _ op e1
    (held_sound slots before (codes "see") See (λ g i a b c. (refl, (a, b, c))) first tokens op) (λ e2.
    chosen first (codes "drop") _ _ op e2
    (held_sound slots before (codes "drop") Drop (λ g i a b c. (refl, (a, b, c))) first tokens op) (λ e3.
    chosen first (codes "take") _ _ op e3
    (place_sound (SoundOp slots before) slots (codes "take") Take (λ i low. (refl, low)) first
    tokens op) (λ e4.
    chosen first (codes "evict") _ None op e4
    (place_sound (SoundOp slots before) slots (codes "evict") Evict (λ i low. (refl, low)) first
    tokens op) (λ bad. absurd cc)))))

-- ---- and what is spelled is read

handle_again : (slots : ℕ) (before : List Operation) (g i : ℕ) → slots ≤ 512 → g < 8 → i < slots
    → slot_of g before ≡ Some i
    → handle_at slots before (decimal g ∷ decimal i ∷ []) ≡ Some (g, i)
unfolding handle_at two_tokens_of one_token_of no_more_of
handle_again slots before g i few low there last =
    (λ k. below_again 8 g low (omega arith) k >>= λ g. below slots (decimal i) >>= λ i.
    cond (is_at i (slot_of g before)) (Some (g, i)) None)
    ∙ (λ k. below_again slots i there (omega (arith, few)) k >>= λ i.
    cond (is_at i (slot_of g before)) (Some (g, i)) None)
    ∙ ap (λ b. cond b (Some (g, i)) None) (at_again i (slot_of g before) last)

op_again : (slots : ℕ) (before : List Operation) (op : Operation) → slots ≤ 512
    → CanStand slots before op → op_at slots before (op_line op) ≡ Some op
unfolding op_at make_at see_at drop_at take_at evict_at no_more_of one_token_of two_tokens_of three_tokens_of
op_again slots before (Make g i x) few s =
    (λ k. below_again 8 g s.0 (omega arith) k >>= λ g. below slots (decimal i) >>= λ i.
    below (2 ^ 62) (decimal x) >>= λ x. Some (Make g i x))
    ∙ (λ k. below_again slots i s.1 (omega (arith, few)) k >>= λ i.
    below (2 ^ 62) (decimal x) >>= λ x. Some (Make g i x))
    ∙ (λ k. below_again (2 ^ 62) x s.2 (omega arith) k >>= λ x. Some (Make g i x))
op_again slots before (See g i) few s =
    λ k. handle_again slots before g i few s.0 s.1 s.2 k >>= λ q. Some (See q.0 q.1)
op_again slots before (Drop g i) few s =
    λ k. handle_again slots before g i few s.0 s.1 s.2 k >>= λ q. Some (Drop q.0 q.1)
op_again slots before (Take i) few s =
    λ k. below_again slots i s (omega (arith, few)) k >>= λ i. Some (Take i)
op_again slots before (Evict i) few s =
    λ k. below_again slots i s (omega (arith, few)) k >>= λ i. Some (Evict i)

-- no operation begins as the line of a thread does, or the end
apart : (h : Header) (t : ℕ) (before : List Operation) (op : Operation)
    → line_at handle_kind h t before (op_line op) ≡ told_at handle_kind h t before (op_line op)
unfolding line_at
apart h t before (Make g i x) = refl
apart h t before _ = refl

pub handle_reads : Reads (language handle_kind) (IsHeader handle_kind) (Fits handle_kind)
handle_reads = kind_reads handle_kind (record {
  few_places = omega arith;
  sound = op_sound;
  again = op_again;
  apart = apart;
})
