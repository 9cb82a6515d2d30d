-- Long lines spell no reading and no limits.
use Rattle.std.proofs.Common.{◌≡◌, ℕ, ◌+◌, ◌<◌, ◌≤◌, inl, inr, lt-ltb, List, [], ◌∷◌, length, Option, Some, None, eq-eqb, ne_eqb, refl, arith}
use Rattle.std.proofs.lemmas.Bool.{cases_eq, cases_lt}
use Rattle.trace_text.specs.Lines.{tokens_of, onto_first}
use Rattle.trace_text.specs.Reading.{◌>>=◌, number_at, two_tokens_of, one_token_of, no_more_of}
use Rattle.historian_core.specs.declared.Limits.{Limits}
use Rattle.historian_core.specs.ReportTexts.{reading_at, limits_at}

-- a number has at most 19 digits
pub reading_long : (line : List ℕ) → 19 < length line → reading_at line ≡ None
unfolding reading_at number_at
reading_long line long =
    rw (ne_eqb (length line) 0 (omega arith), lt-ltb 19 (length line) long) refl

-- the bytes of tokens, and one for the space after each
abbrev weigh : List (List ℕ) → ℕ
weigh [] = 0
weigh (t ∷ ts) = length t + 1 + weigh ts

weigh_onto : (b : ℕ) (ts : List (List ℕ)) → 1 ≤ weigh ts → weigh (onto_first b ts) ≡ weigh ts + 1
weigh_onto b [] l = absurd (omega arith)
weigh_onto b (t ∷ ts) l = omega arith

weigh_tokens : (bs : List ℕ) → weigh (tokens_of bs) ≡ length bs + 1
weigh_tokens [] = refl
weigh_tokens (b ∷ bs) =
    let rest = weigh_tokens bs in
    elim (cases_eq b 32) [
      | inl e ↦ rw (eq-eqb b 32 e) (omega (arith, rest))
      | inr n ↦ rw (ne_eqb b 32 n)
          (omega (arith, rest, weigh_onto b (tokens_of bs) (omega (arith, rest))))
    ]

abbrev both : Option ℕ → Option ℕ → Option Limits
both a b = a >>= λ low. b >>= λ high. Some (record { low = low; high = high })

both_none : (a : Option ℕ) → both a None ≡ None
both_none None = refl
both_none (Some low) = refl

limits_few : (ts : List (List ℕ)) → 40 < weigh ts
    → (two_tokens_of ts >>= λ p. both (reading_at p.0) (reading_at p.1)) ≡ None
unfolding two_tokens_of one_token_of no_more_of
limits_few [] l = refl
limits_few (a ∷ []) l = refl
limits_few (a ∷ b ∷ []) l = elim (cases_lt 19 (length a)) [
  | inl long ↦ rw (reading_long a long) refl
  | inr short ↦ rw (reading_long b (omega arith)) (both_none (reading_at a))
]
limits_few (a ∷ b ∷ c ∷ ts) l = refl

pub limits_long : (line : List ℕ) → 40 ≤ length line → limits_at line ≡ None
unfolding limits_at
limits_long line long = limits_few (tokens_of line) (omega (arith, weigh_tokens line))
