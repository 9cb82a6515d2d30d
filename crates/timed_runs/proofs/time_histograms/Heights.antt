-- The fullest of the bars of powers of two.
use Rattle.std.proofs.Common.{ℕ, ◌+◌, ◌*◌, ◌^◌, ◌<◌, ◌≤◌, ◌≡◌, ◌≢◌, ◌⊎◌, List, arith, inl, inr, subst, sym, ◌∙◌}
use Rattle.std.proofs.lemmas.Bool.{cases_eq}
use Rattle.std.proofs.Math.Pow.{pow-lt}
use Rattle.timed_runs.specs.time_histograms.Counts.{between, IsOneOf}

abbrev pub bar_at : List ℕ → ℕ → ℕ
bar_at times k = between (2 ^ k) (2 * 2 ^ k) times

-- the bar of this power of two
here : (times : List ℕ) (class least bar : ℕ) → class < 63
    → (class < 64 → least ≡ 2 ^ class)
    → (least < 2 ^ 63 → bar ≡ between least (2 * least) times)
    → bar ≡ bar_at times class
here times class least bar low power counted =
    let is : least ≡ 2 ^ class = power (omega (arith, low)) in
    let small : least < 2 ^ 63 = subst (λ (x : ℕ). x < 2 ^ 63) (sym is) (pow-lt low) in
    subst (λ (x : ℕ). bar ≡ between x (2 * x) times) is (counted small)

-- what is no less than the greatest so far and than one more
at_least : (times : List ℕ) (class most high : ℕ) → ((k : ℕ) → k < class → bar_at times k ≤ most)
    → most ≤ high → bar_at times class ≤ high
    → (k : ℕ) → k < class + 1 → bar_at times k ≤ high
at_least times class most high all old new k inside = elim (cases_eq k class) [
  | inl e ↦ subst (λ (j : ℕ). bar_at times j ≤ high) (sym e) new
  | inr ne ↦
      let before : bar_at times k ≤ most = all k (omega (arith, ne, inside)) in
      omega (arith, before, old)
]

one_of : (times : List ℕ) (class most high : ℕ) → IsOneOf times class most
    → (high ≡ most) ⊎ (high ≡ bar_at times class) → IsOneOf times (class + 1) high
one_of times class most high (inl zero_is) (inl e) = inl (e ∙ zero_is)
one_of times class most high (inr (k, low, is)) (inl e) = inr (k, omega (arith, low), e ∙ is)
one_of times class most high _ (inr e) = inr (class, omega arith, e)

-- the greatest so far, with one more
pub one_more : (times : List ℕ) (class most least bar high : ℕ) → class < 63
    → (class < 64 → least ≡ 2 ^ class)
    → (least < 2 ^ 63 → bar ≡ between least (2 * least) times)
    → most ≤ high → bar ≤ high → (high ≢ most → high ≡ bar)
    → ((k : ℕ) → k < class → bar_at times k ≤ most) × IsOneOf times class most
    → ((k : ℕ) → k < class + 1 → bar_at times k ≤ high) × IsOneOf times (class + 1) high
one_more times class most least bar high low power counted old new either so_far =
    let is : bar ≡ bar_at times class = here times class least bar low power counted in
    let which : (high ≡ most) ⊎ (high ≡ bar_at times class) = elim (cases_eq high most) [
      | inl e ↦ inl e
      | inr ne ↦ inr (either ne ∙ is)
    ] in (
      at_least times class most high so_far.0 old (subst (λ (x : ℕ). x ≤ high) is new),
      one_of times class most high so_far.1 which,
    )
