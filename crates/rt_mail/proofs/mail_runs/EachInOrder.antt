-- Lists whose items are so by their numbers.
use Rattle.std.proofs.Common.{ℕ, zero, suc, ◌+◌, ◌≡◌, ◌<◌, List, [], ◌∷◌, ◌++◌, length, get_or, arith, subst}
use Rattle.rt_mail.specs.mail_runs.MailThreads.{Each}

module _ {A : Type 0} (P : ℕ → A → Type 0) where
  pub each_pushed : (t : ℕ) (xs : List A) (x : A) → Each P t xs → P (t + length xs) x
      → Each P t (xs ++ x ∷ [])
  each_pushed t [] x e p = (let same : t + 0 ≡ t = omega arith in subst (λ k. P k x) same p, tt)
  each_pushed t (y ∷ xs) x e p =
      let same : t + suc (length xs) ≡ t + 1 + length xs = omega arith in
      (e.0, each_pushed (t + 1) xs x e.1 (subst (λ k. P k x) same p))

  pub each_at : (t : ℕ) (xs : List A) → Each P t xs → (i : ℕ) (d : A) → i < length xs
      → P (t + i) (get_or xs i d)
  each_at t [] e i d low = absurd (omega arith)
  each_at t (x ∷ xs) e zero d low =
      let same : t ≡ t + 0 = omega arith in subst (λ k. P k x) same e.0
  each_at t (x ∷ xs) e (suc i) d low =
      let same : t + 1 + i ≡ t + suc i = omega arith in
      subst (λ k. P k (get_or xs i d)) same (each_at (t + 1) xs e.1 i d (omega arith))

  pub each_first : (xs : List A) → Each P 0 xs → (i : ℕ) (d : A) → i < length xs
      → P i (get_or xs i d)
  each_first xs e i d low =
      let same : 0 + i ≡ i = omega arith in
      subst (λ k. P k (get_or xs i d)) same (each_at 0 xs e i d low)

pub each_by_index : {A : Type 0} (P : ℕ → A → Type 0) (t : ℕ) (xs : List A)
    → ((i : ℕ) (d : A) → i < length xs → P (t + i) (get_or xs i d)) → Each P t xs
each_by_index P t [] f = tt
each_by_index P t (x ∷ xs) f =
    let same : t + 0 ≡ t = omega arith in (
      subst (λ k. P k x) same (f 0 x (omega arith)),
      each_by_index P (t + 1) xs (λ i d low.
          (let e : t + suc i ≡ t + 1 + i = omega arith in
          subst (λ k. P k (get_or xs i d)) e (f (suc i) d (omega arith)))),
    )
