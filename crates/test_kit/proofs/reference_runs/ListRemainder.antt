-- What is left of a list, in a loop that goes over it.
use Rattle.std.proofs.Common.{ℕ, ◌+◌, ◌<◌, ◌≤◌, ◌↔◌, List, [], ◌∷◌, length, drop, get_or, sym, subst}
use Rattle.std.proofs.lemmas.List.{drop_all, drop_more}

-- Something holds of all, exactly where it holds of what is left. It holds of what is left exactly
-- where one thing holds of the next item, and another of what is left after it.
module _ {X : Type 0} (xs : List X) (i : ℕ) (d : X) (All : Type 0) (left : List X → Type 0)
    (so_far : left (drop i xs) ↔ All) where
  module _ (there : i < length xs) (this rest : Type 0)
      (parts : left (get_or xs i d ∷ drop (i + 1) xs) ↔ (this × rest)) where
    pub goes_on : this → (rest ↔ All)
    goes_on holds = (
      λ r. so_far.0 (subst left (sym (drop_more xs i d there)) (parts.1 (holds, r))),
      λ a. (parts.0 (subst left (drop_more xs i d there) (so_far.1 a))).1,
    )

  pub ends : length xs ≤ i → left [] → All
  ends none holds = so_far.0 (subst left (sym (drop_all i xs none)) holds)

-- all of it is left at first
pub begins : (A : Type 0) → A ↔ A
begins A = (λ a. a, λ a. a)
