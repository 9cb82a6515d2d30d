-- The vectors of a vector, seen as a list of lists.
use Rattle.std.proofs.Common.{◌≡◌, ℕ, List, [], ◌∷◌, ◌++◌, get_or, map, sym, ap, ◌∙◌}
use Rattle.std.proofs.lemmas.List.{map-append}
use Rattle.std.proofs.Math.ListN.{get_or-map}

pub items_at : {V X : Type 0} (vs : List V) (t : ℕ) (v : V) → v ≡ get_or vs t v → (f : V → List X)
    → f v ≡ get_or (map f vs) t (f v)
items_at vs t v is f = ap f is ∙ sym (get_or-map f vs t v)

pub pushed_items : {V X : Type 0} (vs new : List V) (v : V) (x : List X) → new ≡ vs ++ v ∷ []
    → (f : V → List X) → f v ≡ x → map f new ≡ map f vs ++ x ∷ []
pushed_items vs new v x is f same =
    ap (map f) is ∙ map-append f vs (v ∷ []) ∙ ap (λ y. map f vs ++ y ∷ []) same
