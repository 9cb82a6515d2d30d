-- How many tokens there are.
use Rattle.std.proofs.Common.{◌≡◌, ℕ, Bool, true, false, cond, eqb, List, [], ◌∷◌, None, refl, ap}
use Rattle.trace_text.specs.Lines.{tokens_of, onto_first}
use Rattle.trace_text.specs.Reading.{no_more_of}

-- there is at least one
pub record HasFirst (tokens : List (List ℕ)) : Type 0 where
  pub first : List ℕ
  pub others : List (List ℕ)
  pub is : tokens ≡ first ∷ others

onto_has : (b : ℕ) (tokens : List (List ℕ)) → HasFirst (onto_first b tokens)
onto_has b [] = record { first = b ∷ []; others = []; is = refl }
onto_has b (p ∷ ps) = record { first = b ∷ p; others = ps; is = refl }

either_has : (t : Bool) (b : ℕ) (tokens : List (List ℕ))
    → HasFirst (cond t ([] ∷ tokens) (onto_first b tokens))
either_has true b tokens = record { first = []; others = tokens; is = refl }
either_has false b tokens = onto_has b tokens

pub has_first : (line : List ℕ) → HasFirst (tokens_of line)
has_first [] = record { first = []; others = []; is = refl }
has_first (b ∷ bs) = either_has (eqb b 32) b (tokens_of bs)

-- of a line there is at least one
pub some_more : (line : List ℕ) → no_more_of (tokens_of line) ≡ None
unfolding no_more_of
some_more line = let h = has_first line in ap no_more_of h.is
