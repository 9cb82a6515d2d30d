-- Places of lists, and tests of all elements.
use Rattle.std.proofs.Common.{◌≡◌, ℕ, zero, suc, Bool, true, List, [], ◌∷◌, ◌++◌, length, map, get_or, set, refl, ap}
use Rattle.std.specs.List.{list_all}
use Rattle.std.proofs.lemmas.Bool.{and_parts}

-- the element after a front
pub at_front : {A : Type 0} (front : List A) (x : A) (back : List A) (d : A) → get_or (front ++ x ∷ back) (length front) d ≡ x
at_front [] x back d = refl
at_front (y ∷ front) x back d = at_front front x back d

pub set_front : {A : Type 0} (front : List A) (x : A) (back : List A) (y : A) → set (front ++ x ∷ back) (length front) y ≡ front ++ y ∷ back
set_front [] x back y = refl
set_front (z ∷ front) x back y = ap (λ l. z ∷ l) (set_front front x back y)

pub length_front : {A : Type 0} (front : List A) (x : A) → length (front ++ x ∷ []) ≡ suc (length front)
length_front [] x = refl
length_front (y ∷ front) x = ap suc (length_front front x)

-- an element of a list that is mapped
pub get_map : {A B : Type 0} (f : A → B) (d : A) (xs : List A) (i : ℕ) → get_or (map f xs) i (f d) ≡ f (get_or xs i d)
get_map f d [] i = refl
get_map f d (x ∷ xs) zero = refl
get_map f d (x ∷ xs) (suc i) = get_map f d xs i

pub length_map : {A B : Type 0} (f : A → B) (xs : List A) → length (map f xs) ≡ length xs
length_map f [] = refl
length_map f (x ∷ xs) = ap suc (length_map f xs)

-- what holds of all elements and of the default holds at each place
pub all_at : {A : Type 0} (p : A → Bool) (xs : List A) (i : ℕ) (d : A) → p d ≡ true → list_all p xs ≡ true → p (get_or xs i d) ≡ true
all_at p [] i d none all = none
all_at p (x ∷ xs) zero d none all = (and_parts (p x) (list_all p xs) all).0
all_at p (x ∷ xs) (suc i) d none all = all_at p xs i d none (and_parts (p x) (list_all p xs) all).1
