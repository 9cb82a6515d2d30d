-- The words of a heap, followed by one more.
use Rattle.std.proofs.Common.{◌≡◌, ℕ, zero, suc, ◌+◌, ◌<◌, refl, arith, ap, List, [], ◌∷◌, ◌++◌, length, get_or, set}

pub get_front : (xs ys : List ℕ) (i d : ℕ) → i < length xs → get_or (xs ++ ys) i d ≡ get_or xs i d
get_front [] ys i d low = absurd (omega arith)
get_front (x ∷ xs) ys zero d low = refl
get_front (x ∷ xs) ys (suc i) d low = get_front xs ys i d (omega arith)

pub set_front : (xs ys : List ℕ) (i v : ℕ) → i < length xs → set (xs ++ ys) i v ≡ set xs i v ++ ys
set_front [] ys i v low = absurd (omega arith)
set_front (x ∷ xs) ys zero v low = refl
set_front (x ∷ xs) ys (suc i) v low = ap (λ l. x ∷ l) (set_front xs ys i v (omega arith))

pub get_last : (xs : List ℕ) (y i d : ℕ) → i ≡ length xs → get_or (xs ++ y ∷ []) i d ≡ y
get_last [] y zero d e = refl
get_last [] y (suc i) d e = absurd (omega (arith, e))
get_last (x ∷ xs) y zero d e = absurd (omega (arith, e))
get_last (x ∷ xs) y (suc i) d e = get_last xs y i d (omega (arith, e))

pub set_last : (xs : List ℕ) (y i v : ℕ) → i ≡ length xs → set (xs ++ y ∷ []) i v ≡ xs ++ v ∷ []
set_last [] y zero v e = refl
set_last [] y (suc i) v e = absurd (omega (arith, e))
set_last (x ∷ xs) y zero v e = absurd (omega (arith, e))
set_last (x ∷ xs) y (suc i) v e = ap (λ l. x ∷ l) (set_last xs y i v (omega (arith, e)))
