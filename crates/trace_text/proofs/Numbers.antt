-- The numbers of so many tokens, read one by one.
use Rattle.std.proofs.Common.{◌≡◌, ℕ, List, [], ◌∷◌, Result, Ok, Err, refl}
use Rattle.std.specs.Option.{ok_or}
use Rattle.trace_text.specs.declared.trace_faults.Why.{Why}
use Rattle.trace_text.specs.declared.trace_faults.Why.TheVariants as whys
use Rattle.trace_text.specs.Reading.{no_more_of, one_token_of, two_tokens_of, three_tokens_of, four_tokens_of}
use Rattle.trace_text.specs.Said.{◌>>=◌, spelled, numbers_at}

pub none_is : (ps : List (List ℕ))
    → numbers_at 0 ps ≡ (ok_or (no_more_of ps) whys.Count >>= λ x. Ok [])
unfolding numbers_at no_more_of
none_is [] = refl
none_is (p ∷ ps) = refl

pub one_is : (ps : List (List ℕ))
    → numbers_at 1 ps ≡ (ok_or (one_token_of ps) whys.Count >>= λ a. spelled a >>= λ m. Ok
    (m ∷ []))
unfolding numbers_at one_token_of no_more_of
one_is [] = refl
one_is (p ∷ []) = refl
one_is (p ∷ q ∷ ps) = refl

-- numbers that were read are put together from the last one on
two_steps : (a b : Result ℕ Why)
    → (a >>= λ m. (b >>= λ n. Ok (n ∷ [])) >>= λ ns. Ok (m ∷ ns))
    ≡ (a >>= λ m. b >>= λ n. Ok (m ∷ n ∷ []))
two_steps (Err e) b = refl
two_steps (Ok m) (Err e) = refl
two_steps (Ok m) (Ok n) = refl

three_steps : (a b d : Result ℕ Why)
    → (a >>= λ m. (b >>= λ n. (d >>= λ k. Ok (k ∷ [])) >>= λ ns. Ok (n ∷ ns)) >>= λ ns. Ok
    (m ∷ ns)) ≡ (a >>= λ m. b >>= λ n. d >>= λ k. Ok (m ∷ n ∷ k ∷ []))
three_steps (Err e) b d = refl
three_steps (Ok m) (Err e) d = refl
three_steps (Ok m) (Ok n) (Err e) = refl
three_steps (Ok m) (Ok n) (Ok k) = refl

pub two_is : (ps : List (List ℕ))
    → numbers_at 2 ps ≡ (ok_or
    (two_tokens_of ps) whys.Count >>= λ x. spelled x.0 >>= λ m. spelled x.1 >>= λ n. Ok
    (m ∷ n ∷ []))
unfolding numbers_at two_tokens_of one_token_of no_more_of
two_is [] = refl
two_is (p ∷ []) = refl
two_is (p ∷ q ∷ []) = two_steps (spelled p) (spelled q)
two_is (p ∷ q ∷ r ∷ ps) = refl

pub three_is : (ps : List (List ℕ))
    → numbers_at 3 ps ≡ (ok_or
    (three_tokens_of ps) whys.Count >>= λ x. spelled x.0 >>= λ m. spelled x.1 >>= λ n. spelled x.2
    >>= λ k. Ok (m ∷ n ∷ k ∷ []))
unfolding numbers_at three_tokens_of two_tokens_of one_token_of no_more_of
three_is [] = refl
three_is (p ∷ []) = refl
three_is (p ∷ q ∷ []) = refl
three_is (p ∷ q ∷ r ∷ []) = three_steps (spelled p) (spelled q) (spelled r)
three_is (p ∷ q ∷ r ∷ s ∷ ps) = refl

four_steps : (a b d e : Result ℕ Why)
    → (a >>= λ m. (b >>= λ n. (d >>= λ k. (e >>= λ j. Ok (j ∷ [])) >>= λ ns. Ok (k ∷ ns))
    >>= λ ns. Ok (n ∷ ns)) >>= λ ns. Ok (m ∷ ns))
    ≡ (a >>= λ m. b >>= λ n. d >>= λ k. e >>= λ j. Ok (m ∷ n ∷ k ∷ j ∷ []))
four_steps (Err x) b d e = refl
four_steps (Ok m) (Err x) d e = refl
four_steps (Ok m) (Ok n) (Err x) e = refl
four_steps (Ok m) (Ok n) (Ok k) (Err x) = refl
four_steps (Ok m) (Ok n) (Ok k) (Ok j) = refl

pub four_is : (ps : List (List ℕ))
    → numbers_at 4 ps ≡ (ok_or
    (four_tokens_of ps) whys.Count >>= λ x. spelled x.0 >>= λ m. spelled x.1 >>= λ n. spelled x.2
    >>= λ k. spelled x.3 >>= λ j. Ok (m ∷ n ∷ k ∷ j ∷ []))
unfolding numbers_at four_tokens_of three_tokens_of two_tokens_of one_token_of no_more_of
four_is [] = refl
four_is (p ∷ []) = refl
four_is (p ∷ q ∷ []) = refl
four_is (p ∷ q ∷ r ∷ []) = refl
four_is (p ∷ q ∷ r ∷ s ∷ []) = four_steps (spelled p) (spelled q) (spelled r) (spelled s)
four_is (p ∷ q ∷ r ∷ s ∷ t ∷ ps) = refl
