-- One sender is all of a post for one, and two of one for two, in the other order too.
use Rattle.std.proofs.Common.{ℕ, ◌≡◌, ◌+◌, ◌==◌, cond, nat_lt, [], ◌∷◌, ◌∙◌, arith}
use Rattle.std.proofs.lemmas.Bool.Decides.{nat_tests}
use Rattle.rt_mail.specs.mail_post.PostStates.{SenderState, AreAll}

one_of_two : (t : ℕ) → (0 + cond (1 == t) 1 0) + cond (0 == t) 1 0 ≡ cond (nat_lt t 2) 1 0
one_of_two t = grind (arith, nat_tests)

pub two_are_all : (a b : SenderState) → a.thread ≡ 0 → b.thread ≡ 1 → AreAll 2 (b ∷ a ∷ [])
two_are_all a b first second t =
    (λ i. (0 + cond (second i == t) 1 0) + cond (first i == t) 1 0) ∙ one_of_two t

one_of_one : (t : ℕ) → 0 + cond (0 == t) 1 0 ≡ cond (nat_lt t 1) 1 0
one_of_one t = grind (arith, nat_tests)

pub one_is_all : (a : SenderState) → a.thread ≡ 0 → AreAll 1 (a ∷ [])
one_is_all a first t = (λ i. 0 + cond (first i == t) 1 0) ∙ one_of_one t
