-- What was read causes the answer.
use Rattle.std.proofs.Common.{ℕ, inl, inr, List, [], ◌∷◌, Some, None, sym, refl, ap, subst}
use Rattle.std.proofs.lemmas.Option.{same_Some}
use Rattle.exit_statuses.specs.declared.refusal.Refusal.{Refusal}
use Rattle.exit_statuses.specs.declared.refusal.Refusal.TheVariants.{Usage, BadLine, TooLong, LiveTooSmall, NoRate, ReadFault, OutOfMemory, BadOrder}
use Rattle.exit_statuses.specs.Exits.{IsDue}
use Rattle.exit_statuses.specs.Refusals.{AreNone, status_of, IsReadWhole, IsReadRefusal, HasRead}
use Rattle.exit_statuses.specs.Sides.{Sides, IsUnfailed}
use Rattle.exit_statuses.proofs.ExitStatuses.{AreApart}
use Rattle.exit_statuses.proofs.WholeTexts.{few_taken, refused_unread, has_read}
use Rattle.rt_check.specs.Answers.{Causes, IsAccepted, IsCause, IsJudged}
use Rattle.rt_check.specs.Inputs.{check_limit}
use Rattle.rt_check.proofs.OneAnswer.{one_answer}

-- ---- bytes have one answer

own_status : (b : List ℕ) (r : Refusal) → Causes b r → IsDue (4 ∷ 9 ∷ []) (status_of r)
own_status b TooLong c = inr (inr (inl refl))
own_status b (BadLine line why) c = inr (inr (inl refl))
own_status b LiveTooSmall c = inr (inr (inr (inr (inr (inl refl)))))
own_status b NoRate c = inr (inr (inr (inr (inr (inl refl)))))
own_status b (BadOrder n) c = inr (inr (inr (inr (inr (inr (inl refl))))))
own_status b _ c = absurd c.2

not_accepted : (b : List ℕ) (r : Refusal) → Causes b r → IsAccepted b → ⊥
not_accepted b r c fine = let same = one_answer b (Some r) None c fine in cc

pub are_apart : AreApart AreNone AreNone check_limit Causes IsAccepted (4 ∷ 9 ∷ [])
are_apart = record {
  asked = λ words none. none;
  one = λ b r q c d. ap status_of (same_Some r q (one_answer b (Some r) (Some q) c d));
  not_fine = not_accepted;
  due = own_status;
}

-- ---- bytes that were read, or were not

pub refused_by_source : (source : Sides) (r : Refusal) → IsReadRefusal check_limit source r
    → IsCause [] source r
refused_by_source source r c =
    refused_unread AreNone AreNone check_limit Causes [] refl refl source r c

module _ (source : Sides) (bytes : List ℕ) (whole : IsReadWhole check_limit source bytes)
    (still : IsUnfailed source) where
  caused : (r : Refusal) → Causes bytes r → IsCause [] source r
  caused Usage c = absurd c.2
  caused ReadFault c = absurd c.2
  caused OutOfMemory c = absurd c.2
  caused TooLong c = inr (refl, has_read source bytes whole still (λ text. Causes text TooLong) c)
  caused r c = (refl, has_read source bytes whole still (λ text. Causes text r) c)

  pub judged_cause : (r : Refusal) → IsJudged bytes (Some r) → IsCause [] source r
  judged_cause r (inl p) = caused r p
  judged_cause r (inr q) =
      subst (IsCause [] source) (sym (same_Some r OutOfMemory q))
      (refl, (few_taken check_limit source bytes whole, still))

  pub judged_fine : IsJudged bytes None → HasRead check_limit IsAccepted source
  judged_fine (inl p) = has_read source bytes whole still IsAccepted p
  judged_fine (inr q) = absurd cc
