-- What was read causes the answer, and bytes have one status.
use Rattle.std.proofs.Common.{◌≡◌, ℕ, inl, inr, Bool, true, false, List, [], ◌∷◌, Result, Ok, Err, sym, refl, subst}
use Rattle.std.specs.Prelude.{IfOk}
use Rattle.exit_statuses.specs.declared.refusal.Refusal.{Refusal}
use Rattle.exit_statuses.specs.declared.refusal.Refusal.TheVariants.{Usage, BadLine, TooLong, ReadFault, OutOfMemory, BadOrder}
use Rattle.exit_statuses.specs.Exits.{IsDue}
use Rattle.exit_statuses.specs.Refusals.{AreNone, status_of, IsReadWhole, IsReadRefusal, HasRead}
use Rattle.exit_statuses.specs.Sides.{Sides, IsUnfailed}
use Rattle.exit_statuses.proofs.ExitStatuses.{AreApart}
use Rattle.exit_statuses.proofs.WholeTexts.{few_taken, refused_unread, has_read}
use Rattle.trace_text.specs.declared.trace_faults.Why.{Why}
use Rattle.trace_text.specs.Jobs.{Job, IsJobInBounds}
use Rattle.trace_text.specs.Lines.{lines_of}
use Rattle.trace_text.proofs.OneJob.{one_job}
use Rattle.trace_text.proofs.WholeLaws.{apart}
use Rattle.rt_check.specs.Inputs.{check_limit, job_part, order_part, HasBadLine, HasJob}
use Rattle.rt_check.proofs.OneAnswer.{long_or_short}
use Rattle.rt_check.proofs.OneTaken.{apart_taken}
use Rattle.rt_check.specs.rt_limit.Answers.{IsOrder, AreNeeds, IsLeftOrder, HasNeeds, Causes, IsFine, HasNoText, IsCause}

pub ok_map : {X E : Type 0} (P P' : X → Type 0) (r : Result X E) → ((x : X) → P x → P' x)
    → IfOk r P → IfOk r P'
ok_map P P' (Ok x) f m = f x m
ok_map P P' (Err e) f m = m

-- ---- one status

-- the lines of a job's order have figures, or one of them is left
needs_or_left : (job : Job) → IsJobInBounds job → (lines : List (List ℕ)) (text : List ℕ) (n : ℕ)
    → AreNeeds lines job text → IsLeftOrder lines job n → ⊥
needs_or_left job b lines text n needs left = of_order needs.given needs.order
  where
    of_order : (given : Bool) → IsOrder lines job given needs.moves → ⊥
    of_order true order = apart_taken job b [] lines order.1.0 n order.1.1 left.first
    of_order false order = left.some order.0

needed_or_left : (bytes text : List ℕ) (n : ℕ) → HasNeeds bytes text
    → Causes bytes (BadOrder n) → ⊥
needed_or_left bytes text n p q =
    let lines = lines_of (order_part bytes) in
    let same : q.0 ≡ p.0 = one_job (job_part bytes) q.0 p.0 q.1.is_job p.1.is_job in
    needs_or_left p.0 p.1.is_job.in_bounds lines text n p.2
    (subst (λ (j : Job). IsLeftOrder lines j n) same q.2)

no_job : (bytes : List ℕ) (job : Job) (line : ℕ) (why : Why) → HasJob bytes job
    → HasBadLine bytes line why → ⊥
no_job bytes job line why h b = apart (job_part bytes) job line why h.is_job b.first

one_status : (b : List ℕ) (r q : Refusal) → Causes b r → Causes b q → status_of r ≡ status_of q
one_status b TooLong TooLong c d = refl
one_status b TooLong (BadLine line why) c d = refl
one_status b TooLong (BadOrder n) c d = absurd (long_or_short b c d.1.short)
one_status b TooLong _ c d = absurd d
one_status b (BadLine line why) TooLong c d = refl
one_status b (BadLine line why) (BadLine other reason) c d = refl
one_status b (BadLine line why) (BadOrder n) c d = absurd (no_job b d.0 line why d.1 c)
one_status b (BadLine line why) _ c d = absurd d
one_status b (BadOrder n) TooLong c d = absurd (long_or_short b d c.1.short)
one_status b (BadOrder n) (BadLine line why) c d = absurd (no_job b c.0 line why c.1 d)
one_status b (BadOrder n) (BadOrder m) c d = refl
one_status b (BadOrder n) _ c d = absurd d
one_status b _ _ c d = absurd c

not_fine : (b : List ℕ) (r : Refusal) → Causes b r → IsFine b → ⊥
not_fine b TooLong c fine = long_or_short b c fine.1.1.short
not_fine b (BadLine line why) c fine = no_job b fine.1.0 line why fine.1.1 c
not_fine b (BadOrder n) c fine = needed_or_left b fine.0 n fine.1 c
not_fine b _ c fine = absurd c

own_status : (b : List ℕ) (r : Refusal) → Causes b r → IsDue (9 ∷ []) (status_of r)
own_status b TooLong c = inr (inr (inl refl))
own_status b (BadLine line why) c = inr (inr (inl refl))
own_status b (BadOrder n) c = inr (inr (inr (inr (inr (inl refl)))))
own_status b _ c = absurd c

pub are_apart : AreApart AreNone AreNone check_limit Causes IsFine (9 ∷ [])
are_apart = record {
  asked = λ words none. none;
  one = one_status;
  not_fine = not_fine;
  due = own_status;
}

-- ---- bytes that were read, or were not

pub refused_by_source : (source : Sides) (r : Refusal) → IsReadRefusal check_limit source r
    → IsCause [] source r
refused_by_source source r c =
    refused_unread AreNone AreNone check_limit Causes [] refl refl source r c

module _ (source : Sides) (bytes : List ℕ) (whole : IsReadWhole check_limit source bytes)
    (still : IsUnfailed source) where
  caused : (r : Refusal) → Causes bytes r → IsCause [] source r
  caused Usage c = absurd c
  caused ReadFault c = absurd c
  caused OutOfMemory c = absurd c
  caused TooLong c = inr (refl, has_read source bytes whole still (λ text. Causes text TooLong) c)
  caused r c = (refl, has_read source bytes whole still (λ text. Causes text r) c)

  pub judged_cause : (r : Refusal) → HasNoText bytes r → IsCause [] source r
  judged_cause r (inl p) = caused r p
  judged_cause r (inr q) =
      subst (IsCause [] source) (sym q) (refl, (few_taken check_limit source bytes whole, still))

  pub judged_fine : (text : List ℕ) → HasNeeds bytes text
      → HasRead check_limit (λ b. HasNeeds b text) source
  judged_fine text p = has_read source bytes whole still (λ b. HasNeeds b text) p
