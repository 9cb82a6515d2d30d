-- No text has two answers, and what a text that was read says of its source.
use Rattle.std.proofs.Common.{◌≡◌, ℕ, ◌⊎◌, inl, inr, List, [], ◌∷◌, refl, sym, ◌∙◌, subst, arith}
use Rattle.exit_statuses.specs.declared.refusal.Refusal.{Refusal}
use Rattle.exit_statuses.specs.declared.refusal.Refusal.TheVariants as refusals
use Rattle.exit_statuses.specs.declared.refusal.Refusal.TheVariants.{BadLine, TooManyThreads, TooManySays, LiveTooSmall, NoRate}
use Rattle.exit_statuses.specs.Exits.{IsDue}
use Rattle.exit_statuses.specs.Refusals.{AreNone, status_of, refusal_of, IsReadWhole, IsReadRefusal, HasRead}
use Rattle.exit_statuses.specs.Sides.{Sides, IsUnfailed}
use Rattle.exit_statuses.proofs.ExitStatuses.{AreApart}
use Rattle.exit_statuses.proofs.WholeTexts.{few_taken, refused_unread, has_read}
use Rattle.rate_plan.specs.Rates.{IsAdmitted}
use Rattle.trace_text.specs.declared.trace_faults.TraceFault.{TraceFault}
use Rattle.trace_text.specs.declared.trace_faults.TraceFault.TheVariants as faults
use Rattle.trace_text.specs.declared.trace_faults.Why.{Why}
use Rattle.trace_text.specs.Jobs.{Job, IsJob, input_limit}
use Rattle.trace_text.specs.Refusals.{IsFirstBadLine}
use Rattle.trace_text.specs.Wholes.{IsLineFault}
use Rattle.trace_text.proofs.OneJob.{one_job}
use Rattle.trace_text.proofs.WholeLaws.{apart}
use Rattle.rt_mail.specs.Says.{IsWithin}
use Rattle.rt_mail.specs.RefusedTexts.{IsRefusedJob, Causes, IsFine, IsReadAs, IsCause}

-- a job is refused by the limits of a post, or it is within them and has no rate
abbrev Verdict : Job → Refusal → Type 0
Verdict job r =
    ((status_of r ≡ 3) × (IsWithin job → ⊥))
    ⊎ ((status_of r ≡ 4) × IsWithin job × (IsAdmitted job.config → ⊥))

verdict : (job : Job) (r : Refusal) → IsRefusedJob job r → Verdict job r
verdict job TooManyThreads many = inl (refl, λ within. omega (arith, many, within.0))
verdict job TooManySays many = inl (
  refl,
  λ within.
      let few = within.1 many.1.0 many.1.1 in
      let more = many.1.2 in
      omega (arith, few, more),
)
verdict job LiveTooSmall c = inr (refl, c.0, λ admitted. omega (arith, admitted.opens, c.1))
verdict job NoRate c = inr (refl, c.0, λ admitted. omega (arith, admitted.room, c.1.1))
verdict job _ c = absurd c

-- what a text that is refused is: it has a bad line, or it is a job that is refused
abbrev Finding : List ℕ → Refusal → Type 0
Finding b r =
    ((status_of r ≡ 3) × ((line : ℕ) × (why : Why) × IsFirstBadLine b line why))
    ⊎ ((job : Job) × IsJob b job × Verdict job r)

finding : (b : List ℕ) (r : Refusal) → Causes b r → Finding b r
finding b (BadLine line why) c = inl (refl, (line, why, c))
finding b r c = inr (c.0, c.1, verdict c.0 r c.2)

agree : (j k : Job) (r q : Refusal) → j ≡ k → Verdict j r → Verdict k q
    → status_of r ≡ status_of q
agree j k r q same (inl x) (inl y) = x.0 ∙ sym y.0
agree j k r q same (inr x) (inr y) = x.0 ∙ sym y.0
agree j k r q same (inl x) (inr y) = absurd (x.1 (subst IsWithin (sym same) y.1))
agree j k r q same (inr x) (inl y) = absurd (y.1 (subst IsWithin same x.1))

both : (b : List ℕ) (r q : Refusal) → Finding b r → Finding b q → status_of r ≡ status_of q
both b r q (inl x) (inl y) = x.0 ∙ sym y.0
both b r q (inr x) (inr y) = agree x.0 y.0 r q (one_job b x.0 y.0 x.1 y.1) x.2 y.2
both b r q (inl x) (inr y) = absurd (apart b y.0 x.1.0 x.1.1 y.1 x.1.2)
both b r q (inr x) (inl y) = absurd (apart b x.0 y.1.0 y.1.1 x.1 y.1.2)

never_fine : (j k : Job) (r : Refusal) → j ≡ k → Verdict j r
    → IsWithin k × IsAdmitted k.config → ⊥
never_fine j k r same (inl x) fine = x.1 (subst IsWithin (sym same) fine.0)
never_fine j k r same (inr x) fine =
    x.2 (subst (λ (job : Job). IsAdmitted job.config) (sym same) fine.1)

found_fine : (b : List ℕ) (r : Refusal) → Finding b r → IsFine b → ⊥
found_fine b r (inl x) fine = apart b fine.0 x.1.0 x.1.1 fine.1 x.1.2
found_fine b r (inr x) fine =
    never_fine x.0 fine.0 r (one_job b x.0 fine.0 x.1 fine.1) x.2 fine.2

own_status : (b : List ℕ) (r : Refusal) → Finding b r → IsDue (4 ∷ []) (status_of r)
own_status b r (inl x) = inr (inr (inl x.0))
own_status b r (inr (job, is, inl x)) = inr (inr (inl x.0))
own_status b r (inr (job, is, inr x)) = inr (inr (inr (inr (inr (inl x.0)))))

pub are_apart : AreApart AreNone AreNone input_limit Causes IsFine (4 ∷ [])
are_apart = record {
  asked = λ words none. none;
  one = λ b r q c d. both b r q (finding b r c) (finding b q d);
  not_fine = λ b r c fine. found_fine b r (finding b r c) fine;
  due = λ b r c. own_status b r (finding b r c);
}

-- ---- what was read

module _ (source : Sides) (text : List ℕ) (whole : IsReadWhole input_limit source text)
    (still : IsUnfailed source) where
  -- the refusal of a text that is no job has its cause
  pub refused_by_text : (fault : TraceFault) → IsLineFault (IsFirstBadLine text) fault
      → IsCause [] source (refusal_of fault)
  refused_by_text (faults.BadLine line why) bad =
      (refl, has_read source text whole still (λ b. IsFirstBadLine b line why) bad)
  refused_by_text faults.OutOfMemory bad =
      (refl, (few_taken input_limit source text whole, still))
  refused_by_text _ bad = absurd bad

  -- and so has that of a job
  pub refused_by_job : (job : Job) (r : Refusal) → IsJob text job → IsRefusedJob job r
      → IsCause [] source r
  refused_by_job job TooManyThreads is c =
      (refl, has_read source text whole still (λ b. Causes b TooManyThreads) (job, is, c))
  refused_by_job job TooManySays is c =
      (refl, has_read source text whole still (λ b. Causes b TooManySays) (job, is, c))
  refused_by_job job LiveTooSmall is c =
      (refl, has_read source text whole still (λ b. Causes b LiveTooSmall) (job, is, c))
  refused_by_job job NoRate is c = (refl, has_read source text whole still (λ b. Causes b NoRate) (job, is, c))
  refused_by_job job _ is c = absurd c

-- a text that was not read is refused by its cause
pub refused_by_source : (source : Sides) (r : Refusal) → IsReadRefusal input_limit source r
    → IsCause [] source r
refused_by_source source r c =
    refused_unread AreNone AreNone input_limit Causes [] refl refl source r c

-- want of memory after a job was read has its cause
pub without_memory : (source : Sides) (job : Job) → IsReadAs source job
    → IsCause [] source refusals.OutOfMemory
without_memory source job read =
    (refl, (few_taken input_limit source read.text read.whole, read.unfailed))

-- a job that can be served was read
pub fine_read : (source : Sides) (job : Job) → IsReadAs source job
    → IsWithin job × IsAdmitted job.config → HasRead input_limit IsFine source
fine_read source job read served =
    has_read source read.text read.whole read.unfailed IsFine (job, read.holds, served)
