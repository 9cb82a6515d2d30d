-- Bytes have one answer at most.
use Rattle.std.proofs.Common.{◌≡◌, ℕ, ◌≤◌, inl, inr, List, [], length, Option, Some, None, sym, refl, ap, ◌∙◌, subst, arith}
use Rattle.rate_plan.specs.Rates.{IsAdmitted}
use Rattle.rate_plan.proofs.Rates.{one_rate}
use Rattle.trace_text.specs.declared.trace_faults.Why.{Why}
use Rattle.trace_text.specs.Jobs.{Job}
use Rattle.trace_text.specs.Lines.{lines_of}
use Rattle.trace_text.proofs.OneJob.{one_job}
use Rattle.trace_text.proofs.WholeLaws.{apart, one_first}
use Rattle.exit_statuses.specs.declared.refusal.Refusal.{Refusal}
use Rattle.exit_statuses.specs.declared.refusal.Refusal.TheVariants.{BadLine, TooLong, LiveTooSmall, NoRate, BadOrder}
use Rattle.rt_check.specs.Answers.{IsAnswerOf, IsAnswerTo}
use Rattle.rt_check.specs.Good.{AreGood, FirstBad}
use Rattle.rt_check.specs.Inputs.{job_part, order_part, IsTooLong, IsShort, HasBadLine, HasJob, IsOrderOf, IsBadAt}
use Rattle.rt_check.proofs.Goodness.{law}
use Rattle.rt_check.proofs.ItemOfLine as telling

-- ---- of one job

module _ (bytes : List ℕ) (job : Job) (few : length job.traces ≤ 16) where
  are_good : (o : IsOrderOf bytes job)
      → AreGood job.config o.rate job.traces [] (lines_of (order_part bytes))
  are_good o = (law job.config o.rate job.traces (lines_of (order_part bytes))).1
      (o.history, o.is_run, o.lines)

  order_not_bad : (n : ℕ) → IsOrderOf bytes job → IsBadAt bytes job n → ⊥
  order_not_bad n o b =
      let same = one_rate job.config b.rate o.rate b.is_rate o.is_rate in
      telling.apart job.config o.rate job.traces few [] (lines_of (order_part bytes)) n (are_good o)
      (subst (λ (r : ℕ). FirstBad job.config r job.traces []
      (lines_of (order_part bytes)) n) same b.first_bad)

  bad_once : (m n : ℕ) → IsBadAt bytes job m → IsBadAt bytes job n → m ≡ n
  bad_once m n a b =
      let same = one_rate job.config b.rate a.rate b.is_rate a.is_rate in
      telling.first job.config a.rate job.traces few []
      (lines_of (order_part bytes)) m n a.first_bad
      (subst (λ (r : ℕ). FirstBad job.config r job.traces []
      (lines_of (order_part bytes)) n) same b.first_bad)

  not_small : IsAdmitted job.config → IsAnswerOf bytes job (Some LiveTooSmall) → ⊥
  not_small a r = let o = a.opens in omega arith

  not_rateless : IsAdmitted job.config → IsAnswerOf bytes job (Some NoRate) → ⊥
  not_rateless a r = let o = a.room in omega (arith, r.1)

  same_none : (b : Option Refusal) → IsOrderOf bytes job → IsAnswerOf bytes job b → None ≡ b
  same_none None o p = refl
  same_none (Some LiveTooSmall) o p = absurd (not_small o.admitted p)
  same_none (Some NoRate) o p = absurd (not_rateless o.admitted p)
  same_none (Some (BadOrder n)) o p = absurd (order_not_bad n o p)
  same_none (Some _) o p = absurd p

  same_small : (b : Option Refusal) → IsAnswerOf bytes job (Some LiveTooSmall)
      → IsAnswerOf bytes job b → Some LiveTooSmall ≡ b
  same_small None a p = absurd (not_small p.admitted a)
  same_small (Some LiveTooSmall) a p = refl
  same_small (Some NoRate) a p = absurd (let q = p.0 in omega arith)
  same_small (Some (BadOrder n)) a p = absurd (not_small p.admitted a)
  same_small (Some _) a p = absurd p

  same_rateless : (b : Option Refusal) → IsAnswerOf bytes job (Some NoRate)
      → IsAnswerOf bytes job b → Some NoRate ≡ b
  same_rateless None a p = absurd (not_rateless p.admitted a)
  same_rateless (Some LiveTooSmall) a p = absurd (let q = a.0 in omega arith)
  same_rateless (Some NoRate) a p = refl
  same_rateless (Some (BadOrder n)) a p = absurd (not_rateless p.admitted a)
  same_rateless (Some _) a p = absurd p

  same_bad : (m : ℕ) (b : Option Refusal) → IsBadAt bytes job m → IsAnswerOf bytes job b
      → Some (BadOrder m) ≡ b
  same_bad m None a p = absurd (order_not_bad m p a)
  same_bad m (Some LiveTooSmall) a p = absurd (not_small a.admitted p)
  same_bad m (Some NoRate) a p = absurd (not_rateless a.admitted p)
  same_bad m (Some (BadOrder n)) a p = ap (λ (k : ℕ). Some (BadOrder k)) (bad_once m n a p)
  same_bad m (Some _) a p = absurd p

  same_of : (a b : Option Refusal) → IsAnswerOf bytes job a → IsAnswerOf bytes job b → a ≡ b
  same_of None b p q = same_none b p q
  same_of (Some LiveTooSmall) b p q = same_small b p q
  same_of (Some NoRate) b p q = same_rateless b p q
  same_of (Some (BadOrder n)) b p q = same_bad n b p q
  same_of (Some _) b p q = absurd p

-- ---- of any bytes

pub long_or_short : (bytes : List ℕ) → IsTooLong bytes → IsShort bytes → ⊥
long_or_short bytes (inl l) s = let h = s.whole in omega arith
long_or_short bytes (inr l) s = let h = s.job in omega arith

abbrev OfJob : List ℕ → Option Refusal → Type 0
OfJob bytes a = (job : Job) × HasJob bytes job × IsAnswerOf bytes job a

-- too long, a bad line, or the answer of a job
data Kind (bytes : List ℕ) (a : Option Refusal) : Type 0 where
  Long : (IsTooLong bytes) → (a ≡ Some TooLong) → Kind bytes a
  Wrong : (line : ℕ) (why : Why) → HasBadLine bytes line why → (a ≡ Some (BadLine line why))
      → Kind bytes a
  Judged : OfJob bytes a → Kind bytes a

kind_of : (bytes : List ℕ) (a : Option Refusal) → IsAnswerTo bytes a → Kind bytes a
kind_of bytes None p = Judged p
kind_of bytes (Some TooLong) p = Long p refl
kind_of bytes (Some (BadLine line why)) p = Wrong line why p refl
kind_of bytes (Some _) p = Judged p

threads_few : (bytes : List ℕ) (job : Job) → HasJob bytes job → length job.traces ≤ 16
threads_few bytes job h = let l = h.is_job.in_bounds.threads in
    let b = h.is_job.in_bounds.config in omega arith

of_one_job : (bytes : List ℕ) (a b : Option Refusal) → OfJob bytes a → OfJob bytes b → a ≡ b
of_one_job bytes a b p q =
    let same : q.0 ≡ p.0 = one_job (job_part bytes) q.0 p.0 q.1.is_job p.1.is_job in
    same_of bytes p.0 (threads_few bytes p.0 p.1) a b p.2
    (subst (λ (j : Job). IsAnswerOf bytes j b) same q.2)

same_kind : (bytes : List ℕ) (a b : Option Refusal) → Kind bytes a → Kind bytes b → a ≡ b
same_kind bytes a b (Long l e) (Long m f) = e ∙ sym f
same_kind bytes a b (Long l e) (Wrong line why h f) = absurd (long_or_short bytes l h.short)
same_kind bytes a b (Long l e) (Judged j) = absurd (long_or_short bytes l j.1.short)
same_kind bytes a b (Wrong line why h e) (Long l f) = absurd (long_or_short bytes l h.short)
same_kind bytes a b (Wrong line why h e) (Wrong other reason k f) =
    let one = one_first (job_part bytes) line other why reason h.first k.first in
    e ∙ (λ i. Some (BadLine (one.0 i) (one.1 i))) ∙ sym f
same_kind bytes a b (Wrong line why h e) (Judged j) =
    absurd (apart (job_part bytes) j.0 line why j.1.is_job h.first)
same_kind bytes a b (Judged j) (Long l f) = absurd (long_or_short bytes l j.1.short)
same_kind bytes a b (Judged j) (Wrong line why h f) =
    absurd (apart (job_part bytes) j.0 line why j.1.is_job h.first)
same_kind bytes a b (Judged j) (Judged k) = of_one_job bytes a b j k

pub one_answer : (bytes : List ℕ) (a b : Option Refusal) → IsAnswerTo bytes a → IsAnswerTo bytes b
    → a ≡ b
one_answer bytes a b p q = same_kind bytes a b (kind_of bytes a p) (kind_of bytes b q)
