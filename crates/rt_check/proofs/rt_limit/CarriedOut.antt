-- A call that told the needs of a job, or was refused, did what it is to do.
use Rattle.std.proofs.Common.{◌≡◌, ◌≢◌, ℕ, List, [], ◌∷◌, codes, sym, ◌∙◌}
use Rattle.exit_statuses.specs.declared.refusal.Refusal.{Refusal}
use Rattle.exit_statuses.specs.Exits.{IsWritten, IsToldBy}
use Rattle.exit_statuses.specs.Refusals.{AreNone, status_of, refusal_line, HasRead}
use Rattle.exit_statuses.specs.Sides.{Sides}
use Rattle.exit_statuses.proofs.ExitStatuses.{never_done, done_is_ended, refusal_is_ended}
use Rattle.trace_text.specs.Streams.{Appends, AppendsPrefix}
use Rattle.rt_check.specs.Inputs.{check_limit}
use Rattle.rt_check.specs.declared.rt_limit.top.LimitExit.{LimitExit}
use Rattle.rt_check.specs.rt_limit.Answers.{HasNeeds, Causes, IsFine, IsCause, IsCarriedOut, exit_of}
use Rattle.rt_check.proofs.rt_limit.AnswerLaws.{are_apart}

module _ (words : List (List ℕ)) (source sink : Sides) (x : LimitExit)
    (told : IsToldBy sink x.status x.due) where
  pub needs_are_carried_out : (text : List ℕ) → words ≡ []
      → HasRead check_limit (λ b. HasNeeds b text) source → x.due ≡ 0
      → IsWritten sink x.status text → IsCarriedOut words source sink x
  needs_are_carried_out text none read due written =
      let fine : HasRead check_limit IsFine source = record {
        text = read.text;
        whole = read.whole;
        holds = (text, read.holds);
        unfailed = read.unfailed;
      } in
      record {
        ended = done_is_ended AreNone AreNone check_limit Causes IsFine (9 ∷ []) are_apart
            (codes "rt_limit") (exit_of words source sink x) told none due read.unfailed (λ _. fine);
        told = λ _. record { text = text; read = read; written = written };
      }

  pub refusal_is_carried_out : (r : Refusal) → x.due ≡ status_of r → IsCause words source r
      → (x.status ≢ 6 → Appends sink.bytes sink.bytes_now (refusal_line (codes "rt_limit") r))
      → (x.status ≡ 6 → AppendsPrefix sink.bytes sink.bytes_now (refusal_line (codes "rt_limit") r))
      → IsCarriedOut words source sink x
  refusal_is_carried_out r due cause line prefix = record {
    ended = refusal_is_ended AreNone AreNone check_limit Causes IsFine (9 ∷ []) are_apart
        (codes "rt_limit") (exit_of words source sink x) told r due line prefix cause;
    told = λ zero. absurd (never_done r (sym due ∙ zero));
  }
