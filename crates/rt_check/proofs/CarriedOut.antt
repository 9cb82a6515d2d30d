-- A call that accepted an order, or was refused, did what it is to do.
use Rattle.std.proofs.Common.{◌≡◌, ◌≢◌, ℕ, List, [], ◌∷◌, codes, sym, ◌∙◌}
use Rattle.exit_statuses.specs.declared.refusal.Refusal.{Refusal}
use Rattle.exit_statuses.specs.Exits.{IsWritten, IsToldBy}
use Rattle.exit_statuses.specs.Refusals.{AreNone, status_of, refusal_line, HasRead}
use Rattle.exit_statuses.specs.Sides.{Sides}
use Rattle.exit_statuses.proofs.ExitStatuses.{never_done, done_is_ended, refusal_is_ended}
use Rattle.trace_text.specs.Streams.{Appends, AppendsPrefix}
use Rattle.rt_check.specs.declared.top.CheckExit.{CheckExit}
use Rattle.rt_check.specs.Answers.{Causes, IsAccepted, IsCause, IsCarriedOut, exit_of, ok_line}
use Rattle.rt_check.specs.Inputs.{check_limit}
use Rattle.rt_check.proofs.Causes.{are_apart}

module _ (words : List (List ℕ)) (source sink : Sides) (x : CheckExit)
    (told : IsToldBy sink x.status x.due) where
  pub accepted_is_carried_out : words ≡ [] → HasRead check_limit IsAccepted source → x.due ≡ 0
      → IsWritten sink x.status ok_line → IsCarriedOut words source sink x
  accepted_is_carried_out none read due text = record {
    ended = done_is_ended AreNone AreNone check_limit Causes IsAccepted (4 ∷ 9 ∷ []) are_apart
        (codes "rt_check") (exit_of words source sink x) told none due read.unfailed (λ _. read);
    accepted = λ _. text;
  }

  pub refusal_is_carried_out : (r : Refusal) → x.due ≡ status_of r → IsCause words source r
      → (x.status ≢ 6 → Appends sink.bytes sink.bytes_now (refusal_line (codes "rt_check") r))
      → (x.status ≡ 6 → AppendsPrefix sink.bytes sink.bytes_now (refusal_line (codes "rt_check") r))
      → IsCarriedOut words source sink x
  refusal_is_carried_out r due cause line prefix = record {
    ended = refusal_is_ended AreNone AreNone check_limit Causes IsAccepted (4 ∷ 9 ∷ []) are_apart
        (codes "rt_check") (exit_of words source sink x) told r due line prefix cause;
    accepted = λ zero. absurd (never_done r (sym due ∙ zero));
  }
