-- A call whose mail came, or that was refused, did what it is to do.
use Rattle.std.proofs.Common.{◌≡◌, ◌≢◌, ℕ, List, [], ◌∷◌, Option, Some, None, IfSome, codes, subst}
use Rattle.array_scripts.proofs.CarriedOut.{there, absent, of_none}
use Rattle.atom_board.specs.Mutators.{ClosedState}
use Rattle.exit_statuses.specs.declared.refusal.Refusal.{Refusal}
use Rattle.exit_statuses.specs.Exits.{IsWritten, IsToldBy}
use Rattle.exit_statuses.specs.Refusals.{AreNone, status_of, refusal_line}
use Rattle.exit_statuses.specs.Sides.{Sides}
use Rattle.exit_statuses.proofs.ExitStatuses.{done_is_ended, refusal_is_ended}
use Rattle.rt_mail.specs.mail_post.PostStates.{TakenState}
use Rattle.trace_text.specs.Jobs.{input_limit}
use Rattle.trace_text.specs.Streams.{Appends, AppendsPrefix}
use Rattle.rt_mail.specs.declared.exit.MailExit.{MailExit}
use Rattle.rt_mail.specs.MailCalls.{HasMail, Headline, IsCarriedOut, exit_of}
use Rattle.rt_mail.specs.Recalled.{recalled_in}
use Rattle.rt_mail.specs.Tellings.{lines_from}
use Rattle.rt_mail.specs.RefusedTexts.{Causes, IsFine, IsCause}
use Rattle.rt_mail.proofs.Apart.{are_apart, fine_read}

-- what holds of all three that are there
of_three : {A B C : Type 0} (P : A → B → C → Type 0) (o : Option A) (p : Option B) (q : Option C)
    (a : A) (b : B) (c : C) → o ≡ Some a → p ≡ Some b → q ≡ Some c → P a b c
    → IfSome o (λ x. IfSome p (λ y. IfSome q (λ z. P x y z)))
of_three P o p q a b c is_a is_b is_c h = rw (is_a, is_b, is_c) h

module _ (words : List (List ℕ)) (source sink : Sides) (x : MailExit)
    (told : IsToldBy sink x.status x.due) where
  -- the mail came
  pub mail_is_carried_out : (first : ClosedState) (taken : TakenState) (second : ClosedState)
      (last : List (List ℕ)) → words ≡ [] → HasMail source first taken.taken second
      → last ≡ recalled_in taken.taken second.logs
      → x.due ≡ 0 → x.first ≡ Some first → x.taken ≡ Some taken → x.second ≡ Some second
      → IsWritten sink x.status (lines_from 0 taken.taken last) → IsCarriedOut words source sink x
  mail_is_carried_out first taken second last none mail told_last due is_first is_taken is_second
      text =
      let headline : Headline source sink x.status first taken second = record {
        mail = mail;
        text = subst (λ (l : List (List ℕ)). IsWritten sink x.status (lines_from 0 taken.taken l))
            told_last text;
      } in
      record {
        first = there x.first first x.due is_first due;
        taken = there x.taken taken x.due is_taken due;
        second = there x.second second x.due is_second due;
        headline = of_three (Headline source sink x.status) x.first x.taken x.second first taken
            second is_first is_taken is_second headline;
        ended = done_is_ended AreNone AreNone input_limit Causes IsFine (4 ∷ []) are_apart
            (codes "rt_mail") (exit_of words source sink x) told none due
            mail.said.read.unfailed
            (λ _. fine_read source _ mail.said.read (mail.said.within, mail.said.admitted));
      }

  -- the call was refused
  pub refusal_is_carried_out : (r : Refusal) → x.due ≡ status_of r → x.first ≡ None
      → x.taken ≡ None → x.second ≡ None → IsCause words source r
      → (x.status ≢ 6 → Appends sink.bytes sink.bytes_now (refusal_line (codes "rt_mail") r))
      → (x.status ≡ 6 → AppendsPrefix sink.bytes sink.bytes_now (refusal_line (codes "rt_mail") r))
      → IsCarriedOut words source sink x
  refusal_is_carried_out r due no_first no_taken no_second cause line prefix = record {
    first = absent x.first r x.due no_first due;
    taken = absent x.taken r x.due no_taken due;
    second = absent x.second r x.due no_second due;
    headline = of_none x.first _ no_first;
    ended = refusal_is_ended AreNone AreNone input_limit Causes IsFine (4 ∷ []) are_apart
        (codes "rt_mail") (exit_of words source sink x) told r due line prefix cause;
  }
