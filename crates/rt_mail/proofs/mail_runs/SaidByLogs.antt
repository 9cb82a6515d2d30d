-- What a log says when it grows.
use Rattle.std.proofs.Common.{ℕ, ◌≡◌, ◌≤◌, List, [], ◌∷◌, ◌++◌, length, drop, take, arith, refl, sym, ap, ◌∙◌, Option, Some, None, length-append, append_assoc, length-drop, ◌-◌, subst}
use Rattle.std.proofs.Math.Seq.{take-length}
use Rattle.never_heap.specs.declared.Entry.{Entry}
use Rattle.atom_board.specs.Mutators.{IsLater}
use Rattle.rt_mail.specs.said_numbers.Said.{number_said, numbers_said, with_number}
use Rattle.rt_mail.specs.declared.mail_runs.mail_board.MailBoard.{MailBoard}
use Rattle.rt_mail.specs.declared.mail_runs.mail_thread.MailThread.{MailThread}
use Rattle.rt_mail.specs.mail_runs.MailThreads.{IsMailThread}

with_append : (o : Option ℕ) (vs ws : List ℕ) → with_number o vs ++ ws ≡ with_number o (vs ++ ws)
with_append None vs ws = refl
with_append (Some v) vs ws = refl

pub said_append : (xs ys : List Entry)
    → numbers_said (xs ++ ys) ≡ numbers_said xs ++ numbers_said ys
said_append [] ys = refl
said_append (e ∷ es) ys =
    ap (with_number (number_said e)) (said_append es ys)
    ∙ sym (with_append (number_said e) (numbers_said es) (numbers_said ys))

drop_front : {A : Type 0} (xs ys : List A) → drop (length xs) (xs ++ ys) ≡ ys
drop_front [] ys = refl
drop_front (x ∷ xs) ys = drop_front xs ys

-- one entry more was told
pub told_more : (sent new whole : List ℕ) (e : Entry) (es rest : List Entry)
    → new ≡ sent ++ numbers_said (e ∷ []) → es ≡ e ∷ rest → sent ++ numbers_said es ≡ whole
    → new ++ numbers_said rest ≡ whole
told_more sent new whole e es rest is left so_far =
    ap (λ xs. xs ++ numbers_said rest) is
    ∙ append_assoc sent (numbers_said (e ∷ [])) (numbers_said rest)
    ∙ ap (λ xs. sent ++ xs) (sym (said_append (e ∷ []) rest))
    ∙ ap (λ (xs : List Entry). sent ++ numbers_said xs) (sym left)
    ∙ so_far

-- what was told of a log, which is read again, is its end
pub grown : (new sent : List ℕ) (told read old log : List Entry)
    → new ≡ sent ++ numbers_said (take (length read - length told) (drop (length told) read))
    → told ≡ old → read ≡ log → new ≡ sent ++ numbers_said (drop (length old) log)
grown new sent told read old log is first then =
    is
    ∙ ap (λ k. sent ++ numbers_said (take k (drop (length told) read)))
    (sym (length-drop (length told) read))
    ∙ ap (λ xs. sent ++ numbers_said xs) (take-length (drop (length told) read))
    ∙ ap (λ (xs : List Entry). sent ++ numbers_said (drop (length xs) read)) first
    ∙ ap (λ (xs : List Entry). sent ++ numbers_said (drop (length old) xs)) then

-- a mail thread that has told by what its log has grown
pub speaks_on : (o : MailBoard) (old new : MailThread) → IsMailThread o old.mutator.local.thread old
    → IsLater old.mutator new.mutator → new.sender.post ≡ old.sender.post
    → new.sender.thread ≡ old.sender.thread
    → new.sender.sent ≡ old.sender.sent
    ++ numbers_said (drop (length old.mutator.local.log) new.mutator.local.log)
    → IsMailThread o old.mutator.local.thread new
speaks_on o old new is later post number sent = record {
  board = later.board ∙ is.board;
  thread = later.thread;
  post = post ∙ is.post;
  number = number ∙ is.number;
  sent = sent
      ∙ ap (λ xs. old.sender.sent ++ numbers_said (drop (length old.mutator.local.log) xs)) later.log
      ∙ ap (λ xs. old.sender.sent ++ numbers_said xs) (drop_front old.mutator.local.log later.more)
      ∙ ap (λ xs. xs ++ numbers_said later.more) is.sent
      ∙ sym (said_append old.mutator.local.log later.more)
      ∙ ap numbers_said (sym later.log);
}

-- a log does not get shorter
pub no_shorter : (o : MailBoard) (old new : MailThread) → IsLater old.mutator new.mutator
    → length old.mutator.local.log ≤ length new.mutator.local.log
no_shorter o old new later =
    omega (arith, ap length later.log, length-append old.mutator.local.log later.more)

-- the number of a mail thread is that of its thread
pub own_number : (o : MailBoard) (t : ℕ) (s : MailThread) → IsMailThread o t s
    → IsMailThread o s.mutator.local.thread s
own_number o t s is = subst (λ k. IsMailThread o k s) (sym is.thread) is

pub same_number : (o : MailBoard) (t u : ℕ) (s : MailThread) → u ≡ t → IsMailThread o u s → IsMailThread o t s
same_number o t u s same is = subst (λ k. IsMailThread o k s) same is
