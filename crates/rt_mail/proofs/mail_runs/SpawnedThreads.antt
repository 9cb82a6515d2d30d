-- What threads that were spawned give.
use Rattle.std.proofs.Common.{ℕ, suc, ◌+◌, ◌≡◌, List, [], ◌∷◌, ◌++◌, length, refl, sym, ap, ◌∙◌, subst, zero-add, length-append}
use Rattle.rt_mail.specs.declared.mail_runs.mail_board.MailBoard.{MailBoard}
use Rattle.rt_mail.specs.declared.mail_runs.mail_thread.MailThread.{MailThread}
use Rattle.rt_mail.specs.declared.mail_runs.spawned.Spawned.{Spawned}
use Rattle.rt_mail.specs.declared.mail_runs.spawned.Spawned.TheVariants.{Running, Ended}
use Rattle.rt_mail.specs.mail_runs.MailThreads.{Each, IsMailThread, HasSentAll}
use Rattle.rt_mail.specs.mail_runs.Spawned.{IsSpawned, Gives, AllGive}
use Rattle.rt_mail.proofs.mail_runs.EachInOrder.{each_pushed}

pub gives_more : (bs : List Spawned) (rs : List MailThread) (b : Spawned) (r : MailThread) → AllGive bs rs
    → Gives b r → AllGive (bs ++ b ∷ []) (rs ++ r ∷ [])
gives_more [] [] b r all one = (one, tt)
gives_more [] (x ∷ rs) b r all one = absurd all
gives_more (y ∷ bs) [] b r all one = absurd all
gives_more (y ∷ bs) (x ∷ rs) b r all one = (all.0, gives_more bs rs b r all.1 one)

gives_own : (o : MailBoard) (t : ℕ) (b : Spawned) (r : MailThread) → IsSpawned o t b → Gives b r
    → HasSentAll o t r
gives_own o t (Running h) r is gives =
    subst (λ k. HasSentAll o k r) is.1
    (subst (λ p. HasSentAll p h.promise.thread r) is.0 gives)
gives_own o t (Ended s) r is gives = subst (HasSentAll o t) (sym gives) is

pub all_spoken : (o : MailBoard) (t : ℕ) (bs : List Spawned) (rs : List MailThread)
    → Each (IsSpawned o) t bs → AllGive bs rs
    → Each (HasSentAll o) t rs × (length rs ≡ length bs)
all_spoken o t [] [] are all = (tt, refl)
all_spoken o t [] (r ∷ rs) are all = absurd all
all_spoken o t (b ∷ bs) [] are all = absurd all
all_spoken o t (b ∷ bs) (r ∷ rs) are all =
    let rest = all_spoken o (t + 1) bs rs are.1 all.1 in
    ((gives_own o t b r are.0 all.0, rest.0), ap suc rest.1)

-- one more was spawned
pub begun_more : (o : MailBoard) (spawned pushed : List Spawned) (who : MailThread)
    (left rest : List MailThread) (b : Spawned) → Each (IsSpawned o) 0 spawned
    → Each (IsMailThread o) (length spawned) left → left ≡ who ∷ rest
    → IsSpawned o who.mutator.local.thread b → pushed ≡ spawned ++ b ∷ []
    → Each (IsSpawned o) 0 pushed × Each (IsMailThread o) (length pushed) rest
begun_more o spawned pushed who left rest b all ready is one are =
    let next : Each (IsMailThread o) (length spawned) (who ∷ rest) =
    subst (Each (IsMailThread o) (length spawned)) is ready in
    let own : IsSpawned o (0 + length spawned) b =
    subst (λ k. IsSpawned o k b) (next.0.thread ∙ sym (zero-add (length spawned))) one in
    let long : length spawned + 1 ≡ length pushed =
    sym (length-append spawned (b ∷ [])) ∙ sym (ap length are) in (
      subst (Each (IsSpawned o) 0) (sym are) (each_pushed (IsSpawned o) 0 spawned b all own),
      subst (λ k. Each (IsMailThread o) k rest) long next.1,
    )
