-- What a mail thread that was spawned is in the end.
use Rattle.std.specs.Prelude.{ℕ, ◌≡◌, List, [], ◌∷◌, length}
use Rattle.rt_mail.specs.declared.mail_runs.mail_board.MailBoard.{MailBoard}
use Rattle.rt_mail.specs.declared.mail_runs.mail_thread.MailThread.{MailThread}
use Rattle.rt_mail.specs.declared.mail_runs.spawned.Spawned.{Spawned}
use Rattle.rt_mail.specs.declared.mail_runs.spawned.Spawned.TheVariants.{Running, Ended}
use Rattle.rt_mail.specs.mail_runs.MailThreads.{Each, HasSentAll}

-- the mail thread of thread t of a mail board, in a thread, or when it has spoken
abbrev pub IsSpawned : MailBoard → ℕ → Spawned → Type 0
IsSpawned o t (Running h) = (h.promise.mail_board.value ≡ o) × (h.promise.thread ≡ t)
IsSpawned o t (Ended s) = HasSentAll o t s

-- all mail threads of a mail board, in the order of their threads
abbrev pub AreSpawned : MailBoard → List Spawned → Type 0
AreSpawned o spawned = Each (IsSpawned o) 0 spawned × (length spawned ≡ o.board.config.threads)

-- what the end of its thread gives
abbrev pub Gives : Spawned → MailThread → Type 0
Gives (Running h) r = HasSentAll h.promise.mail_board.value h.promise.thread r
Gives (Ended s) r = r ≡ s

abbrev pub AllGive : List Spawned → List MailThread → Type 0
AllGive [] [] = Unit {0}
AllGive (b ∷ bs) (r ∷ rs) = Gives b r × AllGive bs rs
AllGive _ _ = ⊥
