-- Threads that send what they say, from the first turn to the last.
use Rattle.std.specs.Prelude.{ℕ, ◌+◌, ◌≡◌, true, List, [], ◌∷◌, length, map, Some}
use Rattle.heap_system.specs.Locals.{is_done}
use Rattle.atom_board.specs.Mutators.{MutatorState, AreInOrder, AllAreDone}
use Rattle.rt_mail.specs.mail_post.PostStates.{SenderState, TakerState, fresh_taker}
use Rattle.rt_mail.specs.said_numbers.Said.{numbers_said}
use Rattle.rt_mail.specs.declared.mail_runs.mail_board.MailBoard.{MailBoard}
use Rattle.rt_mail.specs.declared.mail_runs.mail_thread.MailThread.{MailThread}

-- these, which are counted from t on, are so
abbrev pub Each : {A : Type 0} → (ℕ → A → Type 0) → ℕ → List A → Type 0
Each P t [] = Unit {0}
Each P t (x ∷ xs) = P t x × Each P (t + 1) xs

-- the mail thread of thread t of a mail board: it has sent what its log says
pub record IsMailThread (o : MailBoard) (t : ℕ) (s : MailThread) : Type 0 where
  pub board : s.mutator.board ≡ o.board.id
  pub thread : s.mutator.local.thread ≡ t
  pub post : s.sender.post ≡ o.post.id
  pub number : s.sender.thread ≡ t
  pub sent : s.sender.sent ≡ numbers_said s.mutator.local.log

-- and it is done
abbrev pub HasSentAll : MailBoard → ℕ → MailThread → Type 0
HasSentAll o t s = IsMailThread o t s × (is_done s.mutator.local ≡ true)

-- the mail threads of a mail board, in the order of their threads
abbrev pub AreMailThreads : MailBoard → List MailThread → Type 0
AreMailThreads o mail_threads =
    Each (IsMailThread o) 0 mail_threads × (length mail_threads ≡ o.board.config.threads)

abbrev pub mutator_of : MailThread → MutatorState
mutator_of s = s.mutator

abbrev pub sender_of : MailThread → SenderState
sender_of s = s.sender

-- each mutator with a sender
abbrev pub zipped : List MutatorState → List SenderState → List MailThread
zipped [] ss = []
zipped (m ∷ ms) [] = []
zipped (m ∷ ms) (s ∷ ss) = record { mutator = m; sender = s } ∷ zipped ms ss

-- the taker of a mail board when it is new
abbrev pub IsFirst : MailBoard → TakerState → Type 0
IsFirst o k = k ≡ fresh_taker o.post.id o.board.config.threads

-- what a thread says
abbrev pub said_by : MutatorState → List ℕ
said_by m = numbers_said m.local.log

-- The mutators of a mail board are done, and what was taken of each sender, and what it sent, is
-- what its thread says.
pub record IsReceived (o : MailBoard) (ms : List MutatorState) (k : TakerState) : Type 0 where
  pub mutators : AreInOrder o.board ms
  pub done : AllAreDone ms
  pub post : k.post ≡ o.post.id
  pub taken : k.taken ≡ map said_by ms
  pub sent : k.sent ≡ Some (map said_by ms)
