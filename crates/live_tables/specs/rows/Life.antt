-- What a worker's lifetime allows of several commands, and what the worker is after them.
use Rattle.std.specs.Prelude.{ℕ, ◌+◌, ◌*◌, ◌≤◌, ◌≡◌, ◌++◌, List, [], ◌∷◌, length, map}
use Rattle.block_store.specs.declared.Width.{Width}
use Rattle.rate_plan.specs.Rates.{IsRate}
use Rattle.never_heap.specs.declared.Command.{Command}
use Rattle.never_heap.specs.declared.Entry.{Entry}
use Rattle.never_heap.specs.declared.Reply.{Reply}
use Rattle.never_heap.specs.declared.Reply.TheVariants as replies
use Rattle.never_heap.specs.RightWork.{units_owed}
use Rattle.heap_system.specs.Lives.{sum_after, objects_of, most_commands, most_objects, most_units}
use Rattle.heap_system.specs.Locals.{LocalState, works}
use Rattle.never_heap.specs.Histories.{HistoryItem, part}
use Rattle.shared_heap.specs.declared.rules.Moment.{Moment}
use Rattle.shared_heap.specs.declared.rules.Moment.TheVariants as moments
use Rattle.shared_heap.specs.Shared.{IsStartOf, history_of, invoked_in}
use Rattle.shared_heap.specs.Workers.{AllStart, HasMade, HasSeenIts, IsSame, WorkerState}

-- the lifetime of a thread allows all of these commands
pub record HasRoomFor (l : LocalState) (ks : List Command) : Type 0 where
  pub commands : length l.trace + length ks ≤ most_commands
  pub objects : sum_after objects_of 0 l.trace + sum_after objects_of 0 ks ≤ most_objects
  pub units : (rate : ℕ) → IsRate l.config rate
      → works l.log + sum_after (units_owed l.config.width rate) 0 ks ≤ most_units

-- the last three of three replies followed by these
abbrev pub last_three : Reply → Reply → Reply → List Reply → Reply × Reply × Reply
last_three a b c [] = (a, b, c)
last_three a b c (r ∷ rs) = last_three b c r rs

-- The same worker has executed these commands one by one, and no other between them. For each its
-- thread made the events of the command and no others (`HasMade`).
abbrev pub Executes : WorkerState → List Command → WorkerState → Type 0
Executes old [] new = new ≡ old
Executes old (k ∷ ks) new =
    (next : WorkerState) × IsSame old next × (next.thread.trace ≡ old.thread.trace ++ k ∷ [])
    × HasMade old k next × Executes next ks new

-- the same worker, which has executed these commands more; the last three replies are these
pub record HasRun (old : WorkerState) (ks : List Command) (p : Reply × Reply × Reply)
    (new : WorkerState) : Type 0 where
  pub same : IsSame old new
  pub asked : new.thread.trace ≡ old.thread.trace ++ ks
  pub executes : Executes old ks new
  pub entries : List Entry
  pub told : new.thread.log ≡ old.thread.log ++ entries
  pub commands : map (λ (e : Entry). e.command) entries ≡ ks
  pub last : p ≡ last_three replies.Null replies.Null replies.Null (map (λ (e : Entry). e.reply) entries)

-- What the worker had seen before these commands, and each note that it had learned, is a prefix of
-- a history `start`, in which it did nothing more. That is a prefix of what it has seen now. The
-- timeline that it has seen now has the invocation of the first command directly after `past`,
-- whose history is `start`. The timeline that it had seen is a prefix of `past`, which has the
-- invocations of the worker's earlier commands and no others of it.
pub record HasBegun (old new : WorkerState) : Type 0 where
  pub start : List HistoryItem
  pub before : IsStartOf old.seen start
  pub noted : AllStart old.notes start
  pub own : part old.thread.thread start ≡ old.thread.log
  pub on : IsStartOf start new.seen
  pub notes : new.notes ≡ []
  pub past : List Moment
  pub command : Command
  pub began : IsStartOf old.timeline past
  pub started : start ≡ history_of past
  pub earlier : invoked_in old.thread.thread past ≡ old.thread.trace
  pub invoked : IsStartOf (past ++ moments.Invoked old.thread.thread command ∷ []) new.timeline
  pub sound : HasSeenIts new

-- So many of these commands make an object of one block, and no other command owes any work.
pub record MakeObjects (w : Width) (n : ℕ) (ks : List Command) : Type 0 where
  pub objects : sum_after objects_of 0 ks ≡ n
  pub units : (rate : ℕ) → sum_after (units_owed w rate) 0 ks ≡ n * rate
