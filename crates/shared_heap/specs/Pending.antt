-- A command that a worker has announced, whose events are made a few at a time.
use Rattle.std.specs.Prelude.{ℕ, ◌+◌, ◌≤◌, ◌≡◌, ◌++◌, false, List, [], ◌∷◌, length, map}
use Rattle.atomic_table.specs.Table as table
use Rattle.atomic_table.specs.Seated.{TableId}
use Rattle.block_store.specs.Places.{extent, words_count}
use Rattle.never_heap.specs.declared.Command.{Command}
use Rattle.never_heap.specs.declared.Entry.{Entry}
use Rattle.never_heap.specs.Bounds.{IsCommandInBounds}
use Rattle.never_heap.specs.Histories.{part}
use Rattle.heap_system.specs.Lives.{sum_after, objects_of}
use Rattle.heap_system.specs.Locals.{LocalState, is_done, works}
use Rattle.control_heap.specs.Growth.{given}
use Rattle.shared_heap.specs.declared.rules.ThreadView.{ThreadView}
use Rattle.shared_heap.specs.declared.rules.Moment.TheVariants as moments
use Rattle.shared_heap.specs.declared.rules.SeenHistory.{SeenHistory}
use Rattle.shared_heap.specs.declared.rules.View.{View}
use Rattle.shared_heap.specs.Shared.{IsOfRun, IsStartOf, behind, held, held_of, history_of, one_view}
use Rattle.shared_heap.specs.Spans.{IsInTime}
use Rattle.shared_heap.specs.Turns.{GoesFar, MadeTurns}
use Rattle.shared_heap.specs.Workers.{AllStart, HasRoom, IsMirrored, WorkerState, worker_of}

-- The heap; the worker as it was before the command; the command; the thread as it is now, with all
-- of the worker's commands, this one the last; and how many events the command has had.
pub record PendingState : Type 0 where
  pub heap : TableId
  pub worker : WorkerState
  pub command : Command
  pub thread : LocalState
  pub events : ℕ

-- a worker's command that has had no event
abbrev pub start_pending : WorkerState → Command → PendingState
start_pending w k = record {
  heap = w.heap;
  worker = w;
  command = k;
  thread = given k w.thread;
  events = 0;
}

-- The worker's thread has made at most so many events of the command, and no others, which led to
-- this thread. There are fewer only where the command is done or the last event waited for another
-- thread. `HasDrivenIn` excludes other operations, of the loop that makes the events.
pub record MadeMore (old : PendingState) (most : ℕ) (thread : LocalState) (events : ℕ) : Type 0
  where
    pub words : List ℕ
    pub made : MadeTurns old.thread words thread
    pub few : length words ≤ most
    pub far : GoesFar most old.thread words thread
    pub counted : events ≡ old.events + length words

-- the same command of the same worker after such events, and not done
pub record IsStillPending (old : PendingState) (most : ℕ) (new : PendingState) : Type 0 where
  pub heap : new.heap ≡ old.heap
  pub worker : new.worker ≡ old.worker
  pub command : new.command ≡ old.command
  pub made : MadeMore old most new.thread new.events
  pub going : is_done new.thread ≡ false

-- ---- within a pending command

-- What a seat knows of a command that its thread executes. In memory is that thread with only this
-- command, and two counts, which include the command.
pub record Awaits (p : SeenHistory) (me : table.Me Command View) (id : TableId) (l : LocalState)
    (n o : ℕ) : Type 0 where
  pub knows : me ≡ (one_view (held (behind p.call.local.trace p.call.local.log l) p) [], [])
  pub long : length p.call.local.trace ≡ length p.call.local.log
  pub told : IsOfRun l.config p (behind p.call.local.trace p.call.local.log l)
  pub few : IsInTime l.config p.call.command p.span
  pub trace : l.trace ≡ p.call.command ∷ []
  pub config : l.config ≡ p.call.local.config
  pub thread : l.thread ≡ p.call.local.thread
  pub before : IsStartOf p.call.seen p.call.start
  pub noted : AllStart (map history_of p.call.notes) (history_of p.call.start)
  pub more : IsStartOf
      (p.call.start ++ moments.Invoked p.call.local.thread p.call.command ∷ []) p.seen
  pub part : part p.call.local.thread (history_of p.call.start) ≡ p.call.local.log
  pub said : map (λ (e : Entry). e.command) p.call.local.log ≡ p.call.local.trace
  pub count : length p.call.local.trace + 1 ≡ n
  pub objects : sum_after objects_of 0 p.call.local.trace + objects_of p.call.command ≡ o
  pub units : works p.call.local.log ≡ l.before
  pub slots : id.slots ≡ 0
  pub words : id.words ≡ words_count (extent l.config) + 1

abbrev pub IsPending : table.Me Command View → TableId → LocalState → ℕ → ℕ → Type 0
IsPending me id l n o = Awaits (held_of l me.0.threads).past me id l n o

-- the value of a pending command in contracts
abbrev pub pending_of : TableId → ThreadView → PendingState
pending_of id h = record {
  heap = id;
  worker = record {
    heap = id;
    thread = h.past.call.local;
    timeline = h.past.call.seen;
    seen = history_of h.past.call.seen;
    notes = map history_of h.past.call.notes;
    span = h.past.call.span;
  };
  command = h.past.call.command;
  thread = h.local;
  events = h.past.span.own;
}

-- a worker between two commands may announce this one
pub record MayAnnounce (me : table.Me Command View) (id : TableId) (l : LocalState) (k : Command) :
    Type 0 where
  pub count : ℕ
  pub objects : ℕ
  pub kept : IsMirrored me id l count objects
  pub bounds : IsCommandInBounds (held_of l me.0.threads).local.config k
  pub left : HasRoom (held_of l me.0.threads).local k

-- It has announced the command and begun it, and made none of its events.
pub record HasAnnounced (me : table.Me Command View) (id : TableId) (l : LocalState) (k : Command)
    (after : table.Me Command View) (own : TableId) (z : LocalState) : Type 0 where
  pub table : own ≡ id
  pub config : z.config ≡ l.config
  pub pending : (n o : ℕ) → IsMirrored me id l n o → IsPending after own z (n + 1) (o + objects_of k)
  pub value : pending_of own (held_of z after.0.threads)
      ≡ start_pending (worker_of id (held_of l me.0.threads) me.0.notes) k
