-- A heap of one thread that is asked one command at a time: the runs that it represents, and how
-- it answers a command.
use Rattle.std.specs.Prelude.{ℕ, zero, suc, ◌+◌, ◌<◌, ◌≤◌, ◌≡◌, ◌++◌, true, false, List, [], ◌∷◌, length, map, slice_index}
use Rattle.block_store.specs.declared.Config.{Config}
use Rattle.block_store.specs.Configs.{IsInBounds}
use Rattle.rate_plan.specs.Rates.{IsRate, IsAdmitted}
use Rattle.never_heap.specs.declared.Command.{Command}
use Rattle.never_heap.specs.declared.Entry.{Entry}
use Rattle.never_heap.specs.declared.Reply.{Reply}
use Rattle.never_heap.specs.Bounds.{IsCommandInBounds}
use Rattle.never_heap.specs.Histories.{HistoryItem, Started, Did}
use Rattle.never_heap.specs.RightWork.{units_owed}
use Rattle.heap_machine.specs.Memories.{Acts}
use Rattle.heap_machine.specs.Operations.{op_place, words_after}
use Rattle.heap_system.specs.declared.Turn.TheVariants.{Went}
use Rattle.heap_system.specs.Alone.{IsQuiet, after_alone, command_bound, command_near}
use Rattle.heap_system.specs.ThreadMemories.{Ran}
use Rattle.heap_system.specs.Lives.{sum_after, objects_of, most_commands, most_objects, most_units}
use Rattle.heap_system.specs.Locals.{LocalState, begun, is_done, local_got, op_wanted, works}
use Rattle.heap_system.specs.Machines.{Run, IsAfterTurns, answer, local_in, opened}
use Rattle.control_heap.specs.Growth.{AllGo, run_grown}

-- The configuration; the memory and the words in it; the thread, whose trace and log hold its last
-- command and that command's entry alone; how many commands the heap has done, and how many of them
-- make an object.
pub record ControlOf (M : Type 0) : Type 0 where
  pub config : Config
  pub memory : M
  pub words : List ℕ
  pub thread : LocalState
  pub count : ℕ
  pub objects : ℕ

-- a heap on plain words
abbrev pub Control : Type 0
Control = ControlOf (List ℕ)

-- a heap of this configuration can be opened, unless memory runs out
pub record CanOpen (c : Config) : Type 0 where
  pub bounds : IsInBounds c
  pub plan : IsAdmitted c
  pub single : c.threads ≡ 1

-- how many commands it has done
abbrev pub asked : {M : Type 0} → ControlOf M → ℕ
asked h = h.count

-- how many units were made for them
abbrev pub units : {M : Type 0} → ControlOf M → ℕ
units h = h.thread.before + works h.thread.log

-- What is left of its life is enough for a command: for one more command, for its object, and for
-- its units.
abbrev pub HasLeft : {M : Type 0} → ControlOf M → Command → Type 0
HasLeft h k = (asked h < most_commands) × (h.objects + objects_of k ≤ most_objects)
    × ((rate : ℕ) → IsRate h.config rate
    → units h + units_owed h.config.width rate k ≤ most_units)

-- a thread with another trace and log, and with no units before these
abbrev pub with_history : List Command → List Entry → LocalState → LocalState
with_history trace log l = record l { before = 0; trace = trace; log = log }

-- a run in which each turn was an event
pub record IsByEvents (c : Config) (r : Run) : Type 0 where
  pub after : IsAfterTurns c r
  pub events : AllGo c (opened c after.by_turns.first) after.turns

-- The heap represents a run of one thread: its words are those of the run, and its thread is that
-- of the run except for the trace and the log, of which the heap keeps the length and the sums. The
-- thread has done all its commands, no thread is in a pass, and the gate is open.
pub record Stands {M : Type 0} (h : ControlOf M) (r : Run) : Type 0 where
  pub single : h.config.threads ≡ 1
  pub run : IsByEvents h.config r
  pub words : r.state.words ≡ h.words
  pub thread : local_in h.config r 0
      ≡ with_history (local_in h.config r 0).trace (local_in h.config r 0).log h.thread
  pub count : length (local_in h.config r 0).log ≡ asked h
  pub units : works (local_in h.config r 0).log ≡ units h
  pub objects : sum_after objects_of 0 (local_in h.config r 0).trace ≡ h.objects
  pub done : is_done (local_in h.config r 0) ≡ true
  pub quiet : IsQuiet h.config r
  pub one : length h.thread.trace ≡ 1

-- all entries of a history
abbrev pub entries_in : List HistoryItem → List Entry
entries_in [] = []
entries_in (Started ∷ h) = entries_in h
entries_in (Did e ∷ h) = e ∷ entries_in h

-- Run z is run r followed by command k with this reply. The thread had at most as many more turns
-- as the bound of a lone thread and the near bound allow; none of them waited. The order of z is
-- that of r followed by cycle starts and the entry of k, and by no other entry.
pub record Answers (c : Config) (k : Command) (a : Reply) (r z : Run) : Type 0 where
  pub turns : ℕ
  pub few : (rate : ℕ) → IsRate c rate → turns ≤ command_bound c rate k
  pub near : (rate : ℕ) → IsRate c rate → turns ≤ command_near c rate k
  pub went : (i : ℕ) → i < turns → answer c 0 (after_alone c 0 (run_grown 0 k r) i).state ≡ Went
  pub after : z ≡ after_alone c 0 (run_grown 0 k r) turns
  pub items : List HistoryItem
  pub order : z.order ≡ r.order ++ items
  pub entry : Entry
  pub entries : entries_in items ≡ entry ∷ []
  pub command : entry.command ≡ k
  pub reply : entry.reply ≡ a

-- whichever run the heap represented, after the command it represents such a run
abbrev pub HasAnswered : {M : Type 0} → ControlOf M → Command → Reply → ControlOf M → Type 0
HasAnswered old k reply new =
    (r : Run) → Stands old r → (z : Run) × Stands new z × Answers old.config k reply r z

-- A memory made the operations of a command one after the other. Each read one of these words, and
-- is the operation that the thread's row names next. They lead from the memory before to the memory
-- after, and from the thread that begins the command to the one that has done it. A body of which
-- this is proved for any memory makes no other operation, since one more might change the memory.
-- There are at most as many as the bound of a lone thread and the near bound allow.
pub record HasMade {M : Type 0} (acts : Acts M (Unit {0})) (old : ControlOf M) (k : Command)
    (new : ControlOf M) : Type 0 where
  pub words : List ℕ
  pub ran : Ran acts tt old.memory (begun k old.thread) words new.memory new.thread
  pub few : (rate : ℕ) → IsRate old.config rate → length words ≤ command_bound old.config rate k
  pub near : (rate : ℕ) → IsRate old.config rate → length words ≤ command_near old.config rate k

-- a heap did these commands one after the other, with these replies, and is then z
abbrev pub AllAnswered : {M : Type 0} → ControlOf M → List Command → List Reply → ControlOf M
    → Type 0
AllAnswered h [] [] z = h ≡ z
AllAnswered {M} h (k ∷ ks) (a ∷ ys) z =
    (n : ControlOf M) × (n.config ≡ h.config) × HasAnswered h k a n × AllAnswered n ks ys z
AllAnswered h _ _ z = ⊥

-- the heap represents a run whose history is that of r followed by these commands and replies
pub record HasHistory {M : Type 0} (z : ControlOf M) (ks : List Command) (ys : List Reply)
    (r : Run) : Type 0 where
  pub run : Run
  pub stands : Stands z run
  pub items : List HistoryItem
  pub order : run.order ≡ r.order ++ items
  pub commands : map (λ (e : Entry). e.command) (entries_in items) ≡ ks
  pub replies : map (λ (e : Entry). e.reply) (entries_in items) ≡ ys

-- ---- within a command

-- the words and the thread
pub record Machine : Type 0 where
  pub words : List ℕ
  pub thread : LocalState

-- after its next event
abbrev pub moved : Machine → Machine
moved m = record {
  words = words_after (op_wanted m.thread) m.words;
  thread = local_got m.thread (slice_index m.words (op_place (op_wanted m.thread)));
}

-- after so many
abbrev pub moved_times : ℕ → Machine → Machine
moved_times zero m = m
moved_times (suc n) m = moved (moved_times n m)

abbrev pub GoesOn : ℕ → Machine → Type 0
GoesOn n m = (i : ℕ) → i < n → is_done (moved_times i m).thread ≡ false

-- as many events as it takes
pub record Served (m z : Machine) : Type 0 where
  pub events : ℕ
  pub going : GoesOn events m
  pub after : z ≡ moved_times events m
  pub done : is_done z.thread ≡ true

-- a memory made as many events as it takes, one after the other, and its words changed as those of
-- a machine do
pub record ServedBy {M : Type 0} (acts : Acts M (Unit {0})) (shows : M → List ℕ) (m : M)
    (l : LocalState) (n : M) (k : LocalState) : Type 0 where
  pub words : List ℕ
  pub ran : Ran acts tt m l words n k
  pub served : Served (record { words = shows m; thread = l })
      (record { words = shows n; thread = k })
  pub counted : served.events ≡ length words

-- a heap whose thread begins a command
abbrev pub given_to : {M : Type 0} → ControlOf M → Command → Machine
given_to h k = record { words = h.words; thread = begun k h.thread }

-- such a heap, where the command is in bounds and the life has room for it
pub record HasBegun (M : Type 0) (m : Machine) : Type 0 where
  pub heap : ControlOf M
  pub command : Command
  pub run : Run
  pub stood : Stands heap run
  pub bounds : IsCommandInBounds heap.config command
  pub left : HasLeft heap command
  pub same : m ≡ given_to heap command
