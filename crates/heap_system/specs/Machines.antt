-- The words and all threads, what a turn of a thread makes of them, and the order that a list of
-- turns has: its commands and starts as they were decided; and the names that the rules of the
-- collector know.
use Rattle.std.specs.Prelude.{ℕ, ◌+◌, ◌≤◌, ◌++◌, ◌<◌, ◌≡◌, true, false, not, nat_lt, if◌then◌else◌, Bool, List, [], ◌∷◌, length, slice_index, slice_index_or, slice_set}
use Rattle.block_store.specs.declared.Config.{Config}
use Rattle.block_store.specs.Heaps.{Heap, heap_of}
use Rattle.block_store.specs.Places.{Place, extent, in_range, words_count}
use Rattle.rate_plan.specs.Rates.{IsRate, IsAdmitted}
use Rattle.never_heap.specs.declared.Command.{Command}
use Rattle.never_heap.specs.Histories.{HistoryItem, Started, Did, replay}
use Rattle.heap_system.specs.Lives.{AreLives}
use Rattle.never_heap.specs.Steps.{step}
use Rattle.heap_machine.specs.Operations.{op_at, op_place, words_after}
use Rattle.heap_invariant.specs.name_invariant.Pictures.{Names}
use Rattle.heap_system.specs.Parts.{Leave}
use Rattle.heap_system.specs.declared.Turn.{Turn}
use Rattle.heap_system.specs.declared.Turn.TheVariants.{Done}
use Rattle.heap_system.specs.Locals.{LocalState, Effect, Verdict, Open, AsStep, Refused, command_of, effect, entry_of, part_want, turn_of, local_got, is_done, at_start}
use Rattle.heap_system.specs.Naming.{Naming, Begun, renamed, opening_names}
use Rattle.heap_system.specs.InitialHeaps.{opening_heap}

pub record State : Type 0 where
  pub words : List ℕ
  pub locals : List LocalState

-- a thread that there is not
abbrev pub no_local : Config → LocalState
no_local c = record (at_start c 0 0 c.threads []) { part = Leave }

abbrev pub local_at : Config → State → ℕ → LocalState
local_at c s t = slice_index_or s.locals t (no_local c)

-- the heap of a state
abbrev pub heap_in : Config → State → Heap
heap_in c s = heap_of (extent c) s.words

-- the word at the place of the thread's next event
abbrev pub word_read : Config → State → LocalState → ℕ
word_read c s l = slice_index s.words (op_place (op_at (extent c) (part_want c l.part)))

-- what the thread's next event is
abbrev pub next_effect : Config → State → ℕ → Effect
next_effect c s t = effect c (local_at c s t).part (word_read c s (local_at c s t))

-- the state after the event of thread t: one operation on one word, and the thread moves on by one
-- row
abbrev pub event_done : Config → ℕ → State → State
event_done c t s = record {
  words = words_after (op_at (extent c) (part_want c (local_at c s t).part)) s.words;
  locals = slice_set s.locals t (local_got (local_at c s t) (word_read c s (local_at c s t)));
}

-- whether thread t has an event: a turn of a thread that is done changes nothing
abbrev pub has_event : Config → ℕ → State → Bool
has_event c t s = if nat_lt t c.threads then not (is_done (local_at c s t)) else false

abbrev pub turned : Config → ℕ → State → State
turned c t s = if has_event c t s then event_done c t s else s

-- what the turn answers
abbrev pub answer : Config → ℕ → State → Turn
answer c t s = if is_done (local_at c s t) then Done else turn_of (next_effect c s t).step

-- what an event of thread t adds to an order: its command takes its place there, with the units
-- made for it, where the event decides it
abbrev pub entries_by : Config → ℕ → Command → ℕ → List HistoryItem → Verdict → List HistoryItem
entries_by c t k work order Open = []
entries_by c t k work order AsStep = Did (entry_of t k work (step (replay c order) t k).1) ∷ []
entries_by c t k work order (Refused reply) = Did (entry_of t k work reply) ∷ []

-- and where it starts a cycle there is a start
abbrev pub starts_by : Naming → List HistoryItem
starts_by Begun = Started ∷ []
starts_by _ = []

abbrev pub items_by : Config → ℕ → Command → ℕ → List HistoryItem → Effect → List HistoryItem
items_by c t k work order e = entries_by c t k work order e.verdict ++ starts_by e.naming

-- what a turn of thread t adds
abbrev pub decided : Config → ℕ → State → List HistoryItem → List HistoryItem
decided c t s order =
    if has_event c t s
    then items_by c t (command_of (local_at c s t)) (local_at c s t).spent order
    (next_effect c s t)
    else []

-- a state with the order that led to it, the oldest item first, and the names that the rules know
pub record Run : Type 0 where
  pub state : State
  pub order : List HistoryItem
  pub names : Names

-- the names after a turn of thread t
abbrev pub names_after : Config → ℕ → Run → Names
names_after c t r =
    if has_event c t r.state
    then renamed t (replay c r.order) (heap_in c r.state) (next_effect c r.state t).naming r.names
    else r.names

abbrev pub next : Config → ℕ → Run → Run
next c t r = record {
  state = turned c t r.state;
  order = r.order ++ decided c t r.state r.order;
  names = names_after c t r;
}

-- after a list of turns, by the numbers of the threads
abbrev pub after_turns : Config → Run → List ℕ → Run
after_turns c r [] = r
after_turns c r (t ∷ ts) = after_turns c (next c t r) ts

-- thread t on with these traces and rooms, each at rest
abbrev pub starts_from : Config → ℕ → (ℕ → ℕ) → ℕ → List (List Command) → List LocalState
starts_from c rate space t [] = []
starts_from c rate space t (trace ∷ traces) =
    at_start c rate (space t) t trace ∷ starts_from c rate space (t + 1) traces

-- The opening words, and each thread at rest before its trace, with the rate of the configuration
-- and room for the blocks of the largest object.
pub record IsOpening (c : Config) (traces : List (List Command)) (s : State) : Type 0 where
  pub rate : ℕ
  pub planned : IsRate c rate
  pub count : length s.words ≡ words_count (extent c)
  pub words : (p : Place) → in_range (extent c) p ≡ true
      → heap_of (extent c) s.words p ≡ opening_heap c p
  pub space : ℕ → ℕ
  pub roomy : (t : ℕ) → t < c.threads → c.object ≤ space t
  pub locals : s.locals ≡ starts_from c rate space 0 traces

-- a life for each thread, in bounds, of a configuration that has a rate
pub record IsJob (c : Config) (traces : List (List Command)) : Type 0 where
  pub bounds : AreLives c traces
  pub plan : IsAdmitted c

-- the order begins with the start of cycle 1
abbrev pub opened : Config → State → Run
opened c s = record { state = s; order = Started ∷ []; names = opening_names c }

-- the run of a job by a list of turns
pub record IsRunOf (c : Config) (traces : List (List Command)) (ts : List ℕ) (r : Run) :
    Type 0 where
  pub first : State
  pub opening : IsOpening c traces first
  pub turns : r ≡ after_turns c (opened c first) ts

-- a run of some job by some list of turns
pub record IsAfterTurns (c : Config) (r : Run) : Type 0 where
  pub traces : List (List Command)
  pub job : IsJob c traces
  pub turns : List ℕ
  pub by_turns : IsRunOf c traces turns r

-- thread t after a run
abbrev pub local_in : Config → Run → ℕ → LocalState
local_in c r t = local_at c r.state t
