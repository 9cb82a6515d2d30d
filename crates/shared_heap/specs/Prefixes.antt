-- What holds in every state, between any two steps of any threads.
use Rattle.std.specs.Prelude.{ℕ, ◌<◌, ◌≤◌, ◌≡◌, ◌++◌, true, List, [], ◌∷◌, length, map, take}
use mathlib.Core.Option.{some}
use lib.ListN.{get_elem?}
use Rattle.atomic_table.specs.Table as table
use Rattle.block_store.specs.declared.Config.{Config}
use Rattle.rate_plan.specs.Rates.{IsRate}
use Rattle.never_heap.specs.declared.Command.{Command}
use Rattle.never_heap.specs.declared.Entry.{Entry}
use Rattle.never_heap.specs.Histories.{HistoryItem, Legal, part}
use Rattle.never_heap.specs.Licensed.{Licensed}
use Rattle.never_heap.specs.RightWork.{RightWork}
use Rattle.heap_system.specs.Alone.{EndsWithin, command_bound, command_near}
use Rattle.heap_system.specs.Locals.{LocalState, command_of, is_done}
use Rattle.heap_system.specs.Machines.{Run}
use Rattle.control_heap.specs.Growth.{run_grown}
use Rattle.shared_heap.specs.declared.rules.ThreadView.{ThreadView}
use Rattle.shared_heap.specs.declared.rules.Moment.{Moment}
use Rattle.shared_heap.specs.declared.rules.View.{View}
use Rattle.shared_heap.specs.RealTime.{KeepsRealTime}
use Rattle.shared_heap.specs.Shared.{AllNotedIn, AllSeenIn, IsWellFormed, history_of, invoked_in, seats_of}

-- The part of a thread in a history is its log, and at most one entry more, which it has not yet
-- logged; none if it is done. The entries of the log are those of its first commands, and the entry
-- more is of the command in hand, the next one of the trace. The timeline has the invocations of
-- its trace.
pub record HasPartOf (timeline : List Moment) (order : List HistoryItem) (l : LocalState) : Type 0
  where
    pub more : List Entry
    pub few : length more ≤ 1
    pub told : part l.thread order ≡ l.log ++ more
    pub rest : is_done l ≡ true → more ≡ []
    pub asked : map (λ (e : Entry). e.command) l.log ≡ take (length l.log) l.trace
    pub hand : map (λ (e : Entry). e.command) more ≡ take (length more) (command_of l ∷ [])
    pub invoked : invoked_in l.thread timeline ≡ l.trace

abbrev pub AllHaveParts : List Moment → List HistoryItem → List ThreadView → Type 0
AllHaveParts timeline order [] = Unit {0}
AllHaveParts timeline order (h ∷ hs) =
    HasPartOf timeline order h.local × AllHaveParts timeline order hs

-- There is one history in which the threads of all seats have their parts, and there are no other
-- entries: each thread of the heap is in exactly one seat, and no other thread has an entry. It is
-- the history of a well-formed timeline, of which what they have seen, and every note, is a prefix.
-- The timeline has the invocations of all commands, and the history keeps real-time order.
pub record FitsOneHistory (c : Config) (s : table.State Command View) : Type 0 where
  pub timeline : List Moment
  pub order : List HistoryItem
  pub legal : Legal c order
  pub licensed : Licensed c order
  pub right : (rate : ℕ) → IsRate c rate → RightWork c.width rate order
  pub parts : (id : ℕ) (v : View) → get_elem? s.views id ≡ some v
      → AllHaveParts timeline order v.threads × AllSeenIn timeline v.threads
      × AllNotedIn timeline v.notes
  pub once : (t : ℕ) → t < c.threads → seats_of t s.views ≡ 1
  pub others : (u : ℕ) → c.threads ≤ u → part u order ≡ []
  pub ordered : order ≡ history_of timeline
  pub no_others : (u : ℕ) → c.threads ≤ u → invoked_in u timeline ≡ []
  pub formed : IsWellFormed timeline
  pub real_time : KeepsRealTime timeline order

-- each thread has finished its commands
abbrev pub AllDone : List ThreadView → Type 0
AllDone [] = Unit {0}
AllDone (h ∷ hs) = (is_done h.local ≡ true) × AllDone hs

abbrev pub AllAreDone : table.State Command View → Type 0
AllAreDone s = (id : ℕ) (v : View) → get_elem? s.views id ≡ some v → AllDone v.threads

-- A command that is given to thread t after run r, where t then runs alone, ends within the bound
-- of a single thread, and within the near bound. None of its turns waits.
pub record EndsInTime (c : Config) (t : ℕ) (k : Command) (r : Run) : Type 0 where
  pub far : (rate : ℕ) → IsRate c rate → EndsWithin c t (run_grown t k r) (command_bound c rate k)
  pub near : (rate : ℕ) → IsRate c rate → EndsWithin c t (run_grown t k r) (command_near c rate k)
