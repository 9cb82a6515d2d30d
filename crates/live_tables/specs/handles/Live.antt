-- Slots for handles that running threads share, and their workers, as contracts see them.
use Rattle.std.specs.Prelude.{ℕ, ◌+◌, ◌-◌, ◌*◌, ◌<◌, ◌≤◌, ◌≡◌, ◌^◌, Bool, true, false, IsTrue, Option, Some, None, List}
use Rattle.block_store.specs.declared.Config.{Config}
use Rattle.never_heap.specs.declared.Command.{Command}
use Rattle.never_heap.specs.declared.Reply.{Reply}
use Rattle.shared_heap.specs.Workers.{CanOpen}
use Rattle.array_tables.specs.handle_table.Handles.{Answer, Matched, Found, Deed, Make, See, Drop, Take, Evict, Slot, Row, answer, slots_after, empty_slots, rows_of, command_at, decides, ends, found_by, handle_config, is_yes, AreNumbered}
use Rattle.live_tables.specs.rows.Orders as orders
use Rattle.live_tables.specs.rows.Rows as rows
use Rattle.live_tables.specs.rows.Rows.{Rows}
use Rattle.live_tables.specs.rows.Workers as workers
use Rattle.live_tables.specs.rows.Workers.{RowWorkerState, thread_of}
use Rattle.live_tables.specs.declared.handles.faults.Refused.{Refused}
use Rattle.live_tables.specs.declared.handles.faults.Refused.TheVariants.{OutOfRange, NotMade, NoLifeLeft}
use Rattle.live_tables.specs.declared.handles.faults.OpenFault.{OpenFault}
use Rattle.live_tables.specs.declared.handles.faults.OpenFault.TheVariants as faults
use Rattle.live_tables.specs.declared.handles.request.HandleRequest.{HandleRequest}
use Rattle.live_tables.specs.declared.handles.request.HandleRequest.TheVariants as asks
use Rattle.live_tables.specs.handles.Decoding.{deeds_of}
use Rattle.live_tables.specs.handles.Makes.{last_by, made_by, slot_by}

-- what a thread can do next that has made n handles, and where `last` tells of each h one more than
-- the number of its last make: a make has the next number, and a see or a drop that of the last one
abbrev pub CanFollow : ℕ → ℕ → ℕ → (ℕ → ℕ) → Deed → Type 0
CanFollow slots t n last (Make u j h i x) =
    (u ≡ t) × (j ≡ n) × (h < 8) × (i < slots) × (x < 2 ^ 62)
CanFollow slots t n last (See u j h i) = (u ≡ t) × (last h ≡ j + 1) × (h < 8) × (i < slots)
CanFollow slots t n last (Drop u j h i) = (u ≡ t) × (last h ≡ j + 1) × (h < 8) × (i < slots)
CanFollow slots t n last (Take i) = i < slots
CanFollow slots t n last (Evict i) = i < slots

-- the answer that the last three replies tell
abbrev pub answer_by : Deed → Reply × Reply × Reply → Answer
answer_by (Take i) p = Found (found_by p.0 p.2)
answer_by (Evict i) p = Found (found_by p.0 p.2)
answer_by _ p = Matched (is_yes p.2)

-- The slots, the deeds, and the commands that they are made of.
abbrev pub handles : Rows Deed Row Answer (List Slot)
handles = record {
  rows_of = rows_of;
  command_at = command_at;
  decides = decides;
  ends = ends;
  say = answer;
  act = slots_after;
  empty = empty_slots;
  config_of = handle_config;
  AreDone = λ slots t ops. AreNumbered slots t 0 (λ h. 0) ops;
  CanBeNext = λ slots t before op. CanFollow slots t (made_by before) (last_by before) op;
  operations_of = deeds_of;
  AreRead = λ t ops. (slots : ℕ) × AreNumbered slots t 0 (λ h. 0) ops;
  answer_by = answer_by;
}

-- A worker of the slots: its worker of the heap, the deeds that it did, and their answers. In
-- memory it has only its last command, how many handles it made, and the slot of each of its eight.
abbrev pub HandleWorkerState : Type 0
HandleWorkerState = RowWorkerState Deed Answer

-- how many slots there are
abbrev pub slots_of : HandleWorkerState → ℕ
slots_of w = w.worker.thread.config.shared

-- the commands of deeds
abbrev pub commands_of : List Deed → List Command
commands_of ops = rows.commands_of handles ops

-- the heap of slots as it is opened
abbrev pub opened_config : ℕ → ℕ → Config
opened_config threads slots =
    handle_config threads slots (4 * (handle_config threads slots 0).live)

-- ---- what a worker is asked to do

-- the slot that a worker knows of its handle h
abbrev pub known_slot : HandleWorkerState → ℕ → Option ℕ
known_slot w h = slot_by w.done h

abbrev pub is_known : Option ℕ → Bool
is_known None = false
is_known (Some i) = true

abbrev pub place_in : Option ℕ → ℕ
place_in None = 0
place_in (Some i) = i

-- the deed: the next make of the worker, or one on the last make of h, at its slot
abbrev pub deed_of : HandleWorkerState → HandleRequest → Deed
deed_of w (asks.Make h i x) = Make (thread_of w) (made_by w.done) h i x
deed_of w (asks.See h) =
    See (thread_of w) (last_by w.done h - 1) h (place_in (known_slot w h))
deed_of w (asks.Release h) =
    Drop (thread_of w) (last_by w.done h - 1) h (place_in (known_slot w h))
deed_of w (asks.Take i) = Take i
deed_of w (asks.Evict i) = Evict i

-- its ranges
abbrev pub IsInRange : ℕ → HandleRequest → Type 0
IsInRange slots (asks.Make h i x) = (h < 8) × (i < slots) × (x < 2 ^ 62)
IsInRange slots (asks.See h) = h < 8
IsInRange slots (asks.Release h) = h < 8
IsInRange slots (asks.Take i) = i < slots
IsInRange slots (asks.Evict i) = i < slots

-- the worker has made the handle that is named
abbrev pub IsMade : HandleWorkerState → HandleRequest → Type 0
IsMade w (asks.See h) = IsTrue (is_known (known_slot w h))
IsMade w (asks.Release h) = IsTrue (is_known (known_slot w h))
IsMade w _ = Unit {0}

-- the worker's lifetime allows all commands of a deed
abbrev pub HasLife : HandleWorkerState → Deed → Type 0
HasLife w op = workers.HasLife handles w op

-- it can do what it is asked
abbrev pub CanDo : HandleWorkerState → HandleRequest → Type 0
CanDo w u = IsInRange (slots_of w) u × IsMade w u × HasLife w (deed_of w u)

-- the cause of each refusal
abbrev pub IsRefused : HandleWorkerState → HandleRequest → Refused → Type 0
IsRefused w u OutOfRange = ¬ IsInRange (slots_of w) u
IsRefused w u NotMade = IsInRange (slots_of w) u × ¬ IsMade w u
IsRefused w u NoLifeLeft = IsInRange (slots_of w) u × IsMade w u × ¬ HasLife w (deed_of w u)

-- ---- workers

-- The worker has done one more deed, with this answer, after all that it had seen and learned.
abbrev pub HasDone : HandleWorkerState → Deed → Answer → HandleWorkerState → Type 0
HasDone old op a new = workers.HasDone handles old op a new

-- ---- opening and closing

-- the ranges of slots and threads
pub record IsTableInRange (slots threads : ℕ) : Type 0 where
  pub few_slots : slots ≤ 512
  pub some_thread : 1 ≤ threads
  pub few_threads : threads ≤ 16

abbrev pub IsOpenFault : ℕ → ℕ → OpenFault → Type 0
IsOpenFault slots threads faults.OutOfRange = ¬ IsTableInRange slots threads
IsOpenFault slots threads faults.NoMemory =
    IsTableInRange slots threads × CanOpen (opened_config threads slots)

-- All deeds of all workers have one order, which keeps the order of each worker, and in which each
-- was answered as by a plain list of slots. It is that of a history of the heap, in which no
-- allocation was answered full, and which is that of a run of the machine with so many cycles. It
-- keeps the real-time order of a timeline that has the invocations of all commands.
abbrev pub HaveOneTable : Config → List HandleWorkerState → ℕ → Type 0
HaveOneTable c ws cycles = orders.HaveOneOrder handles c ws cycles
