-- What the rows of the threads say of the gate, of the rules on the heap and of the names, and
-- which reply is decided.
use Rattle.std.specs.Prelude.{ℕ, Option, None, List}
use Rattle.block_store.specs.declared.Config.{Config}
use Rattle.never_heap.specs.declared.Entry.{Entry}
use Rattle.never_heap.specs.declared.Reply.{Reply}
use Rattle.never_heap.specs.Graphs.{Graph}
use Rattle.never_heap.specs.Histories.{replay}
use Rattle.heap_machine.specs.Gating.{Gating, Stand}
use Rattle.heap_machine.specs.WorkInHand.{WorkInHand}
use Rattle.heap_machine.specs.declared.pass.Pass.{Pass}
use Rattle.barrier_steps.specs.Replies.{reply_due}
use Rattle.heap_invariant.specs.name_invariant.Pictures.{Task, picture}
use Rattle.heap_invariant.specs.name_invariant.States.{KeptState}
use Rattle.heap_system.specs.Parts.{Part, Access}
use Rattle.heap_system.specs.Locals.{LocalState, view, task, command_of, entries_of}
use Rattle.heap_system.specs.Machines.{State, Run, local_at, heap_in}

-- where a thread is: inside between its entry and its leave; and while it has closed the gate
abbrev pub stand_of : Config → Part → Stand
stand_of c p = (view c p).stand

-- with the cycle and phase of its pass
abbrev pub gating : Config → Pass → Part → Gating
gating c q p = record { stand = stand_of c p; cycle = q.cycle; sweep = q.sweep }

-- what a thread holds
abbrev pub work_in_hand : Config → Part → WorkInHand
work_in_hand c p = (view c p).work_in_hand

-- the reply that was decided and is not in the log yet
abbrev pub waiting : Graph → Part → Option Reply
waiting g (Access f) = reply_due g f
waiting g _ = None

-- the entry of thread l that the order has and the log has not yet
abbrev pub entries_waiting : Graph → LocalState → List Entry
entries_waiting g l = entries_of l.thread (command_of l) l.spent (waiting g l.part)

-- where each thread is, what it holds, and what it is at
abbrev pub gates_in : Config → State → ℕ → Gating
gates_in c s = λ t. gating c (local_at c s t).pass (local_at c s t).part

abbrev pub work_in_hand_of : Config → State → ℕ → WorkInHand
work_in_hand_of c s = λ t. work_in_hand c (local_at c s t).part

abbrev pub tasks_in : Config → State → ℕ → Task
tasks_in c s = λ t. task c (local_at c s t).part

-- what the rules of the collector see: the graph of the order, the order, the heap, the names, and
-- what each thread is at
abbrev pub kept_state : Config → Run → KeptState
kept_state c r =
    picture (replay c r.order) r.order (heap_in c r.state) r.names (tasks_in c r.state)
