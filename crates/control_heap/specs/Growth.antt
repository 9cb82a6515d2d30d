-- A thread's trace with one more command at its end.
use Rattle.std.specs.Prelude.{ℕ, ◌+◌, ◌≡◌, ◌==◌, true, List, [], ◌∷◌, ◌++◌, map, if◌then◌else◌}
use Rattle.block_store.specs.declared.Config.{Config}
use Rattle.never_heap.specs.declared.Command.{Command}
use Rattle.heap_system.specs.Locals.{LocalState}
use Rattle.heap_system.specs.Machines.{State, Run, has_event, next}

abbrev pub given : Command → LocalState → LocalState
given k l = record l { trace = l.trace ++ k ∷ [] }

-- the threads, where thread t is given the command
abbrev pub grown : ℕ → Command → LocalState → LocalState
grown t k l = if l.thread == t then given k l else l

abbrev pub state_grown : ℕ → Command → State → State
state_grown t k s = record s { locals = map (grown t k) s.locals }

abbrev pub run_grown : ℕ → Command → Run → Run
run_grown t k r = record r { state = state_grown t k r.state }

-- each of these turns is an event
abbrev pub AllGo : Config → Run → List ℕ → Type 0
AllGo c r [] = Unit {0}
AllGo c r (u ∷ us) = (has_event c u r.state ≡ true) × AllGo c (next c u r) us

-- the traces from thread u on, where that of thread t has the command at its end
abbrev pub extended : ℕ → Command → ℕ → List (List Command) → List (List Command)
extended t k u [] = []
extended t k u (x ∷ xs) = (if u == t then x ++ k ∷ [] else x) ∷ extended t k (u + 1) xs
