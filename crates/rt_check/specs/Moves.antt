-- Orders of the commands of several threads.
use Rattle.std.specs.Prelude.{ℕ, ◌≡◌, ◌==◌, if◌then◌else◌, List, [], ◌∷◌, slice_index_or}
use Rattle.never_heap.specs.declared.Command.{Command}
use Rattle.never_heap.specs.Histories.{HistoryItem, Started, Did}
use Rattle.rt_check.specs.declared.moves.Move.{Move}

-- the commands of a history, in its order
abbrev pub moves_in : List HistoryItem → List Move
moves_in [] = []
moves_in (Started ∷ h) = moves_in h
moves_in (Did e ∷ h) = record { thread = e.thread; command = e.command } ∷ moves_in h

-- the commands of thread t, in the order
abbrev pub commands_of : ℕ → List Move → List Command
commands_of t [] = []
commands_of t (m ∷ ms) =
    if m.thread == t then m.command ∷ commands_of t ms else commands_of t ms

-- the commands of each thread are its trace, whole and in order, and there is no other thread
abbrev pub AreMovesOf : List (List Command) → List Move → Type 0
AreMovesOf traces ms = (t : ℕ) → commands_of t ms ≡ slice_index_or traces t []
