-- What logs show of the traces that were run.
use Rattle.std.specs.Prelude.{List, map}
use Rattle.never_heap.specs.declared.Command.{Command}
use Rattle.never_heap.specs.declared.Entry.{Entry}

-- the commands of each thread's log, in order
abbrev pub commands_of : List (List Entry) → List (List Command)
commands_of logs = map (map (λ (e : Entry). e.command)) logs
