-- The operations that a list of commands does, read off the commands alone.
use Rattle.std.specs.Prelude.{ℕ, ◌==◌, if◌then◌else◌, List, [], ◌∷◌}
use Rattle.never_heap.specs.declared.Command.{Command}
use Rattle.never_heap.specs.declared.Command.TheVariants as commands
use Rattle.array_tables.specs.number_rings.Rings.{Operation, Keep, Recall}

-- The operations of commands, given the last number that was set. A put in the array, which is in
-- register 0, is a keep, and a get of register 1 a recall.
abbrev pub operations_from : ℕ → List Command → List Operation
operations_from v [] = []
operations_from v (commands.Set d n ∷ ks) = operations_from n ks
operations_from v (commands.Put s i r ∷ ks) =
    if s == 0 then Keep i v ∷ operations_from v ks else operations_from v ks
operations_from v (commands.Get d s i ∷ ks) =
    if d == 1 then Recall i ∷ operations_from v ks else operations_from v ks
operations_from v (k ∷ ks) = operations_from v ks

abbrev pub operations_of : List Command → List Operation
operations_of ks = operations_from 0 ks
