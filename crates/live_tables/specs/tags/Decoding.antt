-- The operations that a list of commands does, read off the commands alone.
use Rattle.std.specs.Prelude.{ℕ, ◌==◌, Bool, true, false, if◌then◌else◌, List, [], ◌∷◌}
use Rattle.never_heap.specs.declared.Command.{Command}
use Rattle.never_heap.specs.declared.Command.TheVariants as commands
use Rattle.array_tables.specs.declared.tag_table.operation.Operation.{Operation}
use Rattle.array_tables.specs.declared.tag_table.operation.Operation.TheVariants.{Write, Clear, Read}

-- an exchange of a place with a record of these two numbers, or with nil
abbrev pub exchanged : Bool → ℕ → ℕ → ℕ → Operation
exchanged true i v q = Write i v q
exchanged false i v q = Clear i

-- The operations of commands, given whether the last object was a record, and the last two numbers
-- that were set.
abbrev pub operations_from : Bool → ℕ → ℕ → List Command → List Operation
operations_from made v q [] = []
operations_from made v q (commands.New d f ∷ ks) = operations_from true v q ks
operations_from made v q (commands.Nil d ∷ ks) = operations_from false v q ks
operations_from made v q (commands.Set d n ∷ ks) = operations_from made q n ks
operations_from made v q (commands.Swap s i r ∷ ks) =
    exchanged made i v q ∷ operations_from made v q ks
operations_from made v q (commands.Get d s i ∷ ks) =
    if d == 1 then Read i ∷ operations_from made v q ks else operations_from made v q ks
operations_from made v q (k ∷ ks) = operations_from made v q ks

abbrev pub operations_of : List Command → List Operation
operations_of ks = operations_from false 0 0 ks
