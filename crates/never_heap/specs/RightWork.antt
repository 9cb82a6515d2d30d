-- The work of an entry.
use Rattle.std.specs.Prelude.{ℕ, ◌+◌, ◌*◌, ◌≡◌, List, [], ◌∷◌}
use Rattle.block_store.specs.declared.Width.{Width}
use Rattle.never_heap.specs.declared.Command.{Command}
use Rattle.never_heap.specs.Histories.{HistoryItem, Started, Did}
use Rattle.never_heap.specs.Signatures.{operands, units_in}
use Rattle.never_heap.specs.Steps.{blocks_of}

-- the units that a command is told to make; 0 for one that is told of none
abbrev pub requested_units : Command → ℕ
requested_units k = units_in (operands k)

-- The units of work that a command owes at this rate, on blocks of this width: those of its blocks,
-- and those that it is told to make. A command has blocks or is told of units, and not both.
abbrev pub units_owed : Width → ℕ → Command → ℕ
units_owed w rate command = rate * blocks_of w command + requested_units command

abbrev pub IsRightWork : Width → ℕ → HistoryItem → Type 0
IsRightWork w rate Started = Unit {0}
IsRightWork w rate (Did e) = e.work ≡ units_owed w rate e.command

-- Each entry made the units that its command owes, whether it was answered new or full; so an entry
-- of a command that allocates nothing and is no idle made none.
abbrev pub RightWork : Width → ℕ → List HistoryItem → Type 0
RightWork w rate [] = Unit {0}
RightWork w rate (i ∷ is) = IsRightWork w rate i × RightWork w rate is
