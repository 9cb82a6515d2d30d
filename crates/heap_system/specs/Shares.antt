-- A thread's share of a cycle: the units that its turns made in it, and the blocks that its entries
-- were given between its start and the next.
use Rattle.std.specs.Prelude.{ℕ, ◌+◌, ◌&&◌, Bool, List, [], ◌∷◌}
use Rattle.block_store.specs.declared.Config.{Config}
use Rattle.block_store.specs.declared.Width.{Width}
use Rattle.never_heap.specs.declared.Entry.{Entry}
use Rattle.never_heap.specs.Cycles.{before_start, after_start}
use Rattle.never_heap.specs.Histories.{HistoryItem, part}
use Rattle.never_heap.specs.Taken.{taken_by}
use Rattle.heap_system.specs.Cycles.{is_in_cycle}
use Rattle.heap_system.specs.Machines.{State, Run, opened, IsAfterTurns}
use Rattle.heap_system.specs.Units.{is_unit, turns_that}

-- whether a turn of thread t makes a unit while the phase word has cycle z
abbrev pub is_unit_in : Config → ℕ → ℕ → State → Bool
is_unit_in c z t s = is_unit c t s && is_in_cycle c z s

-- how many turns of thread t did, over a run
abbrev pub units_made_in : (c : Config) (r : Run) → IsAfterTurns c r → ℕ → ℕ → ℕ
units_made_in c r is z t = turns_that (is_unit_in c z) c t (opened c is.by_turns.first) is.turns

-- the blocks that these entries were given: those of the commands that were answered new
abbrev pub blocks_given : Width → List Entry → ℕ
blocks_given w [] = 0
blocks_given w (e ∷ es) = taken_by w e + blocks_given w es

-- the blocks that thread t was given in an order after the start of cycle z and before the next
-- start, or to the end
abbrev pub given_in : Width → ℕ → List HistoryItem → ℕ → ℕ
given_in w t order z = blocks_given w (part t (before_start 1 (after_start z order)))
