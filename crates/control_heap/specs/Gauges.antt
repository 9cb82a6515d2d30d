-- The most operations that a command takes, what is left of a life, and what the blocks in use are.
use Rattle.std.specs.Prelude.{ℕ, ◌+◌, ◌-◌, ◌*◌, ◌/◌, max, min, List}
use Rattle.block_store.specs.declared.Config.{Config}
use Rattle.never_heap.specs.declared.Command.{Command}
use Rattle.never_heap.specs.Cycles.{graph_at}
use Rattle.never_heap.specs.GivenBlocks.{given}
use Rattle.never_heap.specs.Histories.{HistoryItem, starts_in}
use Rattle.never_heap.specs.LiveBlocks.{live_blocks}
use Rattle.heap_system.specs.Alone.{command_near}
use Rattle.heap_system.specs.Lives.{most_commands, most_objects, most_units}
use Rattle.control_heap.specs.Controls.{ControlOf, asked, units}

-- the most operations of a command at this rate: the near bound of a lone thread
abbrev pub most_operations : Config → ℕ → Command → ℕ
most_operations c rate k = command_near c rate k

-- the millionths of the whole that are left
abbrev pub share : ℕ → ℕ → ℕ
share left whole = left * 1000000 / whole

-- the least of what is left of a life's units, objects and commands, in millionths
abbrev pub life_left : {M : Type 0} → ControlOf M → ℕ
life_left h =
    min (share (most_units - units h) most_units)
    (min (share (most_objects - h.objects) most_objects)
    (share (most_commands - asked h) most_commands))

-- The last cycle that is over, or the first while none is: the last of which the whole mark and
-- sweep are known.
abbrev pub cycle_before : List HistoryItem → ℕ
cycle_before h = max 1 (starts_in h - 1)

-- the blocks that were live when that cycle began, and those made since
abbrev pub live_or_made : Config → List HistoryItem → ℕ
live_or_made c h =
    live_blocks c.width (graph_at c h (cycle_before h)) + given c.width h (starts_in h - 1)
    + given c.width h (starts_in h)

-- the blocks that were live when the present cycle began
abbrev pub live_at_start : Config → List HistoryItem → ℕ
live_at_start c h = live_blocks c.width (graph_at c h (starts_in h))
