-- The units that a run has made so far.
use Rattle.std.specs.Prelude.{ℕ, ◌+◌}
use Rattle.block_store.specs.declared.Config.{Config}
use Rattle.block_store.specs.Counts.{total}
use Rattle.never_heap.specs.Histories.{work_in}
use Rattle.heap_system.specs.Machines.{Run, local_in}

-- the works of the commands that were decided, and the units made for those in hand
abbrev pub units_so_far : Config → Run → ℕ
units_so_far c r = work_in r.order + total c.threads (λ t. (local_in c r t).spent)
