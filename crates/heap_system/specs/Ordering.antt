-- How a system keeps an order: its items so far, with room for all that may come.
use Rattle.std.specs.Prelude.{ℕ, ◌+◌, ◌/◌, ◌≤◌, ◌≡◌, Option, Some, None, map}
use Rattle.std.specs.Vec.{vec_capacity}
use Rattle.block_store.specs.declared.Config.{Config}
use Rattle.never_heap.specs.HistoryOfOrder.{item_of}
use Rattle.heap_system.specs.declared.orders.KeptOrder.{KeptOrder}
use Rattle.heap_system.specs.Costs.{units_so_far}
use Rattle.heap_system.specs.Machines.{State, Run}
use Rattle.heap_system.specs.Systems.{Ordered, traces_of, commands_in, IsReached}

-- what contracts see of it
abbrev pub ordered_of : KeptOrder → Ordered
ordered_of o = record { items = o.items.items; left = o.left }

abbrev pub ordered : Option KeptOrder → Option Ordered
ordered None = None
ordered (Some o) = Some (ordered_of o)

-- The items are those of the order of a run. It made at most so many units as events were made, and
-- there is room for each command, and for the starts that so many events can make.
pub record IsOrderOf (c : Config) (commands : ℕ) (r : Run) (o : KeptOrder) : Type 0 where
  pub items : o.items.items ≡ map item_of r.order
  pub events : ℕ
  pub few : units_so_far c r + o.left ≤ events
  pub room : commands + 2 + events / c.blocks ≤ vec_capacity o.items

abbrev pub IsOrderIn : Config → ℕ → Run → Option KeptOrder → Type 0
IsOrderIn c commands r None = Unit {0}
IsOrderIn c commands r (Some o) = IsOrderOf c commands r o

-- the state after some list of turns over a job, and the order that is kept is that of this list
pub record IsInOrder (c : Config) (s : State) (order : Option KeptOrder) : Type 0 where
  pub reached : IsReached c s
  pub kept : IsOrderIn c (commands_in (traces_of s)) reached.run order
