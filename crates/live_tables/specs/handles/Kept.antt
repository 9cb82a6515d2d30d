-- What a worker keeps in memory of its deeds.
use Rattle.std.specs.Prelude.{ℕ, ◌<◌, ◌≡◌, Option, None, List, slice_index_or}
use Rattle.block_store.specs.declared.Config.{Config}
use Rattle.array_tables.specs.handle_table.Handles.{Deed}
use Rattle.live_tables.specs.declared.handles.kind.Held.{Held}
use Rattle.live_tables.specs.declared.handles.request.HandleRequest.{HandleRequest}
use Rattle.live_tables.specs.declared.handles.request.HandleRequest.TheVariants as asks
use Rattle.live_tables.specs.handles.Makes.{made_by, slot_after, slot_by}

-- how many handles a request makes
abbrev pub makes : HandleRequest → ℕ
makes (asks.Make h i x) = 1
makes _ = 0

-- how many objects the commands of a request make
abbrev pub objects_by : HandleRequest → ℕ
objects_by (asks.Make h i x) = 2
objects_by _ = 0

-- a make is of one of the worker's eight handles
abbrev pub NamesHandle : HandleRequest → Type 0
NamesHandle (asks.Make h i x) = h < 8
NamesHandle _ = Unit {0}

-- the slots of its handles after a request
abbrev pub slot_next : HandleRequest → (ℕ → Option ℕ) → ℕ → Option ℕ
slot_next (asks.Make h i x) slot = slot_after slot h i
slot_next _ slot = slot

-- A worker keeps how many handles it made, and the slot of the last make of each.
pub record Keeps (c : Config) (t : ℕ) (ops : List Deed) (held : Held) : Type 0 where
  pub made_so : held.made ≡ made_by ops
  pub slots_so : (h : ℕ) → h < 8 → slice_index_or held.slots h None ≡ slot_by ops h
