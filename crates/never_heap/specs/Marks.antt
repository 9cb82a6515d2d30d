-- Marks on the names of a graph.
use Rattle.std.specs.Prelude.{◌-◌, ◌==◌, ◌&&◌, nat_le, Bool, false, if◌then◌else◌, List, [], length, slice_index_or}
use Rattle.block_store.specs.declared.Name.{Name}

-- a mark for the shared array, and one for each object of each thread, the s-th at place s - 1
pub record Marked : Type 0 where
  pub shared : Bool
  pub rows : List (List Bool)

-- whether there is a mark for this name
abbrev pub has_place : Marked → Name → Bool
has_place m a =
    if a.serial == 0
    then a.thread == length m.rows
    else nat_le a.serial (length (slice_index_or m.rows a.thread []))

-- whether this name is marked
abbrev pub has_mark : Marked → Name → Bool
has_mark m a =
    if a.serial == 0
    then (a.thread == length m.rows) && m.shared
    else slice_index_or (slice_index_or m.rows a.thread []) (a.serial - 1) false
