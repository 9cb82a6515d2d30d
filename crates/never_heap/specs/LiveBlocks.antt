-- How many blocks the reachable objects of a graph take.
use Rattle.std.specs.Prelude.{ℕ, ◌+◌, if◌then◌else◌, length}
use Rattle.std.specs.List.{sum_by}
use Rattle.block_store.specs.declared.Name.{Name}
use Rattle.block_store.specs.declared.Width.{Width}
use Rattle.block_store.specs.Registers.{registers_end}
use Rattle.object_lists.specs.Records.{record_blocks}
use Rattle.array_trees.specs.Trees.{array_blocks}
use Rattle.never_heap.specs.Graphs.{Graph, Object, ObjectKind, Record, Array, object_of}
use Rattle.never_heap.specs.Reach.{names, reachable}

-- the blocks of this width that an object of this kind and length takes
abbrev pub blocks_of_kind : Width → ObjectKind → ℕ → ℕ
blocks_of_kind w Record n = record_blocks w n
blocks_of_kind w Array n = array_blocks w n

-- the blocks of an object
abbrev pub object_blocks : Width → Object → ℕ
object_blocks w o = blocks_of_kind w o.kind (length o.fields)

-- the blocks of an object that is reachable, and none of one that is not
abbrev pub live_of : Width → Graph → Name → ℕ
live_of w g a = if reachable g a then object_blocks w (object_of g a) else 0

-- the register arrays of all threads, and the blocks of all reachable objects
unfoldable pub live_blocks : Width → Graph → ℕ
live_blocks w g = registers_end w (length g.mutators) + sum_by (live_of w g) (names g)
