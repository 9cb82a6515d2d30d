-- Every object has a layout, and one of few blocks has few fields.
use Rattle.std.proofs.Common.{ℕ, ◌≤◌, length, arith}
use Rattle.block_store.specs.declared.Width.{Width}
use Rattle.block_store.specs.declared.Width.TheVariants.{Four, Eight}
use Rattle.block_store.specs.Widths.{payloads}
use Rattle.block_store.proofs.Lemmas.{many}
use Rattle.object_lists.specs.Layouts.{IsLayout}
use Rattle.object_lists.proofs.Lists.{record_layout}
use Rattle.array_trees.specs.Trees.{leaves}
use Rattle.array_trees.proofs.Arrays.{tree_layout}
use Rattle.array_trees.proofs.Counts.{le-tree}
use Rattle.never_heap.specs.Graphs.{ObjectKind, Record, Array, Object}
use Rattle.heap_invariant.specs.graph_relation.Layouts.{layout_blocks, layout_part, layout_slot, object_blocks, object_part, object_slot}

pub layout_laws : (W : Width) (k : ObjectKind) (n : ℕ)
    → IsLayout (payloads W) n (layout_blocks W k n) (layout_part W k n) (layout_slot W k n)
layout_laws W Record n = record_layout W n
layout_laws W Array n = tree_layout (payloads W) n (many W)

pub object_layout : (W : Width) (o : Object)
    → IsLayout (payloads W) (length o.fields) (object_blocks W o) (object_part W o)
    (object_slot W o)
object_layout W o = layout_laws W o.kind (length o.fields)

pub few_fields : (W : Width) (k : ObjectKind) (n : ℕ) → layout_blocks W k n ≤ 1024 → n ≤ 65535
few_fields Four Record n h = omega arith
few_fields Eight Record n h = omega arith
few_fields Four Array n h = omega (arith, h, le-tree 4 (leaves 4 n) (omega arith))
few_fields Eight Array n h = omega (arith, h, le-tree 8 (leaves 8 n) (omega arith))
