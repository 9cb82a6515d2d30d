use Rattle.std.proofs.Common.{◌≡◌, ℕ, zero, suc, ◌≤◌, ◌∷◌, [], length, length-append, refl, ap, ◌∙◌, arith}
use Rattle.block_store.specs.declared.Shape.{Shape}
use Rattle.block_store.specs.declared.Shape.TheVariants.{List as Listed, Tree}
use Rattle.block_store.specs.Shapes.{IsShape}
use Rattle.block_store.specs.Heaps.{Heap, heap_of}
use Rattle.block_store.specs.Places.{Extent, extent}
use Rattle.barrier_steps.specs.Walks.{shape_length}
use Rattle.control_heap.specs.Seen.{fields_seen, word_seen}
use Rattle.control_heap.specs.Readings.{field_read}
use Rattle.control_heap.proofs.control.seen.all_seen.Goals as goal

seen_count : (e : Extent) (h : Heap) (s : Shape) (x n : ℕ) → length (fields_seen e h s x n) ≡ n
seen_count e h s x zero = refl
seen_count e h s x (suc n) =
    let more = length-append (fields_seen e h s x n) (word_seen h (field_read e h s n x) ∷ []) in
    let before = seen_count e h s x n in
    omega (arith, more, before)

long : (s : Shape) → IsShape s → shape_length s ≤ 65535
long (Listed n) is = is
long (Tree n) is = is

pub returns-clause-few : goal.returns-clause-few
returns-clause-few c =
    let count = ap length c.loop-i.invariant ∙ seen_count (extent c.args.c.now) (heap_of (extent c.args.c.now) c.args.words.now) c.shape_at-shape.result c.args.x c.loop-i.i in
    let end = c.length_of-i-end.ensures in
    let most = long c.shape_at-shape.result c.shape_at-shape.ensures.fits in
    omega (arith, count, end, most, c.loop-i.auto.i-end)
