use Rattle.std.proofs.Common.{arith}
use Rattle.block_store.specs.Heaps.{heap_of}
use Rattle.block_store.specs.Places.{extent}
use Rattle.control_heap.proofs.ElementWords.{near_record}
use Rattle.control_heap.proofs.paths.near_in_record.Goals as goal

pub returns : goal.returns
returns c =
    near_record (extent c.args.c.now) (heap_of (extent c.args.c.now) c.args.words.now) c.args.fields c.args.x c.args.i c.payload_at.result c.walk_of-links.result
    c.if-i-fields.false c.walk_of-links.ensures.pair (omega (arith, c.if-links-gt0.false)) c.payload_at.ensures
