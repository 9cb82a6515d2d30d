use Rattle.std.proofs.Common.{◌≡◌, ◌++◌, ◌∷◌, [], map}
use Rattle.std.proofs.lemmas.Result.{err_from_is_err_and}
use Rattle.std.proofs.lemmas.List.{map_push}
use Rattle.saved_heap.specs.heap_pictures.Pictures.{view}
use Rattle.saved_heap.specs.heap_pictures.Reading.{item_read, items_at}
use Rattle.saved_heap.proofs.heap_pictures.Loop.{goes_on, ends, is_done}
use Rattle.saved_heap.proofs.heap_pictures.LoopsOf.{more_items, no_items}
use Rattle.saved_heap.proofs.heap_pictures.reading.items_of.Goals as goal

pub returns-in_err-item : goal.returns-in_err-item
returns-in_err-item c =
    let p = err_from_is_err_and c.from_residual.result c.from_residual.ensures.1 in
    rw (p.1, p.2) (ends item_read items_at no_items more_items c.in_err-item.field-0.0 (map view c.loop.items.items) c.args.count c.loop.counter c.loop.rest.now (items_at c.args.count c.args.bytes.now) c.loop-test.true c.in_err-item.ensures c.loop.invariant)

pub loop-preserved : goal.loop-preserved
loop-preserved c =
    let n = c.in_ok-item.item in
    let e : map view c.push.new.self.items ≡ map view c.loop.items.items ++ view n ∷ [] = rw c.in_ok-push.ensures.items (map_push _ c.loop.items.items n) in
    rw e (goes_on item_read items_at no_items more_items (map view c.loop.items.items) c.args.count c.loop.counter c.loop.rest.now (view n) c.in_ok-item.after.now (items_at c.args.count c.args.bytes.now) c.loop-test.true c.in_ok-item.ensures c.loop.invariant)

pub returns : goal.returns
returns c = is_done item_read items_at no_items more_items (map view c.loop.items.items) c.args.count c.loop.counter c.loop.rest.now (items_at c.args.count c.args.bytes.now) c.loop-test.false c.loop.invariant
