use Rattle.std.proofs.lemmas.Result.{err_from_is_err_and}
use Rattle.saved_heap.specs.heap_pictures.Reading.{some_values_at, value_at}
use Rattle.saved_heap.proofs.heap_pictures.Loop.{goes_on, ends, is_done}
use Rattle.saved_heap.proofs.heap_pictures.LoopsOf.{more_values, no_values}
use Rattle.saved_heap.proofs.heap_pictures.reading.some_values.Goals as goal

pub returns-in_err-value : goal.returns-in_err-value
returns-in_err-value c =
    let p = err_from_is_err_and c.from_residual.result c.from_residual.ensures.1 in
    rw (p.1, p.2) (ends value_at some_values_at no_values more_values c.in_err-value.field-0.0 c.loop.values.items c.args.count c.loop.counter c.loop.rest.now (some_values_at c.args.count c.args.bytes.now) c.loop-test.true c.in_err-value.ensures c.loop.invariant)

pub loop-preserved : goal.loop-preserved
loop-preserved c =
    rw c.in_ok-push.ensures.items (goes_on value_at some_values_at no_values more_values c.loop.values.items c.args.count c.loop.counter c.loop.rest.now c.in_ok-value.value c.in_ok-value.after.now (some_values_at c.args.count c.args.bytes.now) c.loop-test.true c.in_ok-value.ensures c.loop.invariant)

pub returns : goal.returns
returns c = is_done value_at some_values_at no_values more_values c.loop.values.items c.args.count c.loop.counter c.loop.rest.now (some_values_at c.args.count c.args.bytes.now) c.loop-test.false c.loop.invariant
