use Rattle.std.proofs.Common.{◌∙◌, arith}
use Rattle.heap_structures.specs.Heaps.{Always}
use Rattle.heap_structures.proofs.trends.TrendOpens.{first_may, g0, made_few, next_may, opens, start_small, started}
use Rattle.heap_structures.proofs.trend.Trend.open.Goals as goal

pub unreachable-requires : goal.unreachable-requires
unreachable-requires c =
    let k = c.args.config in
    let n = c.args.size in
    let h = c.in_ok-heap.heap in
    let same = c.in_ok-heap.ensures.config in
    let fresh = c.in_ok-heap.ensures.fresh in
    opens k n c.requires h c.new.new.heap same 3 2 (g0 k n c.requires) c.in_default.field-0
    (omega arith) (omega arith) (λ e. absurd (omega (arith, e))) (omega (arith, fresh.0))
    (omega (arith, fresh.2)) (λ rate is. omega (arith, fresh.1))
    (c.in_default.ensures.opens Always (g0 k n c.requires)
    (c.in_ok-heap.ensures.shown (start_small k n c.requires)) (first_may k n c.requires h same))

pub unreachable-requires-in_default-new : goal.unreachable-requires-in_default-new
unreachable-requires-in_default-new c =
    let k = c.args.config in
    let n = c.args.size in
    let h = c.in_ok-heap.heap in
    let y = c.new.new.heap in
    let same = c.in_ok-heap.ensures.config in
    let fresh = c.in_ok-heap.ensures.fresh in
    let r = c.in-Ok.numbers in
    let place = c.in-Ok.ensures.placed in
    let o = c.in-Ok.ensures.opens Always (g0 k n c.requires)
    (c.in_ok-heap.ensures.shown (start_small k n c.requires)) (first_may k n c.requires h same) in
    opens k n c.requires y c.new-2.new.heap (o.config ∙ same) 4 1 o.graph c.in_default-new.field-0
    (omega arith) (omega arith) (λ e. absurd (omega (arith, e)))
    (omega (arith, o.commands, fresh.0)) (omega (arith, o.objects, fresh.2))
    (made_few k n c.requires h y same fresh r place o)
    (c.in_default-new.ensures.opens Always o.graph o.has
    (next_may k n c.requires h y same fresh r place o))

pub returns-clause-trend : goal.returns-clause-trend
returns-clause-trend c =
    let k = c.args.config in
    let n = c.args.size in
    let h = c.in_ok-heap.heap in
    let y = c.new.new.heap in
    let same = c.in_ok-heap.ensures.config in
    let fresh = c.in_ok-heap.ensures.fresh in
    let r = c.in-Ok.numbers in
    let place = c.in-Ok.ensures.placed in
    let o = c.in-Ok.ensures.opens Always (g0 k n c.requires)
    (c.in_ok-heap.ensures.shown (start_small k n c.requires)) (first_may k n c.requires h same) in
    started k n c.requires h y same fresh r place o c.new-2.new.heap c.in-Ok-new.alarms
    c.in-Ok-new.ensures.placed
    (c.in-Ok-new.ensures.opens Always o.graph o.has
    (next_may k n c.requires h y same fresh r place o))
