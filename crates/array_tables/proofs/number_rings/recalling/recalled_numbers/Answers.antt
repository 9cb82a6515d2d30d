use Rattle.std.proofs.Common.{◌*◌}
use Rattle.never_heap.proofs.Lemmas.{replies}
use Rattle.array_tables.specs.number_rings.Rings.{recalled}
use Rattle.array_tables.proofs.number_rings.TracesSoFar.{told_none, told_more}
use Rattle.array_tables.proofs.number_rings.recalling.recalled_numbers.Goals as goal

pub loop-rest-init : goal.loop-rest-init
loop-rest-init c =
    told_none c.args.log.now c.behind-rest.result.now (4 * c.args.kept) c.new-numbers.result.items
    c.new-numbers.ensures.items c.behind-rest.ensures

pub loop-rest-preserved : goal.loop-rest-preserved
loop-rest-preserved c =
    told_more c.loop-rest.rest.now c.behind-rest-in-loop-rest.result.now _
    c.loop-rest.numbers.items c.push_told.new.numbers.items
    (recalled c.args.kept (replies c.args.log.now)) c.loop-rest-test.true
    c.behind-rest-in-loop-rest.ensures c.in_ok-push_told.ensures c.loop-rest.invariant
