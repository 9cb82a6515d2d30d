use Rattle.std.proofs.Common.{get_or}
use Rattle.block_store.specs.declared.Value.TheVariants.{Nil}
use Rattle.never_heap.proofs.LiveScan.{finds_more, finds_other}
use Rattle.never_heap.proofs.MarkSpread.{no_reference}
use Rattle.never_heap.proofs.live.Scan.find_all.Goals as goal
use Rattle.never_heap.proofs.live.Scan.find_all.Goals.{in-Ref+in_ok-find, in_default}

pub loop-value-preserved : goal.loop-value-preserved
loop-value-preserved c =
    let g = c.args.graph.now.graph in
    let old = c.args.self.now in
    let mid = c.loop-value.self in
    elim c.match-value.branch [
      | in-Ref+in_ok-find w ↦ rw w.self-is (record {
        scanned = w.in_ok-find.ensures.scanned;
        finds = finds_more g old.marks mid.marks w.find.new.self.marks old.found.items
            mid.found.items w.find.new.self.found.items c.args.values.now c.loop-value.value-index
            c.loop-value-test.true
            c.loop-value.invariant.finds w.in-Ref.name w.in-Ref.is w.in_ok-find.ensures.finds;
      })
      | in_default w ↦ rw w.self-is (record {
        scanned = c.loop-value.invariant.scanned;
        finds = finds_other g old.marks mid.marks mid.marks old.found.items mid.found.items
            mid.found.items c.args.values.now c.loop-value.value-index c.loop-value-test.true
            c.loop-value.invariant.finds
            (λ a. no_reference a
            (get_or c.args.values.now c.loop-value.value-index Nil) w.in_default.not-Ref);
      })
    ]
