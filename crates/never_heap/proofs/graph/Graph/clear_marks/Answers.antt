use Rattle.std.proofs.Common.{arith, length, ◌∙◌}
use Rattle.never_heap.proofs.MarkSpread.{unmarked}
use Rattle.never_heap.proofs.MarksByStamp.{rows_more, rows_all}
use Rattle.never_heap.proofs.graph.Graph.clear_marks.Goals as goal

pub loop-thread-preserved : goal.loop-thread-preserved
loop-thread-preserved c =
    let ms = c.mutators-mutators.result.now in
    let ensured = c.in_ok-clear_row.ensures in
    record {
      rows = rows_more ms c.loop-thread.thread c.count.result c.index-mutators-thread.result
          c.loop-thread.marks.rows c.clear_row.new.self.rows c.loop-thread-test.true
          c.index-mutators-thread.is c.count.ensures.value c.loop-thread.invariant.rows
          ensured.rows;
      some = omega (arith, ensured.some);
      few = ensured.few (length ms) c.loop-thread-test.true c.loop-thread.invariant.few;
      shared = ensured.shared ∙ c.loop-thread.invariant.shared;
    }

pub returns-clause-marks : goal.returns-clause-marks
returns-clause-marks c =
    let ms = c.mutators-mutators.result.now in
    let i = c.loop-thread.invariant in
    unmarked ms c.loop-thread.marks
    (rows_all ms c.loop-thread.thread c.loop-thread.marks.rows
    (omega (arith, c.loop-thread-test.false)) i.few i.rows) i.shared
