use Rattle.std.proofs.Common.{take}
use Rattle.never_heap.specs.Scans.{Scanned, Finds}
use Rattle.never_heap.proofs.live.Scan.find_all.Given as goal

abbrev pub invariant-loop-value : goal.invariant-loop-value
invariant-loop-value l = record {
  scanned : Scanned l.graph.width l.graph.graph l.self.marks l.self.found.items l.self.total;
  finds : Finds l.graph.graph l.fn.self.marks l.self.marks l.fn.self.found.items l.self.found.items
      (take l.value-index l.values);
}
