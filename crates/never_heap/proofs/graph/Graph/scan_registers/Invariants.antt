use Rattle.never_heap.specs.Scans.{Scanned}
use Rattle.never_heap.proofs.LiveScan.{HasFirst}
use Rattle.never_heap.proofs.graph.Graph.scan_registers.Given as goal

abbrev pub invariant-loop-mutator : goal.invariant-loop-mutator
invariant-loop-mutator l = record {
  scanned : Scanned l.self.width l.self.graph l.scan.marks l.scan.found.items l.scan.total;
  registers : HasFirst l.self.graph l.scan.marks l.mutator-items l.mutator-index;
}
