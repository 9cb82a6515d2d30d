use Rattle.std.proofs.Common.{◌-◌, length}
use Rattle.never_heap.specs.Reach.{names}
use Rattle.never_heap.specs.Scans.{Scanned, HasRegisters}
use Rattle.never_heap.proofs.LiveScan.{HasLed}
use Rattle.never_heap.proofs.graph.Graph.count_live_by.Given as goal

abbrev pub invariant-loop-next : goal.invariant-loop-next
invariant-loop-next l = record {
  scanned : Scanned l.self.width l.self.graph l.scan.marks l.scan.found.items l.scan.total;
  registers : HasRegisters l.self.graph l.scan.marks;
  led : HasLed l.self.graph l.scan.marks l.scan.found.items l.next;
}

abbrev pub decreases-loop-next : goal.decreases-loop-next
decreases-loop-next l = length (names l.self.graph) - l.next
