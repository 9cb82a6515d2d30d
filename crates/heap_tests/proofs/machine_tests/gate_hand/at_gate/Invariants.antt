use Rattle.block_store.specs.Configs.{IsInBounds}
use Rattle.heap_machine.specs.Gates.{GateFits, GateAt}
use Rattle.heap_tests.proofs.machine_tests.gate_hand.at_gate.Given as goal

abbrev pub invariant-loop-row : goal.invariant-loop-row
invariant-loop-row l = IsInBounds l.c × GateFits l.gate × GateAt l.c l.gate
