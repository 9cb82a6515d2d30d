use Rattle.std.proofs.Common.{sym}
use Rattle.block_store.specs.Places.{Phase}
use Rattle.heap_machine.proofs.Lemmas.{inside_most}
use Rattle.heap_system.specs.Machines.{heap_in}
use Rattle.heap_system.specs.Pictures.{gates_in}
use Rattle.heap_system.proofs.invariant.InvariantHolds.{run_kept}
use Rattle.heap_system.proofs.step_rows.LawsOfParts.{laws_of}
use Rattle.heap_system.proofs.laws.threads_inside_are_counted.Goals as goal

pub returns-clause-count : goal.returns-clause-count
returns-clause-count _ c r is = sym (run_kept c is.traces (laws_of c) is.job is.turns r is.by_turns).gate.count

pub returns-clause-most : goal.returns-clause-most
returns-clause-most _ c r is = inside_most c.threads (heap_in c r.state Phase) (gates_in c r.state) (run_kept c is.traces (laws_of c) is.job is.turns r is.by_turns).gate

pub returns-clause-gate : goal.returns-clause-gate
returns-clause-gate _ c r is = (run_kept c is.traces (laws_of c) is.job is.turns r is.by_turns).gate
