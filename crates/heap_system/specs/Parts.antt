-- The part of its work at which a thread is, and how the code keeps it: as a row, beside what
-- passes, commands and objects have in common.
use Rattle.block_store.specs.declared.Config.{Config}
use Rattle.heap_machine.specs.declared.gate.GateRow.{GateRow}
use Rattle.heap_machine.specs.declared.gate.GateRow.TheVariants as gates
use Rattle.heap_machine.specs.declared.pass.Pass.{Pass}
use Rattle.grey_steps.specs.Rows.{GreyState}
use Rattle.barrier_steps.specs.Rows.{FieldState}
use Rattle.sweep_steps.specs.Rows.{SweepState}
use Rattle.build_steps.specs.Rows.{BuildState}
use Rattle.heap_system.specs.declared.rows.Row.{Row}
use Rattle.heap_system.specs.declared.rows.Row.TheVariants as rows

pub data Part : Type 0 where
  -- at rest outside the gate
  Rest : Part
  -- on its way in
  Enter : (gate : GateRow) → Part
  -- inside, in a command that makes no object and owes no more
  Access : (pass : FieldState) → Part
  -- inside while the phase is Mark, in a command that owes units, of which it makes one at most:
  -- none where nothing is grey
  Mark : (scan : GreyState) → Part
  -- inside while the phase is Sweep, in a command that owes units: it makes up to eight, and none
  -- where each block is claimed
  Sweep : (pass : SweepState) → Part
  -- inside, in an allocation that owes no more: it makes the object, or is refused
  Build : (pass : BuildState) → Part
  -- on its way out, to come in again for the command in hand
  Retry : Part
  -- on its way out after a pass that found nothing to do, to change the phase
  LeaveToChangePhase : Part
  -- outside, to change the phase or to start the next cycle, and then to come in again
  PhaseChange : (gate : GateRow) → Part
  -- on its way out, with its command in the log
  Leave : Part

-- the part that a row is in a pass of a thread, with the command, the gate and the builder that
-- are beside it
abbrev pub part_at : Config → Pass → FieldState → GateRow → BuildState → Row → Part
part_at c q f g b rows.Rest = Rest
part_at c q f g b rows.Look = Enter gates.Look
part_at c q f g b (rows.Enter seen) = Enter (gates.Enter seen)
part_at c q f g b rows.Access = Access f
part_at c q f g b (rows.Mark r) = Mark (record { pass = q; row = r })
part_at c q f g b (rows.Sweep owed r) = Sweep (record {
  thread = q.thread;
  cycle = q.cycle;
  blocks = c.blocks;
  owed = owed;
  row = r;
})
part_at c q f g b rows.Build = Build b
part_at c q f g b rows.Retry = Retry
part_at c q f g b rows.LeaveToChangePhase = LeaveToChangePhase
part_at c q f g b rows.PhaseChange = PhaseChange g
part_at c q f g b rows.Leave = Leave
