-- The laws of each part: one line a part.
use Rattle.block_store.specs.declared.Config.{Config}
use Rattle.heap_system.specs.Parts.{Part, Rest, Enter, Access, Mark, Sweep, Build, Retry, LeaveToChangePhase, PhaseChange, Leave}
use Rattle.heap_system.proofs.step_rows.PartLaws.{PartLaws}
use Rattle.heap_system.proofs.parts.Rest.{rest_laws}
use Rattle.heap_system.proofs.parts.Enter.{enter_laws}
use Rattle.heap_system.proofs.parts.Access.{serve_laws}
use Rattle.heap_system.proofs.parts.Mark.{mark_laws}
use Rattle.heap_system.proofs.parts.Sweep.{sweep_laws}
use Rattle.heap_system.proofs.parts.Build.{build_laws}
use Rattle.heap_system.proofs.parts.Retry.{again_laws}
use Rattle.heap_system.proofs.parts.LeaveToChangePhase.{idle_laws}
use Rattle.heap_system.proofs.parts.PhaseChange.{turn_over_laws}
use Rattle.heap_system.proofs.parts.Leave.{leave_laws}

pub laws_of : (c : Config) (p : Part) → PartLaws c p
laws_of c Rest = rest_laws c
laws_of c (Enter g) = enter_laws c g
laws_of c (Access f) = serve_laws c f
laws_of c (Mark m) = mark_laws c m
laws_of c (Sweep s) = sweep_laws c s
laws_of c (Build b) = build_laws c b
laws_of c Retry = again_laws c
laws_of c LeaveToChangePhase = idle_laws c
laws_of c (PhaseChange g) = turn_over_laws c g
laws_of c Leave = leave_laws c
