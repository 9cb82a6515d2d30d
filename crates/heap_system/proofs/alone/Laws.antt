-- The turn of a lone thread, by its part.
use Rattle.std.proofs.Common.{◌≡◌, true, false}
use Rattle.block_store.specs.declared.Config.{Config}
use Rattle.heap_system.specs.Parts.{Part, Rest, Enter, Access, Mark, Sweep, Build, Retry, LeaveToChangePhase, PhaseChange, Leave}
use Rattle.heap_system.proofs.alone.Build.{build_lone}
use Rattle.heap_system.proofs.alone.PhaseChange.{turn_lone}
use Rattle.heap_system.proofs.alone.Gate.{rest_lone, again_lone, idle_lone, enter_lone}
use Rattle.heap_system.proofs.alone.Mark.{mark_lone}
use Rattle.heap_system.proofs.alone.Access.{serve_lone}
use Rattle.heap_system.proofs.alone.LoneThread.{LoneLaw, is_out}
use Rattle.heap_system.proofs.alone.Sweep.{sweep_lone}

pub lone_law : (c : Config) (p : Part) → is_out p ≡ false → LoneLaw c p
lone_law c Rest on = rest_lone c
lone_law c (Enter g) on = enter_lone c g
lone_law c (Access f) on = serve_lone c f
lone_law c (Mark m) on = mark_lone c m
lone_law c (Sweep s) on = sweep_lone c s
lone_law c (Build b) on = build_lone c b
lone_law c Retry on = again_lone c
lone_law c LeaveToChangePhase on = idle_lone c
lone_law c (PhaseChange g) on = turn_lone c g
lone_law c Leave on = absurd (let z : true ≡ false = on in cc)
