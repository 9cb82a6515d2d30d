-- How each part moves a tally: one line a part.
use Rattle.block_store.specs.declared.Config.{Config}
use Rattle.heap_system.specs.Parts.{Part, Rest, Enter, Access, Mark, Sweep, Build, Retry, LeaveToChangePhase, PhaseChange, Leave}
use Rattle.heap_system.proofs.accounting.TallyLaw.{TallyLaw}
use Rattle.heap_system.proofs.tallies.Build.{build_tallied}
use Rattle.heap_system.proofs.tallies.Enter.{rest_tallied, enter_tallied}
use Rattle.heap_system.proofs.tallies.Leave.{again_tallied, idle_tallied, leave_tallied}
use Rattle.heap_system.proofs.tallies.Mark.{mark_tallied}
use Rattle.heap_system.proofs.tallies.Access.{serve_tallied}
use Rattle.heap_system.proofs.tallies.Sweep.{sweep_tallied}
use Rattle.heap_system.proofs.tallies.PhaseChange.{turn_over_tallied}

pub tallies_of : (c : Config) (p : Part) → TallyLaw c p
tallies_of c Rest = rest_tallied c
tallies_of c (Enter g) = enter_tallied c g
tallies_of c (Access f) = serve_tallied c f
tallies_of c (Mark m) = mark_tallied c m
tallies_of c (Sweep s) = sweep_tallied c s
tallies_of c (Build b) = build_tallied c b
tallies_of c Retry = again_tallied c
tallies_of c LeaveToChangePhase = idle_tallied c
tallies_of c (PhaseChange g) = turn_over_tallied c g
tallies_of c Leave = leave_tallied c
