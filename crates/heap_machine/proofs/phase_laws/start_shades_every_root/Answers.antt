use Rattle.heap_machine.proofs.RootsBeforeStart.{starts_only, each_root, puts_roots}
use Rattle.heap_machine.proofs.phase_laws.start_shades_every_root.Goals as goal

pub returns : goal.returns
returns c = record { only = starts_only; each = each_root; puts = puts_roots }
