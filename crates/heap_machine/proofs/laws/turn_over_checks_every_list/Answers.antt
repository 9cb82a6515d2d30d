use Rattle.heap_machine.proofs.Turnovers.{flips_after, flips_only, each_list, sets_cursor, reopens_at}
use Rattle.heap_machine.proofs.laws.turn_over_checks_every_list.Goals as goal

pub returns : goal.returns
returns c = record { flips = flips_after; only = flips_only; each = each_list; cursor = sets_cursor; reopens = reopens_at }
