use Rattle.array_tables.proofs.number_rings.RingRuns.{rings_show}
use Rattle.array_tables.proofs.number_rings.rings_show_the_last_numbers.Goals as goal

pub returns : goal.returns
returns c = rings_show
