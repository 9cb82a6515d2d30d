use Rattle.heap_system.proofs.accounting.RunBounds.{gives}
use Rattle.heap_system.proofs.step_rows.LawsOfParts.{laws_of}
use Rattle.heap_system.proofs.accounting.TalliesOfParts.{tallies_of}
use Rattle.heap_system.proofs.bound.cycles_give_few_blocks.Goals as goal

pub returns : goal.returns
returns _ c r rate is planned z low = gives c is.traces (laws_of c) (tallies_of c) is.job is.turns r is.by_turns rate planned z low
