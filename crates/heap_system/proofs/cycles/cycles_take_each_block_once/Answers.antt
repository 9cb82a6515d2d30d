use Rattle.heap_system.proofs.accounting.OncePerCycle.{scanned_once, passed_once, passed_all, in_mark, in_sweep, units_taken}
use Rattle.heap_system.proofs.step_rows.LawsOfParts.{laws_of}
use Rattle.heap_system.proofs.accounting.TalliesOfParts.{tallies_of}
use Rattle.heap_system.proofs.cycles.cycles_take_each_block_once.Goals as goal

pub returns-clause-scanned : goal.returns-clause-scanned
returns-clause-scanned _ c r is z x = scanned_once c is.traces is.job is.by_turns.opening.rate is.by_turns.opening.planned (laws_of c) (tallies_of c) is.turns r is.by_turns z x

pub returns-clause-passed : goal.returns-clause-passed
returns-clause-passed _ c r is z x there = passed_once c is.traces is.job is.by_turns.opening.rate is.by_turns.opening.planned (laws_of c) (tallies_of c) is.turns r is.by_turns z x there

pub returns-clause-ended : goal.returns-clause-ended
returns-clause-ended _ c r is z x begun low there in_ = passed_all c is.traces is.job is.by_turns.opening.rate is.by_turns.opening.planned (laws_of c) (tallies_of c) is.turns r is.by_turns z x begun low there in_

pub returns-clause-marking : goal.returns-clause-marking
returns-clause-marking _ c r is x there mark = in_mark c is.traces is.job is.by_turns.opening.rate is.by_turns.opening.planned (laws_of c) (tallies_of c) is.turns r is.by_turns x there mark

pub returns-clause-sweeping : goal.returns-clause-sweeping
returns-clause-sweeping _ c r is x there sweep = in_sweep c is.traces is.job is.by_turns.opening.rate is.by_turns.opening.planned (laws_of c) (tallies_of c) is.turns r is.by_turns x there sweep

pub returns-clause-units : goal.returns-clause-units
returns-clause-units _ c r is = units_taken c is.traces is.job is.by_turns.opening.rate is.by_turns.opening.planned (laws_of c) (tallies_of c) is.turns r is.by_turns
