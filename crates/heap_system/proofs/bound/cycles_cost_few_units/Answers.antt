use Rattle.std.proofs.Common.{◌∙◌}
use Rattle.block_store.proofs.Lemmas.{total_same}
use Rattle.heap_system.proofs.accounting.RunBounds.{least, most, right, small, all_done, by_thread}
use Rattle.heap_system.proofs.step_rows.LawsOfParts.{laws_of}
use Rattle.heap_system.proofs.accounting.UnitsOfTurns.{run_makes}
use Rattle.heap_system.proofs.accounting.TalliesOfParts.{tallies_of}
use Rattle.heap_system.proofs.bound.cycles_cost_few_units.Goals as goal

pub returns-clause-least : goal.returns-clause-least
returns-clause-least _ c r is = least c is.traces (laws_of c) (tallies_of c) is.job is.turns r is.by_turns is.by_turns.opening.rate is.by_turns.opening.planned

pub returns-clause-most : goal.returns-clause-most
returns-clause-most _ c r is = most c is.traces (laws_of c) (tallies_of c) is.job is.turns r is.by_turns is.by_turns.opening.rate is.by_turns.opening.planned

pub returns-clause-made : goal.returns-clause-made
returns-clause-made _ c r is =
    by_thread c is.traces (laws_of c) (tallies_of c) is.job is.turns r is.by_turns is.by_turns.opening.rate is.by_turns.opening.planned
    ∙ total_same c.threads _ _ (λ t tl. run_makes c is.traces is.job is.turns r is.by_turns t tl)

pub returns-clause-done : goal.returns-clause-done
returns-clause-done _ c r is done = all_done c is.traces (laws_of c) (tallies_of c) is.job is.turns r is.by_turns is.by_turns.opening.rate is.by_turns.opening.planned done

pub returns-clause-right : goal.returns-clause-right
returns-clause-right _ c r rate is planned = right c is.traces (laws_of c) (tallies_of c) is.job is.turns r is.by_turns rate planned

pub returns-clause-small : goal.returns-clause-small
returns-clause-small _ c r is = small c is.traces (laws_of c) (tallies_of c) is.job is.turns r is.by_turns is.by_turns.opening.rate is.by_turns.opening.planned
