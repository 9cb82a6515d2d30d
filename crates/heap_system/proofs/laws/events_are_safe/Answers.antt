use Rattle.std.proofs.Common.{◌<◌, ◌^◌, subst}
use Rattle.heap_system.proofs.invariant.InvariantHolds.{run_kept}
use Rattle.heap_system.proofs.accounting.ThreadAccounts.{local_reads}
use Rattle.heap_system.proofs.accounting.RunBounds.{small}
use Rattle.heap_system.proofs.step_rows.LawsOfParts.{laws_of}
use Rattle.heap_system.proofs.accounting.TalliesOfParts.{tallies_of}
use Rattle.heap_system.proofs.invariant.InvariantByTurns.{place, sums}
use Rattle.heap_system.proofs.laws.events_are_safe.Goals as goal

pub returns-clause-place : goal.returns-clause-place
returns-clause-place _ c r is t tl = place c is.traces (laws_of c) is.job.bounds.config is.job.plan r (run_kept c is.traces (laws_of c) is.job is.turns r is.by_turns) t tl

pub returns-clause-reads : goal.returns-clause-reads
returns-clause-reads _ c r is t tl = local_reads c is.traces is.job is.turns r is.by_turns t tl

pub returns-clause-sums : goal.returns-clause-sums
returns-clause-sums _ c r is t tl = sums c is.traces (laws_of c) is.job.bounds.config is.job.plan r (run_kept c is.traces (laws_of c) is.job is.turns r is.by_turns) t tl

pub returns-clause-cycles : goal.returns-clause-cycles
returns-clause-cycles _ c r is = (let low = (small c is.traces (laws_of c) (tallies_of c) is.job is.turns r is.by_turns is.by_turns.opening.rate is.by_turns.opening.planned).1 in
    subst (λ y. y < 2 ^ 50) (run_kept c is.traces (laws_of c) is.job is.turns r is.by_turns).names.ordered.started low)
