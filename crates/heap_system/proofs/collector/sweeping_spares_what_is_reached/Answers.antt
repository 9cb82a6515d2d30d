use Rattle.heap_system.specs.Pictures.{kept_state}
use Rattle.heap_system.proofs.invariant.InvariantHolds.{run_kept}
use Rattle.heap_system.proofs.step_rows.LawsOfParts.{laws_of}
use Rattle.heap_system.proofs.step_rows.LoadedBlocks.{reached_or_grey, spared_refers}
use Rattle.heap_system.proofs.collector.sweeping_spares_what_is_reached.Goals as goal

pub returns-clause-reached : goal.returns-clause-reached
returns-clause-reached _ c r is x sweep reached = reached_or_grey c (kept_state c r) (run_kept c is.traces (laws_of c) is.job is.turns r is.by_turns).names sweep x reached

pub returns-clause-grey : goal.returns-clause-grey
returns-clause-grey _ c r is x sweep grey = ((run_kept c is.traces (laws_of c) is.job is.turns r is.by_turns).names.sweeping sweep).greys x grey

pub returns-clause-refers : goal.returns-clause-refers
returns-clause-refers _ c r is x j sweep of jl = spared_refers c (kept_state c r) (run_kept c is.traces (laws_of c) is.job is.turns r is.by_turns).names sweep x j of jl

pub returns-clause-passed : goal.returns-clause-passed
returns-clause-passed _ c r is x sweep some below none = (run_kept c is.traces (laws_of c) is.job is.turns r is.by_turns).rules.reuse.sweep.passed sweep x some below none

pub returns-clause-doomed : goal.returns-clause-doomed
returns-clause-doomed _ c r is t tl some = (let d = (run_kept c is.traces (laws_of c) is.job is.turns r is.by_turns).rules.reuse.sweep.doomed t tl some in (d.0, d.2))
