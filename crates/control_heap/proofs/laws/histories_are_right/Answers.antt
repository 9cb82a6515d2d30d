use Rattle.std.proofs.Common.{◌∙◌}
use Rattle.heap_system.specs.Machines.{no_local}
use Rattle.heap_system.proofs.Lemmas.{laws_of, licensed, never_full, one_log, right_work, tallies_of}
use Rattle.control_heap.proofs.HeapAsRun.{kept_of}
use Rattle.control_heap.proofs.laws.histories_are_right.Goals as goal

pub returns-clause-legal : goal.returns-clause-legal
returns-clause-legal _ h r stands = (kept_of h.config stands.single r stands.run.after).names.ordered.legal

pub returns-clause-right : goal.returns-clause-right
returns-clause-right _ h r stands rate planned = right_work h.config stands.run.after.traces r (kept_of h.config stands.single r stands.run.after) rate planned

pub returns-clause-units : goal.returns-clause-units
returns-clause-units _ h r stands =
    let kept = kept_of h.config stands.single r stands.run.after in
    kept.counted ∙ one_log r.state.locals (no_local h.config) (kept.threads ∙ stands.single) ∙ stands.units

pub returns-clause-licensed : goal.returns-clause-licensed
returns-clause-licensed _ h r stands =
    let is = stands.run.after in
    licensed h.config is.traces (laws_of h.config) (tallies_of h.config) is.job is.turns r is.by_turns is.by_turns.opening.rate is.by_turns.opening.planned

pub returns-clause-never : goal.returns-clause-never
returns-clause-never _ h r stands small =
    let is = stands.run.after in
    never_full h.config is.traces (laws_of h.config) (tallies_of h.config) is.job is.turns r is.by_turns is.by_turns.opening.rate is.by_turns.opening.planned small
