use Rattle.std.proofs.Common.{ap, ◌∙◌, subst}
use Rattle.block_store.specs.declared.Config.{Config}
use Rattle.never_heap.specs.RightWork.{units_owed}
use Rattle.rate_plan.specs.Rates.{IsRate}
use Rattle.rate_plan.proofs.Rates.{one_rate}
use Rattle.heap_system.specs.Locals.{command_of}
use Rattle.heap_system.specs.Machines.{local_at}
use Rattle.heap_system.proofs.invariant.InvariantHolds.{run_kept}
use Rattle.heap_system.proofs.step_rows.LawsOfParts.{laws_of}
use Rattle.heap_system.proofs.accounting.UnitsOfTurns.{turn_makes, decided_owed}
use Rattle.heap_system.proofs.payments.turns_pay.Goals as goal

pub returns-clause-units : goal.returns-clause-units
returns-clause-units _ c r is t u =
    turn_makes c is.traces is.job r (run_kept c is.traces (laws_of c) is.job is.turns r is.by_turns) t u

pub returns-clause-whole : goal.returns-clause-whole
returns-clause-whole _ c r rate is planned t tl decided =
    let kept = run_kept c is.traces (laws_of c) is.job is.turns r is.by_turns in
    let l = local_at c r.state t in
    let mine : IsRate c l.rate = subst (λ x. IsRate x l.rate) (kept.locals t tl).config (kept.locals t tl).fits.rate in
    decided_owed c is.traces is.job r kept t tl decided
    ∙ ap (λ (x : Config). units_owed x.width l.rate (command_of l)) (kept.locals t tl).config
    ∙ ap (λ n. units_owed c.width n (command_of l)) (one_rate c l.rate rate mine planned)
