use Rattle.std.proofs.Common.{◌≡◌, None, sym, subst, ap, refl, ◌∙◌}
use Rattle.std.proofs.lemmas.Result.{IfOk-weaker}
use Rattle.plantrun_core.specs.declared.calls.Logs.{Logs}
use Rattle.plantrun_core.specs.declared.top.Ended.{Ended}
use Rattle.plantrun_core.specs.PlantWorkers.{HasPlant, HaveWorked, IsGone}
use Rattle.plantrun_core.specs.Works.{CountsInput}
use Rattle.plantrun_core.proofs.EndOfPlant.{counts_order, counts_stop}
use Rattle.plantrun_core.proofs.OrderOfLogs.{has_plant}
use Rattle.plantrun_core.proofs.top.plant.Goals as goal

pub returns-in-Some-stop-clause-stopped : goal.returns-in-Some-stop-clause-stopped
returns-in-Some-stop-clause-stopped g c =
    let n = c.args.plan.ticks in
    let all = g.S.Source.left c.args.source.now in
    let left = g.S.Source.left c.ran-ends.new.source in
    let crew = c.finished-crew.result.crew in
    subst (IsGone n all left crew) c.in-Some-stop.is
    (c.finished-crew.ensures.gone all left c.ran-ends.ensures.input)

pub returns-in-Some-stop-clause-counted : goal.returns-in-Some-stop-clause-counted
returns-in-Some-stop-clause-counted g c =
    let old = g.S.Source.faults c.args.source.now in
    let new = g.S.Source.faults c.ran-ends.new.source in
    counts_stop Ended old new c.in-Some-stop.stop
    (subst (CountsInput old new) (sym c.finished-crew.ensures.stop ∙ c.in-Some-stop.is)
    c.ran-ends.ensures.counted)

pub returns-in-None-clause-table : goal.returns-in-None-clause-table
returns-in-None-clause-table g c =
    let all = g.S.Source.left c.args.source.now in
    let left = g.S.Source.left c.ran-ends.new.source in
    let crew = c.finished-crew.result.crew in
    let closed = c.taken_apart-closed.result in
    let gone : IsGone c.args.plan.ticks all left crew None =
    subst (IsGone c.args.plan.ticks all left crew) c.in-None.is
    (c.finished-crew.ensures.gone all left c.ran-ends.ensures.input) in
    let plant : HasPlant closed.logs closed.cycles =
    has_plant crew.input.who crew.control.who crew.alarms.who crew.history.who closed.logs
    closed.cycles c.taken_apart-closed.ensures.plant crew.control refl
    (sym (ap (λ (l : Logs). l.control) c.taken_apart-closed.ensures.logs)) gone.1 in
    IfOk-weaker c.put_in_order.result _ _
    (λ e both. subst (λ (l : Logs). HasPlant l e.cycles) (sym both.0)
    (subst (HasPlant closed.logs) (sym both.1) plant))
    c.put_in_order.ensures.same

pub returns-in-None-clause-worked : goal.returns-in-None-clause-worked
returns-in-None-clause-worked g c =
    let n = c.args.plan.ticks in
    let all = g.S.Source.left c.args.source.now in
    let left = g.S.Source.left c.ran-ends.new.source in
    let crew = c.finished-crew.result.crew in
    let gone : IsGone n all left crew None =
    subst (IsGone n all left crew) c.in-None.is
    (c.finished-crew.ensures.gone all left c.ran-ends.ensures.input) in
    IfOk-weaker c.put_in_order.result _ _
    (λ e both. subst (HaveWorked n all) (sym (both.0 ∙ c.taken_apart-closed.ensures.logs)) gone.0)
    c.put_in_order.ensures.same

pub returns-in-None-clause-counted : goal.returns-in-None-clause-counted
returns-in-None-clause-counted g c =
    let old = g.S.Source.faults c.args.source.now in
    let new = g.S.Source.faults c.ran-ends.new.source in
    let counted : new ≡ old =
    subst (CountsInput old new) (sym c.finished-crew.ensures.stop ∙ c.in-None.is)
    c.ran-ends.ensures.counted in
    counts_order old new c.put_in_order.result counted c.put_in_order.ensures.memory
