use Rattle.std.proofs.Common.{rules, ◌≡◌, ◌∙◌}
use Rattle.plantrun_core.specs.Laws.{loop_after}
use Rattle.plantrun_core.specs.Roles.{are_there, word}
use Rattle.plantrun_core.proofs.LogOfTicks.{controlled}
use Rattle.plantrun_core.proofs.WorkerLogs.{went_further}
use Rattle.plantrun_core.proofs.roles.control.Goals as goal

pub returns-clause-did : goal.returns-clause-did
returns-clause-did g c =
    let tick = c.args.tick in
    let measured = c.value_of-measured.ensures.law in
    let set = c.value_of-set.ensures.law in
    let quality : c.saturating_add.result
    ≡ word tick (are_there c.value_of-measured.result c.value_of-set.result) = search rules in
    controlled c.args.before c.after-after.result tick c.saturating_add.result
    c.args.hand.now.calls.items c.does.new.self.calls.items c.does-2.new.self.calls.items
    c.does-3.new.self.calls.items c.does.result c.does-2.result c.does-3.result
    (c.after-after.ensures.law ∙ (λ i. loop_after c.args.before (measured i) (set i)))
    (quality ∙ (λ i. word tick (are_there (measured i) (set i)))) c.does.ensures.did
    c.does-2.ensures.did c.does-3.ensures.did

pub returns-clause-on : goal.returns-clause-on
returns-clause-on g c =
    let first = c.does.new.self.who in
    let second = c.does-2.new.self.who in
    went_further c.args.hand.now.who second c.does-3.new.self.who
    (went_further c.args.hand.now.who first second c.does.ensures.on c.does-2.ensures.on)
    c.does-3.ensures.on
