use Rattle.std.proofs.Common.{◌∙◌, ap, refl, subst}
use Rattle.heap_system.specs.Locals.{pass_by}
use Rattle.heap_system.proofs.work.AtOnce.{gone_in, lost_run}
use Rattle.heap_system.proofs.local.Local.enter_by.Goals as goal

pub returns-then-word-seen-clause-inside : goal.returns-then-word-seen-clause-inside
returns-then-word-seen-clause-inside g c =
    gone_in g.M.Memory.may g.M.Memory.acts c.args.shared.now c.args.self.now c.args.places.now c.requires.places c.args.seen
    c.args.memory.now c.requires.may c.act-word.result c.act-word.new.self
    (subst (λ y. g.M.Memory.acts c.args.memory.now c.args.shared.now y c.act-word.result c.act-word.new.self) c.entering.ensures c.act-word.ensures)
    c.if-word-seen.true c.lone_pass.result
    (c.lone_pass.ensures ∙ ap (pass_by c.args.self.now.thread c.args.self.now.config.threads) c.read_phase.ensures) c.requires.seen

pub returns-else-word-seen-clause-outside : goal.returns-else-word-seen-clause-outside
returns-else-word-seen-clause-outside g c =
    lost_run g.M.Memory.may g.M.Memory.acts c.args.shared.now c.args.self.now c.args.places.now c.requires.places c.args.seen
    c.args.memory.now c.requires.may c.act-word.result c.act-word.new.self
    (subst (λ y. g.M.Memory.acts c.args.memory.now c.args.shared.now y c.act-word.result c.act-word.new.self) c.entering.ensures c.act-word.ensures)
    c.if-word-seen.false _ refl
