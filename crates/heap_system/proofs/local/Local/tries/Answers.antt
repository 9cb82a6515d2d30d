use Rattle.std.proofs.Common.{◌∙◌, ap, subst}
use Rattle.heap_system.specs.Locals.{pass_by}
use Rattle.heap_system.proofs.work.AtOnce.{inside_may, inside_run, lost_run}
use Rattle.heap_system.proofs.local.Local.tries.Goals as goal

pub does-requires-clause-may : goal.does-requires-clause-may
does-requires-clause-may g c =
    inside_may g.M.Memory.may g.M.Memory.acts c.args.shared.now c.args.self.now c.args.places.now c.requires.places c.args.seen
    c.args.memory.now c.requires.may c.act-word.result c.act-word.new.self
    (subst (λ y. g.M.Memory.acts c.args.memory.now c.args.shared.now y c.act-word.result c.act-word.new.self) c.entering.ensures c.act-word.ensures)
    c.if-word-seen.true c.pass_by-pass.result
    (c.pass_by-pass.ensures.is ∙ ap (pass_by c.args.self.now.thread c.args.self.now.config.threads) c.read_phase.ensures)

pub returns-then-word-seen : goal.returns-then-word-seen
returns-then-word-seen g c =
    inside_run g.M.Memory.may g.M.Memory.acts c.args.shared.now c.args.self.now c.args.places.now c.requires.places c.args.seen
    c.args.memory.now c.requires.may c.act-word.result c.act-word.new.self
    (subst (λ y. g.M.Memory.acts c.args.memory.now c.args.shared.now y c.act-word.result c.act-word.new.self) c.entering.ensures c.act-word.ensures)
    c.if-word-seen.true c.pass_by-pass.result
    (c.pass_by-pass.ensures.is ∙ ap (pass_by c.args.self.now.thread c.args.self.now.config.threads) c.read_phase.ensures)
    c.does.new.memory c.does.new.self c.does.result c.does.ensures

pub returns-else-word-seen : goal.returns-else-word-seen
returns-else-word-seen g c =
    lost_run g.M.Memory.may g.M.Memory.acts c.args.shared.now c.args.self.now c.args.places.now c.requires.places c.args.seen
    c.args.memory.now c.requires.may c.act-word.result c.act-word.new.self
    (subst (λ y. g.M.Memory.acts c.args.memory.now c.args.shared.now y c.act-word.result c.act-word.new.self) c.entering.ensures c.act-word.ensures)
    c.if-word-seen.false c.looks_again.new.self c.looks_again.ensures
