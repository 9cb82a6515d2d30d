use Rattle.std.proofs.Common.{sym, ◌∙◌}
use Rattle.heap_system.proofs.work.AtOnce.{goes_out, stays_at}
use Rattle.heap_system.proofs.local.Local.ends.Goals as goal

pub returns-in-Some : goal.returns-in-Some
returns-in-Some g c =
    goes_out g.M.Memory.may g.M.Memory.acts c.args.shared.now c.args.self.now c.args.pass c.args.places.now
    c.requires.places c.args.row c.in-Some.reply (sym c.reply_at.ensures ∙ c.in-Some.is) c.args.memory.now
    c.requires.may c.phase-place.result c.phase-place.ensures c.act.result c.act.new.self c.act.ensures
    c.is_out.new.self c.is_out.ensures

pub returns-in-None : goal.returns-in-None
returns-in-None g c =
    stays_at g.M.Memory.acts c.args.shared.now 1 c.args.memory.now c.args.self.now c.args.pass c.args.row
    (sym c.reply_at.ensures ∙ c.in-None.is) c.is_at.new.self c.is_at.ensures
