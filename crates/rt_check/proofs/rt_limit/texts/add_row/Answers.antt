use Rattle.std.proofs.Common.{[], inr, refl, sym, append-nil}
use Rattle.rt_check.proofs.rt_limit.texts.add_row.Goals as goal

pub returns-in-None : goal.returns-in-None
returns-in-None c =
    ([], inr (c.in-None.ensures.heap, refl), sym (append-nil c.args.text.now.items))
