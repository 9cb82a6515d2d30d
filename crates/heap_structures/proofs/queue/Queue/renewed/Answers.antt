use Rattle.std.proofs.Common.{sym, subst}
use Rattle.heap_structures.specs.Renewed.{renamed_values}
use Rattle.heap_structures.specs.Rings.{IsRound}
use Rattle.heap_structures.proofs.Renewed.{round_again}
use Rattle.heap_structures.proofs.queue.Queue.renewed.Goals as goal

pub returns-clause-shows : goal.returns-clause-shows
returns-clause-shows c g z x one is leaves =
    let me = c.args.self.now in
    subst (λ k. IsRound z k me.first me.count (renamed_values one.to x))
    (sym (c.renewed.ensures.named g z is.array one is.cells leaves))
    (round_again g z one me.cells me.first me.count x is)
