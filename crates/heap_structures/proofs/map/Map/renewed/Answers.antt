use Rattle.std.proofs.Common.{sym, subst}
use Rattle.heap_structures.specs.Renewed.{renamed_pairs}
use Rattle.heap_structures.specs.Tables.{IsTable}
use Rattle.heap_structures.proofs.Renewed.{table_again}
use Rattle.heap_structures.proofs.map.Map.renewed.Goals as goal

pub returns-clause-shows : goal.returns-clause-shows
returns-clause-shows c g z x one is leaves =
    let me = c.args.self.now in
    subst (λ k. IsTable z k me.count (renamed_pairs one.to x))
    (sym (c.renewed.ensures.named g z is.array one is.cells leaves))
    (table_again g z one me.cells me.count x is)
