use Rattle.std.proofs.Common.{map, sym, subst}
use Rattle.heap_structures.specs.Alarms.{value_of}
use Rattle.heap_structures.specs.Rings.{IsRound}
use Rattle.heap_structures.specs.Renewed.{with_array}
use Rattle.heap_structures.proofs.Renewed.{alarms_again, round_again}
use Rattle.heap_structures.proofs.alarms.AlarmList.renewed.Goals as goal

pub returns-clause-shows : goal.returns-clause-shows
returns-clause-shows c g z x one is leaves =
    let me = c.args.self.now in
    subst (λ k. IsRound z k 0 me.count (map value_of x))
    (sym (c.renewed.ensures.named g z is.array one is.cells leaves))
    (subst (IsRound z (with_array me.cells (one.to me.cells.array)) 0 me.count)
    (alarms_again one.to x)
    (round_again g z one me.cells 0 me.count (map value_of x) is))
