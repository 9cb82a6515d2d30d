use Rattle.heap_structures.proofs.rings.NumberRings.{records_stay}
use Rattle.heap_structures.proofs.records.other_records_stay.Goals as goal

pub returns : goal.returns
returns _ rs a g z r ns s long apart base spare is =
    records_stay rs a g z r ns s long apart base spare is
