use Rattle.heap_structures.proofs.rings.Rounds.{round_stays}
use Rattle.heap_structures.proofs.laws.others_stay.Goals as goal

pub returns : goal.returns
returns _ rs a g z c first count xs s apart none r =
    round_stays g c first count xs r rs a z s apart none
