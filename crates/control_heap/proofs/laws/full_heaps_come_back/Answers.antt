use Rattle.control_heap.proofs.WayBacks.{way_back}
use Rattle.control_heap.proofs.laws.full_heaps_come_back.Goals as goal

pub returns : goal.returns
returns _ h y z ks a js b r stands first second = way_back h y z ks a js b r stands first second
