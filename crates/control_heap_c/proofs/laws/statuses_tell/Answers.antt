use Rattle.control_heap_c.proofs.ReadBack.{answered, refused_so}
use Rattle.control_heap_c.proofs.laws.statuses_tell.Goals as goal

pub returns : goal.returns
returns c = record { answered = answered; refused = refused_so }
