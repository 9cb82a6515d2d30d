use Rattle.barrier_steps.proofs.FieldRows.{way_is}
use Rattle.barrier_steps.proofs.laws.ways_lead_to_fields.Goals as goal

pub returns : goal.returns
returns c = way_is
