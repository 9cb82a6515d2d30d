use Rattle.std.proofs.Common.{refl}
use Rattle.control_heap_c.proofs.ReadBack.{read_back, refusal_back, opening_back}
use Rattle.control_heap_c.proofs.laws.numbers_read_back.Goals as goal

pub returns : goal.returns
returns c = record { replies = read_back; refusals = refusal_back; none = refl; openings = opening_back; no_opening = refl }
