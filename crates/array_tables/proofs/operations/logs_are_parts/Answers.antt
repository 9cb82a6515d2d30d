use Rattle.never_heap.proofs.Lemmas.{logged}
use Rattle.array_tables.proofs.operations.logs_are_parts.Goals as goal

pub returns : goal.returns
returns c = logged
