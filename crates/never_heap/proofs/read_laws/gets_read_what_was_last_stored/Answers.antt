use Rattle.never_heap.proofs.Readback.{get_reads, get_told, store_read_back}
use Rattle.never_heap.proofs.read_laws.gets_read_what_was_last_stored.Goals as goal

pub returns-clause-get : goal.returns-clause-get
returns-clause-get c = get_reads

pub returns-clause-value : goal.returns-clause-value
returns-clause-value c = get_told

pub returns-clause-back : goal.returns-clause-back
returns-clause-back c = store_read_back
