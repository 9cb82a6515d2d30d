use Rattle.never_heap.proofs.Readback.{field_stored, stored_once}
use Rattle.never_heap.proofs.read_laws.fields_hold_what_was_last_stored.Goals as goal

pub returns-clause-field : goal.returns-clause-field
returns-clause-field c = field_stored

pub returns-clause-one : goal.returns-clause-one
returns-clause-one c = stored_once
