use Rattle.heap_machine.proofs.ChangingPhaseRules.{passing_rules, changing_rules}
use Rattle.heap_machine.proofs.phase_laws.gate_rows_keep_the_rules.Goals as goal

pub returns : goal.returns
returns c = record { passes = passing_rules; turns = changing_rules }
