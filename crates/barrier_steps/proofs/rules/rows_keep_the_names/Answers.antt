use Rattle.barrier_steps.proofs.NameRulesKept.{keeps_names, loaded_solid, due_on, reads_on}
use Rattle.barrier_steps.proofs.rules.rows_keep_the_names.Goals as goal

pub returns : goal.returns
returns c = record { kept = keeps_names; solid = loaded_solid; due = due_on; reads = reads_on }
