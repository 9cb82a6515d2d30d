-- The commands of a script of handles, and the job that it asks for.
use Rattle.std.specs.Prelude.{ℕ, List, map, flat_map}
use Rattle.array_scripts.specs.declared.header.Header.{Header}
use Rattle.array_tables.specs.declared.handle_table.operation.Operation.{Operation}
use Rattle.array_tables.specs.handle_table.Handles.{rows_of, command_at, deeds_of, all_deeds}
use Rattle.never_heap.specs.declared.Command.{Command}
use Rattle.array_tables.specs.operations.Linearizations.{traces_of}
use Rattle.trace_text.specs.Jobs.{Job}
use Rattle.rt_handles.specs.Lines.{handle_kind}

-- those of thread t's operations
abbrev pub commands : ℕ → List Operation → List Command
commands t ops = map command_at (flat_map rows_of (deeds_of t ops))

abbrev pub job_of_script : Header → List (List Operation) → Job
job_of_script h scripts = record {
  config = handle_kind.config_of h;
  traces = traces_of rows_of command_at (all_deeds 0 scripts);
}
