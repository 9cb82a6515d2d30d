-- The commands of a script of tags, and the job that it asks for.
use Rattle.std.specs.Prelude.{ℕ, List, map, flat_map}
use Rattle.array_scripts.specs.declared.header.Header.{Header}
use Rattle.never_heap.specs.declared.Command.{Command}
use Rattle.array_tables.specs.operations.Linearizations.{traces_of}
use Rattle.array_tables.specs.declared.tag_table.operation.Operation.{Operation}
use Rattle.array_tables.specs.tag_table.Tables.{rows_of, command_at}
use Rattle.trace_text.specs.Jobs.{Job}
use Rattle.rt_tags.specs.Lines.{tag_kind}

-- those of a thread's operations
abbrev pub commands : ℕ → List Operation → List Command
commands t ops = map command_at (flat_map rows_of ops)

abbrev pub job_of_script : Header → List (List Operation) → Job
job_of_script h scripts =
    record { config = tag_kind.config_of h; traces = traces_of rows_of command_at scripts }
