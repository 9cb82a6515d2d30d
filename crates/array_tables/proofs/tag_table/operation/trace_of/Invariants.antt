-- The commands so far and those of the operations that are left are all commands.
use Rattle.std.proofs.Common.{◌≡◌, ◌++◌, drop, map}
use Rattle.std.specs.Prelude.{flat_map}
use Rattle.array_tables.specs.tag_table.Tables.{rows_of, command_at}
use Rattle.array_tables.proofs.tag_table.operation.trace_of.Given as goal

abbrev pub invariant-loop-op : goal.invariant-loop-op
invariant-loop-op l =
    l.trace.items ++ map command_at (flat_map rows_of (drop l.op-index l.ops))
    ≡ map command_at (flat_map rows_of l.ops)
