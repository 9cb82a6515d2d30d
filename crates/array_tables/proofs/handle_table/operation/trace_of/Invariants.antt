-- The commands so far and those of the operations that are left are all commands.
use Rattle.std.proofs.Common.{◌≡◌, ◌++◌, ◌≤◌, drop}
use Rattle.array_tables.specs.handle_table.Handles.{commands_from}
use Rattle.array_tables.proofs.handle_table.operation.trace_of.Given as goal

abbrev pub invariant-loop-op : goal.invariant-loop-op
invariant-loop-op l = record {
  commands : l.trace.items ++ commands_from l.thread l.made (drop l.op-index l.ops)
      ≡ commands_from l.thread 0 l.ops;
  few : l.made ≤ l.op-index;
}
