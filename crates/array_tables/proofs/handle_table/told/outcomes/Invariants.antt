-- The outcomes so far and those of the operations that are left are all outcomes.
use Rattle.array_tables.proofs.handle_table.AnswersSoFar.{IsToldSoFar}
use Rattle.array_tables.proofs.handle_table.told.outcomes.Given as goal

abbrev pub invariant-loop-op : goal.invariant-loop-op
invariant-loop-op l = record {
  so_far : IsToldSoFar l.thread l.ops l.op-index l.made l.told.items l.log l.rest;
}
