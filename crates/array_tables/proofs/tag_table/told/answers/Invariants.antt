-- The answers so far and those of the operations that are left are all answers.
use Rattle.array_tables.proofs.tag_table.AnswersSoFar.{IsToldSoFar}
use Rattle.array_tables.proofs.tag_table.told.answers.Given as goal

abbrev pub invariant-loop-op : goal.invariant-loop-op
invariant-loop-op l = record {
  so_far : IsToldSoFar l.ops l.op-index l.told.items l.log l.rest;
}
