-- One operation's answer more.
use Rattle.std.proofs.Common.{◌≡◌, ℕ, ◌≤◌, List, ◌++◌, length, drop}
use Rattle.std.specs.Prelude.{flat_map}
use Rattle.never_heap.specs.declared.Entry.{Entry}
use Rattle.never_heap.proofs.Lemmas.{replies}
use Rattle.array_tables.specs.declared.tag_table.operation.Operation.{Operation}
use Rattle.array_tables.specs.tag_table.Tables.{Tag, rows_of, answers_of}

pub record IsToldSoFar (ops : List Operation) (i : ℕ) (told : List Tag) (log rest : List Entry)
    : Type 0 where
  pub told_so_far : told ++ answers_of (drop i ops) (replies rest) ≡ answers_of ops (replies log)
  pub enough : length (flat_map rows_of (drop i ops)) ≤ length rest
