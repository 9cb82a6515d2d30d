-- The lines in which a table's answers are told.
use Rattle.std.specs.Prelude.{ℕ, Some, None, List, ◌++◌, codes, decimal}
use Rattle.array_scripts.specs.Answers as answers
use Rattle.never_heap.specs.declared.Reply.{Reply}
use Rattle.array_tables.specs.operations.Linearizations.{Call}
use Rattle.array_tables.specs.declared.tag_table.operation.Operation.{Operation}
use Rattle.array_tables.specs.tag_table.Tables.{Tag, answers_of}

abbrev pub tag_text : Tag → List ℕ
tag_text None = codes "none"
tag_text (Some p) = decimal p.0 ++ codes " " ++ decimal p.1

-- what replies to a thread's operations tell
abbrev pub told : ℕ → List Operation → List Reply → List Tag
told t ops replies = answers_of ops replies

-- what the calls of n threads answered, thread by thread
abbrev pub answers_from : ℕ → List (Call Operation Tag) → List (List Tag)
answers_from n order = answers.answers_from (λ (c : Call Operation Tag). c.answer) 0 n order
