-- Operations on a plain table, each of which is a few commands of a heap that threads share.
use Rattle.std.specs.Prelude.{ℕ, ◌≡◌, Option, List, map, flat_map, []}
use Rattle.block_store.specs.declared.Config.{Config}
use Rattle.never_heap.specs.declared.Command.{Command}
use Rattle.never_heap.specs.declared.Entry.{Entry}
use Rattle.never_heap.specs.declared.Reply.{Reply}
use Rattle.never_heap.specs.declared.Reply.TheVariants as tells
use Rattle.array_tables.specs.operations.Linearizations.{answers_told}
use Rattle.live_tables.specs.rows.Life.{last_three}

-- A table, its operations, and the commands that they are made of.
pub record Rows (Op Row Answer S : Type 0) : Type 1 where
  -- the rows of an operation, the command of a row, which row decides an operation, and which is
  -- its last, with how the replies tell the answer
  pub rows_of : Op → List Row
  pub command_at : Row → Command
  pub decides : Row → Option Op
  pub ends : Row → Option (List Reply → Answer)
  -- what an operation answers on a plain table, what it makes of it, and the empty table with so
  -- many places
  pub say : Op → S → Answer
  pub act : Op → S → S
  pub empty : ℕ → S
  -- the heap for so many threads and places, with so many blocks
  pub config_of : ℕ → ℕ → ℕ → Config
  -- which operations a thread may have done on so many places, and what can come next
  pub AreDone : ℕ → ℕ → List Op → Type 0
  pub CanBeNext : ℕ → ℕ → List Op → Op → Type 0
  -- the operations of a thread, read off its commands, and what they must be to be read so
  pub operations_of : ℕ → List Command → List Op
  pub AreRead : ℕ → List Op → Type 0
  -- what the last three replies to an operation's commands tell that it answered
  pub answer_by : Op → Reply × Reply × Reply → Answer

abbrev pub replies : List Entry → List Reply
replies es = map (λ (e : Entry). e.reply) es

abbrev pub commands_in : List Entry → List Command
commands_in es = map (λ (e : Entry). e.command) es

module _ {Op Row Answer S : Type 0} (a : Rows Op Row Answer S) where
  -- the commands of operations
  abbrev pub commands_of : List Op → List Command
  commands_of ops = map a.command_at (flat_map a.rows_of ops)

  -- the answers of operations, told by the replies to their commands
  abbrev pub answers_of : List Op → List Reply → List Answer
  answers_of ops rs = answers_told a.ends [] (flat_map a.rows_of ops) rs

  -- the answer of one operation, told by the replies to its own commands
  abbrev pub answer_told : Op → List Reply → Answer
  answer_told op rs = a.answer_by op (last_three tells.Null tells.Null tells.Null rs)

  -- the heap of a table, with any number of blocks
  abbrev pub IsRowHeap : Config → Type 0
  IsRowHeap c = c ≡ a.config_of c.threads c.shared c.blocks
