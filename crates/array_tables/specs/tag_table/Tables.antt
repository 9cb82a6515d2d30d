-- A table of tags, and how its operations are made of commands.
use Rattle.std.specs.Prelude.{ℕ, ◌+◌, ◌*◌, ◌<◌, ◌≤◌, ◌^◌, Option, Some, None, List, [], ◌∷◌, length, drop, replicate, slice_index_or, slice_set}
use Rattle.std.specs.List.{AllByRecursion}
use Rattle.array_trees.specs.Trees.{array_blocks}
use Rattle.block_store.specs.declared.Config.{Config}
use Rattle.block_store.specs.declared.Width.TheVariants.{Eight}
use Rattle.block_store.specs.declared.Value.TheVariants.{Int}
use Rattle.array_tables.specs.operations.Linearizations.{Call}
use Rattle.array_tables.specs.declared.tag_table.operation.Operation.{Operation}
use Rattle.array_tables.specs.declared.tag_table.operation.Operation.TheVariants.{Write, Clear, Read}
use Rattle.never_heap.specs.declared.Command.{Command}
use Rattle.never_heap.specs.declared.Command.TheVariants as commands
use Rattle.never_heap.specs.declared.Reply.{Reply}
use Rattle.never_heap.specs.declared.Reply.TheVariants as replies

-- a pair of a value and a quality, or nothing
abbrev pub Tag : Type 0
Tag = Option (ℕ × ℕ)

abbrev pub place_of : Operation → ℕ
place_of (Write i v q) = i
place_of (Clear i) = i
place_of (Read i) = i

-- a write puts its pair at its place, a clear empties it, and a read leaves it
abbrev pub table_after : Operation → List Tag → List Tag
table_after (Write i v q) table = slice_set table i (Some (v, q))
table_after (Clear i) table = slice_set table i None
table_after (Read i) table = table

-- an operation answers what stood at its place before
abbrev pub answer : Operation → List Tag → Tag
answer op table = slice_index_or table (place_of op) None

abbrev pub empty_table : ℕ → List Tag
empty_table n = replicate n None

-- A command of an operation, with what it is for. A write makes a record, fills it, and publishes
-- it by an exchange with its place; a clear publishes nil; a read fetches what is published. Each
-- then tells what it got. No row writes in a record that is published.
pub data Row : Type 0 where
  Make : (i v q : ℕ) → Row
  SetValue : (i v q : ℕ) → Row
  PutValue : (i v q : ℕ) → Row
  SetQuality : (i v q : ℕ) → Row
  PutQuality : (i v q : ℕ) → Row
  Publish : (i v q : ℕ) → Row
  Blank : (i : ℕ) → Row
  Withdraw : (i : ℕ) → Row
  Fetch : (i : ℕ) → Row
  TellValue : Row
  TellQuality : Row

abbrev pub rows_of : Operation → List Row
rows_of (Write i v q) =
    Make i v q ∷ SetValue i v q ∷ PutValue i v q ∷ SetQuality i v q ∷ PutQuality i v q
    ∷ Publish i v q ∷ TellValue ∷ TellQuality ∷ []
rows_of (Clear i) = Blank i ∷ Withdraw i ∷ TellValue ∷ TellQuality ∷ []
rows_of (Read i) = Fetch i ∷ TellValue ∷ TellQuality ∷ []

abbrev pub command_at : Row → Command
command_at (Make i v q) = commands.New 1 2
command_at (SetValue i v q) = commands.Set 2 v
command_at (PutValue i v q) = commands.Put 1 0 2
command_at (SetQuality i v q) = commands.Set 2 q
command_at (PutQuality i v q) = commands.Put 1 1 2
command_at (Publish i v q) = commands.Swap 0 i 1
command_at (Blank i) = commands.Nil 1
command_at (Withdraw i) = commands.Swap 0 i 1
command_at (Fetch i) = commands.Get 1 0 i
command_at TellValue = commands.Get 2 1 0
command_at TellQuality = commands.Get 3 1 1

-- the rows at which an operation takes effect
abbrev pub decides : Row → Option Operation
decides (Publish i v q) = Some (Write i v q)
decides (Withdraw i) = Some (Clear i)
decides (Fetch i) = Some (Read i)
decides _ = None

-- the pair that two replies tell: they are numbers, or refused since there is none
abbrev pub pair_of : Reply → Reply → Tag
pair_of (replies.Val (Int v)) (replies.Val (Int q)) = Some (v, q)
pair_of _ _ = None

-- the last two of these replies
abbrev pub pair_behind : Reply → Reply → List Reply → Tag
pair_behind a b [] = pair_of a b
pair_behind a b (c ∷ rs) = pair_behind b c rs

abbrev pub pair_told : List Reply → Tag
pair_told [] = None
pair_told (a ∷ []) = None
pair_told (a ∷ b ∷ rs) = pair_behind a b rs

-- the last row of an operation, and how its replies tell its answer
abbrev pub ends : Row → Option (List Reply → Tag)
ends TellQuality = Some pair_told
ends _ = None

-- the places of a script's operations are those of the table
abbrev pub AreInTable : ℕ → List Operation → Type 0
AreInTable tags ops = AllByRecursion (λ (op : Operation). place_of op < tags) ops

-- The heap of a table: three blocks of registers a thread, the array of the table, a record for
-- each place and one for register 1 of each thread.
abbrev pub tag_config : ℕ → ℕ → ℕ → Config
tag_config threads tags blocks = record {
  width = Eight;
  threads = threads;
  blocks = blocks;
  live = 4 * threads + array_blocks Eight tags + tags;
  object = 1;
  shared = tags;
}

-- the commands that make the record of a pair, and those that show one
abbrev pub pair_commands : ℕ → ℕ → List Command
pair_commands v q =
    commands.New 1 2 ∷ commands.Set 2 v ∷ commands.Put 1 0 2 ∷ commands.Set 2 q
    ∷ commands.Put 1 1 2 ∷ []

abbrev pub shown_commands : List Command
shown_commands = commands.Get 2 1 0 ∷ commands.Get 3 1 1 ∷ []

-- where the two telling replies are among those of an operation; they are its last ones
abbrev pub told_from : Operation → ℕ
told_from (Write i v q) = 6
told_from (Clear i) = 2
told_from (Read i) = 1

-- the tag that an operation's replies tell
abbrev pub tag_told : Operation → List Reply → Tag
tag_told op rs =
    pair_of (slice_index_or rs (told_from op) replies.Null)
    (slice_index_or rs (told_from op + 1) replies.Null)

-- the answers of operations, read off the replies to all their commands
abbrev pub answers_of : List Operation → List Reply → List Tag
answers_of [] rs = []
answers_of (op ∷ ops) rs = tag_told op rs ∷ answers_of ops (drop (told_from op + 2) rs)

-- a script: at most 16,384 operations, each in its ranges
abbrev pub IsOperationInRange : ℕ → Operation → Type 0
IsOperationInRange tags (Write i v q) = (i < tags) × (v < 2 ^ 62) × (q < 2 ^ 62)
IsOperationInRange tags (Clear i) = i < tags
IsOperationInRange tags (Read i) = i < tags

pub record IsScriptInRange (tags : ℕ) (ops : List Operation) : Type 0 where
  pub few : length ops ≤ 16384
  pub each : AllByRecursion (IsOperationInRange tags) ops

-- an example: the operations of one thread on two places, with their answers
abbrev pub call : Operation → Tag → Call Operation Tag
call op tag = record { thread = 0; operation = op; answer = tag }

abbrev pub example : List (Call Operation Tag)
example =
    call (Read 0) None ∷ call (Write 0 5 1) None ∷ call (Write 0 6 2) (Some (5, 1))
    ∷ call (Read 0) (Some (6, 2)) ∷ call (Clear 0) (Some (6, 2)) ∷ call (Read 0) None ∷ []
