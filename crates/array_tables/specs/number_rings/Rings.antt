-- Rings of eight places on the array that threads share: each thread keeps its numbers in its own
-- ring, one over the other, and at last recalls those that are left.
use Rattle.std.specs.Prelude.{ℕ, zero, suc, ◌+◌, ◌-◌, ◌*◌, ◌%◌, ◌^◌, ◌<◌, ◌≤◌, Option, Some, None, List, [], ◌∷◌, ◌++◌, length, drop, min, replicate, slice_index_or, slice_set}
use Rattle.std.specs.List.{AllByRecursion}
use Rattle.array_tables.specs.operations.Linearizations.{traces_of}
use Rattle.array_trees.specs.Trees.{array_blocks}
use Rattle.block_store.specs.declared.Config.{Config}
use Rattle.block_store.specs.declared.Width.TheVariants.{Eight}
use Rattle.block_store.specs.declared.Value.TheVariants.{Int}
use Rattle.never_heap.specs.declared.Command.{Command}
use Rattle.never_heap.specs.declared.Command.TheVariants as commands
use Rattle.never_heap.specs.declared.Reply.{Reply}
use Rattle.never_heap.specs.declared.Reply.TheVariants as replies

-- ---- what a thread does

-- put a number at a place, or look what is there
pub data Operation : Type 0 where
  Keep : (i v : ℕ) → Operation
  Recall : (i : ℕ) → Operation

-- the place of thread t's number j, counted from 0: its ring has the eight places from 8 t on
abbrev pub ring_place : ℕ → ℕ → ℕ
ring_place t j = 8 * t + j % 8

-- thread t keeps its numbers, from number j on
abbrev pub keeps : ℕ → ℕ → List ℕ → List Operation
keeps t j [] = []
keeps t j (v ∷ vs) = Keep (ring_place t j) v ∷ keeps t (j + 1) vs

-- and recalls so many, from number j on
abbrev pub recalls : ℕ → ℕ → ℕ → List Operation
recalls t j zero = []
recalls t j (suc n) = Recall (ring_place t j) ∷ recalls t (j + 1) n

-- how many numbers are left of so many, and how many of them a ring no longer has
abbrev pub left_of : ℕ → ℕ
left_of k = min k 8

abbrev pub lost_of : ℕ → ℕ
lost_of k = k - 8

-- all that thread t does with its numbers
abbrev pub script_of : ℕ → List ℕ → List Operation
script_of t vs = keeps t 0 vs ++ recalls t (lost_of (length vs)) (left_of (length vs))

abbrev pub scripts_from : ℕ → List (List ℕ) → List (List Operation)
scripts_from t [] = []
scripts_from t (vs ∷ others) = script_of t vs ∷ scripts_from (t + 1) others

-- the last eight numbers, or all where they are fewer, oldest first
abbrev pub last_numbers : List ℕ → List ℕ
last_numbers vs = drop (lost_of (length vs)) vs

-- ---- what an operation answers

abbrev pub Cell : Type 0
Cell = Option ℕ

abbrev pub place_of : Operation → ℕ
place_of (Keep i v) = i
place_of (Recall i) = i

-- a keep has no answer, and a recall answers what was kept last
abbrev pub answer : Operation → List Cell → Cell
answer (Keep i v) cells = None
answer (Recall i) cells = slice_index_or cells i None

abbrev pub cells_after : Operation → List Cell → List Cell
cells_after (Keep i v) cells = slice_set cells i (Some v)
cells_after (Recall i) cells = cells

abbrev pub empty_cells : ℕ → List Cell
empty_cells n = replicate n None

-- ---- the commands that it is made of

-- A command of an operation, with what it is for. A keep makes a record of the number and stores it
-- at its place; a recall fetches the record that is there, and tells its number.
pub data Row : Type 0 where
  Make : (i v : ℕ) → Row
  SetNumber : (i v : ℕ) → Row
  PutNumber : (i v : ℕ) → Row
  Store : (i v : ℕ) → Row
  Fetch : (i : ℕ) → Row
  Tell : Row

abbrev pub rows_of : Operation → List Row
rows_of (Keep i v) = Make i v ∷ SetNumber i v ∷ PutNumber i v ∷ Store i v ∷ []
rows_of (Recall i) = Fetch i ∷ Tell ∷ []

abbrev pub command_at : Row → Command
command_at (Make i v) = commands.New 1 1
command_at (SetNumber i v) = commands.Set 2 v
command_at (PutNumber i v) = commands.Put 1 0 2
command_at (Store i v) = commands.Put 0 i 1
command_at (Fetch i) = commands.Get 1 0 i
command_at Tell = commands.Get 2 1 0

-- the rows at which an operation takes effect
abbrev pub decides : Row → Option Operation
decides (Store i v) = Some (Keep i v)
decides (Fetch i) = Some (Recall i)
decides _ = None

-- the number that a reply shows
abbrev pub number_of : Reply → Cell
number_of (replies.Val (Int v)) = Some v
number_of _ = None

abbrev pub last_of : Reply → List Reply → Reply
last_of r [] = r
last_of r (s ∷ rs) = last_of s rs

abbrev pub number_told : List Reply → Cell
number_told [] = None
number_told (r ∷ rs) = number_of (last_of r rs)

abbrev pub nothing_told : List Reply → Cell
nothing_told rs = None

-- the last row of an operation, and how its replies tell its answer
abbrev pub ends : Row → Option (List Reply → Cell)
ends (Store i v) = Some nothing_told
ends Tell = Some number_told
ends _ = None

-- ---- what its log tells

abbrev pub with_number : Cell → List ℕ → List ℕ
with_number None ns = ns
with_number (Some v) ns = v ∷ ns

-- the numbers that recalls are told by their replies, two each
abbrev pub numbers_told : List Reply → List ℕ
numbers_told [] = []
numbers_told (a ∷ []) = []
numbers_told (a ∷ b ∷ rs) = with_number (number_of b) (numbers_told rs)

-- those that are told after the four replies to each of so many keeps
abbrev pub recalled : ℕ → List Reply → List ℕ
recalled k rs = numbers_told (drop (4 * k) rs)

-- numbers that a thread can keep: at most 30,000, each below 2^62
pub record IsKeepable (vs : List ℕ) : Type 0 where
  pub few : length vs ≤ 30000
  pub small : AllByRecursion (λ (v : ℕ). v < 2 ^ 62) vs

-- ---- the heap

abbrev pub AreInCells : ℕ → List Operation → Type 0
AreInCells size ops = AllByRecursion (λ (op : Operation). place_of op < size) ops

-- three blocks of registers a thread, the array, a record for each place and one for register 1 of
-- each thread
abbrev pub cell_config : ℕ → ℕ → ℕ → Config
cell_config threads size blocks = record {
  width = Eight;
  threads = threads;
  blocks = blocks;
  live = 4 * threads + array_blocks Eight size + size;
  object = 1;
  shared = size;
}

-- that of n rings; it has room for four times the live limit and one round of allocations
abbrev pub ring_config : ℕ → Config
ring_config n = cell_config n (8 * n)
    (4 * ((4 * n + array_blocks Eight (8 * n) + 8 * n) + n + 1))

-- the traces of threads that keep these numbers
abbrev pub ring_traces : List (List ℕ) → List (List Command)
ring_traces lists = traces_of rows_of command_at (scripts_from 0 lists)
