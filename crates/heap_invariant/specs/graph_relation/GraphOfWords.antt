-- Which graph the words of blocks show. It is said by owner words and by a placement of names and
-- ordinals, and not by the order in which blocks are given. Of the graph's names some are kept:
-- those that are spoken of. W is the width of the blocks.
use Rattle.std.specs.Prelude.{ℕ, ◌+◌, ◌^◌, ◌<◌, ◌≤◌, ◌≡◌, Bool, true, false, length, nat_lt, if◌then◌else◌}
use Rattle.block_store.specs.declared.Name.{Name}
use Rattle.block_store.specs.declared.TheConstants.{REGISTERS}
use Rattle.block_store.specs.declared.Value.{Value}
use Rattle.block_store.specs.declared.Value.TheVariants.{Nil, Int, Ref}
use Rattle.block_store.specs.declared.Width.{Width}
use Rattle.block_store.specs.Widths.{payloads, register_blocks}
use Rattle.block_store.specs.Registers.{root_block, register_block, register_slot, registers_end}
use Rattle.block_store.specs.WideOwners.{wide_word}
use Rattle.block_store.specs.Payloads.{reference_word}
use Rattle.never_heap.specs.Graphs.{Graph, Object, object_of, field_of, register_of, mutator_at, has_name}
use Rattle.heap_invariant.specs.graph_relation.Layouts.{object_blocks, object_part}
use Rattle.heap_invariant.specs.graph_relation.Words.{BlockWords, value_word, part_word, object_shape}

-- nil, a number below 2^62, or a kept name
abbrev pub IsValueOf : (Name → Type 0) → Value → Type 0
IsValueOf K Nil = Unit {0}
IsValueOf K (Int v) = v < 2 ^ 62
IsValueOf K (Ref a) = K a

-- the first block of each name's object
abbrev pub heads : (Name → ℕ → ℕ) → Name → ℕ
heads at a = at a 0

-- The block of ordinal o shows that part of the object of this name. The ordinals are at block_of
-- them. It is said of objects that the graph has, and of those that are still being made.
pub record BlockShows (W : Width) (head : Name → ℕ) (w : BlockWords) (a : Name) (object : Object)
    (block_of : ℕ → ℕ) (o : ℕ) : Type 0 where
  pub owned : w.owner (block_of o) ≡ wide_word a.thread a.serial o
  pub shaped : w.shape (block_of o) ≡ object_shape object
  pub words : (j : ℕ) → j < payloads W → w.payload (block_of o) j
      ≡ part_word head block_of (field_of object) (object_part W object o j)

-- the words show each block of each kept object
pub record Written (W : Width) (K : Name → Type 0) (object : Name → Object) (at : Name → ℕ → ℕ)
    (w : BlockWords) : Type 0 where
  pub blocks : (a : Name) (o : ℕ) → K a → o < object_blocks W (object a)
      → BlockShows W (heads at) w a (object a) (at a) o

-- kept objects come after the register blocks of n threads, and at block m at the latest
pub record Placed (W : Width) (n m : ℕ) (K : Name → Type 0) (object : Name → Object)
    (at : Name → ℕ → ℕ) : Type 0 where
  pub behind : (a : Name) (o : ℕ) → K a → o < object_blocks W (object a)
      → registers_end W n < at a o
  pub within : (a : Name) (o : ℕ) → K a → o < object_blocks W (object a) → at a o ≤ m

-- the blocks of kept objects have owner words
pub record Numbered (W : Width) (K : Name → Type 0) (object : Name → Object) : Type 0 where
  pub threads : (a : Name) → K a → a.thread ≤ 16
  pub serials : (a : Name) → K a → a.serial < 2 ^ 43
  pub ordinals : (a : Name) → K a → object_blocks W (object a) ≤ 1024

-- a register's word is that of its value; where the register is pending, it is that of some kept
-- value
pub record RegisterShows (word : ℕ) (head : Name → ℕ) (K : Name → Type 0) (v : Value)
    (pending : Bool) : Type 0 where
  pub value : Value
  pub kept : IsValueOf K value
  pub reads : word ≡ value_word head value
  pub now : pending ≡ false → value ≡ v

-- payload j of the root of thread t's register array: the root refers to the array's other blocks
abbrev pub root_word : Width → ℕ → ℕ → ℕ
root_word W t j =
    if nat_lt (1 + j) (register_blocks W) then reference_word (root_block W t + (1 + j)) else 0

-- the words show the registers of n threads, and each thread's register array has its root
pub record Registers (W : Width) (n : ℕ) (K : Name → Type 0) (head : Name → ℕ)
    (register : ℕ → ℕ → Value) (pending : ℕ → ℕ → Bool) (w : BlockWords) : Type 0 where
  pub holds : (t r : ℕ) → t < n → r < REGISTERS
      → RegisterShows (w.payload (register_block W t r) (register_slot W r)) head K (register t r)
      (pending t r)
  pub roots : (t j : ℕ) → t < n → j < payloads W → w.payload (root_block W t) j ≡ root_word W t j

-- what is in a field of a kept object or in a register is kept
pub record Closed (n : ℕ) (K : Name → Type 0) (object : Name → Object)
    (register : ℕ → ℕ → Value) : Type 0 where
  pub fields : (a : Name) (i : ℕ) → K a → IsValueOf K (field_of (object a) i)
  pub registers : (t r : ℕ) → t < n → r < REGISTERS → IsValueOf K (register t r)

-- the graph has n threads of 16 registers
pub record IsSized (n : ℕ) (g : Graph) : Type 0 where
  pub threads : length g.mutators ≡ n
  pub sixteen : (t : ℕ) → t < n → length (mutator_at g t).registers ≡ REGISTERS

-- The words show the kept part of a graph of n threads, where ordinal o of the object of name a
-- is at block at a o, m at the latest. A pending register is one whose store is still to come.
pub record Shows (W : Width) (n m : ℕ) (K : Name → Type 0) (g : Graph) (at : Name → ℕ → ℕ)
    (w : BlockWords) (pending : ℕ → ℕ → Bool) : Type 0 where
  pub sized : IsSized n g
  pub names : (a : Name) → K a → has_name g a ≡ true
  pub closed : Closed n K (object_of g) (register_of g)
  pub numbered : Numbered W K (object_of g)
  pub placed : Placed W n m K (object_of g) at
  pub written : Written W K (object_of g) at w
  pub registers : Registers W n K (heads at) (register_of g) pending w

-- the names that a test keeps
abbrev pub named : (Name → Bool) → Name → Type 0
named test a = test a ≡ true

-- all names of the graph are kept
abbrev pub every_name : Graph → Name → Type 0
every_name g a = has_name g a ≡ true

-- no register is pending
abbrev pub none_pending : ℕ → ℕ → Bool
none_pending t r = false
