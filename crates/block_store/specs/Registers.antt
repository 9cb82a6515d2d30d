-- Where the registers of threads are: each thread's are an array of 16 elements, and the arrays
-- take the first blocks of the heap, thread by thread. This is the one place with the numbers of
-- that layout, for either width.
use Rattle.std.specs.Prelude.{ℕ, ◌+◌, ◌-◌, ◌*◌, ◌/◌, ◌%◌}
use Rattle.block_store.specs.declared.Width.{Width}
use Rattle.block_store.specs.declared.Width.TheVariants.{Four, Eight}

-- the first block of the register array of thread t, the root of a tree of two levels
abbrev pub root_block : Width → ℕ → ℕ
root_block Four t = 5 * t + 1
root_block Eight t = 3 * t + 1

-- the block that holds register r of thread t
abbrev pub register_block : Width → ℕ → ℕ → ℕ
register_block Four t r = 5 * t + 2 + r / 4
register_block Eight t r = 3 * t + 2 + r / 8

-- the payload of that block at which the register is
abbrev pub register_slot : Width → ℕ → ℕ
register_slot Four r = r % 4
register_slot Eight r = r % 8

-- the last block of the register arrays of n threads; they begin at block 1
abbrev pub registers_end : Width → ℕ → ℕ
registers_end Four n = 5 * n
registers_end Eight n = 3 * n

-- the thread whose register array has block x, and which of its blocks that is
abbrev pub register_thread : Width → ℕ → ℕ
register_thread Four x = (x - 1) / 5
register_thread Eight x = (x - 1) / 3

abbrev pub register_ordinal : Width → ℕ → ℕ
register_ordinal Four x = (x - 1) % 5
register_ordinal Eight x = (x - 1) % 3
