-- The words of the opening heap, by block: each thread's register array, and after these the
-- shared array.
use Rattle.std.specs.Prelude.{ℕ, ◌+◌, ◌-◌, nat_le, if◌then◌else◌}
use Rattle.block_store.specs.declared.Config.{Config}
use Rattle.block_store.specs.declared.Name.{Name}
use Rattle.block_store.specs.declared.TheConstants.{REGISTERS}
use Rattle.block_store.specs.declared.Value.TheVariants.{Nil}
use Rattle.block_store.specs.declared.Width.{Width}
use Rattle.block_store.specs.WideOwners.{wide_word}
use Rattle.block_store.specs.Registers.{root_block, registers_end, register_thread, register_ordinal}
use Rattle.block_store.specs.Shapes.{array_word}
use Rattle.array_trees.specs.Levels.{array_part}
use Rattle.array_trees.specs.InitialHeaps.{opening_blocks}
use Rattle.never_heap.specs.Graphs.{start_graph, shared_name, register_of}
use Rattle.heap_invariant.specs.graph_relation.Words.{BlockWords, part_word}

-- the shared array comes after the register blocks, in the order of its ordinals
abbrev pub opening_at : Width → ℕ → Name → ℕ → ℕ
opening_at W n a o = registers_end W n + 1 + o

-- the first block of the shared array, to which every reference of the opening heap refers
abbrev pub shared_block : Config → Name → ℕ
shared_block c a = registers_end c.width c.threads + 1

-- payload j of ordinal o of the register array of thread t, an array of the thread's registers
abbrev pub register_word : Config → ℕ → ℕ → ℕ → ℕ
register_word c t o j =
    part_word (shared_block c) (λ p. root_block c.width t + p) (register_of (start_graph c) t)
    (array_part c.width REGISTERS o j)

-- payload j of ordinal o of the shared array, whose elements are nil
abbrev pub shared_word : Config → ℕ → ℕ → ℕ
shared_word c o j =
    part_word (shared_block c) (opening_at c.width c.threads (shared_name c.threads)) (λ i. Nil)
    (array_part c.width c.shared o j)

-- what is at block x: one thing in the register arrays, another in the shared array, and 0
-- after it
abbrev pub by_block : Config → ℕ → ℕ → ℕ → ℕ
by_block c x registers shared =
    if nat_le x (registers_end c.width c.threads) then registers
    else if nat_le x (opening_blocks c) then shared
    else 0

-- the ordinal of block x in the shared array
abbrev pub shared_ordinal : Config → ℕ → ℕ
shared_ordinal c x = x - (registers_end c.width c.threads + 1)

abbrev pub opening_words : Config → BlockWords
opening_words c = record {
  owner = λ x. by_block c x
      (wide_word (register_thread c.width x) 0 (register_ordinal c.width x))
      (wide_word c.threads 0 (shared_ordinal c x));
  shape = λ x. by_block c x (array_word REGISTERS) (array_word c.shared);
  payload = λ x j. by_block c x
      (register_word c (register_thread c.width x) (register_ordinal c.width x) j)
      (shared_word c (shared_ordinal c x) j);
}
