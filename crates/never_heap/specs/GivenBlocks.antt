-- How many blocks of this width were given in a cycle.
use Rattle.std.specs.Prelude.{ℕ, List}
use Rattle.block_store.specs.declared.Width.{Width}
use Rattle.never_heap.specs.Cycles.{before_start, after_start}
use Rattle.never_heap.specs.Histories.{HistoryItem}
use Rattle.never_heap.specs.Taken.{taken_in}

-- the blocks of the entries answered new after the c-th start and before the next, or to the end
abbrev pub given : Width → List HistoryItem → ℕ → ℕ
given w h c = taken_in w (before_start 1 (after_start c h))
