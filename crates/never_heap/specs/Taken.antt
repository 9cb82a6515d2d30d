-- The blocks of this width that a history took.
use Rattle.std.specs.Prelude.{ℕ, ◌+◌, List, [], ◌∷◌}
use Rattle.block_store.specs.declared.Width.{Width}
use Rattle.never_heap.specs.declared.Entry.{Entry}
use Rattle.never_heap.specs.declared.Reply.{Reply}
use Rattle.never_heap.specs.declared.Reply.TheVariants.{New}
use Rattle.never_heap.specs.Histories.{HistoryItem, Started, Did}
use Rattle.never_heap.specs.Steps.{blocks_of}

-- this many, where the reply is that an object was made
abbrev pub blocks_if_new : Reply → ℕ → ℕ
blocks_if_new (New name) k = k
blocks_if_new _ k = 0

-- an entry took the blocks of its command, where it was answered new
abbrev pub taken_by : Width → Entry → ℕ
taken_by w e = blocks_if_new e.reply (blocks_of w e.command)

-- all entries together
abbrev pub taken_in : Width → List HistoryItem → ℕ
taken_in w [] = 0
taken_in w (Started ∷ h) = taken_in w h
taken_in w (Did e ∷ h) = taken_by w e + taken_in w h
