-- What the program asks of its heap, and is answered.
use Rattle.std.specs.Prelude.{ℕ, [], ◌∷◌}
use Rattle.block_store.specs.declared.Name.{Name}
use Rattle.block_store.specs.declared.Value.{Value}
use Rattle.block_store.specs.declared.Value.TheVariants.{Int}
use Rattle.never_heap.specs.declared.Command.TheVariants.{New, Set, Put, Get}
use Rattle.never_heap.specs.declared.Reply.TheVariants as replies
use Rattle.control_heap.specs.Controls.{Control, AllAnswered}

-- Four commands were done: a record was made, it holds the reading, and that place of the shared
-- array refers to it.
abbrev pub HasStored : Control → ℕ → ℕ → Control → Type 0
HasStored old place reading new = (name : Name) × AllAnswered old
    (New 1 1 ∷ Set 2 reading ∷ Put 1 0 2 ∷ Put 0 place 1 ∷ [])
    (replies.New name ∷ replies.Stored ∷ replies.Stored ∷ replies.Stored ∷ []) new

-- The number in the record of that place was answered.
abbrev pub HasRead : Control → ℕ → ℕ → Control → Type 0
HasRead old place reading new = (kept : Value) × AllAnswered old
    (Get 1 0 place ∷ Get 2 1 0 ∷ []) (replies.Val kept ∷ replies.Val (Int reading) ∷ []) new
