-- What a thread has made so far, told by its deeds.
use Rattle.std.specs.Prelude.{ℕ, ◌+◌, ◌==◌, Option, Some, None, if◌then◌else◌, List, [], ◌∷◌}
use Rattle.array_tables.specs.handle_table.Handles.{Deed, Make, last_after}

-- how many handles were made, after n others
abbrev pub made_behind : ℕ → List Deed → ℕ
made_behind n [] = n
made_behind n (Make t j h i x ∷ ops) = made_behind (n + 1) ops
made_behind n (op ∷ ops) = made_behind n ops

-- Of each h one more than the number of its last make, after n others and where `last` tells those
-- before. It is 0 before the first make.
abbrev pub last_behind : ℕ → (ℕ → ℕ) → List Deed → ℕ → ℕ
last_behind n last [] = last
last_behind n last (Make t j h i x ∷ ops) = last_behind (n + 1) (last_after last h (n + 1)) ops
last_behind n last (op ∷ ops) = last_behind n last ops

-- the slot of the last make of h, where `slot` tells that before
abbrev pub slot_after : (ℕ → Option ℕ) → ℕ → ℕ → ℕ → Option ℕ
slot_after slot h i g = if h == g then Some i else slot g

abbrev pub slots_behind : (ℕ → Option ℕ) → List Deed → ℕ → Option ℕ
slots_behind slot [] = slot
slots_behind slot (Make t j h i x ∷ ops) = slots_behind (slot_after slot h i) ops
slots_behind slot (op ∷ ops) = slots_behind slot ops

-- those of all deeds of a thread
abbrev pub made_by : List Deed → ℕ
made_by ops = made_behind 0 ops

abbrev pub last_by : List Deed → ℕ → ℕ
last_by ops = last_behind 0 (λ h. 0) ops

abbrev pub slot_by : List Deed → ℕ → Option ℕ
slot_by ops = slots_behind (λ h. None) ops
