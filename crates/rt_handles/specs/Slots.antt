-- What a reader keeps of a thread's operations.
use Rattle.std.specs.Prelude.{ℕ, ◌≡◌, ◌<◌, Option, Some, None, List, slice_index_or}
use Rattle.array_tables.specs.declared.handle_table.operation.Operation.{Operation}
use Rattle.array_tables.specs.declared.handle_table.operation.Operation.TheVariants.{Make}
use Rattle.array_tables.specs.handle_table.Handles.{slot_of}

-- for each of the eight handles the slot of its last make
abbrev pub AreSlotsOf : List (Option ℕ) → List Operation → Type 0
AreSlotsOf slots ops = (h : ℕ) → h < 8 → slice_index_or slots h None ≡ slot_of h ops

-- the handle and the slot of a make
abbrev pub make_in : Operation → Option (ℕ × ℕ)
make_in (Make g i x) = Some (g, i)
make_in _ = None
