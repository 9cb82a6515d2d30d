-- At which event a command that allocates nothing takes its place among the commands of all
-- threads.
use Rattle.std.specs.Prelude.{ℕ, nat_lt, Bool, true, false, not}
use Rattle.block_store.specs.declared.Payload.{Payload}
use Rattle.block_store.specs.declared.Payload.TheVariants as payloads
use Rattle.never_heap.specs.declared.Command.{Command}
use Rattle.never_heap.specs.declared.Command.TheVariants as commands
use Rattle.barrier_steps.specs.declared.rows.FieldRow.{FieldRow}
use Rattle.barrier_steps.specs.declared.rows.FieldRow.TheVariants.{LoadRegister, LoadShape, LoadField, Store, StoreConstant, IdleLook}
use Rattle.barrier_steps.specs.declared.rows.Purpose.{Purpose}
use Rattle.barrier_steps.specs.declared.rows.Purpose.TheVariants as wants
use Rattle.barrier_steps.specs.Walks.{shape_length}
use Rattle.barrier_steps.specs.Rows.{payload_in, shape_in, is_taken}

-- whether a payload is a reference
abbrev pub refers : Payload → Bool
refers payloads.Nil = false
refers (payloads.Int v) = false
refers (payloads.Block x) = true

-- whether the length of the object decides: for `len`, and where the object has no such field
abbrev pub length_decides : Command → ℕ → Bool
length_decides (commands.Get d s i) n = not (nat_lt i n)
length_decides (commands.Put s i v) n = not (nat_lt i n)
length_decides (commands.Swap s i v) n = not (nat_lt i n)
length_decides (commands.Cas s i a v) n = not (nat_lt i n)
length_decides _ n = true

-- whether the load of a register is the linearization point
abbrev pub register_decides : Purpose → ℕ → Bool
register_decides wants.Object w = not (refers (payload_in w))
register_decides (wants.Second word) w = true
register_decides wants.Shown w = true
register_decides _ w = false

-- whether the event of a row of command k that reads w is the deciding one: the store of `set`,
-- `nil`, `mov` and `put`, the load of the field of `get`, its exchange of `swap`, its comparison of
-- `cas`, the load of the second register of `same`, of the register of `say`, of the shape of
-- `len`, the look of `idle`; or the one that shows a refusal
abbrev pub is_deciding : Command → FieldRow → ℕ → Bool
is_deciding k (LoadRegister wanted) w = register_decides wanted w
is_deciding k (LoadShape x) w = length_decides k (shape_length (shape_in w))
is_deciding k (LoadField way) w = true
is_deciding k (Store store) w = not (is_taken store)
is_deciding k StoreConstant w = true
is_deciding k IdleLook w = true
is_deciding k _ w = false
