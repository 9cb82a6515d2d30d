-- As what the word of a value is read.
use Rattle.std.specs.Prelude.{ℕ}
use Rattle.block_store.specs.declared.Name.{Name}
use Rattle.block_store.specs.declared.Value.{Value}
use Rattle.block_store.specs.declared.Value.TheVariants as values
use Rattle.block_store.specs.declared.Payload.{Payload}
use Rattle.block_store.specs.declared.Payload.TheVariants as payloads

-- what a payload word is whose value is this one
abbrev pub value_payload : (Name → ℕ) → Value → Payload
value_payload head values.Nil = payloads.Nil
value_payload head (values.Int v) = payloads.Int v
value_payload head (values.Ref a) = payloads.Block (head a)
