-- The words of payloads: 0 for nil, twice the block for a reference, and one more than twice the
-- number for a number.
use Rattle.std.specs.Prelude.{ℕ, ◌+◌, ◌*◌, ◌/◌, ◌%◌, ◌^◌, ◌<◌, ◌≤◌, ◌==◌, nat_lt, nat_le, ◌&&◌, if◌then◌else◌, Option, Some, None}
use Rattle.block_store.specs.declared.Payload.{Payload}
use Rattle.block_store.specs.declared.Payload.TheVariants.{Nil, Int, Block}

-- the word of the number v
unfoldable pub number_word : ℕ → ℕ
number_word v = 2 * v + 1

-- the word of a reference to block x
unfoldable pub reference_word : ℕ → ℕ
reference_word x = 2 * x

-- the payloads that have a word: numbers below 2^62, and blocks from 1 to 65,535
abbrev pub IsPayload : Payload → Type 0
IsPayload Nil = Unit {0}
IsPayload (Int v) = v < 2 ^ 62
IsPayload (Block x) = (1 ≤ x) × (x ≤ 65535)

-- the word of a payload
abbrev pub payload_code : Payload → ℕ
payload_code Nil = 0
payload_code (Int v) = number_word v
payload_code (Block x) = reference_word x

-- the block that a payload refers to, or 0
abbrev pub payload_target : Payload → ℕ
payload_target Nil = 0
payload_target (Int v) = 0
payload_target (Block x) = x

-- the block that a word refers to, or 0
unfoldable pub target : ℕ → ℕ
target w = if w % 2 == 0 then w / 2 else 0

-- the payload that a word is, or none
unfoldable pub payload_of : ℕ → Option Payload
payload_of w =
    if w == 0 then Some Nil
    else if w % 2 == 1 && nat_lt (w / 2) (2 ^ 62) then Some (Int (w / 2))
    else if w % 2 == 0 && nat_le (w / 2) 65535 then Some (Block (w / 2))
    else None
