-- What a command names, read off its signature: registers, the number of a field, the word of a
-- number. Each is 0 where the command names none.
use Rattle.std.specs.Prelude.{ℕ, ◌-◌, Bool, true, false, ◌&&◌, ◌||◌, Option, Some, None, is_some, List, [], ◌∷◌, length, slice_index_or}
use Rattle.block_store.specs.Payloads.{number_word}
use Rattle.never_heap.specs.declared.Command.{Command}
use Rattle.never_heap.specs.declared.Command.TheVariants.{Set, Nil, Mov, Get, Put, Same, Say, Swap, Cas, Idle}
use Rattle.never_heap.specs.Signatures.{Operand, Register, Field, Destination, Base, operands, destination_in, place_in}

abbrev pub or_zero : Option ℕ → ℕ
or_zero None = 0
or_zero (Some n) = n

-- the registers that a command with these operands reads, in their order
abbrev pub reads_in : List Operand → List ℕ
reads_in [] = []
reads_in (Register Destination d ∷ os) = reads_in os
reads_in (Register role r ∷ os) = r ∷ reads_in os
reads_in (o ∷ os) = reads_in os

-- the register at whose object it looks
abbrev pub base_in : List Operand → Option ℕ
base_in [] = None
base_in (Register Base s ∷ os) = Some s
base_in (o ∷ os) = base_in os

-- the field of that object to which it goes
abbrev pub field_in : List Operand → Option ℕ
field_in [] = None
field_in (Field access i ∷ os) = Some i
field_in (o ∷ os) = field_in os

-- the register that becomes something
abbrev pub to_register : Command → ℕ
to_register k = or_zero (destination_in (operands k))

-- the register that is read first
abbrev pub from_register : Command → ℕ
from_register k = slice_index_or (reads_in (operands k)) 0 0

-- the other register that is read, which is the last
abbrev pub other_register : Command → ℕ
other_register k = slice_index_or (reads_in (operands k)) (length (reads_in (operands k)) - 1) 0

-- the register with whose value a field is compared, which is the second
abbrev pub expected_register : Command → ℕ
expected_register k = slice_index_or (reads_in (operands k)) 1 0

abbrev pub field_index : Command → ℕ
field_index k = or_zero (field_in (operands k))

-- the word of the number that a register becomes, or of nil
abbrev pub constant_word : Command → ℕ
constant_word (Set d v) = number_word v
constant_word _ = 0

-- the register whose value is the answer: the one that becomes what a field held, or that is shown
abbrev pub answered_register : Command → ℕ
answered_register (Say s) = s
answered_register k = to_register k

-- a command whose register becomes a number or nil
abbrev pub sets_constant : Command → Bool
sets_constant (Set d v) = true
sets_constant (Nil d) = true
sets_constant _ = false

abbrev pub is_mov : Command → Bool
is_mov (Mov d s) = true
is_mov _ = false

abbrev pub is_get : Command → Bool
is_get (Get d s i) = true
is_get _ = false

abbrev pub is_put : Command → Bool
is_put (Put s i v) = true
is_put _ = false

abbrev pub is_swap : Command → Bool
is_swap (Swap s i v) = true
is_swap _ = false

abbrev pub is_cas : Command → Bool
is_cas (Cas s i a v) = true
is_cas _ = false

abbrev pub is_idle : Command → Bool
is_idle (Idle u) = true
is_idle _ = false

abbrev pub is_same : Command → Bool
is_same (Same a b) = true
is_same _ = false

abbrev pub is_say : Command → Bool
is_say (Say s) = true
is_say _ = false

-- a command whose register becomes what a field held
abbrev pub takes_field : Command → Bool
takes_field k = is_some (destination_in (operands k)) && is_some (field_in (operands k))

-- a command that answers a value
abbrev pub answers_value : Command → Bool
answers_value k = takes_field k || is_say k

-- a command that may store what a register holds in a field
abbrev pub stores_in_field : Command → Bool
stores_in_field k = is_some (place_in (operands k))

-- a command that goes to a field
abbrev pub goes_to_field : Command → Bool
goes_to_field k = is_some (field_in (operands k))

-- a command that looks at an object
abbrev pub looks_at_object : Command → Bool
looks_at_object k = is_some (base_in (operands k))
