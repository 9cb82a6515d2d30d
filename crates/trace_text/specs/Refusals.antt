-- Where bytes are no job: the first line that is outside the grammar, and the reason.
use Rattle.std.specs.Prelude.{ℕ, zero, suc, ◌+◌, ◌-◌, ◌<◌, ◌≤◌, ◌^◌, ◌≡◌, ◌==◌, nat_le, nat_lt, Bool, true, false, not, ◌&&◌, ◌||◌, List, [], ◌∷◌, map, length, take, drop, Option, None, Some, is_some, if◌then◌else◌}
use Rattle.std.specs.Option.{unwrap_or}
use Rattle.std.specs.List.{list_any}
use Rattle.block_store.specs.declared.Config.{Config}
use Rattle.block_store.specs.declared.TheConstants.{REGISTERS}
use Rattle.block_store.specs.declared.Width.TheVariants.{Four}
use Rattle.object_lists.specs.Records.{record_blocks}
use Rattle.array_trees.specs.Trees.{array_blocks}
use Rattle.trace_text.specs.declared.trace_faults.Why.{Why}
use Rattle.trace_text.specs.declared.trace_faults.Why.TheVariants as whys
use Rattle.trace_text.specs.declared.reading.words.Word.{Word}
use Rattle.trace_text.specs.declared.reading.words.Word.TheVariants.{Thread, End}
use Rattle.trace_text.specs.Reading.{number_at, tokenized}
use Rattle.trace_text.specs.Headers.{Labels, labels_at}
use Rattle.trace_text.specs.Words.{word_at, word_in, is_command, operands, Operand, OfThread, OfRegister, OfFields, OfElements, OfNumber, OfUnits}

-- the reason of the first test that holds
abbrev pub first_of : List (Bool × Why) → Option Why
first_of [] = None
first_of (test ∷ tests) = if test.0 then Some test.1 else first_of tests

-- a token is a number
abbrev pub is_number : List ℕ → Bool
is_number token = is_some (number_at token)

-- the number that a token is
abbrev pub value_of : List ℕ → ℕ
value_of token = unwrap_or (number_at token) 0

-- ---- the header

-- a number is not from least to most
abbrev pub is_outside : ℕ → ℕ → ℕ → Bool
is_outside least most n = nat_lt n least || nat_lt most n

-- the form, then the five numbers, then their ranges
abbrev pub numbers_fault : Option Labels → Option Why
numbers_fault None = Some whys.Header
numbers_fault (Some p) =
    first_of ((
      not (is_number p.1 && is_number p.2 && is_number p.3 && is_number p.4 && is_number p.5),
      whys.Number,
    )
    ∷ (
      is_outside 1 16 (value_of p.1) || is_outside 1 65535 (value_of p.2)
          || is_outside 0 65535 (value_of p.3) || is_outside 1 1024 (value_of p.4)
          || is_outside 0 1024 (value_of p.5),
      whys.Size,
    )
    ∷ [])

-- what is wrong with a header
unfoldable pub header_fault : List (List ℕ) → Option Why
header_fault line = numbers_fault (labels_at line)

-- the configuration of a width and five tokens
abbrev pub numbers_config : Option Labels → Config
numbers_config None =
    record { width = Four; threads = 0; blocks = 0; live = 0; object = 0; shared = 0 }
numbers_config (Some p) = record {
  width = p.0;
  threads = value_of p.1;
  blocks = value_of p.2;
  live = value_of p.3;
  object = value_of p.4;
  shared = value_of p.5;
}

-- the configuration that a header without fault names
unfoldable pub config_of : List (List ℕ) → Config
config_of line = numbers_config (labels_at line)

-- ---- the later lines

-- what the lines between the header and a line were
pub record Before : Type 0 where
  -- how many began with `thread`
  pub threads : ℕ
  -- how many since then began with a command's word
  pub commands : ℕ
  -- whether one began with `end`
  pub ended : Bool

-- after the header
abbrev pub nothing_before : Before
nothing_before = record { threads = 0; commands = 0; ended = false }

-- what the lines were, with one more that begins with this word
abbrev pub after_word : Before → Option Word → Before
after_word b None = b
after_word b (Some Thread) = record { threads = b.threads + 1; commands = 0; ended = b.ended }
after_word b (Some End) = record { threads = b.threads; commands = b.commands; ended = true }
after_word b (Some word) =
    record { threads = b.threads; commands = b.commands + 1; ended = b.ended }

-- the same with one more line
abbrev pub after_line : Before → List (List ℕ) → Before
after_line b [] = b
after_line b (first ∷ others) = after_word b (word_at first)

-- the same with more lines
abbrev pub after_lines : Before → List (List (List ℕ)) → Before
after_lines b [] = b
after_lines b (line ∷ lines) = after_lines (after_line b line) lines

-- a test of operands holds of one of them
abbrev pub any_operand : (Operand → ℕ → Bool) → List Operand → List ℕ → Bool
any_operand test [] numbers = false
any_operand test (o ∷ os) [] = false
any_operand test (o ∷ os) (n ∷ numbers) = test o n || any_operand test os numbers

-- a number that no register has
abbrev pub is_high_register : Operand → ℕ → Bool
is_high_register OfRegister n = nat_le REGISTERS n
is_high_register o n = false

-- an object that is too long or has too many blocks, or a number that is too large
abbrev pub is_too_large : Config → Operand → ℕ → Bool
is_too_large c OfThread n = false
is_too_large c OfRegister n = false
is_too_large c OfFields n = nat_lt 65535 n || nat_lt c.object (record_blocks c.width n)
is_too_large c OfElements n = nat_lt 65535 n || nat_lt c.object (array_blocks c.width n)
is_too_large c OfNumber n = nat_le (2 ^ 62) n
is_too_large c OfUnits n = nat_lt 131070 n

-- a thread that is not the next, or is one too many, and an end before the last thread
abbrev pub is_out_of_turn : Config → Before → Word → List ℕ → Bool
is_out_of_turn c b Thread numbers =
    any_operand (λ _ t. not (t == b.threads)) (operands Thread) numbers || b.threads == c.threads
is_out_of_turn c b End numbers = not (b.threads == c.threads)
is_out_of_turn c b word numbers = false

-- what is wrong with a line that begins with a word
abbrev pub word_fault : Config → Before → Option Word → List (List ℕ) → Option Why
word_fault c b None tokens = Some whys.Word
word_fault c b (Some word) tokens =
    let numbers = map value_of tokens in
    first_of (
    (is_command word && b.threads == 0, whys.Order)
    ∷ (not (length tokens == length (operands word)), whys.Count)
    ∷ (list_any (λ token. not (is_number token)) tokens, whys.Number)
    ∷ (is_out_of_turn c b word numbers, whys.Order)
    ∷ (any_operand is_high_register (operands word) numbers, whys.Register)
    ∷ (
      any_operand (is_too_large c) (operands word) numbers
          || (is_command word && nat_le 131072 b.commands),
      whys.Size,
    )
    ∷ [])

-- what is wrong with a line after the header
unfoldable pub later_fault : Config → Before → List (List ℕ) → Option Why
later_fault c b [] = if b.ended then Some whys.End else Some whys.Word
later_fault c b (first ∷ tokens) =
    if b.ended then Some whys.End else word_fault c b (word_in c.width first) tokens

-- what is wrong with the first of the lines that are left; where none is left, one of them should
-- have been the end
abbrev pub next_fault : Config → Before → List (List (List ℕ)) → Option Why
next_fault c b [] = if b.ended then None else Some whys.End
next_fault c b (line ∷ lines) = later_fault c b line

-- ---- all lines

-- what is wrong with line i, counted from 0, or at the end of the lines
abbrev pub fault_at : List (List (List ℕ)) → ℕ → Option Why
fault_at [] i = Some whys.Header
fault_at (header ∷ lines) zero = header_fault header
fault_at (header ∷ lines) (suc i) =
    next_fault (config_of header) (after_lines nothing_before (take i lines)) (drop i lines)

-- the line with this number, counted from 1, is the first with something wrong
pub record IsFirstBadLine (bytes : List ℕ) (line : ℕ) (why : Why) : Type 0 where
  pub some : 1 ≤ line
  pub before : (i : ℕ) → i + 1 < line → fault_at (tokenized bytes) i ≡ None
  pub fault : fault_at (tokenized bytes) (line - 1) ≡ Some why
