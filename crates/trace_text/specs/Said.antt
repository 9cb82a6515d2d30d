-- What a line says, by its tokens, or the reason why it says nothing.
use Rattle.std.specs.Prelude.{ℕ, zero, suc, ◌≡◌, ◌==◌, ◌<◌, ◌^◌, nat_le, nat_lt, Bool, true, false, not, ◌&&◌, ◌||◌, List, [], ◌∷◌, length, Result, Ok, Err, if◌then◌else◌}
use Rattle.std.specs.List.{list_any}
use Rattle.std.specs.Option.{ok_or}
use Rattle.block_store.specs.declared.Config.{Config}
use Rattle.block_store.specs.declared.Width.{Width}
use Rattle.block_store.specs.declared.TheConstants.{REGISTERS}
use Rattle.never_heap.specs.declared.Command.{Command}
use Rattle.never_heap.specs.declared.Command.TheVariants as commands
use Rattle.never_heap.specs.LiveBlocks.{blocks_of_kind}
use Rattle.never_heap.specs.Signatures as signed
use Rattle.never_heap.specs.Signatures.{Operand, Register, Length, Units, Each, IsOfVersion, registers_in, signature, value_of}
use Rattle.trace_text.specs.declared.trace_faults.Why.{Why}
use Rattle.trace_text.specs.declared.trace_faults.Why.TheVariants as whys
use Rattle.trace_text.specs.declared.reading.lines.Line.{Line}
use Rattle.trace_text.specs.declared.reading.lines.Line.TheVariants.{Thread, End, Told}
use Rattle.trace_text.specs.declared.reading.lines.Place.{Place}
use Rattle.trace_text.specs.declared.reading.words.Word.{Word}
use Rattle.trace_text.specs.declared.reading.words.Word.TheVariants as words
use Rattle.trace_text.specs.Reading.{number_at}
use Rattle.trace_text.specs.Headers.{labels_at}
use Rattle.trace_text.specs.Words.{word_in, is_command, operands}

infixl 10 ◌>>=◌
-- what is read in two steps
abbrev pub ◌>>=◌ : {A B : Type 0} → Result A Why → (A → Result B Why) → Result B Why
(Ok x) >>= f = f x
(Err why) >>= f = Err why

-- what a reader answers, seen by view
abbrev pub Tells : {X Y : Type 0} → (X → Y) → Result X Why → Result Y Why → Type 0
Tells view (Ok x) read = read ≡ Ok (view x)
Tells view (Err why) read = read ≡ Err why

-- the number of a token
abbrev pub spelled : List ℕ → Result ℕ Why
spelled token = ok_or (number_at token) whys.Number

-- there are this many
abbrev pub count_is : {A : Type 0} → ℕ → List A → Bool
count_is zero [] = true
count_is zero (x ∷ xs) = false
count_is (suc n) [] = false
count_is (suc n) (x ∷ xs) = count_is n xs

-- the numbers of tokens
abbrev pub values_at : List (List ℕ) → Result (List ℕ) Why
values_at [] = Ok []
values_at (token ∷ tokens) = do
  n ← spelled token
  ns ← values_at tokens
  Ok (n ∷ ns)

-- the numbers of this many tokens
unfoldable pub numbers_at : ℕ → List (List ℕ) → Result (List ℕ) Why
numbers_at n tokens = if count_is n tokens then values_at tokens else Err whys.Count

-- the registers of a command are registers
abbrev pub HasRegisters : Command → Type 0
HasRegisters k = Each (λ r. r < REGISTERS) (registers_in (signed.operands k))

-- and it is one of the commands of its version
abbrev pub IsOfWidth : Width → Command → Type 0
IsOfWidth width k = IsOfVersion (signature k).version width

-- an operand is an object that is too long or has too many blocks, or a number that is too large
abbrev pub is_large : Config → Operand → Bool
is_large c (Register role r) = false
is_large c (Length kind n) = nat_lt 65535 n || nat_lt c.object (blocks_of_kind c.width kind n)
is_large c (Units u) = nat_lt 131070 u
is_large c o = nat_le (2 ^ 62) (value_of o)

-- a command has such an operand
abbrev pub is_oversized : Config → Command → Bool
is_oversized c k = list_any (is_large c) (signed.operands k)

-- the number of a register
abbrev pub register_at : ℕ → Result ℕ Why
register_at n = if nat_le REGISTERS n then Err whys.Register else Ok n

-- a length, which has 32 bits
abbrev pub length_at : ℕ → Result ℕ Why
length_at n = if nat_le (2 ^ 32) n then Err whys.Size else Ok n

-- a command of registers, where its sizes are in their ranges and the thread may have one more
abbrev pub fitted : Place → Command → Result Line Why
fitted p command =
    if is_oversized p.config command || p.full then Err whys.Size else Ok (Told command)

-- after no number, one, two, three or four
abbrev pub on_none : List ℕ → Result Line Why → Result Line Why
on_none [] line = line
on_none (n ∷ ns) line = Err whys.Count

abbrev pub on_one : List ℕ → (ℕ → Result Line Why) → Result Line Why
on_one (a ∷ []) line = line a
on_one ns line = Err whys.Count

abbrev pub on_two : List ℕ → (ℕ → ℕ → Result Line Why) → Result Line Why
on_two (a ∷ b ∷ []) line = line a b
on_two ns line = Err whys.Count

abbrev pub on_three : List ℕ → (ℕ → ℕ → ℕ → Result Line Why) → Result Line Why
on_three (a ∷ b ∷ d ∷ []) line = line a b d
on_three ns line = Err whys.Count

abbrev pub on_four : List ℕ → (ℕ → ℕ → ℕ → ℕ → Result Line Why) → Result Line Why
on_four (a ∷ b ∷ d ∷ e ∷ []) line = line a b d e
on_four ns line = Err whys.Count

-- what a word and the numbers after it say
unfoldable pub told_at : Place → Word → List ℕ → Result Line Why
told_at p words.Thread ns =
    on_one ns (λ t.
    if not (t == p.threads) || p.threads == p.config.threads
    then Err whys.Order else Ok (Thread t))
told_at p words.End ns =
    on_none ns (if not (p.threads == p.config.threads) then Err whys.Order else Ok End)
told_at p words.New ns =
    on_two ns (λ d f. register_at d >>= λ d. length_at f >>= λ f. fitted p (commands.New d f))
told_at p words.Arr ns =
    on_two ns (λ d e. register_at d >>= λ d. length_at e >>= λ e. fitted p (commands.Arr d e))
told_at p words.Set ns =
    on_two ns (λ d v. register_at d >>= λ d. fitted p (commands.Set d v))
told_at p words.Nil ns =
    on_one ns (λ d. register_at d >>= λ d. fitted p (commands.Nil d))
told_at p words.Mov ns =
    on_two ns (λ d s. register_at d >>= λ d. register_at s >>= λ s. fitted p (commands.Mov d s))
told_at p words.Get ns =
    on_three ns (λ d s i.
    register_at d >>= λ d. register_at s >>= λ s. fitted p (commands.Get d s i))
told_at p words.Put ns =
    on_three ns (λ s i v.
    register_at s >>= λ s. register_at v >>= λ v. fitted p (commands.Put s i v))
told_at p words.Len ns =
    on_one ns (λ s. register_at s >>= λ s. fitted p (commands.Len s))
told_at p words.Same ns =
    on_two ns (λ a b. register_at a >>= λ a. register_at b >>= λ b. fitted p (commands.Same a b))
told_at p words.Say ns =
    on_one ns (λ s. register_at s >>= λ s. fitted p (commands.Say s))
told_at p words.Swap ns =
    on_three ns (λ s i v.
    register_at s >>= λ s. register_at v >>= λ v. fitted p (commands.Swap s i v))
told_at p words.Cas ns =
    on_four ns (λ s i a v.
    register_at s >>= λ s. register_at a >>= λ a. register_at v >>= λ v. fitted p
    (commands.Cas s i a v))
told_at p words.Idle ns = on_one ns (λ u. fitted p (commands.Idle u))

-- what a word and the tokens after it say
unfoldable pub operands_at : Place → Word → List (List ℕ) → Result Line Why
operands_at p word tokens = numbers_at (length (operands word)) tokens >>= told_at p word

-- the same, where a command comes only after a thread
abbrev pub in_turn : Place → Word → List (List ℕ) → Result Line Why
in_turn p word tokens =
    if is_command word && p.threads == 0 then Err whys.Order else operands_at p word tokens

-- what a line says
unfoldable pub line_at : Place → List (List ℕ) → Result Line Why
line_at p [] = Err whys.Word
line_at p (first ∷ others) = do
  word ← ok_or (word_in p.config.width first) whys.Word
  in_turn p word others

-- a number from least to most
abbrev pub bounded_at : ℕ → ℕ → ℕ → Result ℕ Why
bounded_at least most n = if nat_lt n least || nat_lt most n then Err whys.Size else Ok n

-- the configuration that a header names
unfoldable pub header_at : List (List ℕ) → Result Config Why
header_at line = do
  tokens ← ok_or (labels_at line) whys.Header
  threads ← spelled tokens.1
  blocks ← spelled tokens.2
  live ← spelled tokens.3
  object ← spelled tokens.4
  shared ← spelled tokens.5
  threads ← bounded_at 1 16 threads
  blocks ← bounded_at 1 65535 blocks
  live ← bounded_at 0 65535 live
  object ← bounded_at 1 1024 object
  shared ← bounded_at 0 1024 shared
  Ok (record {
    width = tokens.0;
    threads = threads;
    blocks = blocks;
    live = live;
    object = object;
    shared = shared;
  })
