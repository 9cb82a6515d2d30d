-- The words that lines begin with, and what comes after them.
use Rattle.std.specs.Prelude.{ℕ, Bool, true, false, List, [], ◌∷◌, Option, None, Some, codes, if◌then◌else◌}
use Rattle.std.specs.Str.{bytes_eq}
use Rattle.block_store.specs.declared.Width.{Width}
use Rattle.block_store.specs.declared.Width.TheVariants.{Four, Eight}
use Rattle.trace_text.specs.declared.reading.words.Word.{Word}
use Rattle.trace_text.specs.declared.reading.words.Word.TheVariants.{Thread, End, New, Arr, Set, Nil, Mov, Get, Put, Len, Same, Say, Swap, Cas, Idle}

-- the word that a token is
abbrev pub word_at : List ℕ → Option Word
word_at token =
    if bytes_eq token (codes "get") then Some Get else
    if bytes_eq token (codes "put") then Some Put else
    if bytes_eq token (codes "new") then Some New else
    if bytes_eq token (codes "arr") then Some Arr else
    if bytes_eq token (codes "set") then Some Set else
    if bytes_eq token (codes "mov") then Some Mov else
    if bytes_eq token (codes "nil") then Some Nil else
    if bytes_eq token (codes "len") then Some Len else
    if bytes_eq token (codes "same") then Some Same else
    if bytes_eq token (codes "say") then Some Say else
    if bytes_eq token (codes "swap") then Some Swap else
    if bytes_eq token (codes "cas") then Some Cas else
    if bytes_eq token (codes "idle") then Some Idle else
    if bytes_eq token (codes "thread") then Some Thread else
    if bytes_eq token (codes "end") then Some End else None

-- whether blocks have this width in version 2
abbrev pub is_wide : Width → Bool
is_wide Four = false
is_wide Eight = true

-- `swap`, `cas` and `idle` are no words of version 1
abbrev pub has_word : Width → Word → Bool
has_word width Swap = is_wide width
has_word width Cas = is_wide width
has_word width Idle = is_wide width
has_word width w = true

abbrev pub if_known : Width → Option Word → Option Word
if_known width None = None
if_known width (Some w) = if has_word width w then Some w else None

-- the word that a token is in a job whose blocks have this width
abbrev pub word_in : Width → List ℕ → Option Word
word_in width token = if_known width (word_at token)

-- a word that a command begins with
abbrev pub is_command : Word → Bool
is_command Thread = false
is_command End = false
is_command w = true

-- what an operand is: the number of a thread or of a register, how many fields or elements an
-- object has, a number or index, or how many units are to be made
pub data Operand : Type 0 where
  OfThread : Operand
  OfRegister : Operand
  OfFields : Operand
  OfElements : Operand
  OfNumber : Operand
  OfUnits : Operand

-- the operands after a word
abbrev pub operands : Word → List Operand
operands Thread = OfThread ∷ []
operands End = []
operands New = OfRegister ∷ OfFields ∷ []
operands Arr = OfRegister ∷ OfElements ∷ []
operands Set = OfRegister ∷ OfNumber ∷ []
operands Nil = OfRegister ∷ []
operands Mov = OfRegister ∷ OfRegister ∷ []
operands Get = OfRegister ∷ OfRegister ∷ OfNumber ∷ []
operands Put = OfRegister ∷ OfNumber ∷ OfRegister ∷ []
operands Len = OfRegister ∷ []
operands Same = OfRegister ∷ OfRegister ∷ []
operands Say = OfRegister ∷ []
operands Swap = OfRegister ∷ OfNumber ∷ OfRegister ∷ []
operands Cas = OfRegister ∷ OfNumber ∷ OfRegister ∷ OfRegister ∷ []
operands Idle = OfUnits ∷ []
