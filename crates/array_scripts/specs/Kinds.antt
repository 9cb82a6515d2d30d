-- Kinds of scripts of operations on an array that threads share: how their lines are spelled, and
-- how they are read.
use Rattle.std.specs.Prelude.{ℕ, ◌<◌, ◌≤◌, ◌==◌, ◌&&◌, ◌||◌, nat_lt, Option, Some, None, if◌then◌else◌, List, [], ◌∷◌, ◌++◌, length, codes, decimal}
use Rattle.std.specs.Str.{bytes_eq}
use Rattle.block_store.specs.declared.Config.{Config}
use Rattle.array_scripts.specs.scripts.Scripts.{Said, Thread, Told, End, Language, AreFit, IsScript}
use Rattle.trace_text.specs.Headers.{behind_at, labelled_at}
use Rattle.trace_text.specs.Reading.{◌>>=◌, tokenized, number_at, no_more_of, one_token_of}
use Rattle.array_scripts.specs.declared.header.Header.{Header}

abbrev pub Tokens : Type 0
Tokens = List (List ℕ)

-- A kind of scripts. The header begins with its name, and has a label for the number of places of
-- the array. Of a thread the operations so far are known.
pub record Kind (Op : Type 0) : Type 1 where
  pub name : List ℕ
  pub label : List ℕ
  pub most_places : ℕ
  -- how many operations a thread has at most
  pub most : ℕ
  -- how an operation is spelled, and which one tokens spell, on so many places after a thread's
  -- others
  pub op_line : Op → Tokens
  pub op_at : ℕ → List Op → Tokens → Option Op
  -- which may come there
  pub CanStand : ℕ → List Op → Op → Type 0
  -- the heap on which a script is run
  pub config_of : Header → Config

-- ---- how lines are spelled

abbrev pub header_line : {Op : Type 0} → Kind Op → Header → Tokens
header_line kind h =
    kind.name ∷ codes "1" ∷ codes "threads" ∷ decimal h.threads ∷ kind.label ∷ decimal h.places
    ∷ codes "blocks" ∷ decimal h.blocks ∷ []

-- the ranges of a header, and of one more operation of a thread after these
pub record IsHeader {Op : Type 0} (kind : Kind Op) (h : Header) : Type 0 where
  pub some_thread : 1 ≤ h.threads
  pub threads : h.threads ≤ 16
  pub some_place : 1 ≤ h.places
  pub places : h.places ≤ kind.most_places
  pub some_block : 1 ≤ h.blocks
  pub blocks : h.blocks ≤ 65535

abbrev pub Fits : {Op : Type 0} → Kind Op → Header → List Op → Op → Type 0
Fits kind h before op = (length before < kind.most) × kind.CanStand h.places before op

-- ---- how they are read

unfoldable pub ranged : ℕ → ℕ → List ℕ → Option ℕ
ranged least most token = do
  n ← number_at token
  if nat_lt n least || nat_lt most n then None else Some n

-- a place of the array, or another number
unfoldable pub below : ℕ → List ℕ → Option ℕ
below most token = do
  n ← number_at token
  if nat_lt n most then Some n else None

unfoldable pub header_at : List ℕ → List ℕ → ℕ → Tokens → Option Header
header_at name label most_places line = do
  rest ← behind_at name line
  rest ← behind_at (codes "1") rest
  threads ← labelled_at (codes "threads") rest
  places ← labelled_at label threads.1
  blocks ← labelled_at (codes "blocks") places.1
  _ ← no_more_of blocks.1
  n ← ranged 1 16 threads.0
  size ← ranged 1 most_places places.0
  m ← ranged 1 65535 blocks.0
  Some (record { threads = n; places = size; blocks = m })

unfoldable pub thread_at : {Op : Type 0} → Header → ℕ → Tokens → Option (Said Op)
thread_at h t tokens = do
  token ← one_token_of tokens
  u ← number_at token
  if (u == t) && nat_lt t h.threads then Some (Thread u) else None

unfoldable pub end_at : {Op : Type 0} → Header → ℕ → Tokens → Option (Said Op)
end_at h t tokens = do
  _ ← no_more_of tokens
  if t == h.threads then Some End else None

-- an operation may come after a thread's line, and after fewer than the most
unfoldable pub told_at :
    {Op : Type 0} → Kind Op → Header → ℕ → List Op → Tokens → Option (Said Op)
told_at kind h t before line =
    if nat_lt 0 t && nat_lt (length before) kind.most
    then kind.op_at h.places before line >>= (λ op. Some (Told op)) else None

unfoldable pub line_at :
    {Op : Type 0} → Kind Op → Header → ℕ → List Op → Tokens → Option (Said Op)
line_at kind h t before [] = None
line_at kind h t before (first ∷ tokens) =
    if bytes_eq first (codes "thread") then thread_at h t tokens else
    if bytes_eq first (codes "end") then end_at h t tokens
    else told_at kind h t before (first ∷ tokens)

abbrev pub language : {Op : Type 0} → Kind Op → Language Tokens Header (List Op) Op
language kind = record {
  header_at = header_at kind.name kind.label kind.most_places;
  line_at = line_at kind;
  threads_of = λ h. h.threads;
  begun = λ h t. [];
  more = λ before op. before ++ op ∷ [];
  header_line = header_line kind;
  thread_line = λ t. codes "thread" ∷ decimal t ∷ [];
  op_line = kind.op_line;
  end_line = codes "end" ∷ [];
}

-- a script: a header in its ranges, and for each of its threads operations that may come
abbrev pub IsScriptIn : {Op : Type 0} → Kind Op → List Tokens → Header → List (List Op) → Type 0
IsScriptIn kind lines h scripts =
    IsScript (language kind) (IsHeader kind) (Fits kind) lines h scripts

-- operations that fit after these
abbrev pub FitBehind : {Op : Type 0} → Kind Op → Header → List Op → List Op → Type 0
FitBehind kind h before ops = AreFit (language kind) (IsHeader kind) (Fits kind) h before ops

-- a thread of some script has these operations
abbrev pub AreOfThread : {Op : Type 0} → Kind Op → List Op → Type 0
AreOfThread kind ops = (h : Header) × FitBehind kind h [] ops

-- the bytes are that script
abbrev pub IsScriptOf : {Op : Type 0} → Kind Op → List ℕ → Header → List (List Op) → Type 0
IsScriptOf kind bytes h scripts = IsScriptIn kind (tokenized bytes) h scripts
