-- How the operations of a script of handles are spelled, and how they are read.
use Rattle.std.specs.Prelude.{ℕ, ◌^◌, ◌==◌, Bool, false, Option, Some, None, if◌then◌else◌, List, [], ◌∷◌, codes, decimal}
use Rattle.std.specs.Str.{bytes_eq}
use Rattle.array_scripts.specs.declared.header.Header.{Header}
use Rattle.array_scripts.specs.Kinds.{Tokens, Kind, below, IsScriptIn}
use Rattle.array_tables.specs.declared.handle_table.operation.Operation.{Operation}
use Rattle.array_tables.specs.declared.handle_table.operation.Operation.TheVariants.{Make, See, Drop, Take, Evict}
use Rattle.array_tables.specs.handle_table.Handles.{slot_of, CanStand, handle_config}
use Rattle.trace_text.specs.Reading.{◌>>=◌, one_token_of, two_tokens_of, three_tokens_of}

abbrev pub op_line : Operation → Tokens
op_line (Make g i x) = codes "make" ∷ decimal g ∷ decimal i ∷ decimal x ∷ []
op_line (See g i) = codes "see" ∷ decimal g ∷ decimal i ∷ []
op_line (Drop g i) = codes "drop" ∷ decimal g ∷ decimal i ∷ []
op_line (Take i) = codes "take" ∷ decimal i ∷ []
op_line (Evict i) = codes "evict" ∷ decimal i ∷ []

unfoldable pub make_at : ℕ → Tokens → Option Operation
make_at slots tokens = do
  p ← three_tokens_of tokens
  g ← below 8 p.0
  i ← below slots p.1
  x ← below (2 ^ 62) p.2
  Some (Make g i x)

-- whether this is the slot
abbrev pub is_at : ℕ → Option ℕ → Bool
is_at i None = false
is_at i (Some k) = k == i

-- a handle and a slot, where its last make was
unfoldable pub handle_at : ℕ → List Operation → Tokens → Option (ℕ × ℕ)
handle_at slots before tokens = do
  p ← two_tokens_of tokens
  g ← below 8 p.0
  i ← below slots p.1
  if is_at i (slot_of g before) then Some (g, i) else None

unfoldable pub see_at : ℕ → List Operation → Tokens → Option Operation
see_at slots before tokens = do
  p ← handle_at slots before tokens
  Some (See p.0 p.1)

unfoldable pub drop_at : ℕ → List Operation → Tokens → Option Operation
drop_at slots before tokens = do
  p ← handle_at slots before tokens
  Some (Drop p.0 p.1)

unfoldable pub take_at : ℕ → Tokens → Option Operation
take_at slots tokens = do
  token ← one_token_of tokens
  i ← below slots token
  Some (Take i)

unfoldable pub evict_at : ℕ → Tokens → Option Operation
evict_at slots tokens = do
  token ← one_token_of tokens
  i ← below slots token
  Some (Evict i)

-- the operation of a line, by its first token, after a thread's other operations
unfoldable pub op_at : ℕ → List Operation → Tokens → Option Operation
op_at slots before [] = None
op_at slots before (first ∷ tokens) =
    if bytes_eq first (codes "make") then make_at slots tokens else
    if bytes_eq first (codes "see") then see_at slots before tokens else
    if bytes_eq first (codes "drop") then drop_at slots before tokens else
    if bytes_eq first (codes "take") then take_at slots tokens else
    if bytes_eq first (codes "evict") then evict_at slots tokens else None

-- scripts of handles, each operation of which comes after a thread's others
abbrev pub handle_kind : Kind Operation
handle_kind = record {
  name = codes "handles";
  label = codes "slots";
  most_places = 512;
  most = 14000;
  op_line = op_line;
  op_at = op_at;
  CanStand = CanStand;
  config_of = λ h. handle_config h.threads h.places h.blocks;
}

abbrev pub IsHandleScript : List Tokens → Header → List (List Operation) → Type 0
IsHandleScript lines h scripts = IsScriptIn handle_kind lines h scripts
