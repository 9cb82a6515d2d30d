-- How the operations of a script of tags are spelled, and how they are read.
use Rattle.std.specs.Prelude.{ℕ, ◌^◌, Option, Some, None, if◌then◌else◌, List, [], ◌∷◌, codes, decimal}
use Rattle.std.specs.Str.{bytes_eq}
use Rattle.array_scripts.specs.declared.header.Header.{Header}
use Rattle.array_scripts.specs.Kinds.{Tokens, Kind, below, IsScriptIn}
use Rattle.array_tables.specs.declared.tag_table.operation.Operation.{Operation}
use Rattle.array_tables.specs.declared.tag_table.operation.Operation.TheVariants.{Write, Clear, Read}
use Rattle.array_tables.specs.tag_table.Tables.{IsOperationInRange, tag_config}
use Rattle.trace_text.specs.Reading.{◌>>=◌, one_token_of, three_tokens_of}

abbrev pub op_line : Operation → Tokens
op_line (Write i v q) = codes "write" ∷ decimal i ∷ decimal v ∷ decimal q ∷ []
op_line (Clear i) = codes "clear" ∷ decimal i ∷ []
op_line (Read i) = codes "read" ∷ decimal i ∷ []

unfoldable pub write_at : ℕ → Tokens → Option Operation
write_at tags tokens = do
  p ← three_tokens_of tokens
  i ← below tags p.0
  v ← below (2 ^ 62) p.1
  q ← below (2 ^ 62) p.2
  Some (Write i v q)

unfoldable pub clear_at : ℕ → Tokens → Option Operation
clear_at tags tokens = do
  token ← one_token_of tokens
  i ← below tags token
  Some (Clear i)

unfoldable pub read_at : ℕ → Tokens → Option Operation
read_at tags tokens = do
  token ← one_token_of tokens
  i ← below tags token
  Some (Read i)

-- the operation of a line, by its first token
unfoldable pub op_at : ℕ → Tokens → Option Operation
op_at tags [] = None
op_at tags (first ∷ tokens) =
    if bytes_eq first (codes "write") then write_at tags tokens else
    if bytes_eq first (codes "clear") then clear_at tags tokens else
    if bytes_eq first (codes "read") then read_at tags tokens else None

-- scripts of tags, each operation of which may come after any others
abbrev pub tag_kind : Kind Operation
tag_kind = record {
  name = codes "tags";
  label = codes "tags";
  most_places = 1024;
  most = 16384;
  op_line = op_line;
  op_at = λ tags before line. op_at tags line;
  CanStand = λ tags before op. IsOperationInRange tags op;
  config_of = λ h. tag_config h.threads h.places h.blocks;
}

abbrev pub IsTagScript : List Tokens → Header → List (List Operation) → Type 0
IsTagScript lines h scripts = IsScriptIn tag_kind lines h scripts
