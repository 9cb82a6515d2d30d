-- Facts of lawful rows.
use Rattle.std.proofs.Common.{◌≡◌, ◌<◌, List, [], ◌∷◌, ◌++◌, length, ap, arith}
use Rattle.std.specs.Prelude.{flat_map}
use Rattle.std.proofs.lemmas.List.{length-map, append-nil}
use Rattle.array_tables.specs.operations.Applications.{ops_in}
use Rattle.live_tables.specs.rows.Lawful.{Lawful}
use Rattle.live_tables.specs.rows.Rows.{Rows, commands_of}

module _ {Op Row Answer S : Type 0} (a : Rows Op Row Answer S) (law : Lawful a) where
  -- an operation has a command
  some_rows : (op : Op) (rows : List Row) → ops_in a.decides (rows ++ []) ≡ op ∷ []
      → 0 < length rows
  some_rows op [] e = absurd (let z : 0 ≡ length (op ∷ []) = ap length e in omega (arith, z))
  some_rows op (row ∷ rows) e = omega arith

  pub some_commands : (op : Op) → 0 < length (commands_of a (op ∷ []))
  some_commands op = omega (
    arith,
    some_rows op (a.rows_of op) (law.whole op []),
    length-map (flat_map a.rows_of (op ∷ [])) a.command_at,
    ap length (append-nil (a.rows_of op)),
  )
