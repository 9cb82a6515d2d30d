-- The commands of an operation: what they need.
use Rattle.std.proofs.Common.{◌≡◌, ℕ, ◌≤◌, refl, arith, List, [], ◌∷◌}
use Rattle.std.specs.List.{AllByRecursion}
use Rattle.block_store.specs.declared.Width.TheVariants.{Eight}
use Rattle.never_heap.specs.Bounds.{IsCommandInBounds}
use Rattle.never_heap.proofs.Lemmas.{plain_fits}
use Rattle.array_tables.proofs.Lemmas.{◌▸◌}
use Rattle.array_tables.specs.declared.tag_table.operation.Operation.{Operation}
use Rattle.array_tables.specs.declared.tag_table.operation.Operation.TheVariants.{Write, Clear, Read}
use Rattle.array_tables.specs.tag_table.Tables.{tag_config, IsOperationInRange}
use Rattle.live_tables.specs.rows.Life.{MakeObjects}
use Rattle.live_tables.specs.tags.Live.{commands_of, objects_by}

-- the commands of an operation in range are in bounds
module _ (n tags blocks : ℕ) (few_tags : tags ≤ 1024) where
  pub fits_there : (op : Operation) → IsOperationInRange tags op
      → AllByRecursion (IsCommandInBounds (tag_config n tags blocks)) (commands_of (op ∷ []))
  fits_there (Write i v q) is =
      record { range = omega arith; blocks = omega arith; units = omega arith; version = tt }
      ▸ plain_fits refl refl tt (omega (arith, is.1))
      ▸ plain_fits refl refl tt (omega arith)
      ▸ plain_fits refl refl tt (omega (arith, is.2))
      ▸ plain_fits refl refl tt (omega arith)
      ▸ plain_fits refl refl refl (omega arith, omega (arith, is.0), omega arith)
      ▸ plain_fits refl refl tt (omega arith)
      ▸ plain_fits refl refl tt (omega arith)
      ▸ tt
  fits_there (Clear i) is =
      plain_fits refl refl tt (omega arith)
      ▸ plain_fits refl refl refl (omega arith, omega (arith, is), omega arith)
      ▸ plain_fits refl refl tt (omega arith)
      ▸ plain_fits refl refl tt (omega arith)
      ▸ tt
  fits_there (Read i) is =
      plain_fits refl refl tt (omega (arith, is))
      ▸ plain_fits refl refl tt (omega arith)
      ▸ plain_fits refl refl tt (omega arith)
      ▸ tt

-- a write makes one record
pub made_of : (op : Operation) → MakeObjects Eight (objects_by op) (commands_of (op ∷ []))
made_of (Write i v q) = record { objects = refl; units = λ rate. omega arith }
made_of (Clear i) = record { objects = refl; units = λ rate. omega arith }
made_of (Read i) = record { objects = refl; units = λ rate. omega arith }

pub few_objects : (op : Operation) → objects_by op ≤ 2
few_objects (Write i v q) = omega arith
few_objects (Clear i) = omega arith
few_objects (Read i) = omega arith
