-- The job that scripts in their ranges make is in its ranges.
use Rattle.std.proofs.Common.{◌≡◌, ℕ, ◌*◌, ◌≤◌, List, [], ◌∷◌, length, map, ◌∙◌, refl, arith}
use Rattle.std.specs.Prelude.{flat_map}
use Rattle.std.specs.List.{AllByRecursion}
use Rattle.std.proofs.lemmas.List.{length-map}
use Rattle.block_store.specs.declared.Width.TheVariants.{Eight}
use Rattle.array_trees.proofs.Counts.{few_shared}
use Rattle.never_heap.specs.Bounds.{IsCommandInBounds}
use Rattle.never_heap.specs.Jobs.{IsTraceInBounds, IsJobInBounds}
use Rattle.never_heap.proofs.Lemmas.{plain_fits}
use Rattle.array_tables.specs.operations.Linearizations.{traces_of}
use Rattle.array_tables.proofs.operations.Pairs.{◌▸◌}
use Rattle.array_tables.specs.declared.tag_table.operation.Operation.{Operation}
use Rattle.array_tables.specs.declared.tag_table.operation.Operation.TheVariants.{Write, Clear, Read}
use Rattle.array_tables.specs.tag_table.Tables.{rows_of, command_at, IsScriptInRange, IsOperationInRange, tag_config}

module _ (n tags blocks : ℕ) (few_tags : tags ≤ 1024) where
  each_fits : (ops : List Operation) → AllByRecursion (IsOperationInRange tags) ops
      → AllByRecursion (IsCommandInBounds (tag_config n tags blocks))
      (map command_at (flat_map rows_of ops))
  each_fits [] all = tt
  each_fits (Write i v q ∷ ops) all =
      record { range = omega arith; blocks = omega arith; units = omega arith; version = tt }
      ▸ plain_fits refl refl tt (omega (arith, all.0.1))
      ▸ plain_fits refl refl tt (omega arith)
      ▸ plain_fits refl refl tt (omega (arith, all.0.2))
      ▸ plain_fits refl refl tt (omega arith)
      ▸ plain_fits refl refl refl (omega arith, omega (arith, all.0.0), omega arith)
      ▸ plain_fits refl refl tt (omega arith)
      ▸ plain_fits refl refl tt (omega arith)
      ▸ each_fits ops all.1
  each_fits (Clear i ∷ ops) all =
      plain_fits refl refl tt (omega arith)
      ▸ plain_fits refl refl refl (omega arith, omega (arith, all.0), omega arith)
      ▸ plain_fits refl refl tt (omega arith)
      ▸ plain_fits refl refl tt (omega arith)
      ▸ each_fits ops all.1
  each_fits (Read i ∷ ops) all =
      plain_fits refl refl tt (omega (arith, all.0))
      ▸ plain_fits refl refl tt (omega arith)
      ▸ plain_fits refl refl tt (omega arith)
      ▸ each_fits ops all.1

  few_rows : (ops : List Operation) → length (flat_map rows_of ops) ≤ 8 * length ops
  few_rows [] = omega arith
  few_rows (Write i v q ∷ ops) = omega (arith, few_rows ops)
  few_rows (op ∷ ops) = omega (arith, few_rows ops)

  trace_fits : (ops : List Operation) → IsScriptInRange tags ops
      → IsTraceInBounds (tag_config n tags blocks) (map command_at (flat_map rows_of ops))
  trace_fits ops s = record {
    few = omega (arith, few_rows ops, s.few, length-map (flat_map rows_of ops) command_at);
    commands = each_fits ops s.each;
  }

  all_fit : (scripts : List (List Operation)) → AllByRecursion (IsScriptInRange tags) scripts
      → AllByRecursion (IsTraceInBounds (tag_config n tags blocks))
      (traces_of rows_of command_at scripts)
  all_fit [] all = tt
  all_fit (ops ∷ scripts) all = (trace_fits ops all.0, all_fit scripts all.1)

pub jobs_fit : (n tags blocks : ℕ) (scripts : List (List Operation)) → 1 ≤ n → n ≤ 16
    → tags ≤ 1024 → 1 ≤ blocks → blocks ≤ 65535 → length scripts ≡ n
    → AllByRecursion (IsScriptInRange tags) scripts
    → IsJobInBounds (tag_config n tags blocks) (traces_of rows_of command_at scripts)
jobs_fit n tags blocks scripts some few few_tags some_block few_blocks count all = record {
  config = record {
    some_thread = some;
    threads = few;
    some_block = some_block;
    blocks = few_blocks;
    live = omega (arith, few_shared Eight tags few_tags);
    some_object = omega arith;
    object = omega arith;
    shared = few_tags;
  };
  threads = length-map scripts (λ ops. map command_at (flat_map rows_of ops)) ∙ count;
  each = all_fit n tags blocks few_tags scripts all;
}
