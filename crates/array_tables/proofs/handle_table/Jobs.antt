-- The job that scripts in their ranges make is in its ranges.
use Rattle.std.proofs.Common.{◌≡◌, ℕ, ◌+◌, ◌*◌, ◌<◌, ◌≤◌, List, [], ◌∷◌, ◌++◌, length, map, ◌∙◌, refl, sym, subst, arith}
use Rattle.std.specs.Prelude.{flat_map}
use Rattle.std.specs.List.{AllByRecursion}
use Rattle.std.proofs.lemmas.List.{length-map}
use Rattle.block_store.specs.declared.Width.TheVariants.{Eight}
use Rattle.array_trees.proofs.Counts.{few_shared}
use Rattle.never_heap.specs.declared.Command.{Command}
use Rattle.never_heap.specs.Bounds.{IsCommandInBounds}
use Rattle.never_heap.specs.Jobs.{IsTraceInBounds, IsJobInBounds}
use Rattle.never_heap.proofs.Lemmas.{plain_fits}
use Rattle.array_tables.specs.operations.Linearizations.{traces_of}
use Rattle.array_tables.proofs.operations.Pairs.{◌▸◌}
use Rattle.array_tables.specs.declared.handle_table.operation.Operation.{Operation}
use Rattle.array_tables.specs.declared.handle_table.operation.Operation.TheVariants as said
use Rattle.array_tables.specs.handle_table.Handles.{Deed, rows_of, command_at, deeds_of, all_deeds, commands_from, AreInTurn, IsScriptInRange, handle_config}
use Rattle.array_tables.proofs.handle_table.NumberedDeeds.{commands_are, deeds_count}

module _ (n slots blocks t : ℕ) (few_slots : slots ≤ 512) (few_threads : t < 16) where
  abbrev Fit : List Command → Type 0
  Fit l = AllByRecursion (IsCommandInBounds (handle_config n slots blocks)) l

  each_fits : (k : ℕ) (before ops : List Operation) → k + length ops ≤ 14000
      → AreInTurn slots before ops → Fit (commands_from t k ops)
  each_fits k before [] few all = tt
  each_fits k before (said.Make h i x ∷ ops) few all =
      record { range = omega arith; blocks = omega arith; units = omega arith; version = tt }
      ▸ plain_fits refl refl tt (omega (arith, all.0.2))
      ▸ plain_fits refl refl tt (omega arith)
      ▸ record {
        range = omega (arith, all.0.0);
        blocks = omega arith;
        units = omega arith;
        version = tt;
      }
      ▸ plain_fits refl refl tt (omega (arith, all.0.0))
      ▸ plain_fits refl refl tt (omega (arith, few_threads, few))
      ▸ plain_fits refl refl tt (omega (arith, all.0.0))
      ▸ plain_fits refl refl tt (omega arith)
      ▸ plain_fits refl refl refl
      (omega arith, omega (arith, all.0.1), omega arith, omega (arith, all.0.0))
      ▸ each_fits (k + 1) (before ++ said.Make h i x ∷ []) ops (omega (arith, few)) all.1
  each_fits k before (said.See h i ∷ ops) few all =
      plain_fits refl refl tt (omega (arith, all.0.1))
      ▸ plain_fits refl refl tt (omega arith, omega (arith, all.0.0))
      ▸ each_fits (k + 0) (before ++ said.See h i ∷ []) ops (omega (arith, few)) all.1
  each_fits k before (said.Drop h i ∷ ops) few all =
      plain_fits refl refl tt (omega arith)
      ▸ plain_fits refl refl refl
      (omega arith, omega (arith, all.0.1), omega (arith, all.0.0), omega arith)
      ▸ each_fits (k + 0) (before ++ said.Drop h i ∷ []) ops (omega (arith, few)) all.1
  each_fits k before (said.Take i ∷ ops) few all =
      plain_fits refl refl tt (omega (arith, all.0))
      ▸ plain_fits refl refl tt (omega arith)
      ▸ plain_fits refl refl tt (omega arith)
      ▸ plain_fits refl refl tt (omega arith)
      ▸ each_fits (k + 0) (before ++ said.Take i ∷ []) ops (omega (arith, few)) all.1
  each_fits k before (said.Evict i ∷ ops) few all =
      plain_fits refl refl tt (omega arith)
      ▸ plain_fits refl refl refl (omega arith, omega (arith, all.0), omega arith)
      ▸ plain_fits refl refl tt (omega arith)
      ▸ plain_fits refl refl tt (omega arith)
      ▸ plain_fits refl refl tt (omega arith)
      ▸ each_fits (k + 0) (before ++ said.Evict i ∷ []) ops (omega (arith, few)) all.1

  few_commands : (k : ℕ) (ops : List Operation) → length (commands_from t k ops) ≤ 9 * length ops
  few_commands k [] = omega arith
  few_commands k (said.Make h i x ∷ ops) = omega (arith, few_commands (k + 1) ops)
  few_commands k (op ∷ ops) = omega (arith, few_commands (k + 0) ops)

  trace_fits : (ops : List Operation) → IsScriptInRange slots ops
      → IsTraceInBounds (handle_config n slots blocks)
      (map command_at (flat_map rows_of (deeds_of t ops)))
  trace_fits ops s =
      subst (IsTraceInBounds (handle_config n slots blocks)) (sym (commands_are t 0 (λ h. 0) ops))
      (record {
        few = omega (arith, few_commands 0 ops, s.few);
        commands = each_fits 0 [] ops (omega (arith, s.few)) s.each;
      })

all_fit : (n slots blocks u : ℕ) (scripts : List (List Operation)) → slots ≤ 512
    → u + length scripts ≤ 16 → AllByRecursion (IsScriptInRange slots) scripts
    → AllByRecursion (IsTraceInBounds (handle_config n slots blocks))
    (traces_of rows_of command_at (all_deeds u scripts))
all_fit n slots blocks u [] few_slots few all = tt
all_fit n slots blocks u (ops ∷ scripts) few_slots few all = (
  trace_fits n slots blocks u few_slots (omega (arith, few)) ops all.0,
  all_fit n slots blocks (u + 1) scripts few_slots (omega (arith, few)) all.1,
)

pub jobs_fit : (n slots blocks : ℕ) (scripts : List (List Operation)) → 1 ≤ n → n ≤ 16
    → slots ≤ 512 → 1 ≤ blocks → blocks ≤ 65535 → length scripts ≡ n
    → AllByRecursion (IsScriptInRange slots) scripts
    → IsJobInBounds (handle_config n slots blocks)
    (traces_of rows_of command_at (all_deeds 0 scripts))
jobs_fit n slots blocks scripts some few few_slots some_block few_blocks count all = record {
  config = record {
    some_thread = some;
    threads = few;
    some_block = some_block;
    blocks = few_blocks;
    live = omega (arith, few_shared Eight slots (omega (arith, few_slots)));
    some_object = omega arith;
    object = omega arith;
    shared = omega (arith, few_slots);
  };
  threads = length-map (all_deeds 0 scripts)
      (λ (ops : List Deed). map command_at (flat_map rows_of ops))
      ∙ deeds_count 0 scripts ∙ count;
  each = all_fit n slots blocks 0 scripts few_slots (omega (arith, count, few)) all;
}
