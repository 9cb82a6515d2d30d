-- Every run of the job of a table has a linearization, and none of its allocations is full.
use Rattle.std.proofs.Common.{◌≡◌, ℕ, List, [], length, map, slice_index_or, ◌∙◌, arith}
use Rattle.never_heap.specs.Histories.{HistoryItem}
use Rattle.never_heap.specs.Licensed.{NoFulls}
use Rattle.never_heap.specs.Runs.{IsRun}
use Rattle.array_tables.specs.operations.Linearizations.{Call, calls_of, replies_in, traces_of, IsLinearization}
use Rattle.array_tables.specs.operations.RunPrefixes.{IsRunSoFar, IsLinearizationSoFar}
use Rattle.array_tables.proofs.operations.Applied.{applied, as_many_replies}
use Rattle.array_tables.proofs.operations.LinearizedRuns.{linearized, linearized_so_far}
use Rattle.array_tables.specs.declared.tag_table.operation.Operation.{Operation}
use Rattle.array_tables.specs.tag_table.Tables.{Tag, answer, table_after, empty_table, rows_of, command_at, decides, ends, AreInTable, answers_of, tag_config}
use Rattle.array_tables.proofs.tag_table.Chunks.{by_chunks}
use Rattle.array_tables.proofs.tag_table.TagRows.{tagged, tags_owe}

pub tables_are_kept : (n tags blocks rate : ℕ) (scripts : List (List Operation))
    (h : List HistoryItem) → length scripts ≡ n
    → ((t : ℕ) → AreInTable tags (slice_index_or scripts t []))
    → IsRun (tag_config n tags blocks) rate (traces_of rows_of command_at scripts) h
    → (order : List (Call Operation Tag))
    × IsLinearization rows_of decides ends answer table_after (empty_table tags) scripts h order
    × ((t : ℕ) → map (λ (d : Call Operation Tag). d.answer) (calls_of t order)
    ≡ answers_of (slice_index_or scripts t []) (replies_in t h))
    × NoFulls h
tables_are_kept n tags blocks rate scripts h count inside run =
    let c = tag_config n tags blocks in
    let all = linearized (applied (tagged tags) c rows_of scripts
    (tags_owe n tags blocks scripts count inside)) rate h run in (
      all.0,
      all.1,
      λ t. all.1.told t
          ∙ by_chunks (slice_index_or scripts t []) (replies_in t h)
          (omega (arith, as_many_replies c rate rows_of command_at scripts h run t)),
      all.2,
    )

-- and so has the beginning of every run
pub tables_so_far : (n tags blocks rate : ℕ) (scripts : List (List Operation))
    (h : List HistoryItem) → length scripts ≡ n
    → ((t : ℕ) → AreInTable tags (slice_index_or scripts t []))
    → IsRunSoFar (tag_config n tags blocks) rate (traces_of rows_of command_at scripts) h
    → (order : List (Call Operation Tag))
    × IsLinearizationSoFar rows_of decides ends answer table_after (empty_table tags) scripts h
    order
    × NoFulls h
tables_so_far n tags blocks rate scripts h count inside begun =
    linearized_so_far (applied (tagged tags) (tag_config n tags blocks) rows_of scripts
    (tags_owe n tags blocks scripts count inside)) rate h begun
